use Rattle.std.proofs.Common.{ℕ, ◌*◌, ◌<◌, ◌≤◌, length, refl, sym, ap, ◌∙◌, arith}
use Rattle.vx_cells.specs.Cells.{CellsState}
use Rattle.vx_look.proofs.Sooner.{ahead-none, ahead-all, ahead-late, ahead-stop, ahead-more}
use Rattle.vx_look.proofs.ahead.walk_ahead.Goals as goal

pub loop-i-init : goal.loop-i-init
loop-i-init g c = record {
  tables = c.requires.tables;
  count = refl;
  frames = refl;
  cycle = refl;
  begun = omega arith;
  known = c.requires.known;
  cycles = omega arith;
  reached = λ start history earlier accesses bank of ready fates.
      ahead-none start history earlier c.args.want c.args.started c.args.last c.args.root accesses c.args.tlb.now (g.C.Cells.state c.args.cells.now) c.args.fates.now ready fates;
}

pub returns-then-not-ends_by-clause-walked : goal.returns-then-not-ends_by-clause-walked
returns-then-not-ends_by-clause-walked g c start history earlier accesses bank of ready fates =
    ahead-late start history earlier c.args.want c.args.started c.args.last c.args.root accesses c.loop-i.tlb (g.C.Cells.state c.args.cells.now) (g.C.Cells.state c.loop-i.cells) c.loop-i.fates c.loop-i.ended c.loop-i.i (4 * c.args.bank_time) _
    (c.loop-i.invariant.reached start history earlier accesses bank of ready fates) (ap (λ (n : ℕ). 4 * n) (sym bank)) (sym c.if-not-ends_by.ensures)

pub returns-then-is_failing-clause-walked : goal.returns-then-is_failing-clause-walked
returns-then-is_failing-clause-walked g c start history earlier accesses bank of ready fates =
    let before : CellsState = g.C.Cells.state c.args.cells.now in
    let between : CellsState = g.C.Cells.state c.loop-i.cells in
    let after : CellsState = g.C.Cells.state c.walk_missing-ended.new.cells in
    let reached = c.loop-i.invariant.reached start history earlier accesses bank of ready fates in
    let within : c.loop-i.i < length c.walk_missing-ended.new.fates = omega (arith, c.walk_missing-ended.ensures.count, c.loop-i.invariant.count, c.requires.count, c.loop-i-test.true) in
    ahead-stop start history earlier c.args.want c.args.started c.args.last c.args.root accesses c.loop-i.tlb c.walk_missing-ended.new.tlb before between after c.loop-i.fates c.walk_missing-ended.new.fates c.loop-i.ended c.walk_missing-ended.result c.loop-i.i (4 * c.args.bank_time)
    reached within
    (c.walk_missing-ended.ensures.going start history earlier c.args.started accesses reached.walks before (ap (λ (n : ℕ). 4 * n) (sym bank)) of reached.going)
    c.walk_missing-ended.ensures.count (ap (λ (n : ℕ). 4 * n) (sym bank)) _ (sym c.if-not-ends_by.ensures)
    _ (sym c.if-is_failing.ensures)

pub loop-i-preserved : goal.loop-i-preserved
loop-i-preserved g c = record {
  tables = c.walk_missing-ended.ensures.tables;
  count = c.walk_missing-ended.ensures.count ∙ c.loop-i.invariant.count;
  frames = c.walk_missing-ended.ensures.frames ∙ c.loop-i.invariant.frames;
  cycle = c.walk_missing-ended.ensures.cycle ∙ c.loop-i.invariant.cycle;
  begun = omega (arith, c.walk_missing-ended.ensures.ended, c.loop-i.invariant.begun);
  known = c.walk_missing-ended.ensures.known c.loop-i.invariant.known;
  cycles = omega (arith, c.walk_missing-ended.ensures.cycles, c.loop-i.invariant.cycles);
  reached = λ start history earlier accesses bank of ready fates.
      let before : CellsState = g.C.Cells.state c.args.cells.now in
      let between : CellsState = g.C.Cells.state c.loop-i.cells in
      let after : CellsState = g.C.Cells.state c.walk_missing-ended.new.cells in
      let reached = c.loop-i.invariant.reached start history earlier accesses bank of ready fates in
      let within : c.loop-i.i < length c.walk_missing-ended.new.fates = omega (arith, c.walk_missing-ended.ensures.count, c.loop-i.invariant.count, c.requires.count, c.loop-i-test.true) in
      ahead-more start history earlier c.args.want c.args.started c.args.last c.args.root accesses c.loop-i.tlb c.walk_missing-ended.new.tlb before between after c.loop-i.fates c.walk_missing-ended.new.fates c.loop-i.ended c.walk_missing-ended.result c.loop-i.i (4 * c.args.bank_time)
      reached within
      (c.walk_missing-ended.ensures.going start history earlier c.args.started accesses reached.walks before (ap (λ (n : ℕ). 4 * n) (sym bank)) of reached.going)
      c.walk_missing-ended.ensures.count (ap (λ (n : ℕ). 4 * n) (sym bank)) _ (sym c.if-not-ends_by.ensures)
      _ (sym c.if-is_failing.ensures);
}

pub returns-clause-walked : goal.returns-clause-walked
returns-clause-walked g c start history earlier accesses bank of ready fates =
    let above : length c.loop-i.fates ≤ c.loop-i.i = omega (arith, c.loop-i.invariant.count, c.requires.count, c.loop-i-test.false) in
    ahead-all start history earlier c.args.want c.args.started c.args.last c.args.root accesses c.loop-i.tlb (g.C.Cells.state c.args.cells.now) (g.C.Cells.state c.loop-i.cells) c.loop-i.fates c.loop-i.ended c.loop-i.i
    (c.loop-i.invariant.reached start history earlier accesses bank of ready fates) above
