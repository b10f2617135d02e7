use Rattle.std.proofs.Common.{ℕ, ◌+◌, ◌*◌, List, ◌++◌, sym, ap, subst}
use Rattle.std.specs.Prelude.{Option}
use Rattle.vx_cells.specs.Cells.{CellsState}
use Rattle.vx_episode.specs.History.{fetch_walks, walks_of_batches, fills_of, after_walks}
use Rattle.vx_look.proofs.Going.{one-known, one-walked}
use Rattle.vx_look.proofs.looking.DataLookUps.search_one.Goals as goal
use Rattle.vx_look.specs.LookUps.{AreReady}
use Rattle.vx_tlb.specs.Kept.{StandsFor}
use Rattle.vx_tlb.specs.declared.tlb.Kept.{Kept}

pub returns-then-not-is_unknown-clause-looked : goal.returns-then-not-is_unknown-clause-looked
returns-then-not-is_unknown-clause-looked g c start history earlier a bank_time at width ready =
    let cells : CellsState = g.C.Cells.state c.args.cells.now in
    let kept : StandsFor c.self.inside.tlb (fills_of (walks_of_batches earlier)) =
    subst (λ (ps : List (Option Kept)). StandsFor ps (fills_of (walks_of_batches earlier))) (sym c.self.view_is) ready.kept in
    let begun : AreReady start history earlier c.args.root c.fate_searched-fate.new.tlb cells = record {
      kept = subst (λ (ps : List (Option Kept)). StandsFor ps (fills_of (walks_of_batches earlier))) (sym c.fate_searched-fate.ensures.same) kept;
      held = ready.held;
    } in
    one-known start history earlier c.args.want c.args.started c.args.root a c.fate_searched-fate.new.tlb cells c.fate_searched-fate.result
    (c.fate_searched-fate.ensures.looked start history earlier a at width kept) (sym c.if-not-is_unknown.ensures) begun

pub returns-clause-looked : goal.returns-clause-looked
returns-clause-looked g c start history earlier a bank_time at width ready =
    let before : CellsState = g.C.Cells.state c.args.cells.now in
    let after : CellsState = g.C.Cells.state c.walk-answer.new.cells in
    let kept : StandsFor c.self.inside.tlb (fills_of (walks_of_batches earlier)) =
    subst (λ (ps : List (Option Kept)). StandsFor ps (fills_of (walks_of_batches earlier))) (sym c.self.view_is) ready.kept in
    let begun : AreReady start history earlier c.args.root c.fate_searched-fate.new.tlb before = record {
      kept = subst (λ (ps : List (Option Kept)). StandsFor ps (fills_of (walks_of_batches earlier))) (sym c.fate_searched-fate.ensures.same) kept;
      held = ready.held;
    } in
    one-walked start history earlier c.args.want c.args.started c.args.root a c.args.address c.fate_searched-fate.new.tlb c.walk-answer.new.self before after c.fate_searched-fate.result c.fate_walked.result c.walk-answer.result (c.args.started + 4 * c.args.bank_time) at
    (c.fate_searched-fate.ensures.looked start history earlier a at width kept) (sym c.if-not-is_unknown.ensures) begun
    (c.walk-answer.ensures.walks (after_walks start.residency (fetch_walks history ++ walks_of_batches earlier)) ready.held)
    c.walk-answer.ensures.kept (c.fate_walked.ensures.walked a at) (ap (λ (n : ℕ). c.args.started + 4 * n) (sym bank_time))
