use Rattle.std.proofs.Common.{ℕ, ◌+◌, ◌<◌, not, sym, ap, subst, ◌∙◌, arith}
use Rattle.vx_cells.specs.Cells.{CellsState}
use Rattle.std.specs.Prelude.{◌&&◌, nat_lt}
use Rattle.vx_rows.specs.declared.row.Addressing.{Addressing}
use Rattle.vx_flat.specs.Transfers.{is_fault_only_first}
use Rattle.vx_vaddr.specs.Views.{movement_with}
use Rattle.vx_vector.specs.Accesses.{Movement, movement_count}
use Rattle.vx_pipe.specs.Passing.{IsPassing, IsStopped, IsThrough}
use Rattle.vx_pipe.specs.declared.passing.Passing.{Passing}
use Rattle.vx_pipe.proofs.TransferPassing.{PassLaws, goes, completes, stops, there-is}
use Rattle.vx_pipe.proofs.TransferSoon.{soon-behind, soon-stop}
use Rattle.vx_pipe.proofs.passing.pass_element.Goals as goal

pub returns-then-is_none-clause-passed : goal.returns-then-is_none-clause-passed
returns-then-is_none-clause-passed g c start history e retired issued f t rest first s at =
    let laws : PassLaws = record {
      starts = c.a_batch_starts.ensures.times;
      goes = c.a_batch_passes.ensures.passes;
      cut = c.a_batch_passes.ensures.trimmed;
      more = c.batches_commit.ensures.more;
      commits = c.happenings_are_counted.ensures.commits;
      changes = c.happenings_are_counted.ensures.changes;
      pages = c.walks_commute.ensures.pages;
      stay = c.walks_commute.ensures.away;
      turns = c.accesses_go_in_turn.ensures.all;
    } in
    let after : CellsState = g.C.Cells.state c.go_through_element-gone.new.cells in
    let m : Movement = movement_with c.args.pattern.now (g.S.WordFile.words c.args.file.now) in
    subst (λ (n : Passing). IsPassing start history e retired issued f t (c.args.i + 1) rest n c.args.root c.go_through_element-gone.new.loads c.go_through_element-gone.new.banks first after) (sym c.behind.ensures)
    (goes laws start history e retired issued f t c.args.i rest c.args.numbers.now c.args.root c.args.loads.now c.go_through_element-gone.new.loads c.args.banks.now c.go_through_element-gone.new.banks first (g.C.Cells.state c.args.cells.now) after c.args.bank_time c.args.want m s at c.go_through_element-gone.result
    (c.max-started.result + 1) (ap (λ (k : ℕ). k + 1) c.max-started.ensures)
    (c.go_through_element-gone.ensures.gone start history e _ f t s.bank s.wants s.moved s.fetched at.transferring.ready at.transferring.stands)
    (c.is_none.ensures ∙ ap not c.if-is_none.true))

pub returns-then-is_cut_at-clause-passed : goal.returns-then-is_cut_at-clause-passed
returns-then-is_cut_at-clause-passed g c start history e retired issued f t rest first s at =
    let laws : PassLaws = record {
      starts = c.a_batch_starts.ensures.times;
      goes = c.a_batch_passes.ensures.passes;
      cut = c.a_batch_passes.ensures.trimmed;
      more = c.batches_commit.ensures.more;
      commits = c.happenings_are_counted.ensures.commits;
      changes = c.happenings_are_counted.ensures.changes;
      pages = c.walks_commute.ensures.pages;
      stay = c.walks_commute.ensures.away;
      turns = c.accesses_go_in_turn.ensures.all;
    } in
    let after : CellsState = g.C.Cells.state c.go_through_element-gone.new.cells in
    let m : Movement = movement_with c.args.pattern.now (g.S.WordFile.words c.args.file.now) in
    let fl = there-is c.go_through_element-gone.result.failing (c.is_none.ensures ∙ ap not c.if-is_none.false) in
    subst (λ (n : Passing). IsThrough start history e retired issued f t c.args.i n c.args.root c.go_through_element-gone.new.loads c.go_through_element-gone.new.banks first after) (sym c.behind-then-is_cut_at.ensures)
    (completes laws start history e retired issued f t c.args.i rest c.args.numbers.now c.args.root c.args.loads.now c.go_through_element-gone.new.loads c.args.banks.now c.go_through_element-gone.new.banks first (g.C.Cells.state c.args.cells.now) after c.args.bank_time c.args.want m s at c.go_through_element-gone.result
    (c.max-started.result + 1) (ap (λ (k : ℕ). k + 1) c.max-started.ensures)
    (c.go_through_element-gone.ensures.gone start history e _ f t s.bank s.wants s.moved s.fetched at.transferring.ready at.transferring.stands)
    (subst (λ (x : Movement). c.args.i < movement_count x) (sym s.moved) c.requires.among) fl.0 fl.1
    (ap (λ (a : Addressing). is_fault_only_first a && nat_lt 0 c.args.i) c.requires.addressing ∙ sym c.is_cut_at.ensures ∙ c.if-is_cut_at.true))

pub returns-clause-passed : goal.returns-clause-passed
returns-clause-passed g c start history e retired issued f t rest first s at =
    let laws : PassLaws = record {
      starts = c.a_batch_starts.ensures.times;
      goes = c.a_batch_passes.ensures.passes;
      cut = c.a_batch_passes.ensures.trimmed;
      more = c.batches_commit.ensures.more;
      commits = c.happenings_are_counted.ensures.commits;
      changes = c.happenings_are_counted.ensures.changes;
      pages = c.walks_commute.ensures.pages;
      stay = c.walks_commute.ensures.away;
      turns = c.accesses_go_in_turn.ensures.all;
    } in
    let after : CellsState = g.C.Cells.state c.go_through_element-gone.new.cells in
    let m : Movement = movement_with c.args.pattern.now (g.S.WordFile.words c.args.file.now) in
    let fl = there-is c.go_through_element-gone.result.failing (c.is_none.ensures ∙ ap not c.if-is_none.false) in
    subst (λ (n : Passing). IsStopped start history e retired issued f t c.args.i n c.args.root c.go_through_element-gone.new.loads first after) (sym c.at_stop.ensures)
    (stops laws start history e retired issued f t c.args.i rest c.args.numbers.now c.args.root c.args.loads.now c.go_through_element-gone.new.loads c.args.banks.now c.go_through_element-gone.new.banks first (g.C.Cells.state c.args.cells.now) after c.args.bank_time c.args.want m s at c.go_through_element-gone.result
    (c.max-started.result + 1) (ap (λ (k : ℕ). k + 1) c.max-started.ensures)
    (c.go_through_element-gone.ensures.gone start history e _ f t s.bank s.wants s.moved s.fetched at.transferring.ready at.transferring.stands)
    (subst (λ (x : Movement). c.args.i < movement_count x) (sym s.moved) c.requires.among) fl.0 fl.1
    (ap (λ (a : Addressing). is_fault_only_first a && nat_lt 0 c.args.i) c.requires.addressing ∙ sym c.is_cut_at.ensures ∙ c.if-is_cut_at.false))

pub returns-then-is_none-clause-soon : goal.returns-then-is_none-clause-soon
returns-then-is_none-clause-soon g c b looked committed by =
    soon-behind c.args.numbers.now c.args.bank_time c.args.banks.now.bank_time b (c.max-started.result + 1) c.go_through_element-gone.result c.behind.result
    c.requires.time c.requires.bank looked committed c.requires.before c.requires.done (ap (λ (k : ℕ). k + 1) c.max-started.ensures) c.go_through_element-gone.ensures.soon
    (λ late. c.go_through_element-gone.ensures.served (b + 513) (λ bank. omega (arith, by bank)) late) c.behind.ensures

pub returns-then-is_cut_at-clause-soon : goal.returns-then-is_cut_at-clause-soon
returns-then-is_cut_at-clause-soon g c b looked committed by =
    soon-behind c.args.numbers.now c.args.bank_time c.args.banks.now.bank_time b (c.max-started.result + 1) c.go_through_element-gone.result c.behind-then-is_cut_at.result
    c.requires.time c.requires.bank looked committed c.requires.before c.requires.done (ap (λ (k : ℕ). k + 1) c.max-started.ensures) c.go_through_element-gone.ensures.soon
    (λ late. c.go_through_element-gone.ensures.served (b + 513) (λ bank. omega (arith, by bank)) late) c.behind-then-is_cut_at.ensures

pub returns-clause-soon : goal.returns-clause-soon
returns-clause-soon g c b looked committed by =
    soon-stop c.args.numbers.now c.args.bank_time c.args.banks.now.bank_time b (c.max-started.result + 1) c.go_through_element-gone.result c.at_stop.result
    c.requires.time c.requires.bank looked committed c.requires.before c.requires.done (ap (λ (k : ℕ). k + 1) c.max-started.ensures) c.go_through_element-gone.ensures.soon
    (λ late. c.go_through_element-gone.ensures.served (b + 513) (λ bank. omega (arith, by bank)) late) c.at_stop.ensures

pub returns-then-is_none-clause-by : goal.returns-then-is_none-clause-by
returns-then-is_none-clause-by g c last by few =
    let is = ap (λ (n : Passing). n.done) c.behind.ensures in
    c.go_through_element-gone.ensures.by last by (omega (arith, is, few))

pub returns-then-is_cut_at-clause-by : goal.returns-then-is_cut_at-clause-by
returns-then-is_cut_at-clause-by g c last by few =
    let is = ap (λ (n : Passing). n.done) c.behind-then-is_cut_at.ensures in
    c.go_through_element-gone.ensures.by last by (omega (arith, is, few))
