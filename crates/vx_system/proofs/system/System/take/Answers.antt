use Rattle.std.proofs.Common.{◌≡◌, sym, ap, subst, ◌∙◌}
use Rattle.std.specs.Prelude.{None}
use Rattle.vx_cells.specs.Cells.{CellsState}
use Rattle.vx_machine.specs.Machine.{taken}
use Rattle.vx_system.proofs.Taking.{Moves-given}
use Rattle.vx_system.proofs.Timed.{at_cycle}
use Rattle.vx_system.specs.Runs.{SystemState, Moves}
use Rattle.vx_system.proofs.system.System.take.Goals as goal

pub returns-in-None-clause-moves : goal.returns-in-None-clause-moves
returns-in-None-clause-moves g c m h =
    let s = c.args.self.now in
    let cells : CellsState = g.C.Cells.state c.args.cells.now in
    let none : s.slice_end ≡ None = sym (ap (λ (x : SystemState). x.slice_end) c.self.view_is) ∙ c.in-None.is in
    let To : SystemState → CellsState → Type 0 = λ x d. Moves s x d m (taken s.settings m) in
    let given = subst (λ (x : SystemState). To x (at_cycle x.clock cells)) (sym c.give.ensures.given) (Moves-given s cells m none h) in
    subst (λ (d : CellsState). To c.give.new.self d) (sym c.give.ensures.cells) given
