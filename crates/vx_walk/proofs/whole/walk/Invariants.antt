-- The walk so far, through the tables of any residency that they stand for.
use Rattle.vx_tables.specs.Residency.{Residency}
use Rattle.vx_tables.specs.Tables.{AreHeld}
use Rattle.vx_tables.specs.Walking.{steps_left}
use Rattle.vx_walk.proofs.Begun.{IsBegun}
use Rattle.vx_walk.proofs.whole.walk.Given as goal

abbrev pub invariant-loop-answer : goal.invariant-loop-answer
invariant-loop-answer g l =
    (residency : Residency) → AreHeld (g.C.Cells.state l.initial.cells) l.root residency → IsBegun (g.C.Cells.state l.initial.cells) (g.C.Cells.state l.cells) residency l.root l.address l.fn.want l.walker

abbrev pub decreases-loop-answer : goal.decreases-loop-answer
decreases-loop-answer g l = steps_left l.walker.stage
