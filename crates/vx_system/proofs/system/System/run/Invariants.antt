use Rattle.std.proofs.Common.{◌-◌}
use Rattle.vx_machine.specs.Machine.{Machine}
use Rattle.vx_system.proofs.Rounds.{IsOnItsWay}
use Rattle.vx_system.specs.Runs.{StandsFor}
use Rattle.vx_system.proofs.system.System.run.Given as goal

-- the machine that the system stood for has done some rounds
abbrev pub invariant-loop-self : goal.invariant-loop-self
invariant-loop-self g l = (m : Machine) → StandsFor l.fn.self (g.C.Cells.state l.fn.cells) m → IsOnItsWay l.fn.self l.self (g.C.Cells.state l.cells) m

abbrev pub decreases-loop-self : goal.decreases-loop-self
decreases-loop-self g l = l.self.settings.budget - l.self.clock
