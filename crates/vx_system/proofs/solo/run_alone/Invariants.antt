use Rattle.std.proofs.Common.{◌-◌}
use Rattle.vx_system.proofs.UnderWay.{IsUnderWay}
use Rattle.vx_system.proofs.solo.run_alone.Given as goal

-- each step so far completed an instruction
abbrev pub invariant-loop-process : goal.invariant-loop-process
invariant-loop-process l = IsUnderWay l.budget l.fn.process l.process.count l.process

abbrev pub decreases-loop-process : goal.decreases-loop-process
decreases-loop-process l = l.budget - l.process.count
