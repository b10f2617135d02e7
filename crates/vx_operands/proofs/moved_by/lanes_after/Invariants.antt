use Rattle.std.proofs.Common.{◌+◌}
use Rattle.vx_operands.proofs.ByIndex.{AreAfterBelow}
use Rattle.vx_operands.proofs.moved_by.lanes_after.Given as goal

abbrev pub invariant-loop-k : goal.invariant-loop-k
invariant-loop-k g l = AreAfterBelow (λ k o. goal.F-post g l.f (l.first + k) o) l.width l.active l.old l.k l.word
