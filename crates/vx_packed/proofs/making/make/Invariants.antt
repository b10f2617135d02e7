use Rattle.vx_packed.proofs.OneByOne.{IsMadeBelow}
use Rattle.vx_packed.proofs.making.make.Given as goal

abbrev pub invariant-loop-k : goal.invariant-loop-k
invariant-loop-k g l = IsMadeBelow (goal.F-post g l.f) l.at l.from l.k l.so_far
