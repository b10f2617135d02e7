-- The bytes so far are the first of the number's, and those behind them are as they were.
use Rattle.vx_alone.proofs.Numbers.{IsPut}
use Rattle.vx_alone.proofs.memory.put_low.Given as goal

abbrev pub invariant-loop-k : goal.invariant-loop-k
invariant-loop-k g l = IsPut l.initial.bytes l.low l.at l.k l.bytes
