-- The bytes so far are those from the index on.
use Rattle.std.proofs.Common.{◌≡◌, drop, length, take}
use Rattle.vx_alone.proofs.memory.array_at.Given as goal

abbrev pub invariant-loop-k : goal.invariant-loop-k
invariant-loop-k g l = record {
  long : length l.array ≡ g.row.N;
  taken : take l.k l.array ≡ take l.k (drop l.at l.bytes);
}
