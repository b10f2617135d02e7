-- The spans below one place end at the header's memory or below it, and those from the other on begin behind it.
use Rattle.std.proofs.Common.{ℕ, ◌+◌, ◌-◌, ◌<◌, ◌≤◌, length, get_or}
use Rattle.vx_elf.specs.declared.taken.Span.{Span}
use Rattle.vx_elf.proofs.taken.is_free.Given as goal

abbrev pub invariant-loop-low : goal.invariant-loop-low
invariant-loop-low l = record {
  ordered : l.low ≤ l.high;
  within : l.high ≤ length l.spans;
  below : (k : ℕ) (d : Span) → k < l.low → (get_or l.spans k d).end ≤ l.header.address;
  above : (k : ℕ) (d : Span) → l.high ≤ k → k < length l.spans → l.header.address + l.header.memory_size ≤ (get_or l.spans k d).start;
}

abbrev pub decreases-loop-low : goal.decreases-loop-low
decreases-loop-low l = l.high - l.low
