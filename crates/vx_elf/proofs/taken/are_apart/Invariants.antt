-- The spans so far are apart, and end where the last one does at the latest.
use Rattle.std.proofs.Common.{ℕ, ◌<◌, ◌≤◌, length, get_or}
use Rattle.vx_elf.specs.declared.taken.Span.{Span}
use Rattle.vx_elf.proofs.taken.are_apart.Given as goal

abbrev pub invariant-loop-span : goal.invariant-loop-span
invariant-loop-span l = record {
  whole : (k : ℕ) (d : Span) → k < l.span-index → k < length l.spans → (get_or l.spans k d).start ≤ (get_or l.spans k d).end;
  apart : (i j : ℕ) (d : Span) → i < j → j < l.span-index → j < length l.spans → (get_or l.spans i d).end ≤ (get_or l.spans j d).start;
  last : (k : ℕ) (d : Span) → k < l.span-index → k < length l.spans → (get_or l.spans k d).end ≤ l.last;
}
