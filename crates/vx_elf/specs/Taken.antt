-- The memory that the first of a list of segments take, kept in rising order. This project's own.
use Rattle.std.specs.Prelude.{ℕ, ◌+◌, ◌≤◌, Bool, ◌&&◌, nat_lt, List, length, take, All, AllPairs, Contains}
use Rattle.vx_elf.specs.declared.header.ProgramHeader.{ProgramHeader}
use Rattle.vx_elf.specs.declared.segment.Segment.{Segment}
use Rattle.vx_elf.specs.declared.taken.Span.{Span}

-- the addresses of a segment
abbrev pub span_of : Segment → Span
span_of segment = record { start = segment.address; end = segment.address + segment.size }

-- the memory of a header has an address of the span
abbrev pub meets_span : ProgramHeader → Span → Bool
meets_span header span = nat_lt span.start (header.address + header.memory_size) && nat_lt header.address span.end

-- each span begins where the one before it ends, or above that
pub record AreApart (spans : List Span) : Type 0 where
  pub whole : All (λ span. span.start ≤ span.end) spans
  pub apart : AllPairs (λ one later. one.end ≤ later.start) spans

-- the memory of so many segments is among the spans
pub record IsHeld (spans : List Span) (count : ℕ) (segments : List Segment) : Type 0 where
  pub apart : AreApart spans
  pub within : count ≤ length segments
  pub held : All (λ segment. Contains spans (span_of segment)) (take count segments)
