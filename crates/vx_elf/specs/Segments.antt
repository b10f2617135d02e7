-- What a list of segments keeps. This project's own.
use Rattle.std.specs.Prelude.{ℕ, ◌+◌, ◌<◌, ◌≤◌, Bool, ◌&&◌, ◌||◌, ◌==◌, nat_lt, List, length, sum_by, All, AllPairs, IsTrue, IsFalse}
use Rattle.vx_elf.specs.declared.segment.Segment.{Segment}

-- one or more of R 4, W 2 and X 1, with R wherever W is
abbrev pub is_segment_permission : ℕ → Bool
is_segment_permission bits = bits == 1 || bits == 4 || bits == 5 || bits == 6 || bits == 7

-- m addresses from a on and n addresses from b on have one in common, where neither range is empty
abbrev pub ranges_meet : ℕ → ℕ → ℕ → ℕ → Bool
ranges_meet a m b n = nat_lt a (b + n) && nat_lt b (a + m)

-- where the memory of segments ends at the latest: the stack begins there
abbrev pub segments_end : ℕ
segments_end = 0x3fffff0000

-- how many bytes the segments of a program may take together
abbrev pub segments_room : ℕ
segments_room = 16777216

-- how many bytes of memory segments take together
abbrev pub total_size : List Segment → ℕ
total_size segments = sum_by (λ (segment : Segment). segment.size) segments

pub record IsSegment (segment : Segment) : Type 0 where
  pub some : 0 < segment.size
  pub holds : length segment.bytes ≤ segment.size
  pub within : segment.address + segment.size ≤ segments_end
  pub permission : IsTrue (is_segment_permission segment.perm.bits)

pub record IsSegmentList (segments : List Segment) : Type 0 where
  pub rising : AllPairs (λ one later. one.index < later.index) segments
  pub each : All IsSegment segments
  pub room : total_size segments ≤ segments_room
  pub apart : AllPairs (λ one later. IsFalse (ranges_meet one.address one.size later.address later.size)) segments
