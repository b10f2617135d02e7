-- The memory that the segments of a program stand for, page by page, and the stack. This project's own.
use Rattle.std.specs.Prelude.{ℕ, zero, suc, ◌+◌, ◌-◌, ◌*◌, Bool, ◌&&◌, nat_lt, nat_le, bit_or, List, [], ◌∷◌, ◌++◌, slice_index, replicate, filter, find, fold, Option, Some, None, if◌then◌else◌}
use Rattle.std.specs.List.{list_any}
use Rattle.std.specs.Option.{option_map_or, option_to_list}
use Rattle.vx_elf.specs.Segments.{ranges_meet}
use Rattle.vx_elf.specs.declared.segment.Segment.{Segment}
use Rattle.vx_image.specs.Pages.{MappedPage, Memory}

-- the memory of a segment meets the page of that number
abbrev pub meets_page : ℕ → Segment → Bool
meets_page number segment = ranges_meet segment.address segment.size (4096 * number) 4096

-- the permissions of a page: all those of the segments that meet it
unfoldable pub page_permissions : List Segment → ℕ → ℕ
page_permissions segments number =
    fold (λ (bits : ℕ) (segment : Segment). bit_or bits segment.perm.bits) 0 (filter (meets_page number) segments)

-- the memory of a segment has this address
abbrev pub has_address : ℕ → Segment → Bool
has_address address segment = nat_le segment.address address && nat_lt address (segment.address + segment.size)

-- the byte of a segment at an address of its memory: zero beyond the bytes that it holds
abbrev pub segment_byte : ℕ → Segment → ℕ
segment_byte address segment = slice_index segment.bytes (address - segment.address)

-- the byte at an address: that of the segment that has it, else zero
unfoldable pub byte_of : List Segment → ℕ → ℕ
byte_of segments address = option_map_or (segment_byte address) (find (has_address address) segments) 0

-- the bytes at so many addresses from this one on
unfoldable pub bytes_from : List Segment → ℕ → ℕ → List ℕ
bytes_from segments address zero = []
bytes_from segments address (suc count) = byte_of segments address ∷ bytes_from segments (address + 1) count

-- the stack's first page; it has all pages from there to the last, 0x3ffffff
abbrev pub stack_page : ℕ
stack_page = 0x3fffff0

-- a page of the stack: zeros that may be read and written
unfoldable pub page_of_stack : ℕ → MappedPage
page_of_stack number = record { number = number; permissions = 6; bytes = replicate 4096 0 }

-- a page of the segments
unfoldable pub page_of_segments : List Segment → ℕ → MappedPage
page_of_segments segments number = record {
  number = number;
  permissions = page_permissions segments number;
  bytes = bytes_from segments (4096 * number) 4096;
}

-- the page of that number, where it is mapped: one of the stack, or one that a segment meets
unfoldable pub mapped : List Segment → ℕ → Option MappedPage
mapped segments number =
    if nat_le stack_page number then Some (page_of_stack number)
    else if list_any (meets_page number) segments then Some (page_of_segments segments number)
    else None

-- the mapped pages below a number, in rising order
unfoldable pub pages_below : List Segment → ℕ → Memory
pages_below segments zero = []
pages_below segments (suc number) = pages_below segments number ++ option_to_list (mapped segments number)

-- all mapped pages
unfoldable pub all_pages : List Segment → Memory
all_pages segments = pages_below segments 0x4000000
