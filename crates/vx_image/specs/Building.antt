-- How an image is built of segments, step by step. This project's own.
use Rattle.std.specs.Prelude.{◌≡◌, ℕ, zero, suc, ◌+◌, ◌*◌, ◌<◌, ◌≤◌, Bool, false, ◌&&◌, ◌==◌, nat_lt, nat_le, bit_or, List, All, [], ◌∷◌, ◌++◌, length, slice_index, Option, Some, None, if◌then◌else◌}
use Rattle.std.specs.List.{list_any, flat_map}
use Rattle.std.specs.List.Sorted.{IsNonDecreasingBy}
use Rattle.std.specs.Option.{option_to_list}
use Rattle.vx_base.specs.declared.perm.PageEntry.{PageEntry}
use Rattle.vx_elf.specs.declared.segment.Segment.{Segment}
use Rattle.vx_image.specs.Kept.{entry_at}
use Rattle.vx_image.specs.Mapping.{meets_page, page_permissions, segment_byte, bytes_from, stack_page}

-- a number is one of a list
abbrev pub is_among : List ℕ → ℕ → Bool
is_among numbers number = list_any (λ n. n == number) numbers

-- a segment meets the page of that number
abbrev pub is_met : List Segment → ℕ → Bool
is_met segments number = list_any (meets_page number) segments

-- the numbers below one that pass a test
unfoldable pub numbers_below : (ℕ → Bool) → ℕ → List ℕ
numbers_below p zero = []
numbers_below p (suc number) = numbers_below p number ++ (if p number then number ∷ [] else [])

-- the pages that a segment meets are those from a number to below another
pub record IsSpan (segment : Segment) (start end : ℕ) : Type 0 where
  pub some : start < end
  pub low : end ≤ stack_page
  pub met : (number : ℕ) → meets_page number segment ≡ (nat_le start number && nat_lt number end)

-- the pages that segments meet, in rising order
pub record AreMet (pages : List ℕ) (segments : List Segment) : Type 0 where
  pub met : (number : ℕ) → is_among pages number ≡ is_met segments number
  pub rising : IsNonDecreasingBy (λ (n : ℕ). n) pages
  pub low : All (λ (n : ℕ). n < stack_page) pages

-- the entries of the pages that a segment meets are those from a place to below another
pub record ArePlaces (entries : List PageEntry) (segment : Segment) (start end : ℕ) : Type 0 where
  pub order : start ≤ end
  pub within : end ≤ length entries
  pub met : (k : ℕ) → k < length entries → meets_page (entry_at entries k).page segment ≡ (nat_le start k && nat_lt k end)

-- a segment holds a byte for this address
abbrev pub has_byte : ℕ → Segment → Bool
has_byte address segment = nat_le segment.address address && nat_lt address (segment.address + length segment.bytes)

-- the bytes that a segment holds were laid onto those from an address on, and the others stay
pub record IsLaid (old new : List ℕ) (segment : Segment) (address : ℕ) : Type 0 where
  pub size : length new ≡ length old
  pub each : (j : ℕ) → j < length old → slice_index new j ≡ (if has_byte (address + j) segment then segment_byte (address + j) segment else slice_index old j)

-- the same of the bytes of pages
pub record IsLaidOn (entries : List PageEntry) (old new : List ℕ) (segment : Segment) : Type 0 where
  pub size : length new ≡ length old
  pub each : (k j : ℕ) → k < length entries → j < 4096 →
      slice_index new (4096 * k + j) ≡ (if has_byte (4096 * (entry_at entries k).page + j) segment then segment_byte (4096 * (entry_at entries k).page + j) segment else slice_index old (4096 * k + j))

-- the entry of a page of the stack, and of a page of the segments
abbrev pub entry_of_stack : ℕ → PageEntry
entry_of_stack number = record { page = number; perm = record { bits = 6 } }

abbrev pub entry_of_segments : List Segment → ℕ → PageEntry
entry_of_segments segments number = record { page = number; perm = record { bits = page_permissions segments number } }

-- the entry of a page, with the permissions of a segment that meets it
abbrev pub granted : Segment → PageEntry → PageEntry
granted segment entry =
    if meets_page entry.page segment then record { page = entry.page; perm = record { bits = bit_or entry.perm.bits segment.perm.bits } }
    else entry

-- the entry of a page, where it is mapped
unfoldable pub mapped_entry : List Segment → ℕ → Option PageEntry
mapped_entry segments number =
    if nat_le stack_page number then Some (entry_of_stack number)
    else if list_any (meets_page number) segments then Some (entry_of_segments segments number)
    else None

-- the entries of the mapped pages below a number
unfoldable pub entries_below : List Segment → ℕ → List PageEntry
entries_below segments zero = []
entries_below segments (suc number) = entries_below segments number ++ option_to_list (mapped_entry segments number)

-- the entries of so many pages of the stack
unfoldable pub stack_entries : ℕ → List PageEntry
stack_entries zero = []
stack_entries (suc count) = stack_entries count ++ entry_of_stack (stack_page + count) ∷ []

-- the bytes of pages one after another
unfoldable pub bytes_of_entries : List Segment → List PageEntry → List ℕ
bytes_of_entries segments entries = flat_map (λ (entry : PageEntry). bytes_from segments (4096 * entry.page) 4096) entries

-- a number is the last one
abbrev pub is_last : Option ℕ → ℕ → Bool
is_last None n = false
is_last (Some m) n = m == n

-- how many numbers of a list differ from the one before, the first from a last one
abbrev pub change_count : Option ℕ → List ℕ → ℕ
change_count last [] = 0
change_count last (n ∷ ns) = (if is_last last n then 0 else 1) + change_count (Some n) ns
