-- The pages that are built are those of the segments.
use Rattle.std.proofs.Common.{◌≡◌, ℕ, zero, suc, ◌*◌, ◌<◌, ◌≤◌, true, false, leb, inl, inr, List, [], ◌∷◌, ◌++◌, length, map, Some, None, refl, sym, ap, ◌∙◌, length-append, arith}
use Rattle.std.specs.List.{list_any, flat_map}
use Rattle.std.specs.Option.{option_to_list}
use Rattle.std.proofs.lemmas.Bool.{cases_lt, cases_Bool}
use Rattle.std.proofs.lemmas.Bool.Decides.{nat_tests}
use Rattle.std.proofs.lemmas.List.{map-append, take_at, drop_at}
use Rattle.vx_base.specs.declared.perm.PageEntry.{PageEntry}
use Rattle.vx_elf.specs.declared.segment.Segment.{Segment}
use Rattle.vx_elf.specs.Segments.{IsSegmentList}
use Rattle.vx_image.specs.Pages.{MappedPage, Memory}
use Rattle.vx_image.specs.Mapping.{meets_page, bytes_from, stack_page, page_of_stack, page_of_segments, mapped, pages_below, all_pages}
use Rattle.vx_image.specs.Building.{entry_of_stack, entry_of_segments, mapped_entry, entries_below, bytes_of_entries}
use Rattle.vx_image.specs.Kept.{pages_by, pages_of}
use Rattle.vx_image.proofs.Entries.{at_stack, at_segments, at_nothing}
use Rattle.vx_image.proofs.Filling.{length-bytes_from, zeros_beyond}

-- the page of an entry, with bytes that a function gives
page_with : (PageEntry → List ℕ) → PageEntry → MappedPage
page_with g entry = record { number = entry.page; permissions = entry.perm.bits; bytes = g entry }

-- entries with the bytes of each one after another stand for a page each
with_bytes : (size : ℕ) (g : PageEntry → List ℕ) → ((entry : PageEntry) → length (g entry) ≡ size) → (entries : List PageEntry) → pages_by size entries (flat_map g entries) ≡ map (page_with g) entries
unfolding pages_by page_with
with_bytes size g long [] = refl
with_bytes size g long (entry ∷ entries) =
    rw (take_at (g entry) (flat_map g entries) size (long entry), drop_at (g entry) (flat_map g entries) size (long entry))
    (ap (λ (pages : Memory). page_with g entry ∷ pages) (with_bytes size g long entries))

-- the bytes of an entry's page
bytes_at : List Segment → PageEntry → List ℕ
bytes_at segments entry = bytes_from segments (4096 * entry.page) 4096

-- the page that an entry stands for
page_for : List Segment → PageEntry → MappedPage
page_for segments = page_with (bytes_at segments)

stack_is : (segments : List Segment) (number : ℕ) → IsSegmentList segments → stack_page ≤ number → page_of_stack number ≡ page_for segments (entry_of_stack number)
unfolding page_of_stack page_for page_with bytes_at
stack_is segments number list high =
    ap (λ (bytes : List ℕ). record { number = number; permissions = 6; bytes = bytes }) (zeros_beyond segments (4096 * number) 4096 list (omega arith))

segments_is : (segments : List Segment) (number : ℕ) → page_of_segments segments number ≡ page_for segments (entry_of_segments segments number)
unfolding page_of_segments page_for page_with bytes_at
segments_is segments number = refl

mapped_stack : (segments : List Segment) (number : ℕ) → stack_page ≤ number → mapped segments number ≡ Some (page_of_stack number)
unfolding mapped
mapped_stack segments number high =
    let yes : leb stack_page number ≡ true = grind (arith, nat_tests) in
    rw yes refl

mapped_segments : (segments : List Segment) (number : ℕ) → number < stack_page → list_any (meets_page number) segments ≡ true → mapped segments number ≡ Some (page_of_segments segments number)
unfolding mapped
mapped_segments segments number low met =
    let no : leb stack_page number ≡ false = grind (arith, nat_tests) in
    rw (no, met) refl

mapped_nothing : (segments : List Segment) (number : ℕ) → number < stack_page → list_any (meets_page number) segments ≡ false → mapped segments number ≡ None
unfolding mapped
mapped_nothing segments number low unmet =
    let no : leb stack_page number ≡ false = grind (arith, nat_tests) in
    rw (no, unmet) refl

-- the page of a number, where it is mapped, is that of its entry
one_page : (segments : List Segment) (number : ℕ) → IsSegmentList segments → option_to_list (mapped segments number) ≡ map (page_for segments) (option_to_list (mapped_entry segments number))
one_page segments number list =
    elim (cases_lt number stack_page) [
      | inl low ↦ elim (cases_Bool (list_any (meets_page number) segments)) [
        | inl met ↦ rw (mapped_segments segments number low met, at_segments segments number low met) (ap (λ (page : MappedPage). page ∷ []) (segments_is segments number))
        | inr unmet ↦ rw (mapped_nothing segments number low unmet, at_nothing segments number low unmet) refl
      ]
      | inr high ↦ rw (mapped_stack segments number high, at_stack segments number high) (ap (λ (page : MappedPage). page ∷ []) (stack_is segments number list high))
    ]

pages_are : (segments : List Segment) (number : ℕ) → IsSegmentList segments → pages_below segments number ≡ map (page_for segments) (entries_below segments number)
unfolding pages_below entries_below
pages_are segments zero list = refl
pages_are segments (suc number) list =
    ap (λ (pages : Memory). pages ++ option_to_list (mapped segments number)) (pages_are segments number list)
    ∙ ap (λ (pages : Memory). map (page_for segments) (entries_below segments number) ++ pages) (one_page segments number list)
    ∙ sym (map-append (page_for segments) (entries_below segments number) (option_to_list (mapped_entry segments number)))

-- all pages are those that the entries and their bytes stand for
stand_for : (segments : List Segment) (entries : List PageEntry) → pages_of entries (bytes_of_entries segments entries) ≡ map (page_for segments) entries
unfolding pages_of bytes_of_entries bytes_at page_for
stand_for segments entries = with_bytes 4096 (bytes_at segments) (λ entry. length-bytes_from segments (4096 * entry.page) 4096) entries

pub all_are : (segments : List Segment) (entries : List PageEntry) → IsSegmentList segments → entries ≡ entries_below segments 0x4000000 → pages_of entries (bytes_of_entries segments entries) ≡ all_pages segments
unfolding all_pages
all_are segments entries list same =
    stand_for segments entries
    ∙ ap (map (page_for segments)) same
    ∙ sym (pages_are segments 0x4000000 list)

length_bytes_by : (segments : List Segment) (entries : List PageEntry) → length (bytes_of_entries segments entries) ≡ 4096 * length entries
unfolding bytes_of_entries
length_bytes_by segments [] = refl
length_bytes_by segments (entry ∷ entries) =
    omega (arith, length-append (bytes_from segments (4096 * entry.page) 4096) (bytes_of_entries segments entries), length-bytes_from segments (4096 * entry.page) 4096, length_bytes_by segments entries)

pub length_bytes : (segments : List Segment) (entries : List PageEntry) → length (bytes_of_entries segments entries) ≡ 4096 * length entries
length_bytes = length_bytes_by
