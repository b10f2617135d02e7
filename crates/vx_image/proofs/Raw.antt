-- The one segment of raw bytes, and its pages.
use Rattle.std.proofs.Common.{◌≡◌, ℕ, zero, suc, ◌+◌, ◌%◌, ◌<◌, ◌≤◌, Bool, true, false, not, ◌||◌, if◌then◌else◌, eqb, ltb, bit_or, inl, inr, List, [], ◌∷◌, length, get_or, find, Some, None, option_map, Err, refl, ap, append-nil, arith}
use Rattle.std.specs.List.{list_any, All}
use Rattle.std.proofs.lemmas.Bool.{cases_lt, cases_Bool, ltb-false, false≢true}
use Rattle.std.proofs.lemmas.Grind.{div_ceil_times}
use Rattle.std.proofs.lemmas.List.Elements.{All-push}
use Rattle.vx_base.specs.Pages.{IsPageList}
use Rattle.vx_base.specs.declared.perm.PageEntry.{PageEntry}
use Rattle.vx_elf.specs.Segments.{segments_end, IsSegment, IsSegmentList}
use Rattle.vx_elf.specs.declared.segment.Segment.{Segment}
use Rattle.vx_image.specs.Building.{entries_below, entry_of_stack, entry_of_segments}
use Rattle.vx_image.specs.Images.{is_write_exec, page_count, raw_segment, raw_fault, raw_image, image_in, MakesRaw}
use Rattle.vx_image.specs.Mapping.{meets_page, page_permissions, stack_page, all_pages}
use Rattle.vx_image.specs.Pages.{Image}
use Rattle.vx_image.specs.declared.fault.ImageFault.{ImageFault}
use Rattle.vx_image.specs.declared.fault.ImageFault.TheVariants.{RawLength, TooManyPages, NoMemory}
use Rattle.vx_image.proofs.Allowed.{AreEntries, are_entries, are_listed}
use Rattle.vx_image.proofs.Assembled.{with_pages}
use Rattle.vx_image.proofs.Entries.{at_stack, at_segments, at_nothing}

-- none of two tests passed
no_fault : (a b : Bool) (x y : ImageFault) → (if a then Some x else if b then Some y else None) ≡ None → (a ≡ false) × (b ≡ false)
no_fault true b x y none = cc
no_fault false true x y none = cc
no_fault false false x y none = (refl, refl)

some_bytes : (n : ℕ) (b : Bool) → (eqb n 0 || b) ≡ false → 0 < n
some_bytes zero b none = cc
some_bytes (suc n) b none = omega arith

-- raw bytes without a fault are some, and fill at most 4,080 pages
raw_size : (bytes : List ℕ) → raw_fault bytes ≡ None → (0 < length bytes) × (length bytes ≤ 16711680)
unfolding raw_fault
raw_size bytes none =
    let tests = no_fault (eqb (length bytes) 0 || not (eqb (length bytes % 4) 0)) (ltb 4096 (page_count (length bytes) + 16)) (RawLength (length bytes)) (TooManyPages (page_count (length bytes) + 16)) none in
    let few : page_count (length bytes) + 16 ≤ 4096 = ltb-false 4096 (page_count (length bytes) + 16) tests.1 in
    let bounds = div_ceil_times (length bytes) 4096 (omega arith) in
    (some_bytes (length bytes) (not (eqb (length bytes % 4) 0)) tests.0, omega (arith, bounds.0))

-- what holds of the only segment holds of each
only : (P : Segment → Type 0) (segment : Segment) → P segment → (k : ℕ) (d : Segment) → k < length (segment ∷ []) → P (get_or (segment ∷ []) k d)
only P segment holds zero d within = holds
only P segment holds (suc k) d within = absurd (omega arith)

one_segment : (bytes : List ℕ) → raw_fault bytes ≡ None → IsSegment (raw_segment bytes)
unfolding raw_segment
one_segment bytes none =
    let size = raw_size bytes none in
    record {
      some = size.0;
      holds = let long : length bytes ≤ length bytes = omega arith in long;
      within = let low : 0x10000 + length bytes ≤ segments_end = omega (arith, size.1) in low;
      permission = refl;
    }

size_is : (bytes : List ℕ) → (raw_segment bytes).size ≡ length bytes
unfolding raw_segment
size_is bytes = refl

-- their segment alone is a list of segments
pub raw_list : (bytes : List ℕ) → raw_fault bytes ≡ None → IsSegmentList (raw_segment bytes ∷ [])
raw_list bytes none =
    let size = raw_size bytes none in
    record {
      rising = λ i j d before within. absurd (omega arith);
      each = only IsSegment (raw_segment bytes) (one_segment bytes none);
      room = omega (arith, size.1, size_is bytes);
      apart = λ i j d before within. absurd (omega arith);
    }

permission_is : (bytes : List ℕ) → bit_or 0 (raw_segment bytes).perm.bits ≡ 5
unfolding raw_segment
permission_is bytes = refl

-- a page that the segment meets may be read and executed
raw_permissions : (bytes : List ℕ) (number : ℕ) → list_any (meets_page number) (raw_segment bytes ∷ []) ≡ true → page_permissions (raw_segment bytes ∷ []) number ≡ 5
unfolding page_permissions
raw_permissions bytes number met =
    elim (cases_Bool (meets_page number (raw_segment bytes))) [
      | inl passes ↦ rw passes (permission_is bytes)
      | inr fails ↦ absurd (false≢true (rw fails at met))
    ]

-- no page is both W and X
abbrev IsNotBoth : PageEntry → Type 0
IsNotBoth entry = is_write_exec entry.perm.bits ≡ false

none_both : (bytes : List ℕ) (number : ℕ) → All IsNotBoth (entries_below (raw_segment bytes ∷ []) number)
unfolding entries_below
none_both bytes zero = λ k d within. absurd (omega arith)
none_both bytes (suc number) =
    let segments = raw_segment bytes ∷ [] in
    let before = none_both bytes number in
    elim (cases_lt number stack_page) [
      | inl low ↦ elim (cases_Bool (list_any (meets_page number) segments)) [
        | inl met ↦
            let allowed : is_write_exec (page_permissions segments number) ≡ false = rw (raw_permissions bytes number met) refl in
            rw (at_segments segments number low met) (All-push IsNotBoth (entries_below segments number) (entry_of_segments segments number) before allowed)
        | inr unmet ↦ rw (at_nothing segments number low unmet, append-nil (entries_below segments number)) before
      ]
      | inr high ↦ rw (at_stack segments number high) (All-push IsNotBoth (entries_below segments number) (entry_of_stack number) before refl)
    ]

find_none : (entries : List PageEntry) → All IsNotBoth entries → find (λ (entry : PageEntry). is_write_exec entry.perm.bits) entries ≡ None
find_none [] none = refl
find_none (entry ∷ entries) none = rw (none 0 entry (omega arith)) (find_none entries (λ k d within. none (suc k) d (omega arith)))

-- the entries of raw bytes are those of a list of pages
pub raw_listed : (bytes : List ℕ) (entries : List PageEntry) → raw_fault bytes ≡ None → entries ≡ entries_below (raw_segment bytes ∷ []) 0x4000000 → IsPageList entries
raw_listed bytes entries none same =
    let segments = raw_segment bytes ∷ [] in
    let list = raw_list bytes none in
    let are : AreEntries entries 0x4000000 = rw same (are_entries segments 0x4000000 list) in
    let both : All IsNotBoth entries = rw same (none_both bytes 0x4000000) in
    are_listed entries are (ap (option_map (λ (entry : PageEntry). entry.page)) (find_none entries both))

-- the image of raw bytes is that of their segment
pub raw_is : (bytes : List ℕ) (image : Image) → image ≡ with_pages 0x10000 (all_pages (raw_segment bytes ∷ [])) → image ≡ raw_image bytes
unfolding raw_image image_in
raw_is bytes image made = made

-- a fault of raw bytes is what the making answers
pub raw_answers : (bytes : List ℕ) (fault : ImageFault) → raw_fault bytes ≡ Some fault → MakesRaw bytes (Err fault)
raw_answers bytes NoMemory found = tt
raw_answers bytes fault found = found
