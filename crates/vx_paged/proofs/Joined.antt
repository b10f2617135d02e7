-- A placement and a residency that say the same.
use Rattle.std.proofs.Common.{◌≡◌, ℕ, zero, suc, ◌+◌, ◌*◌, ◌%◌, Bool, false, eqb, List, [], ◌∷◌, length, get_or, map, Some, None, refl, sym, ap, subst, ◌∙◌, inl, inr, arith}
use Rattle.std.specs.Prelude.{Option, option_map}
use Rattle.std.specs.Option.{option_map_or}
use Rattle.std.proofs.lemmas.Bool.{cases_Bool, eq-eqb, ne_eqb, eqb-true, false≢true}
use Rattle.vx_base.specs.Page.{byte_of_words}
use Rattle.vx_base.specs.declared.perm.PageEntry.{PageEntry}
use Rattle.vx_cells.specs.Cells.{CellsState}
use Rattle.vx_episode.specs.Show.{Registers, Shows, is_pending}
use Rattle.vx_flat.specs.Memory.{byte_at}
use Rattle.vx_flat.specs.State.{Flat}
use Rattle.vx_image.specs.Images.{entry_of_page}
use Rattle.vx_image.specs.Pages.{Memory, MappedPage, page_of, page_numbered}
use Rattle.vx_paged.specs.Framed.{entries_of, framed, in_turn, shown, shown_page, bytes_from}
use Rattle.vx_paged.specs.Placed.{AreAlone, IsPlacedAs, IsWhole, frame_of}
use Rattle.vx_paged.specs.declared.placement.FramedPage.{FramedPage}
use Rattle.vx_paged.proofs.Shown.{byte_there, numbered}
use Rattle.vx_pending.specs.Alike.{AreAlike}
use Rattle.vx_tables.specs.Residency.{Place, PlacedPage, Residency, pages_of, placed, at_boot}
use Rattle.vx_tables.specs.Residency.Place.{Away, Present}
use Rattle.vx_tables.specs.Tables.{AreHeld}

-- the page that a residency has of a number is where that of the placement is
abbrev pub FoundAlike : Option PlacedPage → Option FramedPage → Type 0
FoundAlike None None = Unit {0}
FoundAlike (Some q) (Some p) = frame_of q.place ≡ Some p.frame
FoundAlike q p = ⊥

tail_of : (p : FramedPage) (placement : List FramedPage) (q : PlacedPage) (residency : Residency) → IsPlacedAs (p ∷ placement) (q ∷ residency) → IsPlacedAs placement residency
tail_of p placement q residency is =
    let entries = is.entries in
    let frames = is.frames in
    record { entries = cc; frames = cc }

head_frame : (p : FramedPage) (placement : List FramedPage) (q : PlacedPage) (residency : Residency) → IsPlacedAs (p ∷ placement) (q ∷ residency) → frame_of q.place ≡ Some p.frame
head_frame p placement q residency is = let frames = is.frames in cc

head_entry : (p : FramedPage) (placement : List FramedPage) (q : PlacedPage) (residency : Residency) → IsPlacedAs (p ∷ placement) (q ∷ residency) → q.entry ≡ p.entry
head_entry p placement q residency is = let entries = is.entries in cc

pub found_alike : (number : ℕ) (placement : List FramedPage) (residency : Residency) → IsPlacedAs placement residency → FoundAlike (placed number residency) (framed number placement)
found_alike number [] [] is = tt
found_alike number [] (q ∷ residency) is = let entries = is.entries in cc
found_alike number (p ∷ placement) [] is = let entries = is.entries in cc
found_alike number (p ∷ placement) (q ∷ residency) is =
    let same : q.entry.page ≡ p.entry.page = ap (λ (e : PageEntry). e.page) (head_entry p placement q residency is) in
    elim (cases_Bool (eqb p.entry.page number)) [
      | inl is_it ↦ rw (is_it, eq-eqb q.entry.page number (same ∙ eqb-true p.entry.page number is_it)) (head_frame p placement q residency is)
      | inr other ↦ rw (other, ne_eqb q.entry.page number (λ here. false≢true (sym other ∙ eq-eqb p.entry.page number (sym same ∙ here))))
          (found_alike number placement residency (tail_of p placement q residency is))
    ]

-- a page that is present in a frame is in that of the placement
pub record IsFramedIn (placement : List FramedPage) (number frame : ℕ) : Type 0 where
  pub page : FramedPage
  pub found : framed number placement ≡ Some page
  pub in_frame : page.frame ≡ frame

there_by : (placement : List FramedPage) (number frame : ℕ) (q : PlacedPage) (accessed dirty : Bool) (found : Option FramedPage) → framed number placement ≡ found → FoundAlike (Some q) found → q.place ≡ Present frame accessed dirty → IsFramedIn placement number frame
there_by placement number frame q accessed dirty None is alike present = absurd alike
there_by placement number frame q accessed dirty (Some p) is alike present =
    let at : Some frame ≡ Some p.frame = sym (ap frame_of present) ∙ alike in
    let same : frame ≡ p.frame = cc in
    record { page = p; found = is; in_frame = sym same }

pub framed_there : (placement : List FramedPage) (residency : Residency) (number frame : ℕ) (q : PlacedPage) (accessed dirty : Bool) → IsPlacedAs placement residency → placed number residency ≡ Some q → q.place ≡ Present frame accessed dirty → IsFramedIn placement number frame
framed_there placement residency number frame q accessed dirty is found present =
    there_by placement number frame q accessed dirty (framed number placement) refl
    (subst (λ (o : Option PlacedPage). FoundAlike o (framed number placement)) found (found_alike number placement residency is)) present

-- and the other way round
pub record IsPresentIn (residency : Residency) (number frame : ℕ) : Type 0 where
  pub page : PlacedPage
  pub accessed : Bool
  pub dirty : Bool
  pub found : placed number residency ≡ Some page
  pub present : page.place ≡ Present frame accessed dirty

present_by : (residency : Residency) (number frame : ℕ) (q : PlacedPage) → placed number residency ≡ Some q → (place : Place) → q.place ≡ place → frame_of place ≡ Some frame → IsPresentIn residency number frame
present_by residency number frame q found Away is there = cc
present_by residency number frame q found (Present f accessed dirty) is there =
    let same : f ≡ frame = cc in
    record { page = q; accessed = accessed; dirty = dirty; found = found; present = is ∙ ap (λ (n : ℕ). Present n accessed dirty) same }

back_by : (residency : Residency) (number : ℕ) (p : FramedPage) (found : Option PlacedPage) → placed number residency ≡ found → FoundAlike found (Some p) → IsPresentIn residency number p.frame
back_by residency number p None is alike = absurd alike
back_by residency number p (Some q) is alike = present_by residency number p.frame q is q.place refl alike

pub present_there : (placement : List FramedPage) (residency : Residency) (number : ℕ) (p : FramedPage) → IsPlacedAs placement residency → framed number placement ≡ Some p → IsPresentIn residency number p.frame
present_there placement residency number p is found =
    back_by residency number p (placed number residency) refl
    (subst (λ (o : Option FramedPage). FoundAlike (placed number residency) o) found (found_alike number placement residency is))

missing_by : (number : ℕ) (found : Option PlacedPage) → FoundAlike found None → found ≡ None
missing_by number None alike = refl
missing_by number (Some q) alike = absurd alike

-- ---- the pages that are shown

pub shown-entries : (placement : List FramedPage) (contents : List ℕ) → map entry_of_page (shown placement contents) ≡ entries_of placement
unfolding shown
shown-entries [] contents = refl
shown-entries (p ∷ placement) contents = ap (λ (es : List PageEntry). p.entry ∷ es) (shown-entries placement contents)

length-bytes_from : (memory : ℕ → ℕ) (start count : ℕ) → length (bytes_from memory start count) ≡ count
unfolding bytes_from
length-bytes_from memory start zero = refl
length-bytes_from memory start (suc count) = ap suc (length-bytes_from memory (start + 1) count)

pub shown-whole : (placement : List FramedPage) (contents : List ℕ) → IsWhole (shown placement contents)
unfolding shown
shown-whole [] contents k d below = absurd (omega arith)
shown-whole (p ∷ placement) contents zero d below = length-bytes_from (byte_of_words contents) (4096 * p.frame) 4096
shown-whole (p ∷ placement) contents (suc k) d below = shown-whole placement contents k d (omega arith)

-- memories of the same entries whose pages are whole have as many bytes of each
same_lengths : (m n : Memory) → IsWhole m → IsWhole n → map entry_of_page m ≡ map entry_of_page n → map (λ (p : MappedPage). length p.bytes) m ≡ map (λ (p : MappedPage). length p.bytes) n
same_lengths [] [] one other same = refl
same_lengths [] (q ∷ n) one other same = cc
same_lengths (p ∷ m) [] one other same = cc
same_lengths (p ∷ m) (q ∷ n) one other same =
    let rest : map entry_of_page m ≡ map entry_of_page n = cc in
    let first : length p.bytes ≡ length q.bytes = one 0 p (omega arith) ∙ sym (other 0 q (omega arith)) in
    ap (λ (l : ℕ). l ∷ map (λ (p : MappedPage). length p.bytes) m) first
    ∙ ap (λ (ls : List ℕ). length q.bytes ∷ ls) (same_lengths m n (λ k d below. one (suc k) d (omega arith)) (λ k d below. other (suc k) d (omega arith)) rest)

-- a page that isn't among the entries isn't mapped
unmapped : (number : ℕ) (memory : Memory) (placement : List FramedPage) → map entry_of_page memory ≡ entries_of placement → framed number placement ≡ None → page_numbered number memory ≡ None
unmapped number [] placement same missing = refl
unmapped number (page ∷ memory) [] same missing = cc
unmapped number (page ∷ memory) (p ∷ placement) same missing =
    let first : entry_of_page page ≡ p.entry = cc in
    let numbers : page.number ≡ p.entry.page = ap (λ (e : PageEntry). e.page) first in
    let rest : map entry_of_page memory ≡ entries_of placement = cc in
    elim (cases_Bool (eqb p.entry.page number)) [
      | inl is_it ↦ let found = rw is_it at missing in cc
      | inr other ↦ rw (ne_eqb page.number number (λ here. false≢true (sym other ∙ eq-eqb p.entry.page number (sym numbers ∙ here))))
          (unmapped number memory placement rest (rw other at missing))
    ]

module _ (placement : List FramedPage) (registers : Registers) (cells : CellsState) (first : ℕ) (residency : Residency) (s : Flat) (is : IsPlacedAs placement residency) where
  shows_byte : Shows registers cells first residency s → (address : ℕ) → is_pending s address ≡ false → (found : Option FramedPage) → framed (page_of address) placement ≡ found → byte_at (shown placement cells.contents) address ≡ byte_at s.memory address
  unfolding shown
  shows_byte shows address calm None missing =
      let none : page_numbered (page_of address) (shown placement cells.contents) ≡ None = numbered (byte_of_words cells.contents) (page_of address) placement ∙ ap (option_map (shown_page (byte_of_words cells.contents))) missing in
      let other : page_numbered (page_of address) s.memory ≡ None = unmapped (page_of address) s.memory placement (sym shows.pages ∙ is.entries) missing in
      ap (λ (o : Option MappedPage). option_map_or (λ (page : MappedPage). get_or page.bytes (address % 4096) 0) o 0) (none ∙ sym other)
  shows_byte shows address calm (Some p) found =
      let present = present_there placement residency (page_of address) p is found in
      byte_there (byte_of_words cells.contents) placement address p found
      ∙ shows.bytes address present.page p.frame present.accessed present.dirty present.found present.present calm

  pub alike_there : IsWhole s.memory → Shows registers cells first residency s → AreAlike s (shown placement cells.contents)
  alike_there whole shows =
      let entries : map entry_of_page (shown placement cells.contents) ≡ map entry_of_page s.memory = shown-entries placement cells.contents ∙ sym is.entries ∙ shows.pages in
      record {
        pages = record { entries = entries; lengths = same_lengths (shown placement cells.contents) s.memory (shown-whole placement cells.contents) whole entries };
        bytes = λ address calm. shows_byte shows address calm (framed (page_of address) placement) refl;
      }

  pub alike_back : registers.pc ≡ s.pc → registers.x ≡ s.x → registers.v ≡ s.v → AreHeld cells first residency → AreAlone first residency → AreAlike s (shown placement cells.contents) → Shows registers cells first residency s
  unfolding shown
  alike_back pc x v held alone alike = record {
    pc_is = pc;
    x_is = x;
    v_is = v;
    pages = is.entries ∙ sym (shown-entries placement cells.contents) ∙ alike.pages.entries;
    tables = held;
    alone = alone;
    bytes = λ address p frame accessed dirty found present calm.
        let there = framed_there placement residency (page_of address) frame p accessed dirty is found present in
        ap (λ (f : ℕ). byte_of_words cells.contents (4096 * f + address % 4096)) (sym there.in_frame)
        ∙ sym (byte_there (byte_of_words cells.contents) placement address there.page there.found)
        ∙ alike.bytes address calm;
  }

-- ---- at boot

boot-entries : (first : ℕ) (pages : List PageEntry) → pages_of (at_boot (Some first) pages) ≡ entries_of (in_turn first pages)
boot-entries first [] = refl
boot-entries first (e ∷ pages) =
    let next : suc first ≡ first + 1 = omega arith in
    ap (λ (es : List PageEntry). e ∷ es) (ap (λ (n : ℕ). pages_of (at_boot (Some n) pages)) next ∙ boot-entries (first + 1) pages)

boot-frames : (first : ℕ) (pages : List PageEntry) → map (λ (p : PlacedPage). frame_of p.place) (at_boot (Some first) pages) ≡ map (λ (p : FramedPage). Some p.frame) (in_turn first pages)
boot-frames first [] = refl
boot-frames first (e ∷ pages) =
    let next : suc first ≡ first + 1 = omega arith in
    ap (λ (fs : List (Option ℕ)). Some first ∷ fs) (ap (λ (n : ℕ). map (λ (p : PlacedPage). frame_of p.place) (at_boot (Some n) pages)) next ∙ boot-frames (first + 1) pages)

pub IsPlacedAs-boot : (first : ℕ) (pages : List PageEntry) → IsPlacedAs (in_turn first pages) (at_boot (Some first) pages)
IsPlacedAs-boot first pages = record { entries = boot-entries first pages; frames = boot-frames first pages }
