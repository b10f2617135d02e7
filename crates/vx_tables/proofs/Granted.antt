-- The page map of a residency against the memory that it is of.
use Rattle.std.proofs.Common.{◌≡◌, ℕ, ◌+◌, ◌/◌, ◌^◌, Bool, true, false, eqb, inl, inr, List, [], ◌∷◌, Some, None, map, refl, sym, ap, subst, ◌∙◌}
use Rattle.std.specs.Prelude.{Option, option_map, ◌&&◌, if◌then◌else◌}
use Rattle.std.specs.Option.{option_map_or}
use Rattle.std.proofs.lemmas.Bool.{cases_Bool}
use Rattle.vx_base.specs.Pages.{IsPageList}
use Rattle.vx_tables.proofs.Descents.{mapped_low}
use Rattle.vx_base.specs.Permissions.{grants}
use Rattle.vx_base.specs.declared.machine.Want.{Want}
use Rattle.vx_base.specs.declared.perm.Perm.{Perm}
use Rattle.vx_base.specs.declared.perm.PageEntry.{PageEntry}
use Rattle.vx_image.specs.Images.{entry_of_page}
use Rattle.vx_image.specs.Pages.{MappedPage, Memory, page_numbered, page_of, is_granted, is_canonical}
use Rattle.vx_image.specs.Tables.{distinct_count, table_frames}
use Rattle.vx_tables.specs.Residency.{Place, PlacedPage, Residency, IsOf, pages_of, placed, found_at, page_map}
use Rattle.vx_tables.specs.Residency.Place.{Away, Present}
use Rattle.vx_tables.specs.Tables.{regions, table_count}
use Rattle.vx_tables.specs.declared.walked.Walked.{Walked}
use Rattle.vx_tables.specs.declared.walked.Walked.TheVariants as walked

-- the entry of a number, of either
entry_of : ℕ → List PageEntry → Option PageEntry
entry_of number [] = None
entry_of number (e ∷ entries) = if eqb e.page number then Some e else entry_of number entries

placed-entry : (number : ℕ) (residency : Residency) → option_map (λ (p : PlacedPage). p.entry) (placed number residency) ≡ entry_of number (pages_of residency)
unfolding entry_of
placed-entry number [] = refl
placed-entry number (p ∷ residency) =
    elim (cases_Bool (eqb p.entry.page number)) [
      | inl same ↦ rw same refl
      | inr differs ↦ rw differs (placed-entry number residency)
    ]

mapped-entry : (number : ℕ) (memory : Memory) → option_map entry_of_page (page_numbered number memory) ≡ entry_of number (map entry_of_page memory)
unfolding entry_of
mapped-entry number [] = refl
mapped-entry number (page ∷ memory) =
    elim (cases_Bool (eqb page.number number)) [
      | inl same ↦ rw same refl
      | inr differs ↦ rw differs (mapped-entry number memory)
    ]

same_entry : (residency : Residency) (memory : Memory) (number : ℕ) → IsOf residency memory → option_map (λ (p : PlacedPage). p.entry) (placed number residency) ≡ option_map entry_of_page (page_numbered number memory)
same_entry residency memory number is = placed-entry number residency ∙ ap (entry_of number) is ∙ sym (mapped-entry number memory)

-- what each answer says of the permission
abbrev Tells : Walked → Bool → Type 0
Tells (walked.Leaf frame perm dirty) granted = granted ≡ true
Tells walked.Away granted = Unit {0}
Tells walked.Denied granted = granted ≡ false

found-tells : (bits : ℕ) (want : Want) (place : Place) → Tells (found_at bits want place) (grants bits want)
found-tells bits want Away = tt
found-tells bits want (Present frame a d) =
    elim (cases_Bool (grants bits want)) [
      | inl is ↦ rw is refl
      | inr fails ↦ rw fails refl
    ]

page_tells : (want : Want) (o : Option PlacedPage) (q : Option MappedPage) → option_map (λ (p : PlacedPage). p.entry) o ≡ option_map entry_of_page q → Tells (option_map_or (λ (p : PlacedPage). found_at p.entry.perm.bits want p.place) o walked.Denied) (option_map_or (λ (page : MappedPage). grants page.permissions want) q false)
page_tells want None None same = refl
page_tells want None (Some page) same = absurd (cc same)
page_tells want (Some p) None same = absurd (cc same)
page_tells want (Some p) (Some page) same =
    let e : p.entry ≡ entry_of_page page = cc same in
    let b : p.entry.perm.bits ≡ page.permissions = ap (λ (x : PageEntry). x.perm.bits) e in
    subst (λ (bits : ℕ). Tells (found_at p.entry.perm.bits want p.place) (grants bits want)) b (found-tells p.entry.perm.bits want p.place)

tells : (residency : Residency) (memory : Memory) (address : ℕ) (want : Want) → IsOf residency memory → Tells (page_map residency address want) (is_granted memory address want)
unfolding page_map
tells residency memory address want is =
    page_tells want (placed (page_of address) residency) (page_numbered (page_of address) memory) (same_entry residency memory (page_of address) is)

pub leaf_granted : (residency : Residency) (memory : Memory) (address frame : ℕ) (perm : Perm) (dirty : Bool) (want : Want) → IsOf residency memory → page_map residency address want ≡ walked.Leaf frame perm dirty → is_granted memory address want ≡ true
leaf_granted residency memory address frame perm dirty want is leaf =
    subst (λ (w : Walked). Tells w (is_granted memory address want)) leaf (tells residency memory address want is)

pub denied_refused : (residency : Residency) (memory : Memory) (address : ℕ) (want : Want) → IsOf residency memory → page_map residency address want ≡ walked.Denied → is_granted memory address want ≡ false
denied_refused residency memory address want is denied =
    subst (λ (w : Walked). Tells w (is_granted memory address want)) denied (tells residency memory address want is)

-- a page that was found lies at a canonical address
leaf_canonical : (residency : Residency) (address frame : ℕ) (perm : Perm) (dirty : Bool) (want : Want) → IsPageList (pages_of residency) → page_map residency address want ≡ walked.Leaf frame perm dirty → is_canonical address ≡ true
unfolding page_map
leaf_canonical residency address frame perm dirty want listed leaf = go (placed (page_of address) residency) refl leaf
  where
    go : (o : Option PlacedPage) → placed (page_of address) residency ≡ o → option_map_or (λ (p : PlacedPage). found_at p.entry.perm.bits want p.place) o walked.Denied ≡ walked.Leaf frame perm dirty → is_canonical address ≡ true
    go None none found = absurd (cc found)
    go (Some p) is found = (mapped_low residency 0 address want listed p is).canonical

pub leaf_permitted : (residency : Residency) (memory : Memory) (address frame : ℕ) (perm : Perm) (dirty : Bool) (want : Want) → IsOf residency memory → IsPageList (pages_of residency) → page_map residency address want ≡ walked.Leaf frame perm dirty → (is_canonical address && is_granted memory address want) ≡ true
leaf_permitted residency memory address frame perm dirty want is listed leaf =
    ap (λ (b : Bool). b && is_granted memory address want) (leaf_canonical residency address frame perm dirty want listed leaf) ∙ leaf_granted residency memory address frame perm dirty want is leaf

pub denied_forbidden : (residency : Residency) (memory : Memory) (address : ℕ) (want : Want) → IsOf residency memory → page_map residency address want ≡ walked.Denied → (is_canonical address && is_granted memory address want) ≡ false
denied_forbidden residency memory address want is denied =
    ap (λ (b : Bool). is_canonical address && b) (denied_refused residency memory address want is denied) ∙ never (is_canonical address)
  where
    never : (b : Bool) → (b && false) ≡ false
    never true = refl
    never false = refl

-- the tables of an image
numbers : (size : ℕ) (memory : Memory) → regions size (map entry_of_page memory) ≡ map (λ (page : MappedPage). page.number / size) memory
numbers size [] = refl
numbers size (page ∷ memory) = rw (numbers size memory) refl

pub count_same : (residency : Residency) (memory : Memory) → IsOf residency memory → table_count (pages_of residency) ≡ table_frames memory
count_same residency memory is =
    ap table_count is
    ∙ ap (λ (ns : List ℕ). 1 + distinct_count ns + distinct_count (regions (2 ^ 9) (map entry_of_page memory))) (numbers (2 ^ 18) memory)
    ∙ ap (λ (ns : List ℕ). 1 + distinct_count (map (λ (page : MappedPage). page.number / 2 ^ 18) memory) + distinct_count ns) (numbers (2 ^ 9) memory)
