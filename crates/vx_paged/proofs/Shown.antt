-- What pages in frames hold, and what a byte that is put changes.
use Rattle.std.proofs.Common.{◌≡◌, ℕ, zero, suc, ◌+◌, ◌*◌, ◌/◌, ◌%◌, ◌^◌, ◌<◌, ◌≤◌, false, ◌&&◌, eqb, ltb, cond, List, [], ◌∷◌, length, get_or, set, map, Some, None, refl, sym, ap, ◌∙◌, inl, inr, add-zero, arith}
use Rattle.std.specs.Prelude.{◌⊎◌, Option, option_map}
use Rattle.std.specs.Option.{option_map_or}
use Rattle.std.proofs.Math.Bool.{and-false}
use Rattle.std.proofs.Math.Nat.{mod-eq_of_lt}
use Rattle.std.proofs.lemmas.Bool.{cases_Bool, eq-eqb, ne_eqb, eqb-true, ltb-true, ltb-false}
use Rattle.std.proofs.lemmas.List.{get_or-map}
use Rattle.std.proofs.lemmas.Nat.{div-mul-add, mod-mul-add}
use Rattle.vx_base.specs.Permissions.{grants}
use Rattle.vx_base.specs.declared.machine.Want.{Want}
use Rattle.vx_base.specs.declared.perm.PageEntry.{PageEntry}
use Rattle.vx_flat.specs.Memory.{byte_at, put_byte, put_bytes, next_address, with_byte}
use Rattle.vx_image.specs.Pages.{Memory, MappedPage, page_numbered, page_of, is_canonical, permits}
use Rattle.vx_paged.specs.Framed.{IsPlacement, entries_of, framed, bytes_from, shown_page}
use Rattle.vx_paged.specs.declared.placement.FramedPage.{FramedPage}

-- ---- bytes by a function of the place

abbrev pub changed : (memory : ℕ → ℕ) (place value : ℕ) → ℕ → ℕ
changed memory place value i = cond (eqb i place) value (memory i)

abbrev pub changes : (memory : ℕ → ℕ) (place : ℕ) → List ℕ → ℕ → ℕ
changes memory place [] = memory
changes memory place (value ∷ values) = changes (changed memory place value) (place + 1) values

changed_here : (memory : ℕ → ℕ) (place value i : ℕ) → i ≡ place → changed memory place value i ≡ value
changed_here memory place value i same = rw (eq-eqb i place same) refl

changed_off : (memory : ℕ → ℕ) (place value i : ℕ) → (i ≡ place → ⊥) → changed memory place value i ≡ memory i
changed_off memory place value i other = rw (ne_eqb i place other) refl

pub changes_off : (values : List ℕ) (memory : ℕ → ℕ) (place i : ℕ) → (i < place) ⊎ (place + length values ≤ i) → changes memory place values i ≡ memory i
changes_off [] memory place i off = refl
changes_off (value ∷ values) memory place i (inl below) =
    changes_off values (changed memory place value) (place + 1) i (inl (omega arith)) ∙ changed_off memory place value i (λ same. omega arith)
changes_off (value ∷ values) memory place i (inr behind) =
    changes_off values (changed memory place value) (place + 1) i (inr (omega arith)) ∙ changed_off memory place value i (λ same. omega arith)

pub changes_in : (values : List ℕ) (memory : ℕ → ℕ) (place j i : ℕ) → i ≡ place + j → j < length values → changes memory place values i ≡ get_or values j 0
changes_in [] memory place j i same within = absurd (omega arith)
changes_in (value ∷ values) memory place zero i same within =
    changes_off values (changed memory place value) (place + 1) i (inl (omega arith)) ∙ changed_here memory place value i (omega arith)
changes_in (value ∷ values) memory place (suc j) i same within = changes_in values (changed memory place value) (place + 1) j i (omega arith) (omega arith)

pub get_by : (memory : ℕ → ℕ) (start count j : ℕ) → j < count → get_or (bytes_from memory start count) j 0 ≡ memory (start + j)
unfolding bytes_from
get_by memory start zero j below = absurd (omega arith)
get_by memory start (suc count) zero below = ap memory (sym (add-zero start))
get_by memory start (suc count) (suc j) below =
    let there : start + 1 + j ≡ start + suc j = omega arith in
    get_by memory (start + 1) count j (omega arith) ∙ ap memory there

pub same_by : (f g : ℕ → ℕ) (start count : ℕ) → ((i : ℕ) → start ≤ i → i < start + count → f i ≡ g i) → bytes_from f start count ≡ bytes_from g start count
unfolding bytes_from
same_by f g start zero same = refl
same_by f g start (suc count) same =
    ap (λ (b : ℕ). b ∷ bytes_from f (start + 1) count) (same start (omega arith) (omega arith))
    ∙ ap (λ (bs : List ℕ). g start ∷ bs) (same_by f g (start + 1) count (λ i from to. same i (omega arith) (omega arith)))

set_by : (f : ℕ → ℕ) (start count j value : ℕ) → j < count → set (bytes_from f start count) j value ≡ bytes_from (changed f (start + j) value) start count
unfolding bytes_from
set_by f start zero j value below = absurd (omega arith)
set_by f start (suc count) zero value below =
    ap (λ (b : ℕ). b ∷ bytes_from f (start + 1) count) (sym (changed_here f (start + 0) value start (omega arith)))
    ∙ ap (λ (bs : List ℕ). changed f (start + 0) value start ∷ bs) (same_by f (changed f (start + 0) value) (start + 1) count (λ i from to. sym (changed_off f (start + 0) value i (λ same. omega arith))))
set_by f start (suc count) (suc j) value below =
    let there : start + 1 + j ≡ start + suc j = omega arith in
    ap (λ (b : ℕ). b ∷ set (bytes_from f (start + 1) count) j value) (sym (changed_off f (start + suc j) value start (λ same. omega arith)))
    ∙ ap (λ (bs : List ℕ). changed f (start + suc j) value start ∷ bs) (set_by f (start + 1) count j value (omega arith)
    ∙ ap (λ (n : ℕ). bytes_from (changed f n value) (start + 1) count) there)

-- ---- pages

abbrev pub shown_by : List FramedPage → (ℕ → ℕ) → Memory
shown_by placement f = map (shown_page f) placement

-- two memories of the same pages are equal where their bytes are
pub shown_same : (f g : ℕ → ℕ) (placement : List FramedPage) → ((k : ℕ) (d : FramedPage) → k < length placement → (i : ℕ) → 4096 * (get_or placement k d).frame ≤ i → i < 4096 * (get_or placement k d).frame + 4096 → f i ≡ g i) → shown_by placement f ≡ shown_by placement g
shown_same f g [] same = refl
shown_same f g (p ∷ placement) same =
    ap (λ (bs : List ℕ). record { number = p.entry.page; permissions = p.entry.perm.bits; bytes = bs } ∷ shown_by placement f) (same_by f g (4096 * p.frame) 4096 (same 0 p (omega arith)))
    ∙ ap (λ (ps : Memory). shown_page g p ∷ ps) (shown_same f g placement (λ k d below. same (suc k) d (omega arith)))

-- the page of a number is that of its frame
pub numbered : (f : ℕ → ℕ) (number : ℕ) (placement : List FramedPage) → page_numbered number (shown_by placement f) ≡ option_map (shown_page f) (framed number placement)
numbered f number [] = refl
numbered f number (p ∷ placement) =
    elim (cases_Bool (eqb p.entry.page number)) [
      | inl is ↦ rw is refl
      | inr not ↦ rw not (numbered f number placement)
    ]

module _ (f : ℕ → ℕ) (placement : List FramedPage) (address : ℕ) where
  pub permits_there : (p : FramedPage) (want : Want) → framed (page_of address) placement ≡ Some p → permits (shown_by placement f) address want ≡ (is_canonical address && grants p.entry.perm.bits want)
  permits_there p want found =
      ap (λ (o : Option MappedPage). is_canonical address && option_map_or (λ (page : MappedPage). grants page.permissions want) o false)
      (numbered f (page_of address) placement ∙ ap (option_map (shown_page f)) found)

  pub denied_there : (want : Want) → framed (page_of address) placement ≡ None → permits (shown_by placement f) address want ≡ false
  denied_there want missing =
      ap (λ (o : Option MappedPage). is_canonical address && option_map_or (λ (page : MappedPage). grants page.permissions want) o false)
      (numbered f (page_of address) placement ∙ ap (option_map (shown_page f)) missing)
      ∙ and-false (is_canonical address)

  pub byte_there : (p : FramedPage) → framed (page_of address) placement ≡ Some p → byte_at (shown_by placement f) address ≡ f (4096 * p.frame + address % 4096)
  byte_there p found =
      ap (λ (o : Option MappedPage). option_map_or (λ (page : MappedPage). get_or page.bytes (address % 4096) 0) o 0)
      (numbered f (page_of address) placement ∙ ap (option_map (shown_page f)) found)
      ∙ get_by f (4096 * p.frame) 4096 (address % 4096) (omega arith)

-- ---- the only page of a number and in a frame

pub record IsAt (placement : List FramedPage) (number : ℕ) (p : FramedPage) : Type 0 where
  pub place : ℕ
  pub within : place < length placement
  pub item : (d : FramedPage) → get_or placement place d ≡ p
  pub number_is : p.entry.page ≡ number

pub place_in : (number : ℕ) (placement : List FramedPage) (p : FramedPage) → framed number placement ≡ Some p → IsAt placement number p
place_in number [] p found = cc
place_in number (q ∷ placement) p found =
    elim (cases_Bool (eqb q.entry.page number)) [
      | inl is ↦ let same : Some q ≡ Some p = rw is at found in
          let item : q ≡ p = cc in
          record { place = 0; within = omega arith; item = λ d. item; number_is = ap (λ (r : FramedPage). r.entry.page) (sym item) ∙ eqb-true q.entry.page number is }
      | inr not ↦ let rest = place_in number placement p (rw not at found) in
          record { place = suc rest.place; within = omega (arith, rest.within); item = rest.item; number_is = rest.number_is }
    ]

abbrev pub IsOnly : List FramedPage → (number frame : ℕ) → Type 0
IsOnly placement number frame = (k : ℕ) (d : FramedPage) → k < length placement
    → (((get_or placement k d).entry.page ≡ number) × ((get_or placement k d).frame ≡ frame)) ⊎ (((get_or placement k d).entry.page ≡ number → ⊥) × ((get_or placement k d).frame ≡ frame → ⊥))

-- an entry of a placement by its place
entry_of : (placement : List FramedPage) (k : ℕ) (d : FramedPage) → k < length placement → get_or (entries_of placement) k d.entry ≡ (get_or placement k d).entry
entry_of placement k d below = get_or-map (λ (p : FramedPage). p.entry) placement k d d.entry below

length_entries : (placement : List FramedPage) → length (entries_of placement) ≡ length placement
length_entries [] = refl
length_entries (p ∷ placement) = ap suc (length_entries placement)

-- the pages' numbers rise
pub rising : (placement : List FramedPage) → IsPlacement placement → (i j : ℕ) (d : FramedPage) → i < j → j < length placement → (get_or placement i d).entry.page < (get_or placement j d).entry.page
rising placement is i j d less below =
    let pages = is.listed.rising i j d.entry less (omega (arith, length_entries placement)) in
    let one = ap (λ (e : PageEntry). e.page) (entry_of placement i d (omega arith)) in
    let other = ap (λ (e : PageEntry). e.page) (entry_of placement j d below) in
    omega (arith, pages, one, other)

pub only : (placement : List FramedPage) → IsPlacement placement → (number : ℕ) (p : FramedPage) → framed number placement ≡ Some p → IsOnly placement number p.frame
only placement is number p found k d below =
    let spot = place_in number placement p found in
    let m : ℕ = spot.place in
    let inside : m < length placement = spot.within in
    let page_there : (get_or placement m d).entry.page ≡ number = ap (λ (q : FramedPage). q.entry.page) (spot.item d) ∙ spot.number_is in
    let frame_there : (get_or placement m d).frame ≡ p.frame = ap (λ (q : FramedPage). q.frame) (spot.item d) in
    elim (cases_Bool (ltb k m)) [
      | inl less ↦ let before = rising placement is k m d (ltb-true k m less) inside in
          let apart = is.apart k m d (ltb-true k m less) inside in
          inr (λ same. omega (arith, before, page_there, same), λ same. apart (same ∙ sym frame_there))
      | inr more ↦ elim (cases_Bool (ltb m k)) [
        | inl greater ↦ let behind = rising placement is m k d (ltb-true m k greater) below in
            let apart = is.apart m k d (ltb-true m k greater) below in
            inr (λ same. omega (arith, behind, page_there, same), λ same. apart (frame_there ∙ sym same))
        | inr equal ↦ let here : k ≡ m = omega (arith, ltb-false k m more, ltb-false m k equal) in
            inl (ap (λ (n : ℕ). (get_or placement n d).entry.page) here ∙ page_there, ap (λ (n : ℕ). (get_or placement n d).frame) here ∙ frame_there)
      ]
    ]

-- ---- bytes that are put

module _ (f : ℕ → ℕ) (number frame offset value : ℕ) (below : offset < 4096) where
  put_page : (q : FramedPage) → ((q.entry.page ≡ number) × (q.frame ≡ frame)) ⊎ ((q.entry.page ≡ number → ⊥) × (q.frame ≡ frame → ⊥)) → with_byte number offset value (shown_page f q) ≡ shown_page (changed f (4096 * frame + offset) value) q
  put_page q (inl here) =
      let there : 4096 * q.frame + offset ≡ 4096 * frame + offset = omega (arith, here.1) in
      rw (eq-eqb q.entry.page number here.0)
      (ap (λ (bs : List ℕ). record { number = q.entry.page; permissions = q.entry.perm.bits; bytes = bs })
      (set_by f (4096 * q.frame) 4096 offset value below ∙ ap (λ (n : ℕ). bytes_from (changed f n value) (4096 * q.frame) 4096) there))
  put_page q (inr elsewhere) =
      rw (ne_eqb q.entry.page number elsewhere.0)
      (ap (λ (bs : List ℕ). record { number = q.entry.page; permissions = q.entry.perm.bits; bytes = bs })
      (same_by f (changed f (4096 * frame + offset) value) (4096 * q.frame) 4096 (λ i from to. sym (changed_off f (4096 * frame + offset) value i (λ same. elsewhere.1 (omega arith))))))

  pub put_one : (placement : List FramedPage) → IsOnly placement number frame → map (with_byte number offset value) (shown_by placement f) ≡ shown_by placement (changed f (4096 * frame + offset) value)
  put_one [] one = refl
  put_one (q ∷ placement) one =
      ap (λ (p : MappedPage). p ∷ map (with_byte number offset value) (shown_by placement f)) (put_page q (one 0 q (omega arith)))
      ∙ ap (λ (ps : Memory). shown_page (changed f (4096 * frame + offset) value) q ∷ ps) (put_one placement (λ k d inside. one (suc k) d (omega arith)))

-- an address below the last is followed by the number after it
pub next_is : (address : ℕ) → address + 1 < 2 ^ 64 → next_address address ≡ address + 1
next_is address below = mod-eq_of_lt below

module _ (placement : List FramedPage) (number frame : ℕ) (one : IsOnly placement number frame) where
  put_first : (f : ℕ → ℕ) (value offset address : ℕ) → address ≡ number * 4096 + offset → offset < 4096 → put_byte (shown_by placement f) address value ≡ shown_by placement (changed f (4096 * frame + offset) value)
  put_first f value offset address same below =
      let on : address / 4096 ≡ number = rw same (div-mul-add number 4096 offset below) in
      let off : address % 4096 ≡ offset = rw same (mod-mul-add number 4096 offset below) in
      ap (λ (n : ℕ). map (with_byte n (address % 4096) value) (shown_by placement f)) on
      ∙ ap (λ (n : ℕ). map (with_byte number n value) (shown_by placement f)) off
      ∙ put_one f number frame offset value below placement one

  pub put_all : (values : List ℕ) (f : ℕ → ℕ) (offset address : ℕ) → address ≡ number * 4096 + offset → offset + length values ≤ 4096 → address + length values ≤ 2 ^ 64 → put_bytes (shown_by placement f) address values ≡ shown_by placement (changes f (4096 * frame + offset) values)
  put_all [] f offset address same within fits = refl
  put_all (value ∷ []) f offset address same within fits = put_first f value offset address same (omega arith)
  put_all (value ∷ next ∷ values) f offset address same within fits =
      let after : next_address address ≡ address + 1 = next_is address (omega arith) in
      let shifted : 4096 * frame + (offset + 1) ≡ 4096 * frame + offset + 1 = omega arith in
      ap (λ (m : Memory). put_bytes m (next_address address) (next ∷ values)) (put_first f value offset address same (omega arith))
      ∙ ap (λ (a : ℕ). put_bytes (shown_by placement (changed f (4096 * frame + offset) value)) a (next ∷ values)) after
      ∙ put_all (next ∷ values) (changed f (4096 * frame + offset) value) (offset + 1) (address + 1) (omega arith) (omega arith) (omega arith)
      ∙ ap (λ (n : ℕ). shown_by placement (changes (changed f (4096 * frame + offset) value) n (next ∷ values))) shifted
