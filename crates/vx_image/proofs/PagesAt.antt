-- What the pages that entries and bytes stand for hold under a number.
use Rattle.std.proofs.Common.{◌≡◌, ℕ, zero, suc, ◌+◌, ◌*◌, ◌/◌, false, eqb, List, [], ◌∷◌, take, drop, Some, None, refl, ap, ◌∙◌, arith}
use Rattle.std.proofs.lemmas.Bool.{eq-eqb, ne_eqb}
use Rattle.std.proofs.lemmas.List.{drop-drop}
use Rattle.vx_base.specs.Permissions.{grants}
use Rattle.vx_base.specs.declared.machine.Want.TheVariants.{Fetch}
use Rattle.vx_base.specs.declared.perm.PageEntry.{PageEntry}
use Rattle.vx_image.specs.Pages.{MappedPage, page_numbered}
use Rattle.vx_image.specs.Images.{is_code}
use Rattle.vx_image.specs.Kept.{pages_by, pages_of, entry_at, IsRising, IsPlaceOf, Lacks}

-- a page that no entry has is not mapped
pub absent_by : (size : ℕ) (entries : List PageEntry) (bytes : List ℕ) (page : ℕ) → Lacks entries page → page_numbered page (pages_by size entries bytes) ≡ None
unfolding pages_by
absent_by size [] bytes page lacks = refl
absent_by size (entry ∷ entries) bytes page lacks =
    rw (ne_eqb entry.page page (lacks 0 (omega arith))) (absent_by size entries (drop size bytes) page (λ i within. lacks (suc i) (omega arith)))

pub rising_tail : (entry : PageEntry) (entries : List PageEntry) → IsRising (entry ∷ entries) → IsRising entries
rising_tail entry entries rising i j below within = rising (suc i) (suc j) (omega arith) (omega arith)

pub place_tail : (entry : PageEntry) (entries : List PageEntry) (page k : ℕ) → IsPlaceOf (entry ∷ entries) page (suc k) → IsPlaceOf entries page k
place_tail entry entries page k place = record { within = omega (arith, place.within); same = place.same }

-- an entry before the place is of another page
pub first_differs : (entry : PageEntry) (entries : List PageEntry) (page k : ℕ) → IsRising (entry ∷ entries) → IsPlaceOf (entry ∷ entries) page (suc k) → eqb entry.page page ≡ false
first_differs entry entries page k rising place =
    ne_eqb entry.page page (λ same. omega (arith, rising 0 (suc k) (omega arith) place.within, place.same))

-- the page of an entry is the part of the bytes at its place
pub at_by : (size : ℕ) (entries : List PageEntry) (bytes : List ℕ) (page k : ℕ) → IsRising entries → IsPlaceOf entries page k → page_numbered page (pages_by size entries bytes) ≡ Some (record { number = (entry_at entries k).page; permissions = (entry_at entries k).perm.bits; bytes = take size (drop (size * k) bytes) })
unfolding pages_by
at_by size [] bytes page k rising place = absurd (omega (arith, place.within))
at_by size (entry ∷ entries) bytes page zero rising place =
    let none : size * 0 ≡ 0 = omega arith in
    rw (eq-eqb entry.page page place.same, none) refl
at_by size (entry ∷ entries) bytes page (suc k) rising place =
    let there : size + size * k ≡ size * suc k = omega arith in
    rw (first_differs entry entries page k rising place)
    (at_by size entries (drop size bytes) page k (rising_tail entry entries rising) (place_tail entry entries page k place)
    ∙ ap (λ (bs : List ℕ). Some (record { number = (entry_at entries k).page; permissions = (entry_at entries k).perm.bits; bytes = take size bs })) (drop-drop (size * k) size bytes ∙ ap (λ (n : ℕ). drop n bytes) there))

pub page_absent : (entries : List PageEntry) (bytes : List ℕ) (page : ℕ) → Lacks entries page → page_numbered page (pages_of entries bytes) ≡ None
unfolding pages_of
page_absent entries bytes page lacks = absent_by 4096 entries bytes page lacks

-- the page at a place
pub page_there : List PageEntry → List ℕ → ℕ → MappedPage
page_there entries bytes k = record { number = (entry_at entries k).page; permissions = (entry_at entries k).perm.bits; bytes = take 4096 (drop (4096 * k) bytes) }

pub page_at_place : (entries : List PageEntry) (bytes : List ℕ) (page k : ℕ) → IsRising entries → IsPlaceOf entries page k → page_numbered page (pages_of entries bytes) ≡ Some (page_there entries bytes k)
unfolding pages_of page_there
page_at_place entries bytes page k rising place = at_by 4096 entries bytes page k rising place

pub permissions_there : (entries : List PageEntry) (bytes : List ℕ) (k : ℕ) → (page_there entries bytes k).permissions ≡ (entry_at entries k).perm.bits
unfolding page_there
permissions_there entries bytes k = refl

pub bytes_there : (entries : List PageEntry) (bytes : List ℕ) (k : ℕ) → (page_there entries bytes k).bytes ≡ take 4096 (drop (4096 * k) bytes)
unfolding page_there
bytes_there entries bytes k = refl

-- whether an address is code, by the place of its page
pub code_at : (entries : List PageEntry) (bytes : List ℕ) (address k : ℕ) → IsRising entries → IsPlaceOf entries (address / 4096) k → is_code address (pages_of entries bytes) ≡ grants (entry_at entries k).perm.bits Fetch
code_at entries bytes address k rising place =
    rw (page_at_place entries bytes (address / 4096) k rising place)
    (ap (λ (n : ℕ). grants n Fetch) (permissions_there entries bytes k))

pub no_code : (entries : List PageEntry) (bytes : List ℕ) (address : ℕ) → Lacks entries (address / 4096) → is_code address (pages_of entries bytes) ≡ false
no_code entries bytes address lacks = rw (page_absent entries bytes (address / 4096) lacks) refl
