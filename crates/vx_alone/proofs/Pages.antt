-- What a list of pages holds at an address.
use Rattle.std.proofs.Common.{◌≡◌, ℕ, zero, suc, ◌+◌, ◌*◌, ◌<◌, Bool, false, List, [], ◌∷◌, get_or, take, drop, set, map, refl, sym, ap, ◌∙◌, arith}
use Rattle.std.proofs.lemmas.Bool.{eq-eqb, ne_eqb}
use Rattle.std.proofs.lemmas.List.{get_or-take, get_or-drop, take-set-le, drop-set-lt, drop-set-add}
use Rattle.std.proofs.Math.Seq.{take-set-lt}
use Rattle.std.specs.Option.{option_map_or}
use Rattle.std.specs.Prelude.{Option}
use Rattle.vx_base.specs.declared.perm.PageEntry.{PageEntry}
use Rattle.vx_image.specs.Pages.{Memory, MappedPage, page_numbered}
use Rattle.vx_flat.specs.Memory.{with_byte}
use Rattle.vx_image.specs.Kept.{pages_by, entry_at, IsRising, IsPlaceOf, Lacks}
use Rattle.vx_image.proofs.PagesAt.{at_by, rising_tail, place_tail, first_differs}

-- the permissions of a page are those of its entry
pub permissions_at : (size : ℕ) (f : ℕ → Bool) (entries : List PageEntry) (bytes : List ℕ) (page k : ℕ) → IsRising entries → IsPlaceOf entries page k → option_map_or (λ (p : MappedPage). f p.permissions) (page_numbered page (pages_by size entries bytes)) false ≡ f (entry_at entries k).perm.bits
permissions_at size f entries bytes page k rising place =
    ap (λ (o : Option MappedPage). option_map_or (λ (p : MappedPage). f p.permissions) o false) (at_by size entries bytes page k rising place)

-- byte j of the page at place k is byte size * k + j of all
pub byte_in_page : (size j : ℕ) → j < size → (entries : List PageEntry) (bytes : List ℕ) (page k : ℕ) → IsRising entries → IsPlaceOf entries page k → option_map_or (λ (p : MappedPage). get_or p.bytes j 0) (page_numbered page (pages_by size entries bytes)) 0 ≡ get_or bytes (size * k + j) 0
byte_in_page size j below entries bytes page k rising place =
    ap (λ (o : Option MappedPage). option_map_or (λ (p : MappedPage). get_or p.bytes j 0) o 0) (at_by size entries bytes page k rising place)
    ∙ get_or-take size (drop (size * k) bytes) j 0 below
    ∙ get_or-drop (size * k) bytes j 0

-- setting a byte of a page that no entry has changes nothing
put_absent : (size j byte : ℕ) (entries : List PageEntry) (bytes : List ℕ) (page : ℕ) → Lacks entries page → map (with_byte page j byte) (pages_by size entries bytes) ≡ pages_by size entries bytes
unfolding pages_by
put_absent size j byte [] bytes page lacks = refl
put_absent size j byte (entry ∷ entries) bytes page lacks =
    rw (ne_eqb entry.page page (lacks 0 (omega arith)))
    (ap (λ (ps : Memory). record { number = entry.page; permissions = entry.perm.bits; bytes = take size bytes } ∷ ps)
    (put_absent size j byte entries (drop size bytes) page (λ i within. lacks (suc i) (omega arith))))

-- the entries after that of a page lack it
lacks_after : (entry : PageEntry) (entries : List PageEntry) (page : ℕ) → IsRising (entry ∷ entries) → IsPlaceOf (entry ∷ entries) page 0 → Lacks entries page
lacks_after entry entries page rising place i within same = omega (arith, rising 0 (suc i) (omega arith) (omega arith), place.same)

-- two pages of a number and its permissions, with the pages that follow
page_with : PageEntry → List ℕ → Memory → Memory
page_with entry bytes pages = record { number = entry.page; permissions = entry.perm.bits; bytes = bytes } ∷ pages

-- setting byte j of the page at place k sets byte size * k + j of all
pub put_in_page : (size j byte : ℕ) → j < size → (entries : List PageEntry) (bytes : List ℕ) (page k : ℕ) → IsRising entries → IsPlaceOf entries page k → map (with_byte page j byte) (pages_by size entries bytes) ≡ pages_by size entries (set bytes (size * k + j) byte)
unfolding pages_by page_with
put_in_page size j byte below [] bytes page k rising place = absurd (omega (arith, place.within))
put_in_page size j byte below (entry ∷ entries) bytes page zero rising place =
    let here : size * 0 + j ≡ j = omega arith in
    rw (eq-eqb entry.page page place.same)
    (ap (page_with entry (set (take size bytes) j byte)) (put_absent size j byte entries (drop size bytes) page (lacks_after entry entries page rising place))
    ∙ ap (λ (bs : List ℕ). page_with entry bs (pages_by size entries (drop size bytes))) (sym (take-set-lt size bytes j byte below))
    ∙ ap (λ (bs : List ℕ). page_with entry (take size (set bytes j byte)) (pages_by size entries bs)) (sym (drop-set-lt size bytes j byte below))
    ∙ ap (λ (n : ℕ). page_with entry (take size (set bytes n byte)) (pages_by size entries (drop size (set bytes n byte)))) (sym here))
put_in_page size j byte below (entry ∷ entries) bytes page (suc k) rising place =
    let there : size * suc k + j ≡ size + (size * k + j) = omega arith in
    rw (first_differs entry entries page k rising place)
    (ap (page_with entry (take size bytes)) (put_in_page size j byte below entries (drop size bytes) page k (rising_tail entry entries rising) (place_tail entry entries page k place))
    ∙ ap (λ (bs : List ℕ). page_with entry bs (pages_by size entries (set (drop size bytes) (size * k + j) byte))) (sym (take-set-le size bytes (size + (size * k + j)) byte (omega arith)))
    ∙ ap (λ (bs : List ℕ). page_with entry (take size (set bytes (size + (size * k + j)) byte)) (pages_by size entries bs)) (sym (drop-set-add size bytes (size * k + j) byte))
    ∙ ap (λ (n : ℕ). page_with entry (take size (set bytes n byte)) (pages_by size entries (drop size (set bytes n byte)))) (sym there))
