-- What is looked up in an image that is kept.
use Rattle.std.proofs.Common.{◌≡◌, ℕ, ◌*◌, ◌/◌, List, [], ◌∷◌, take, drop, map, Option, Some, None, option_map, IsSome, IfSome, is_some, refl, sym, ap, ◌∙◌}
use Rattle.std.proofs.lemmas.Bool.{false≢true}
use Rattle.vx_base.specs.declared.perm.PageEntry.{PageEntry}
use Rattle.vx_image.specs.Pages.{MappedPage, page_numbered}
use Rattle.vx_image.specs.Images.{perm_of_page, entry_of_page, HoldBytes}
use Rattle.vx_image.specs.Kept.{pages_by, pages_of, entry_at, IsRising, IsPlaceOf, Lacks}
use Rattle.vx_image.proofs.PagesAt.{page_absent, page_at_place, permissions_there, bytes_there}

pub perm_at : (entries : List PageEntry) (bytes : List ℕ) (page k : ℕ) → IsRising entries → IsPlaceOf entries page k → option_map perm_of_page (page_numbered page (pages_of entries bytes)) ≡ Some (entry_at entries k).perm
perm_at entries bytes page k rising place =
    ap (option_map perm_of_page) (page_at_place entries bytes page k rising place)
    ∙ ap (λ (n : ℕ). Some (record { bits = n })) (permissions_there entries bytes k)

pub perm_absent : (entries : List PageEntry) (bytes : List ℕ) (page : ℕ) → Lacks entries page → option_map perm_of_page (page_numbered page (pages_of entries bytes)) ≡ None
perm_absent entries bytes page lacks = ap (option_map perm_of_page) (page_absent entries bytes page lacks)

-- a page that is mapped has an entry
pub not_absent : (entries : List PageEntry) (bytes : List ℕ) (page : ℕ) → IsSome (page_numbered page (pages_of entries bytes)) → Lacks entries page → ⊥
not_absent entries bytes page some lacks =
    false≢true (sym (ap (λ (o : Option MappedPage). is_some o) (page_absent entries bytes page lacks)) ∙ some)

-- words that hold the bytes at a place hold those of the page
pub loaded : (entries : List PageEntry) (bytes words : List ℕ) (page k : ℕ) → IsRising entries → IsPlaceOf entries page k → HoldBytes words (take 4096 (drop (4096 * k) bytes)) → IfSome (page_numbered page (pages_of entries bytes)) (λ (p : MappedPage). HoldBytes words p.bytes)
loaded entries bytes words page k rising place hold =
    rw (page_at_place entries bytes page k rising place, bytes_there entries bytes k) hold

-- the entries of the pages are those that are kept
listed_by : (size : ℕ) (entries : List PageEntry) (bytes : List ℕ) → map entry_of_page (pages_by size entries bytes) ≡ entries
unfolding pages_by
listed_by size [] bytes = refl
listed_by size (entry ∷ entries) bytes = ap (λ (es : List PageEntry). entry ∷ es) (listed_by size entries (drop size bytes))

pub listed_of : (entries : List PageEntry) (bytes : List ℕ) → map entry_of_page (pages_of entries bytes) ≡ entries
unfolding pages_of
listed_of entries bytes = listed_by 4096 entries bytes

-- so are their regions
regions_by : (size width : ℕ) (entries : List PageEntry) (bytes : List ℕ) → map (λ (page : MappedPage). page.number / width) (pages_by size entries bytes) ≡ map (λ (entry : PageEntry). entry.page / width) entries
unfolding pages_by
regions_by size width [] bytes = refl
regions_by size width (entry ∷ entries) bytes =
    ap (λ (ns : List ℕ). entry.page / width ∷ ns) (regions_by size width entries (drop size bytes))

pub regions_of : (width : ℕ) (entries : List PageEntry) (bytes : List ℕ) → map (λ (page : MappedPage). page.number / width) (pages_of entries bytes) ≡ map (λ (entry : PageEntry). entry.page / width) entries
unfolding pages_of
regions_of width entries bytes = regions_by 4096 width entries bytes
