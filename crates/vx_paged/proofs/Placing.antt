-- Pages that are written into their frames, and what they show then.
use Rattle.std.proofs.Common.{◌≡◌, ℕ, zero, suc, ◌+◌, ◌*◌, ◌/◌, ◌%◌, ◌^◌, ◌<◌, ◌≤◌, ltb, inl, inr, List, [], ◌∷◌, length, get_or, take, drop, map, refl, sym, ap, subst, ◌∙◌, length-drop, arith}
use Rattle.std.proofs.lemmas.Bool.{cases_Bool, ltb-true, ltb-false}
use Rattle.std.proofs.lemmas.List.{drop-drop, length-take-le}
use Rattle.vx_base.specs.Numbers.{field}
use Rattle.vx_base.specs.Page.{byte_of_words}
use Rattle.vx_base.specs.declared.perm.PageEntry.{PageEntry}
use Rattle.vx_cells.specs.Cells.{with_accesses}
use Rattle.vx_cells.specs.Merging.{merged}
use Rattle.vx_image.specs.Images.{entry_of_page}
use Rattle.vx_image.specs.Kept.{pages_by, pages_of}
use Rattle.vx_image.specs.Pages.{Memory, MappedPage}
use Rattle.vx_paged.specs.Booting.{framed_at, page_at, page_writes, word_in}
use Rattle.vx_paged.specs.Framed.{IsPlacement, IsWithin, bytes_from, entries_of, shown}
use Rattle.vx_paged.specs.Left.{is_framed, blanked}
use Rattle.vx_paged.specs.Placed.{IsWhole}
use Rattle.vx_paged.specs.declared.placement.FramedPage.{FramedPage}
use Rattle.vx_paged.proofs.Left.{blanked-set, is_framed-at}
use Rattle.vx_paged.proofs.Shown.{shown_by}
use Rattle.vx_paged.proofs.Written.{with_accesses-behind, one-word, no-word, length-words, words-inside, words-outside, word_byte, word_small}
use Rattle.vx_tables.specs.Building.{kernel_writes}

-- ---- an image's pages as they are kept

pub by-entries : (size : ℕ) (entries : List PageEntry) (bytes : List ℕ) → map entry_of_page (pages_by size entries bytes) ≡ entries
unfolding pages_by
by-entries size [] bytes = refl
by-entries size (e ∷ entries) bytes = ap (λ (es : List PageEntry). e ∷ es) (by-entries size entries (drop size bytes))

pub kept-entries : (entries : List PageEntry) (bytes : List ℕ) → map entry_of_page (pages_of entries bytes) ≡ entries
unfolding pages_of
kept-entries entries bytes = by-entries 4096 entries bytes

by-bytes : (size : ℕ) (entries : List PageEntry) (bytes : List ℕ) (k : ℕ) (d : MappedPage) → k < length entries → (get_or (pages_by size entries bytes) k d).bytes ≡ take size (drop (size * k) bytes)
unfolding pages_by
by-bytes size [] bytes k d below = absurd (omega arith)
by-bytes size (e ∷ entries) bytes zero d below = let none : size * 0 ≡ 0 = omega arith in rw none refl
by-bytes size (e ∷ entries) bytes (suc k) d below =
    let there : size + size * k ≡ size * suc k = omega arith in
    by-bytes size entries (drop size bytes) k d (omega arith)
    ∙ ap (take size) (drop-drop (size * k) size bytes ∙ ap (λ (n : ℕ). drop n bytes) there)

pub kept-bytes : (entries : List PageEntry) (bytes : List ℕ) (k : ℕ) (d : MappedPage) → k < length entries → (get_or (pages_of entries bytes) k d).bytes ≡ take 4096 (drop (4096 * k) bytes)
unfolding pages_of
kept-bytes entries bytes k d below = by-bytes 4096 entries bytes k d below

length-entries : (pages : Memory) → length (map entry_of_page pages) ≡ length pages
length-entries [] = refl
length-entries (p ∷ pages) = ap suc (length-entries pages)

length-placed : (placement : List FramedPage) → length (entries_of placement) ≡ length placement
length-placed [] = refl
length-placed (p ∷ placement) = ap suc (length-placed placement)

pub same_count : (placement : List FramedPage) (pages : Memory) → entries_of placement ≡ map entry_of_page pages → length placement ≡ length pages
same_count placement pages same = sym (length-placed placement) ∙ ap length same ∙ length-entries pages

pub kept-whole : (entries : List PageEntry) (bytes : List ℕ) → length bytes ≡ 4096 * length entries → IsWhole (pages_of entries bytes)
kept-whole entries bytes whole k d below =
    let inside : k < length entries = omega (arith, length-entries (pages_of entries bytes), ap length (kept-entries entries bytes)) in
    ap length (kept-bytes entries bytes k d inside) ∙ length-take-le 4096 (drop (4096 * k) bytes) (omega (arith, length-drop (4096 * k) bytes))

-- ---- what is shown

from_is : (f : ℕ → ℕ) (start count : ℕ) (bytes : List ℕ) → length bytes ≡ count → ((j : ℕ) → j < count → f (start + j) ≡ get_or bytes j 0) → bytes_from f start count ≡ bytes
unfolding bytes_from
from_is f start zero [] long each = refl
from_is f start zero (b ∷ bytes) long each = absurd (omega arith)
from_is f start (suc count) [] long each = absurd (omega arith)
from_is f start (suc count) (b ∷ bytes) long each =
    let here : start + 0 ≡ start = omega arith in
    ap (λ (x : ℕ). x ∷ bytes_from f (start + 1) count) (sym (ap f here) ∙ each 0 (omega arith))
    ∙ ap (λ (xs : List ℕ). b ∷ xs) (from_is f (start + 1) count bytes (omega arith) (λ j below.
    let there : start + 1 + j ≡ start + suc j = omega arith in
    ap f there ∙ each (suc j) (omega arith)))

shown_is : (f : ℕ → ℕ) (placement : List FramedPage) (pages : Memory) → entries_of placement ≡ map entry_of_page pages → ((k : ℕ) → k < length placement → bytes_from f (4096 * (framed_at placement k).frame) 4096 ≡ (page_at pages k).bytes) → shown_by placement f ≡ pages
shown_is f [] [] same each = refl
shown_is f [] (q ∷ pages) same each = cc
shown_is f (p ∷ placement) [] same each = cc
shown_is f (p ∷ placement) (q ∷ pages) same each =
    let first : p.entry ≡ entry_of_page q = cc in
    let rest : entries_of placement ≡ map entry_of_page pages = cc in
    ap (λ (e : PageEntry). record { number = e.page; permissions = e.perm.bits; bytes = bytes_from f (4096 * p.frame) 4096 } ∷ shown_by placement f) first
    ∙ ap (λ (bs : List ℕ). record { number = q.number; permissions = q.permissions; bytes = bs } ∷ shown_by placement f) (each 0 (omega arith))
    ∙ ap (λ (ps : Memory). q ∷ ps) (shown_is f placement pages rest (λ k below. each (suc k) (omega arith)))

-- ---- what is written

module _ (whole : (old value : ℕ) → value < 2 ^ 64 → merged 255 old value ≡ value) (cycle : ℕ) (placement : List FramedPage) (kept : IsPlacement placement) (pages : Memory) (contents : List ℕ) (frames : ℕ) (long : length contents ≡ 512 * frames) (within : IsWithin frames placement) where
  abbrev after_pages : ℕ → List ℕ
  after_pages k = with_accesses contents (page_writes cycle placement pages k)

  abbrev AreSmall : ℕ → Type 0
  AreSmall n = (k : ℕ) → k < n → (i : ℕ) → get_or (page_at pages k).bytes i 0 < 256

  one-page : (k : ℕ) → after_pages (suc k) ≡ with_accesses (after_pages k) (kernel_writes cycle (512 * (framed_at placement k).frame) (word_in (page_at pages k).bytes) 512)
  unfolding page_writes
  one-page k = with_accesses-behind (page_writes cycle placement pages k) (kernel_writes cycle (512 * (framed_at placement k).frame) (word_in (page_at pages k).bytes) 512) contents

  no-page : after_pages 0 ≡ contents
  unfolding page_writes
  no-page = refl

  words_small : (n k : ℕ) → AreSmall n → k < n → (count j : ℕ) → j < count → word_in (page_at pages k).bytes j < 2 ^ 64
  words_small n k small below count j less = word_small (page_at pages k).bytes j (small k below)

  length-pages : (k : ℕ) → AreSmall k → length (after_pages k) ≡ length contents
  length-pages zero small = ap length no-page
  length-pages (suc k) small =
      ap length (one-page k)
      ∙ length-words whole (after_pages k) cycle (512 * (framed_at placement k).frame) (word_in (page_at pages k).bytes) 512 (words_small (suc k) k small (omega arith) 512)
      ∙ length-pages k (λ j less. small j (omega arith))

  -- the words of the pages so far
  pub held-pages : (k : ℕ) → k ≤ length placement → AreSmall k → (j w : ℕ) → j < k → w < 512 → get_or (after_pages k) (512 * (framed_at placement j).frame + w) 0 ≡ word_in (page_at pages j).bytes w
  held-pages zero fits small j w below inside = absurd (omega arith)
  held-pages (suc k) fits small j w below inside =
      let d : FramedPage = record { entry = record { page = 0; perm = record { bits = 0 } }; frame = 0 } in
      let before : AreSmall k = λ i less. small i (omega arith) in
      let size = length-pages k before in
      let room = within k d (omega arith) in
      let values = words_small (suc k) k small (omega arith) 512 in
      elim (cases_Bool (ltb j k)) [
        | inl earlier ↦ let less = ltb-true j k earlier in
            let apart = kept.apart j k d less (omega arith) in
            ap (λ (ws : List ℕ). get_or ws (512 * (framed_at placement j).frame + w) 0) (one-page k)
            ∙ words-outside whole (after_pages k) cycle (512 * (framed_at placement k).frame) (word_in (page_at pages k).bytes) 512 (512 * (framed_at placement j).frame + w) (λ i lt same. apart (omega arith)) values
            ∙ held-pages k (omega arith) before j w less inside
        | inr last ↦ let here : j ≡ k = omega (arith, ltb-false j k last) in
            ap (λ (n : ℕ). get_or (after_pages (suc k)) (512 * (framed_at placement n).frame + w) 0) here
            ∙ ap (λ (ws : List ℕ). get_or ws (512 * (framed_at placement k).frame + w) 0) (one-page k)
            ∙ words-inside whole (after_pages k) cycle (512 * (framed_at placement k).frame) (word_in (page_at pages k).bytes) 512 w inside (omega (arith, size, room, long)) values
            ∙ ap (λ (n : ℕ). word_in (page_at pages n).bytes w) (sym here)
      ]

  -- words of a page's frame that are written leave the others
  blanked-words : (values : List ℕ) (k : ℕ) (v : ℕ → ℕ) (count : ℕ) → k < length placement → count ≤ 512 → ((j : ℕ) → j < count → v j < 2 ^ 64) → blanked placement 0 (with_accesses values (kernel_writes cycle (512 * (framed_at placement k).frame) v count)) ≡ blanked placement 0 values
  blanked-words values k v zero below fits small = ap (blanked placement 0) (no-word whole values cycle (512 * (framed_at placement k).frame) v)
  blanked-words values k v (suc count) below fits small =
      let frame : ℕ = (framed_at placement k).frame in
      let d : FramedPage = record { entry = record { page = 0; perm = record { bits = 0 } }; frame = 0 } in
      let there : (0 + (512 * frame + count)) / 512 ≡ frame = omega arith in
      let earlier = with_accesses values (kernel_writes cycle (512 * frame) v count) in
      ap (blanked placement 0) (one-word whole values cycle (512 * frame) v count (small count (omega arith)))
      ∙ blanked-set placement earlier 0 (512 * frame + count) (v count) (ap (is_framed placement) there ∙ is_framed-at placement k d frame below refl)
      ∙ blanked-words values k v count below (omega arith) (λ j less. small j (omega arith))

  pub blanked-pages : (k : ℕ) → k ≤ length placement → AreSmall k → blanked placement 0 (after_pages k) ≡ blanked placement 0 contents
  blanked-pages zero fits small = ap (blanked placement 0) no-page
  blanked-pages (suc k) fits small =
      ap (blanked placement 0) (one-page k)
      ∙ blanked-words (after_pages k) k (word_in (page_at pages k).bytes) 512 (omega arith) (omega arith) (words_small (suc k) k small (omega arith) 512)
      ∙ blanked-pages k (omega arith) (λ i less. small i (omega arith))

  -- all pages are shown
  byte_at-page : AreSmall (length placement) → (k j : ℕ) → k < length placement → j < 4096 → byte_of_words (after_pages (length placement)) (4096 * (framed_at placement k).frame + j) ≡ get_or (page_at pages k).bytes j 0
  byte_at-page small k j below inside =
      let frame : ℕ = (framed_at placement k).frame in
      let all = after_pages (length placement) in
      let bytes = (page_at pages k).bytes in
      let quotient : (4096 * frame + j) / 8 ≡ 512 * frame + j / 8 = omega arith in
      let rest : (4096 * frame + j) % 8 ≡ j % 8 = omega arith in
      let joined : 8 * (j / 8) + j % 8 ≡ j = omega arith in
      ap (λ (q : ℕ). field (get_or all q 0) (8 * ((4096 * frame + j) % 8)) 8) quotient
      ∙ ap (λ (n : ℕ). field (get_or all (512 * frame + j / 8) 0) (8 * n) 8) rest
      ∙ ap (λ (w : ℕ). field w (8 * (j % 8)) 8) (held-pages (length placement) (omega arith) small k (j / 8) below (omega arith))
      ∙ word_byte bytes (j / 8) (j % 8) (omega arith) (small k below)
      ∙ ap (λ (n : ℕ). get_or bytes n 0) joined

  pub shown-pages : AreSmall (length placement) → entries_of placement ≡ map entry_of_page pages → IsWhole pages → shown placement (after_pages (length placement)) ≡ pages
  unfolding shown
  shown-pages small same sizes =
      shown_is (byte_of_words (after_pages (length placement))) placement pages same (λ k below.
      from_is (byte_of_words (after_pages (length placement))) (4096 * (framed_at placement k).frame) 4096 (page_at pages k).bytes
      (sizes k (record { number = 0; permissions = 0; bytes = [] }) (omega (arith, same_count placement pages same)))
      (λ j inside. byte_at-page small k j below inside))

-- ---- an image's pages by their places

pub count_is : (placement : List FramedPage) (pages : Memory) (entries : List PageEntry) (bytes : List ℕ) → entries_of placement ≡ map entry_of_page pages → pages ≡ pages_of entries bytes → length placement ≡ length entries
count_is placement pages entries bytes same is =
    sym (length-placed placement) ∙ ap length (same ∙ ap (map entry_of_page) is ∙ kept-entries entries bytes)

pub bytes_of_page : (pages : Memory) (entries : List PageEntry) (bytes : List ℕ) (k step : ℕ) → pages ≡ pages_of entries bytes → k < length entries → step ≡ 4096 → take step (drop (4096 * k) bytes) ≡ (page_at pages k).bytes
bytes_of_page pages entries bytes k step is below wide =
    ap (λ (n : ℕ). take n (drop (4096 * k) bytes)) wide
    ∙ sym (ap (λ (m : Memory). (page_at m k).bytes) is ∙ kept-bytes entries bytes k (record { number = 0; permissions = 0; bytes = [] }) below)

pub whole_of : (pages : Memory) (entries : List PageEntry) (bytes : List ℕ) → pages ≡ pages_of entries bytes → length bytes ≡ 4096 * length entries → IsWhole pages
whole_of pages entries bytes is long = subst IsWhole (sym is) (kept-whole entries bytes long)

-- one page's bytes more are small
pub small-more : (pages : Memory) (i : ℕ) (bytes : List ℕ) → ((k : ℕ) → k < i → (j : ℕ) → get_or (page_at pages k).bytes j 0 < 256) → bytes ≡ (page_at pages i).bytes → ((j : ℕ) → get_or bytes j 0 < 256) → (k : ℕ) → k < i + 1 → (j : ℕ) → get_or (page_at pages k).bytes j 0 < 256
small-more pages i bytes before is small k below j =
    elim (cases_Bool (ltb k i)) [
      | inl earlier ↦ before k (ltb-true k i earlier) j
      | inr last ↦ let here : k ≡ i = omega (arith, ltb-false k i last) in
          let same : get_or bytes j 0 ≡ get_or (page_at pages k).bytes j 0 = ap (λ (bs : List ℕ). get_or bs j 0) is ∙ ap (λ (n : ℕ). get_or (page_at pages n).bytes j 0) (sym here) in
          omega (arith, same, small j)
    ]
