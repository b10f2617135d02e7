-- Tables that are built frame after frame.
use Rattle.std.proofs.Common.{◌≡◌, ℕ, zero, suc, ◌+◌, ◌-◌, ◌*◌, ◌/◌, ◌%◌, ◌^◌, ◌<◌, ◌≤◌, ◌≢◌, Bool, true, false, cond, eqb, leb, ltb, inl, inr, List, [], ◌∷◌, ◌++◌, length, get_or, set, Some, None, refl, sym, ap, subst, lit<, ◌∙◌, arith, append_assoc, append-nil, get_or-set_same, get_or-set_other, length-set}
use Rattle.std.specs.Prelude.{filter, Option, option_map, IfSome, ◌&&◌, nat_le, nat_lt, if◌then◌else◌, All}
use Rattle.std.specs.Option.{option_map_or}
use Rattle.std.proofs.lemmas.Bool.{cases_Bool, cases_lt, eqb-true, eq-eqb, ne_eqb, lt-ltb, le-leb, le-ltb, false≢true}
use Rattle.std.proofs.Math.Bool.{or-true}
use Rattle.std.proofs.lemmas.Nat.{div_below}
use Rattle.vx_base.specs.Pages.{IsPageList, IsMapped}
use Rattle.vx_base.specs.declared.perm.PageEntry.{PageEntry}
use Rattle.vx_cells.specs.Cells.{CellsState, IsMemory, Makes, with_access, with_accesses}
use Rattle.vx_cells.specs.Merging.{merged}
use Rattle.vx_cells.specs.declared.access.Access.{Access}
use Rattle.vx_image.specs.Tables.{distinct_count}
use Rattle.vx_tables.specs.Building.{Builds, IsFrom, kernel_write, kernel_writes, pointer_for, table_writes}
use Rattle.vx_tables.specs.Entries.{pointer, page_entry}
use Rattle.vx_tables.specs.Residency.{Place, PlacedPage, Residency, pages_of, placed, place_at_boot, at_boot, AreBelow}
use Rattle.vx_tables.specs.Tables.{gib, mib2, regions, has_region, region_total, regions_below, leaf_entry, entry_in, table_word, table_count, second_frame, leaf_frame}
use Rattle.vx_tables.proofs.Decoded.{permission_small, page_entry-frame}
use Rattle.vx_tables.proofs.Descents.{placed-mapped}
use Rattle.vx_tables.proofs.Held.{placed-below, IsMemory-after}
use Rattle.vx_tables.proofs.Places.{table_word-root, table_word-second, table_word-leaf, second_frame-within, leaf_frame-within}
use Rattle.vx_tables.proofs.Regions.{below, below-step}

-- writes of the same values are the same
pub kernel_writes-same : (cycle start : ℕ) (v w : ℕ → ℕ) (count : ℕ) → ((i : ℕ) → i < count → v i ≡ w i) → kernel_writes cycle start v count ≡ kernel_writes cycle start w count
unfolding kernel_writes
kernel_writes-same cycle start v w zero same = refl
kernel_writes-same cycle start v w (suc count) same =
    rw (kernel_writes-same cycle start v w count (λ i lt. same i (omega arith)), same count (omega arith)) refl

-- more writes behind others
pub kernel_writes-add : (cycle start : ℕ) (v : ℕ → ℕ) (a b : ℕ) → kernel_writes cycle start v (a + b) ≡ kernel_writes cycle start v a ++ kernel_writes cycle (start + a) (λ i. v (a + i)) b
unfolding kernel_writes
kernel_writes-add cycle start v a zero = let e : a + 0 ≡ a = omega arith in rw e (sym (append-nil (kernel_writes cycle start v a)))
kernel_writes-add cycle start v a (suc b) =
    let e : a + suc b ≡ suc (a + b) = omega arith in
    let f : start + (a + b) ≡ start + a + b = omega arith in
    rw (e, kernel_writes-add cycle start v a b, f) (append_assoc (kernel_writes cycle start v a) (kernel_writes cycle (start + a) (λ i. v (a + i)) b) (kernel_write cycle (start + a + b) (v (a + b)) ∷ []))

-- a frame more
pub table_writes-more : (cycle : ℕ) (residency : Residency) (first t : ℕ) → table_writes cycle residency first (t + 1) ≡ table_writes cycle residency first t ++ kernel_writes cycle (512 * (first + t)) (λ i. table_word residency first (512 * (first + t) + i)) 512
table_writes-more cycle residency first t =
    let e : 512 * (t + 1) ≡ 512 * t + 512 = omega arith in
    let f : 512 * first + 512 * t ≡ 512 * (first + t) = omega arith in
    let v : ℕ → ℕ = λ k. table_word residency first (512 * first + k) in
    rw e (kernel_writes-add cycle (512 * first) v (512 * t) 512
    ∙ ap (λ (ws : List Access). kernel_writes cycle (512 * first) v (512 * t) ++ ws)
    (ap (λ (start : ℕ). kernel_writes cycle start (λ i. v (512 * t + i)) 512) f
    ∙ kernel_writes-same cycle (512 * (first + t)) (λ i. v (512 * t + i)) (λ i. table_word residency first (512 * (first + t) + i)) 512
    (λ i lt. let g : 512 * first + (512 * t + i) ≡ 512 * (first + t) + i = omega arith in ap (table_word residency first) g)))

module _ (joined : (before between after : CellsState) (first second : List Access) → Makes before between first → Makes between after second → Makes before after (first ++ second)) where
  -- a frame with the words of the tables behind those that are there
  frame-more : (before now after : CellsState) (first frame : ℕ) (residency : Residency) (v : ℕ → ℕ) → ((i : ℕ) → i < 512 → v i ≡ table_word residency first (512 * (first + frame) + i)) → Makes before now (table_writes before.cycle residency first frame) → Makes now after (kernel_writes now.cycle (512 * (first + frame)) v 512) → Makes before after (table_writes before.cycle residency first (frame + 1))
  frame-more before now after first frame residency v same begun made =
      let more : Makes now after (kernel_writes before.cycle (512 * (first + frame)) (λ i. table_word residency first (512 * (first + frame) + i)) 512) =
      subst (λ (accesses : List Access). Makes now after accesses) (kernel_writes-same before.cycle (512 * (first + frame)) v (λ i. table_word residency first (512 * (first + frame) + i)) 512 same)
      (subst (λ (cycle : ℕ). Makes now after (kernel_writes cycle (512 * (first + frame)) v 512)) begun.cycle made) in
      subst (λ (accesses : List Access). Makes before after accesses) (sym (table_writes-more before.cycle residency first frame)) (joined before now after _ _ begun more)

  pub root-built : (before now after : CellsState) (first : ℕ) (residency : Residency) → Makes before now (table_writes before.cycle residency first 0) → Makes now after (kernel_writes now.cycle (512 * first) (λ i. pointer_for (first + 1) gib (pages_of residency) (0 + i)) 512) → Makes before after (table_writes before.cycle residency first 1)
  root-built before now after first residency begun made =
      let e : first + 0 ≡ first = omega arith in
      frame-more before now after first 0 residency (λ i. pointer_for (first + 1) gib (pages_of residency) (0 + i))
      (λ i lt. let f : 0 + i ≡ i = omega arith in rw (e, f) (sym (table_word-root residency first i lt)))
      begun
      (subst (λ (n : ℕ). Makes now after (kernel_writes now.cycle (512 * n) (λ i. pointer_for (first + 1) gib (pages_of residency) (0 + i)) 512)) (sym e) made)

  pub second-built : (before now after : CellsState) (first region frame : ℕ) (residency : Residency) → has_region gib region (pages_of residency) ≡ true → frame ≡ 1 + regions_below gib region (pages_of residency) → Makes before now (table_writes before.cycle residency first frame) → Makes now after (kernel_writes now.cycle (512 * (first + frame)) (λ i. pointer_for (first + 1 + region_total gib (pages_of residency)) mib2 (pages_of residency) (512 * region + i)) 512) → Makes before after (table_writes before.cycle residency first (frame + 1))
  second-built before now after first region frame residency is at begun made =
      frame-more before now after first frame residency (λ i. pointer_for (first + 1 + region_total gib (pages_of residency)) mib2 (pages_of residency) (512 * region + i))
      (λ i lt. let e : second_frame first (pages_of residency) region ≡ first + frame = omega (arith, at) in
      sym (table_word-second residency first region i is lt) ∙ ap (λ (f : ℕ). table_word residency first (512 * f + i)) e)
      begun made

  pub leaf-built : (before now after : CellsState) (first region frame : ℕ) (residency : Residency) → has_region mib2 region (pages_of residency) ≡ true → frame ≡ 1 + region_total gib (pages_of residency) + regions_below mib2 region (pages_of residency) → Makes before now (table_writes before.cycle residency first frame) → Makes now after (kernel_writes now.cycle (512 * (first + frame)) (λ i. leaf_entry residency (512 * region + i)) 512) → Makes before after (table_writes before.cycle residency first (frame + 1))
  leaf-built before now after first region frame residency is at begun made =
      frame-more before now after first frame residency (λ i. leaf_entry residency (512 * region + i))
      (λ i lt. let e : leaf_frame first (pages_of residency) region ≡ first + frame = omega (arith, at) in
      sym (table_word-leaf residency first region i is lt) ∙ ap (λ (f : ℕ). table_word residency first (512 * f + i)) e)
      begun made

-- counts of regions
pub none-below : (ns : List ℕ) → below 0 ns ≡ 0
none-below [] = refl
none-below (n ∷ ns) = let e : 0 ≤ n = omega arith in rw (le-ltb n 0 e) (none-below ns)

pub step-below : (size region : ℕ) (pages : List PageEntry) → regions_below size (region + 1) pages ≡ regions_below size region pages + (if has_region size region pages then 1 else 0)
step-below size region pages =
    let e : region + 1 ≡ suc region = omega arith in
    rw e (below-step region (regions size pages))

lower_each : (size limit : ℕ) (pages : List PageEntry) → All IsMapped pages → 0 < size → 67108863 < limit * size → filter (λ n. ltb n limit) (regions size pages) ≡ regions size pages
lower_each size limit [] all some few = refl
lower_each size limit (e ∷ pages) all some few =
    let page = (all 0 e (omega arith)).page in
    let lt : e.page / size < limit = div_below e.page size limit some (omega (arith, page)) in
    rw (lt-ltb (e.page / size) limit lt, lower_each size limit pages (λ k d within. all (suc k) d (omega arith)) some few) refl

positive : (size limit : ℕ) → 67108863 < size * limit → 0 < size
positive zero limit few = absurd (omega arith)
positive (suc size) limit few = omega arith

pub all-below : (size limit : ℕ) (pages : List PageEntry) → IsPageList pages → 67108863 < size * limit → regions_below size limit pages ≡ region_total size pages
all-below size limit pages listed few =
    ap distinct_count (lower_each size limit pages listed.mapped (positive size limit few) (omega (arith, few)))

-- a region of 2 MiB that has a page lies in one of 1 GiB that does
pub inner : (region i : ℕ) (pages : List PageEntry) → i < 512 → has_region mib2 (512 * region + i) pages ≡ true → has_region gib region pages ≡ true
inner region i [] lt is = absurd (false≢true is)
inner region i (e ∷ pages) lt is =
    elim (cases_Bool (eqb (e.page / mib2) (512 * region + i))) [
      | inl same ↦
          let at = eqb-true (e.page / mib2) (512 * region + i) same in
          let outer : e.page / gib ≡ region = omega (arith, at) in
          rw (eq-eqb (e.page / gib) region outer) refl
      | inr differs ↦
          let rest = rw differs at is in
          rw (inner region i pages lt rest) (or-true (eqb (e.page / gib) region))
    ]

pub between-below : (region : ℕ) (pages : List PageEntry) → has_region gib region pages ≡ false → (i : ℕ) → i ≤ 512 → regions_below mib2 (512 * region + i) pages ≡ regions_below mib2 (512 * region) pages
between-below region pages none zero le = let e : 512 * region + 0 ≡ 512 * region = omega arith in rw e refl
between-below region pages none (suc i) le =
    let e : 512 * region + suc i ≡ suc (512 * region + i) = omega arith in
    let fails : has_region mib2 (512 * region + i) pages ≡ false =
    elim (cases_Bool (has_region mib2 (512 * region + i) pages)) [
      | inl is ↦ absurd (false≢true (sym none ∙ inner region i pages (omega arith) is))
      | inr fails ↦ fails
    ] in
    let step = below-step (512 * region + i) (regions mib2 pages) in
    let one : regions_below mib2 (suc (512 * region + i)) pages ≡ regions_below mib2 (512 * region + i) pages + 0 = step ∙ ap (λ (b : Bool). regions_below mib2 (512 * region + i) pages + cond b 1 0) fails in
    rw e (omega (arith, one, between-below region pages none i (omega arith)))

-- pages at boot
pub pages_of-at_boot : (frame : Option ℕ) (pages : List PageEntry) → pages_of (at_boot frame pages) ≡ pages
pages_of-at_boot frame [] = refl
pages_of-at_boot frame (e ∷ pages) = rw (pages_of-at_boot (option_map suc frame) pages) refl

place_plus : (frame : Option ℕ) (k : ℕ) → place_at_boot (option_map (λ f. f + k) (option_map suc frame)) ≡ place_at_boot (option_map (λ f. f + suc k) frame)
place_plus None k = refl
place_plus (Some f) k = let e : suc f + k ≡ f + suc k = omega arith in rw e refl

place_zero : (frame : Option ℕ) → place_at_boot frame ≡ place_at_boot (option_map (λ f. f + 0) frame)
place_zero None = refl
place_zero (Some f) = let e : f + 0 ≡ f = omega arith in rw e refl

pub found-at_boot : (frame : Option ℕ) (pages : List PageEntry) (number index : ℕ) (d : PageEntry) → ((k : ℕ) → k < index → (get_or pages k d).page ≢ number) → index < length pages → (get_or pages index d).page ≡ number → placed number (at_boot frame pages) ≡ Some (record { entry = get_or pages index d; place = place_at_boot (option_map (λ f. f + index) frame) })
found-at_boot frame [] number index d before within is = absurd (omega arith)
found-at_boot frame (e ∷ pages) number zero d before within is =
    rw (eq-eqb e.page number is) (ap (λ (place : Place). Some (record { entry = e; place = place })) (place_zero frame))
found-at_boot frame (e ∷ pages) number (suc index) d before within is =
    rw (ne_eqb e.page number (before 0 (omega arith)))
    (found-at_boot (option_map suc frame) pages number index d (λ k lt. before (suc k) (omega arith)) (omega arith) is
    ∙ ap (λ (place : Place). Some (record { entry = get_or pages index d; place = place })) (place_plus frame index))

pub missing-at_boot : (frame : Option ℕ) (pages : List PageEntry) (number : ℕ) → ((k : ℕ) (d : PageEntry) → k < length pages → (get_or pages k d).page ≢ number) → placed number (at_boot frame pages) ≡ None
missing-at_boot frame [] number none = refl
missing-at_boot frame (e ∷ pages) number none =
    rw (ne_eqb e.page number (none 0 e (omega arith))) (missing-at_boot (option_map suc frame) pages number (λ k d lt. none (suc k) d (omega arith)))

pub below-at_boot : (frame : Option ℕ) (pages : List PageEntry) (frames : ℕ) → IfSome frame (λ f. f + length pages ≤ frames) → AreBelow frames (at_boot frame pages)
below-at_boot frame [] frames few k d within = absurd (omega arith)
below-at_boot None (e ∷ pages) frames few zero d within = tt
below-at_boot (Some f) (e ∷ pages) frames few zero d within = omega arith
below-at_boot None (e ∷ pages) frames few (suc k) d within = below-at_boot None pages frames tt k d (omega arith)
below-at_boot (Some f) (e ∷ pages) frames few (suc k) d within = below-at_boot (Some (suc f)) pages frames (omega arith) k d (omega arith)

with_accesses-behind : (xs ys : List Access) (contents : List ℕ) → with_accesses contents (xs ++ ys) ≡ with_accesses (with_accesses contents xs) ys
with_accesses-behind [] ys contents = refl
with_accesses-behind (x ∷ xs) ys contents = with_accesses-behind xs ys (with_access contents x)

-- words that were written one after another
module _ (whole : (old value : ℕ) → value < 2 ^ 64 → merged 255 old value ≡ value) (contents : List ℕ) (cycle start : ℕ) (v : ℕ → ℕ) where
  abbrev after_words : ℕ → List ℕ
  after_words count = with_accesses contents (kernel_writes cycle start v count)

  one-word : (count : ℕ) → v count < 2 ^ 64 → after_words (suc count) ≡ set (after_words count) (start + count) (v count)
  unfolding kernel_writes
  one-word count small =
      with_accesses-behind (kernel_writes cycle start v count) (kernel_write cycle (start + count) (v count) ∷ []) contents
      ∙ ap (set (after_words count) (start + count)) (whole (get_or (after_words count) (start + count) 0) (v count) small)

  no-word : after_words 0 ≡ contents
  unfolding kernel_writes
  no-word = refl

  length-words : (count : ℕ) → ((i : ℕ) → i < count → v i < 2 ^ 64) → length (after_words count) ≡ length contents
  length-words zero small = ap length no-word
  length-words (suc count) small =
      ap length (one-word count (small count (omega arith)))
      ∙ length-set (after_words count) (start + count) (v count)
      ∙ length-words count (λ i lt. small i (omega arith))

  pub words-inside : (count i : ℕ) → i < count → start + count ≤ length contents → ((j : ℕ) → j < count → v j < 2 ^ 64) → get_or (after_words count) (start + i) 0 ≡ v i
  words-inside zero i lt room small = absurd (omega arith)
  words-inside (suc count) i lt room small =
      let rest : (j : ℕ) → j < count → v j < 2 ^ 64 = λ j less. small j (omega arith) in
      let size = length-words count rest in
      elim (cases_lt i count) [
        | inl less ↦
            ap (λ (ws : List ℕ). get_or ws (start + i) 0) (one-word count (small count (omega arith)))
            ∙ get_or-set_other (after_words count) (start + count) (start + i) (v count) 0 (λ same. omega (arith, same))
            ∙ words-inside count i less (omega arith) rest
        | inr more ↦
            let e : i ≡ count = omega arith in
            let within : start + count < length (after_words count) = omega (arith, size) in
            ap (λ (ws : List ℕ). get_or ws (start + i) 0) (one-word count (small count (omega arith)))
            ∙ ap (λ (n : ℕ). get_or (set (after_words count) (start + count) (v count)) (start + n) 0) e
            ∙ get_or-set_same (after_words count) (start + count) (v count) 0 within
            ∙ ap v (sym e)
      ]

  pub words-outside : (count word : ℕ) → ((i : ℕ) → i < count → start + i ≢ word) → ((j : ℕ) → j < count → v j < 2 ^ 64) → get_or (after_words count) word 0 ≡ get_or contents word 0
  words-outside zero word apart small = ap (λ (ws : List ℕ). get_or ws word 0) no-word
  words-outside (suc count) word apart small =
      ap (λ (ws : List ℕ). get_or ws word 0) (one-word count (small count (omega arith)))
      ∙ get_or-set_other (after_words count) (start + count) word (v count) 0 (λ same. apart count (omega arith) (sym same))
      ∙ words-outside count word (λ i lt. apart i (omega arith)) (λ j lt. small j (omega arith))

-- every entry of the tables is small
small_pointer : (is : Bool) (frame : ℕ) → (is ≡ true → frame < 16384) → (if is then pointer frame else 0) < 16778240
small_pointer true frame few = omega (arith, few refl)
small_pointer false frame few = lit< tt

small_leaf : (residency : Residency) (number : ℕ) → IsPageList (pages_of residency) → AreBelow 16384 residency → leaf_entry residency number < 16778240
small_leaf residency number listed few = go (placed number residency) refl
  where
    go : (o : Option PlacedPage) → placed number residency ≡ o → option_map_or (λ (p : PlacedPage). page_entry p.entry.perm.bits p.place) o 0 < 16778240
    go None none = lit< tt
    go (Some p) is = page_entry-frame p.entry.perm.bits 16384 p.place (permission_small p.entry.perm.bits (placed-mapped number residency p listed.mapped is).permission) (omega arith) (placed-below 16384 number residency p few is)

small_entry : (residency : Residency) (first t i : ℕ) → IsPageList (pages_of residency) → first + table_count (pages_of residency) ≤ 16384 → AreBelow 16384 residency → entry_in residency first t i < 16778240
unfolding entry_in
small_entry residency first t i listed room few =
    elim (cases_Bool (eqb t 0)) [
      | inl at_root ↦ rw at_root (small_pointer (has_region gib i (pages_of residency)) (second_frame first (pages_of residency) i) (λ is. omega (arith, second_frame-within first i (pages_of residency) is)))
      | inr differs ↦ elim (cases_Bool (leb t (region_total gib (pages_of residency)))) [
        | inl second ↦ rw (differs, second) (small_pointer (has_region mib2 _ (pages_of residency)) (leaf_frame first (pages_of residency) _) (λ is. omega (arith, leaf_frame-within first _ (pages_of residency) is)))
        | inr leaf ↦ rw (differs, leaf) (small_leaf residency _ listed few)
      ]
    ]

pub tables-built : ((old value : ℕ) → value < 2 ^ 64 → merged 255 old value ≡ value) → (before after : CellsState) (first : ℕ) (residency : Residency) → IsMemory before → IsPageList (pages_of residency) → first + table_count (pages_of residency) ≤ before.frames → AreBelow 16384 residency → Makes before after (table_writes before.cycle residency first (table_count (pages_of residency))) → Builds before after first residency
tables-built whole before after first residency memory listed room few made =
    let count : ℕ = table_count (pages_of residency) in
    let v : ℕ → ℕ = λ k. table_word residency first (512 * first + k) in
    let small : (k : ℕ) → k < 512 * count → v k < 2 ^ 64 = λ k lt. omega (arith, small_entry residency first ((512 * first + k) / 512 - first) ((512 * first + k) % 512) listed (omega (arith, memory.limit)) few) in
    let space : 512 * first + 512 * count ≤ length before.contents = omega (arith, memory.whole) in
    record {
      makes = made;
      stand = record {
        listed = listed;
        each = λ word low high.
            let i : ℕ = word - 512 * first in
            let e : 512 * first + i ≡ word = omega arith in
            let lt : i < 512 * count = omega arith in
            ap (λ (ws : List ℕ). get_or ws word 0) made.contents
            ∙ ap (λ (w : ℕ). get_or (with_accesses before.contents (kernel_writes before.cycle (512 * first) v (512 * count))) w 0) (sym e)
            ∙ words-inside whole before.contents before.cycle (512 * first) v (512 * count) i lt space small
            ∙ ap (table_word residency first) e;
      };
      memory = IsMemory-after before after (table_writes before.cycle residency first count) made memory;
      others = λ word out.
          ap (λ (ws : List ℕ). get_or ws word 0) made.contents
          ∙ words-outside whole before.contents before.cycle (512 * first) v (512 * count) word
          (λ i lt same.
          let low : 512 * first ≤ word = omega (arith, same) in
          let high : word < 512 * (first + count) = omega (arith, same) in
          let inside : (nat_le (512 * first) word && nat_lt word (512 * (first + count))) ≡ true = rw (le-leb (512 * first) word low, lt-ltb word (512 * (first + count)) high) refl in
          false≢true (sym out ∙ inside))
          small;
    }

pub no-writes : ((state : CellsState) → Makes state state []) → (state : CellsState) (first : ℕ) (residency : Residency) → Makes state state (table_writes state.cycle residency first 0)
unfolding kernel_writes
no-writes none state first residency = none state

-- the page at an index, by the order of the pages
pub below-index : (size region index : ℕ) (pages : List PageEntry) → IsFrom size region pages index → (k : ℕ) (d : PageEntry) → k < index → (get_or pages k d).page / size < region
below-index size region index pages is k d lt = is.before k d lt

pub found : (frame : Option ℕ) (pages : List PageEntry) (number index : ℕ) (d : PageEntry) → IsFrom 1 number pages index → index < length pages → (get_or pages index d).page ≡ number → placed number (at_boot frame pages) ≡ Some (record { entry = get_or pages index d; place = place_at_boot (option_map (λ f. f + index) frame) })
found frame pages number index d from within is =
    found-at_boot frame pages number index d (λ k lt same. omega (arith, from.before k d lt, same)) within is

pub missing : (frame : Option ℕ) (pages : List PageEntry) (number index : ℕ) → IsPageList pages → IsFrom 1 number pages index → ((d : PageEntry) → index < length pages → (get_or pages index d).page ≢ number) → placed number (at_boot frame pages) ≡ None
missing frame pages number index listed from none =
    missing-at_boot frame pages number (λ k d lt same.
    elim (cases_lt k index) [
      | inl less ↦ absurd (omega (arith, from.before k d less, same))
      | inr more ↦ elim (cases_lt index k) [
        | inl later ↦ absurd (omega (arith, listed.rising index k d later lt, from.behind index d (omega arith) (omega arith), same))
        | inr least ↦ let e : k ≡ index = omega arith in absurd (none d (omega arith) (ap (λ (n : ℕ). (get_or pages n d).page) (sym e) ∙ same))
      ]
    ])
