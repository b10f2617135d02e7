-- Which entry stands in which word of the tables.
use Rattle.std.proofs.Common.{◌≡◌, ℕ, suc, ◌+◌, ◌-◌, ◌*◌, ◌/◌, ◌%◌, ◌<◌, ◌≤◌, true, List, refl, ap, ◌∙◌, arith}
use Rattle.std.proofs.lemmas.Bool.{ne_eqb, le-leb, lt-leb}
use Rattle.vx_base.specs.declared.perm.PageEntry.{PageEntry}
use Rattle.vx_tables.specs.Residency.{Residency, pages_of}
use Rattle.vx_tables.specs.Tables.{gib, mib2, regions, has_region, region_total, regions_below, region_after, table_count, second_frame, leaf_frame, root_entry, second_entry, leaf_entry, entry_in, table_word}
use Rattle.vx_tables.proofs.Regions.{after-below, below-within}

-- a word of a frame
pub frame_of_word : (frame i : ℕ) → i < 512 → (512 * frame + i) / 512 ≡ frame
frame_of_word frame i lt = omega arith

pub place_of_word : (frame i : ℕ) → i < 512 → (512 * frame + i) % 512 ≡ i
place_of_word frame i lt = omega arith

pub table_word-frame : (residency : Residency) (first t i : ℕ) → i < 512 → table_word residency first (512 * (first + t) + i) ≡ entry_in residency first t i
table_word-frame residency first t i lt =
    let e : first + t - first ≡ t = omega arith in
    rw (frame_of_word (first + t) i lt, place_of_word (first + t) i lt, e) refl

pub entry_in-root : (residency : Residency) (first i : ℕ) → entry_in residency first 0 i ≡ root_entry first (pages_of residency) i
unfolding entry_in
entry_in-root residency first i = refl

pub entry_in-second : (residency : Residency) (first j i : ℕ) → j < region_total gib (pages_of residency) → entry_in residency first (suc j) i ≡ second_entry first (pages_of residency) (512 * region_after gib j (pages_of residency) + i)
unfolding entry_in
entry_in-second residency first j i lt =
    let within : suc j ≤ region_total gib (pages_of residency) = omega arith in
    let e : suc j - 1 ≡ j = omega arith in
    rw (ne_eqb (suc j) 0 (λ same. omega (arith, same)), le-leb (suc j) (region_total gib (pages_of residency)) within, e) refl

pub entry_in-leaf : (residency : Residency) (first j i : ℕ) → entry_in residency first (suc (region_total gib (pages_of residency) + j)) i ≡ leaf_entry residency (512 * region_after mib2 j (pages_of residency) + i)
unfolding entry_in
entry_in-leaf residency first j i =
    let past : region_total gib (pages_of residency) < suc (region_total gib (pages_of residency) + j) = omega arith in
    let e : suc (region_total gib (pages_of residency) + j) - 1 - region_total gib (pages_of residency) ≡ j = omega arith in
    rw (ne_eqb (suc (region_total gib (pages_of residency) + j)) 0 (λ same. omega (arith, same)), lt-leb (suc (region_total gib (pages_of residency) + j)) (region_total gib (pages_of residency)) past, e) refl

-- the entries of the root, of the table of a region of 1 GiB, and of the one of a region of 2 MiB
pub table_word-root : (residency : Residency) (first i : ℕ) → i < 512 → table_word residency first (512 * first + i) ≡ root_entry first (pages_of residency) i
table_word-root residency first i lt =
    let e : first + 0 ≡ first = omega arith in
    let here = table_word-frame residency first 0 i lt in
    (rw e at here) ∙ entry_in-root residency first i

pub table_word-second : (residency : Residency) (first region i : ℕ) → has_region gib region (pages_of residency) ≡ true → i < 512 → table_word residency first (512 * second_frame first (pages_of residency) region + i) ≡ second_entry first (pages_of residency) (512 * region + i)
table_word-second residency first region i is lt =
    let pages = pages_of residency in
    let j : ℕ = regions_below gib region pages in
    let e : first + suc j ≡ first + 1 + j = omega arith in
    let here = table_word-frame residency first (suc j) i lt in
    (rw e at here)
    ∙ entry_in-second residency first j i (below-within region (regions gib pages) is)
    ∙ ap (λ (r : ℕ). second_entry first pages (512 * r + i)) (after-below region (regions gib pages) is)

pub table_word-leaf : (residency : Residency) (first region i : ℕ) → has_region mib2 region (pages_of residency) ≡ true → i < 512 → table_word residency first (512 * leaf_frame first (pages_of residency) region + i) ≡ leaf_entry residency (512 * region + i)
table_word-leaf residency first region i is lt =
    let pages = pages_of residency in
    let j : ℕ = regions_below mib2 region pages in
    let e : first + suc (region_total gib pages + j) ≡ first + 1 + region_total gib pages + j = omega arith in
    let here = table_word-frame residency first (suc (region_total gib pages + j)) i lt in
    (rw e at here)
    ∙ entry_in-leaf residency first j i
    ∙ ap (λ (r : ℕ). leaf_entry residency (512 * r + i)) (after-below region (regions mib2 pages) is)

-- these tables are within the frames of all
pub second_frame-within : (first region : ℕ) (pages : List PageEntry) → has_region gib region pages ≡ true → second_frame first pages region < first + table_count pages
second_frame-within first region pages is = omega (arith, below-within region (regions gib pages) is)

pub leaf_frame-within : (first region : ℕ) (pages : List PageEntry) → has_region mib2 region pages ≡ true → leaf_frame first pages region < first + table_count pages
leaf_frame-within first region pages is = omega (arith, below-within region (regions mib2 pages) is)
