-- The different regions of pages that rise are counted by their changes.
use Rattle.std.proofs.Common.{◌≡◌, ℕ, zero, suc, ◌/◌, ◌<◌, ◌≤◌, ◌≢◌, true, false, eqb, inl, inr, List, [], ◌∷◌, length, get_or, map, Some, None, refl, sym, ◌∙◌, arith}
use Rattle.std.specs.List.{list_any, All, AllPairs}
use Rattle.std.proofs.lemmas.Bool.{cases_lt, cases_Bool, eqb-true, ne_eqb, eq-eqb, false≢true}
use Rattle.std.proofs.Math.Nat.{div-add-mod, mul-le-mul_left}
use Rattle.vx_base.specs.Pages.{IsPageList}
use Rattle.vx_base.specs.declared.perm.PageEntry.{PageEntry}
use Rattle.vx_image.specs.Building.{change_count}
use Rattle.vx_image.specs.Tables.{distinct_count}

abbrev Rise : List PageEntry → Type 0
Rise entries = AllPairs (λ one later. one.page < later.page) entries

-- a number is no page of a list
nowhere : PageEntry
nowhere = record { page = 0; perm = record { bits = 0 } }

-- a place is no higher than its page
place_below : (entries : List PageEntry) → Rise entries → (k : ℕ) (d : PageEntry) → k < length entries → k ≤ (get_or entries k d).page
place_below entries rising zero d within = omega arith
place_below entries rising (suc k) d within =
    omega (arith, place_below entries rising k d (omega arith), rising k (suc k) d (omega arith) within)

-- so a list of pages has no more than there are
pub few_pages : (entries : List PageEntry) → IsPageList entries → (k : ℕ) → k < length entries → k < 67108864
few_pages entries list k within =
    omega (arith, place_below entries list.rising k nowhere within, (list.mapped k nowhere within).page)

pub few_entries : (entries : List PageEntry) → IsPageList entries → length entries ≤ 67108864
few_entries [] list = omega arith
few_entries (entry ∷ entries) list = omega (arith, few_pages (entry ∷ entries) list (length entries) (omega arith))

-- quotients keep the order
quotients_rise : (a b size : ℕ) → 0 < size → a ≤ b → a / size ≤ b / size
quotients_rise a b size some le =
    elim (cases_lt (b / size) (a / size)) [
      | inl lt ↦ absurd (omega (arith, mul-le-mul_left size (lt_suc (b / size) (a / size) lt), div-add-mod a size, div-add-mod b size))
      | inr ge ↦ ge
    ]
  where
    lt_suc : (m n : ℕ) → m < n → suc m ≤ n
    lt_suc m n lt = omega arith

-- two numbers that differ by the test
ne_from_eqb : (a b : ℕ) → eqb a b ≡ false → a ≢ b
ne_from_eqb a b differs same = false≢true (sym differs ∙ eq-eqb a b same)

module _ (size : ℕ) (some : 0 < size) where
  -- a number below the regions of all is none of them
  absent : (n : ℕ) (entries : List PageEntry) → All (λ entry. n < entry.page / size) entries → list_any (λ m. eqb m n) (map (λ (entry : PageEntry). entry.page / size) entries) ≡ false
  absent n [] above = refl
  absent n (entry ∷ entries) above =
      let here : n < entry.page / size = above 0 entry (omega arith) in
      rw (ne_eqb (entry.page / size) n (λ same. omega arith)) (absent n entries (λ k d within. above (suc k) d (omega arith)))

  tail : (entry : PageEntry) (entries : List PageEntry) → Rise (entry ∷ entries) → Rise entries
  tail entry entries rising i j d before within = rising (suc i) (suc j) d (omega arith) (omega arith)

  -- the pages from one on are in regions above one that is below its region
  beyond : (entry next : PageEntry) (entries : List PageEntry) → entry.page / size < next.page / size → Rise (next ∷ entries) → All (λ (e : PageEntry). entry.page / size < e.page / size) (next ∷ entries)
  beyond entry next entries above rising zero d within = above
  beyond entry next entries above rising (suc k) d within =
      let later = rising 0 (suc k) d (omega arith) within in
      let rest = quotients_rise next.page (get_or entries k d).page size some (omega arith) in
      omega arith

  -- the changes behind a first page
  changes_behind : (entry : PageEntry) (entries : List PageEntry) → Rise (entry ∷ entries) → suc (change_count (Some (entry.page / size)) (map (λ (e : PageEntry). e.page / size) entries)) ≡ distinct_count (entry.page / size ∷ map (λ (e : PageEntry). e.page / size) entries)
  changes_behind entry [] rising = refl
  changes_behind entry (next ∷ entries) rising =
      let rest = changes_behind next entries (tail entry (next ∷ entries) rising) in
      elim (cases_Bool (eqb (entry.page / size) (next.page / size))) [
        | inl same ↦
            let alike : eqb (next.page / size) (entry.page / size) ≡ true = eq-eqb (next.page / size) (entry.page / size) (sym (eqb-true (entry.page / size) (next.page / size) same)) in
            rw (same, alike) (omega (arith, rest))
        | inr differs ↦
            let apart : entry.page / size ≢ next.page / size = ne_from_eqb (entry.page / size) (next.page / size) differs in
            let first : entry.page / size ≤ next.page / size = quotients_rise entry.page next.page size some (omega (arith, rising 0 1 nowhere (omega arith) (omega arith))) in
            let above : All (λ (e : PageEntry). entry.page / size < e.page / size) (next ∷ entries) = beyond entry next entries (omega arith) (tail entry (next ∷ entries) rising) in
            rw (differs, absent (entry.page / size) (next ∷ entries) above) (omega (arith, rest))
      ]

  pub changes_are : (entries : List PageEntry) → Rise entries → change_count None (map (λ (e : PageEntry). e.page / size) entries) ≡ distinct_count (map (λ (e : PageEntry). e.page / size) entries)
  changes_are [] rising = refl
  changes_are (entry ∷ entries) rising = omega (arith, changes_behind entry entries rising)
