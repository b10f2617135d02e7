-- What the move of one page changes in the tables.
use Rattle.std.proofs.Common.{◌≡◌, ℕ, zero, suc, ◌+◌, ◌-◌, ◌*◌, ◌/◌, ◌%◌, ◌<◌, ◌≤◌, ◌≢◌, true, false, eqb, inl, inr, List, [], ◌∷◌, length, get_or, set, Some, refl, sym, ap, subst, ◌∙◌, arith, get_or-set_same, get_or-set_other}
use Rattle.std.specs.Prelude.{Option}
use Rattle.std.specs.Option.{option_map_or}
use Rattle.std.proofs.lemmas.Bool.{cases_Bool, cases_lt, eqb-true, eq-eqb, ne_eqb, false≢true}
use Rattle.std.proofs.Math.Bool.{or-true}
use Rattle.vx_base.specs.Pages.{IsPageList}
use Rattle.vx_base.specs.declared.perm.PageEntry.{PageEntry}
use Rattle.vx_tables.specs.Entries.{page_entry}
use Rattle.vx_tables.specs.Residency.{Place, PlacedPage, Residency, pages_of, placed, with_place}
use Rattle.vx_tables.specs.Tables.{gib, mib2, regions, has_region, region_total, regions_below, region_after, table_count, root_entry, second_entry, leaf_entry, entry_in, leaf_word, Stand}
use Rattle.vx_tables.proofs.Regions.{below-after, below-within, below-same}
use Rattle.vx_tables.proofs.Places.{entry_in-root, entry_in-second, entry_in-leaf}

module _ (number : ℕ) (place : Place) where
  -- the pages stay
  pub pages_of-with_place : (residency : Residency) → pages_of (with_place number place residency) ≡ pages_of residency
  pages_of-with_place [] = refl
  pages_of-with_place (p ∷ residency) =
      elim (cases_Bool (eqb p.entry.page number)) [
        | inl same ↦ rw (same, pages_of-with_place residency) refl
        | inr differs ↦ rw (differs, pages_of-with_place residency) refl
      ]

  -- every other page is where it was
  pub placed-other : (n : ℕ) (residency : Residency) → n ≢ number → placed n (with_place number place residency) ≡ placed n residency
  placed-other n [] apart = refl
  placed-other n (p ∷ residency) apart =
      elim (cases_Bool (eqb p.entry.page number)) [
        | inl same ↦
            let fails : eqb p.entry.page n ≡ false = ne_eqb p.entry.page n (λ e. apart (sym e ∙ eqb-true p.entry.page number same)) in
            rw (same, fails) (placed-other n residency apart)
        | inr differs ↦ elim (cases_Bool (eqb p.entry.page n)) [
          | inl here ↦ rw (differs, here) refl
          | inr fails ↦ rw (differs, fails) (placed-other n residency apart)
        ]
      ]

  pub placed-same : (residency : Residency) (p : PlacedPage) → placed number residency ≡ Some p → placed number (with_place number place residency) ≡ Some (record p { place = place })
  placed-same [] p is = absurd (cc is)
  placed-same (q ∷ residency) p is =
      elim (cases_Bool (eqb q.entry.page number)) [
        | inl same ↦
            let found = rw same at is in
            let e : q ≡ p = cc found in
            rw (same, same) (ap (λ (x : PlacedPage). Some (record x { place = place })) e)
        | inr differs ↦
            let rest = rw differs at is in
            rw (differs, differs) (placed-same residency p rest)
      ]

  pub leaf_entry-other : (n : ℕ) (residency : Residency) → n ≢ number → leaf_entry (with_place number place residency) n ≡ leaf_entry residency n
  leaf_entry-other n residency apart =
      ap (λ (o : Option PlacedPage). option_map_or (λ (p : PlacedPage). page_entry p.entry.perm.bits p.place) o 0) (placed-other n residency apart)

  pub leaf_entry-same : (residency : Residency) (p : PlacedPage) → placed number residency ≡ Some p → leaf_entry (with_place number place residency) number ≡ page_entry p.entry.perm.bits place
  leaf_entry-same residency p is =
      ap (λ (o : Option PlacedPage). option_map_or (λ (q : PlacedPage). page_entry q.entry.perm.bits q.place) o 0) (placed-same residency p is)

-- a page that is placed lies in its regions
pub placed-listed : (number : ℕ) (residency : Residency) (p : PlacedPage) → placed number residency ≡ Some p → p.entry.page ≡ number
placed-listed number [] p is = absurd (cc is)
placed-listed number (q ∷ residency) p is =
    elim (cases_Bool (eqb q.entry.page number)) [
      | inl same ↦
          let found = rw same at is in
          let e : q ≡ p = cc found in
          sym (ap (λ (x : PlacedPage). x.entry.page) e) ∙ eqb-true q.entry.page number same
      | inr differs ↦ let rest = rw differs at is in placed-listed number residency p rest
    ]

pub placed-region : (size number : ℕ) (residency : Residency) (p : PlacedPage) → placed number residency ≡ Some p → has_region size (number / size) (pages_of residency) ≡ true
placed-region size number [] p is = absurd (cc is)
placed-region size number (q ∷ residency) p is =
    elim (cases_Bool (eqb q.entry.page number)) [
      | inl same ↦
          let e : q.entry.page ≡ number = eqb-true q.entry.page number same in
          rw (e, eq-eqb (number / size) (number / size) refl) refl
      | inr differs ↦
          let rest = rw differs at is in
          rw (placed-region size number residency p rest) (or-true (eqb (q.entry.page / size) (number / size)))
    ]

-- an entry of the tables once a page's is written
module _ (contents : List ℕ) (first number : ℕ) (residency : Residency) (p : PlacedPage) (place : Place)
    (is : placed number residency ≡ Some p)
    (room : 512 * (first + table_count (pages_of residency)) ≤ length contents) where
  abbrev pages : List PageEntry
  pages = pages_of residency

  abbrev after_move : Residency
  after_move = with_place number place residency

  abbrev there : ℕ
  there = leaf_word first pages number

  abbrev written : List ℕ
  written = set contents there (page_entry p.entry.perm.bits place)

  mapped : has_region mib2 (number / mib2) pages ≡ true
  mapped = placed-region mib2 number residency p is

  within : there < length contents
  within = omega (arith, below-within (number / mib2) (regions mib2 pages) mapped)

  elsewhere : (word : ℕ) → word ≢ there → get_or written word 0 ≡ get_or contents word 0
  elsewhere word apart = get_or-set_other contents there word (page_entry p.entry.perm.bits place) 0 apart

  above_root : (t i : ℕ) → i < 512 → t ≤ region_total gib pages → 512 * (first + t) + i ≢ there
  above_root t i lt le same = omega (arith, same)

  moved_root : (i : ℕ) → i < 512 → get_or contents (512 * (first + 0) + i) 0 ≡ entry_in residency first 0 i → get_or written (512 * (first + 0) + i) 0 ≡ entry_in after_move first 0 i
  moved_root i lt before =
      elsewhere (512 * (first + 0) + i) (above_root 0 i lt (omega arith))
      ∙ before
      ∙ entry_in-root residency first i
      ∙ ap (λ (ps : List PageEntry). root_entry first ps i) (sym (pages_of-with_place number place residency))
      ∙ sym (entry_in-root after_move first i)

  moved_second : (j i : ℕ) → i < 512 → j < region_total gib pages → get_or contents (512 * (first + suc j) + i) 0 ≡ entry_in residency first (suc j) i → get_or written (512 * (first + suc j) + i) 0 ≡ entry_in after_move first (suc j) i
  moved_second j i lt few before =
      let same = pages_of-with_place number place residency in
      let few' : j < region_total gib (pages_of after_move) = subst (λ (ps : List PageEntry). j < region_total gib ps) (sym same) few in
      elsewhere (512 * (first + suc j) + i) (above_root (suc j) i lt (omega arith))
      ∙ before
      ∙ entry_in-second residency first j i few
      ∙ ap (λ (ps : List PageEntry). second_entry first ps (512 * region_after gib j ps + i)) (sym same)
      ∙ sym (entry_in-second after_move first j i few')

  -- the entries of the leaf table that has so many before it
  module _ (j i : ℕ) (lt : i < 512) (few : j < region_total mib2 pages) where
    abbrev region : ℕ
    region = region_after mib2 j pages

    abbrev word : ℕ
    word = 512 * (first + suc (region_total gib pages + j)) + i

    leaf_after : entry_in after_move first (suc (region_total gib pages + j)) i ≡ leaf_entry after_move (512 * region + i)
    leaf_after =
        let same = pages_of-with_place number place residency in
        ap (λ (ps : List PageEntry). entry_in after_move first (suc (region_total gib ps + j)) i) (sym same)
        ∙ entry_in-leaf after_move first j i
        ∙ ap (λ (ps : List PageEntry). leaf_entry after_move (512 * region_after mib2 j ps + i)) same

    moved_leaf : get_or contents word 0 ≡ entry_in residency first (suc (region_total gib pages + j)) i → get_or written word 0 ≡ entry_in after_move first (suc (region_total gib pages + j)) i
    moved_leaf before =
        let known = below-after j (regions mib2 pages) few in
        elim (cases_Bool (eqb (512 * region + i) number)) [
          | inl same ↦
              let e : 512 * region + i ≡ number = eqb-true (512 * region + i) number same in
              let r : number / 512 ≡ region = omega arith in
              let o : number % 512 ≡ i = omega arith in
              let b : regions_below mib2 (number / 512) pages ≡ j = ap (λ (n : ℕ). regions_below mib2 n pages) r ∙ known.1 in
              let at : word ≡ there = omega (arith, b, o) in
              let here : get_or written there 0 ≡ page_entry p.entry.perm.bits place = get_or-set_same contents there (page_entry p.entry.perm.bits place) 0 within in
              ap (λ (w : ℕ). get_or written w 0) at
              ∙ here
              ∙ sym (leaf_entry-same number place residency p is)
              ∙ ap (leaf_entry after_move) (sym e)
              ∙ sym leaf_after
          | inr differs ↦
              let apart : 512 * region + i ≢ number = λ e. false≢true (sym differs ∙ eq-eqb (512 * region + i) number e) in
              let away : word ≢ there = λ e.
              let b : regions_below mib2 (number / 512) pages ≡ j = omega (arith, e) in
              let o : number % 512 ≡ i = omega (arith, e) in
              let r : number / 512 ≡ region = below-same (number / 512) region (regions mib2 pages) mapped known.0 (b ∙ sym known.1) in
              apart (omega (arith, r, o)) in
              elsewhere word away
              ∙ before
              ∙ entry_in-leaf residency first j i
              ∙ sym (leaf_entry-other number place (512 * region + i) residency apart)
              ∙ sym leaf_after
        ]

  pub moved_entry : (t i : ℕ) → i < 512 → t < table_count pages → get_or contents (512 * (first + t) + i) 0 ≡ entry_in residency first t i → get_or written (512 * (first + t) + i) 0 ≡ entry_in after_move first t i
  moved_entry zero i lt few before = moved_root i lt before
  moved_entry (suc t) i lt few before =
      elim (cases_lt t (region_total gib pages)) [
        | inl less ↦ moved_second t i lt less before
        | inr more ↦
            let j : ℕ = t - region_total gib pages in
            let e : region_total gib pages + j ≡ t = omega arith in
            let P : ℕ → Type 0 = λ n. get_or contents (512 * (first + suc n) + i) 0 ≡ entry_in residency first (suc n) i in
            let Q : ℕ → Type 0 = λ n. get_or written (512 * (first + suc n) + i) 0 ≡ entry_in after_move first (suc n) i in
            subst Q e (moved_leaf j i lt (omega arith) (subst P (sym e) before))
      ]

  pub Stand-moved : Stand contents first residency → Stand written first after_move
  Stand-moved stand = record {
    listed = subst (λ (ps : List PageEntry). IsPageList ps) (sym (pages_of-with_place number place residency)) stand.listed;
    each = λ word low high.
        let high' : word < 512 * (first + table_count pages) = subst (λ (ps : List PageEntry). word < 512 * (first + table_count ps)) (pages_of-with_place number place residency) high in
        let t : ℕ = word / 512 - first in
        let i : ℕ = word % 512 in
        let e : 512 * (first + t) + i ≡ word = omega arith in
        let lt : i < 512 = omega arith in
        let few : t < table_count pages = omega arith in
        let before : get_or contents (512 * (first + t) + i) 0 ≡ entry_in residency first t i = ap (λ (w : ℕ). get_or contents w 0) e ∙ stand.each word low high' in
        ap (λ (w : ℕ). get_or written w 0) (sym e) ∙ moved_entry t i lt few before;
  }
