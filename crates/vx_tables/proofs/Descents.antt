-- The walk through tables, level by level.
use Rattle.std.proofs.Common.{◌≡◌, ℕ, suc, ◌+◌, ◌-◌, ◌*◌, ◌/◌, ◌%◌, ◌^◌, ◌<◌, ◌≤◌, true, eqb, inl, inr, List, [], ◌∷◌, length, get_or, set, Some, None, refl, sym, ap, subst, ◌∙◌, arith}
use Rattle.std.specs.Prelude.{Option, option_map, IfSome, if◌then◌else◌, All}
use Rattle.std.specs.Option.{option_map_or}
use Rattle.std.proofs.lemmas.Bool.{cases_Bool, eqb-true, false≢true}
use Rattle.std.proofs.lemmas.List.{set-get_or}
use Rattle.vx_base.specs.Numbers.{field}
use Rattle.vx_base.specs.Pages.{IsPageList, IsMapped}
use Rattle.vx_base.specs.declared.machine.Want.{Want}
use Rattle.vx_base.specs.declared.perm.PageEntry.{PageEntry}
use Rattle.vx_tables.specs.Entries.{pointer, page_entry, leaf_answer, leaf_written}
use Rattle.vx_image.specs.Pages.{page_of, is_canonical}
use Rattle.vx_tables.specs.Residency.{Place, PlacedPage, Residency, pages_of, placed, with_place, found_at, touched, page_map, after_walk, AreBelow}
use Rattle.vx_tables.specs.Tables.{gib, mib2, has_region, table_count, second_frame, leaf_frame, root_entry, second_entry, leaf_entry, table_word, leaf_word, Stand}
use Rattle.vx_tables.specs.declared.stage.TableEntry.{TableEntry}
use Rattle.vx_tables.specs.Walking.{PlacesAgree, PagesAgree, Agree}
use Rattle.vx_tables.specs.Walks.{Walk, entry_word, refused, reading, leaf_walk, walk_from, walk, table_walk, with_entry}
use Rattle.vx_tables.specs.declared.walked.Walked.TheVariants as walked
use Rattle.vx_tables.proofs.Decoded.{permission_small, is_pointer-pointer, frame_in-pointer, leaf_answer-entry, leaf_written-late, page_entry-frame, Writes}
use Rattle.vx_tables.proofs.Held.{placed-below, IsBelow-touched}
use Rattle.vx_tables.proofs.Moving.{placed-listed, placed-region, Stand-moved}
use Rattle.vx_tables.proofs.Places.{table_word-root, table_word-second, table_word-leaf, second_frame-within, leaf_frame-within}

-- the regions and the page of an address, by its three fields
abbrev pub region2 : ℕ → ℕ
region2 address = field address 30 9

abbrev pub region1 : ℕ → ℕ
region1 address = 512 * region2 address + field address 21 9

abbrev pub page0 : ℕ → ℕ
page0 address = 512 * region1 address + field address 12 9

module _ (residency : Residency) (root address : ℕ) (want : Want) where
  abbrev pages : List PageEntry
  pages = pages_of residency

  -- the walk from each level on
  abbrev pub expected0 : Walk
  expected0 = leaf_walk want (entry_word (leaf_frame root pages (region1 address)) address 0) (leaf_entry residency (page0 address))

  abbrev pub expected1 : Walk
  expected1 =
      reading (entry_word (second_frame root pages (region2 address)) address 1) (second_entry root pages (region1 address))
      (if has_region mib2 (region1 address) pages then expected0 else refused)

  abbrev pub expected2 : Walk
  expected2 =
      reading (entry_word root address 2) (root_entry root pages (region2 address))
      (if has_region gib (region2 address) pages then expected1 else refused)

  abbrev pub expected : Walk
  expected = if is_canonical address then expected2 else refused

  -- a memory that agrees with the tables
  module _ (memory : ℕ → ℕ) (agrees : (word : ℕ) → 512 * root ≤ word → word < 512 * (root + table_count pages) → memory word ≡ table_word residency root word) where
    read2 : memory (entry_word root address 2) ≡ root_entry root pages (region2 address)
    read2 =
        let lt : region2 address < 512 = omega arith in
        agrees (entry_word root address 2) (omega arith) (omega arith) ∙ table_word-root residency root (region2 address) lt

    read1 : has_region gib (region2 address) pages ≡ true → memory (entry_word (second_frame root pages (region2 address)) address 1) ≡ second_entry root pages (region1 address)
    read1 is =
        let lt : field address 21 9 < 512 = omega arith in
        let frame = second_frame-within root (region2 address) pages is in
        agrees (entry_word (second_frame root pages (region2 address)) address 1) (omega arith) (omega (arith, frame))
        ∙ table_word-second residency root (region2 address) (field address 21 9) is lt

    read0 : has_region mib2 (region1 address) pages ≡ true → memory (entry_word (leaf_frame root pages (region1 address)) address 0) ≡ leaf_entry residency (page0 address)
    read0 is =
        let lt : field address 12 9 < 512 = omega arith in
        let frame = leaf_frame-within root (region1 address) pages is in
        agrees (entry_word (leaf_frame root pages (region1 address)) address 0) (omega arith) (omega (arith, frame))
        ∙ table_word-leaf residency root (region1 address) (field address 12 9) is lt

    pub walk0 : has_region mib2 (region1 address) pages ≡ true → walk_from memory want address 0 (leaf_frame root pages (region1 address)) ≡ expected0
    walk0 is = ap (leaf_walk want (entry_word (leaf_frame root pages (region1 address)) address 0)) (read0 is)

    pub walk1 : has_region gib (region2 address) pages ≡ true → walk_from memory want address 1 (second_frame root pages (region2 address)) ≡ expected1
    walk1 above =
        elim (cases_Bool (has_region mib2 (region1 address) pages)) [
          | inl is ↦
              rw (read1 above, is, is_pointer-pointer (leaf_frame root pages (region1 address)), frame_in-pointer (leaf_frame root pages (region1 address)))
              (ap (reading (entry_word (second_frame root pages (region2 address)) address 1) (pointer (leaf_frame root pages (region1 address)))) (walk0 is))
          | inr fails ↦ rw (read1 above, fails) refl
        ]

    pub walk2 : walk_from memory want address 2 root ≡ expected2
    walk2 =
        elim (cases_Bool (has_region gib (region2 address) pages)) [
          | inl is ↦
              rw (read2, is, is_pointer-pointer (second_frame root pages (region2 address)), frame_in-pointer (second_frame root pages (region2 address)))
              (ap (reading (entry_word root address 2) (pointer (second_frame root pages (region2 address)))) (walk1 is))
          | inr fails ↦ rw (read2, fails) refl
        ]

    pub walk-expected : walk memory root address want ≡ expected
    unfolding walk
    walk-expected = ap (λ (w : Walk). if is_canonical address then w else refused) walk2

  pub table_walk-expected : table_walk residency root address want ≡ expected
  unfolding table_walk
  table_walk-expected = walk-expected (table_word residency root) (λ word low high. refl)

-- no page lies at or above 2 ^ 26
pub region-low : (region : ℕ) (entries : List PageEntry) → All IsMapped entries → has_region gib region entries ≡ true → region < 256
region-low region [] all is = absurd (false≢true is)
region-low region (e ∷ entries) all is =
    elim (cases_Bool (eqb (e.page / gib) region)) [
      | inl same ↦ omega (arith, (all 0 e (omega arith)).page, eqb-true (e.page / gib) region same)
      | inr differs ↦ let rest = rw differs at is in region-low region entries (λ k d lt. all (suc k) d (omega arith)) rest
    ]

pub placed-mapped : (number : ℕ) (residency : Residency) (p : PlacedPage) → All IsMapped (pages_of residency) → placed number residency ≡ Some p → IsMapped p.entry
placed-mapped number [] p all is = absurd (cc is)
placed-mapped number (q ∷ residency) p all is =
    elim (cases_Bool (eqb q.entry.page number)) [
      | inl same ↦
          let found = rw same at is in
          let e : q ≡ p = cc found in
          subst (λ (x : PlacedPage). IsMapped x.entry) e (all 0 q.entry (omega arith))
      | inr differs ↦
          let rest = rw differs at is in
          placed-mapped number residency p (λ k d lt. all (suc k) d (omega arith)) rest
    ]

-- an address of a mapped page
pub record IsLow (address : ℕ) : Type 0 where
  pub canonical : is_canonical address ≡ true
  pub page : page0 address ≡ page_of address
  pub region1 : region1 address ≡ page_of address / mib2
  pub region2 : region2 address ≡ page_of address / gib
  pub place : field address 12 9 ≡ page_of address % mib2

pub low : (address : ℕ) → page_of address < 67108864 → IsLow address
low address lt = record {
  canonical = canonical;
  page = omega arith;
  region1 = omega arith;
  region2 = omega arith;
  place = omega arith;
}
  where
    canonical : is_canonical address ≡ true
    canonical = let zero_above : address / 2 ^ 38 ≡ 0 = omega arith in rw zero_above refl

-- a canonical address whose root entry leads on is one of these
canonical-low : (address : ℕ) → is_canonical address ≡ true → region2 address < 256 → page_of address < 67108864
canonical-low address is lt =
    elim (cases_Bool (eqb (address / 2 ^ 38) 0)) [
      | inl below ↦ let e = eqb-true (address / 2 ^ 38) 0 below in omega (arith, e)
      | inr differs ↦
          let above = rw differs at is in
          let e : address / 2 ^ 38 ≡ 2 ^ 26 - 1 = eqb-true (address / 2 ^ 38) (2 ^ 26 - 1) above in
          absurd (omega (arith, e))
    ]

-- the walk of an address whose page isn't mapped
module _ (residency : Residency) (root address : ℕ) (want : Want) (listed : IsPageList (pages_of residency)) (none : placed (page_of address) residency ≡ None) where
  abbrev Refuses : Walk → Type 0
  Refuses w = (w.answer ≡ walked.Denied) × (w.write ≡ None)

  unmapped0 : page0 address ≡ page_of address → Refuses (expected0 residency root address want)
  unmapped0 same =
      let e : leaf_entry residency (page0 address) ≡ 0 =
      ap (leaf_entry residency) same ∙ ap (λ (o : Option PlacedPage). option_map_or (λ (p : PlacedPage). page_entry p.entry.perm.bits p.place) o 0) none in
      rw e (refl, refl)

  unmapped1 : page0 address ≡ page_of address → Refuses (expected1 residency root address want)
  unmapped1 same =
      elim (cases_Bool (has_region mib2 (region1 address) (pages_of residency))) [
        | inl is ↦ let rest = unmapped0 same in rw is rest
        | inr fails ↦ rw fails (refl, refl)
      ]

  unmapped2 : is_canonical address ≡ true → Refuses (expected2 residency root address want)
  unmapped2 canonical =
      elim (cases_Bool (has_region gib (region2 address) (pages_of residency))) [
        | inl is ↦
            let under = canonical-low address canonical (region-low (region2 address) (pages_of residency) listed.mapped is) in
            let rest = unmapped1 (low address under).page in
            rw is rest
        | inr fails ↦ rw fails (refl, refl)
      ]

  pub unmapped : Refuses (expected residency root address want)
  unmapped =
      elim (cases_Bool (is_canonical address)) [
        | inl is ↦ let rest = unmapped2 is in rw is rest
        | inr fails ↦ rw fails (refl, refl)
      ]

-- and of one whose page is
module _ (residency : Residency) (root address : ℕ) (want : Want) (listed : IsPageList (pages_of residency)) (p : PlacedPage) (is : placed (page_of address) residency ≡ Some p) where
  pub mapped_low : IsLow address
  mapped_low = low address (omega (arith, (placed-mapped (page_of address) residency p listed.mapped is).page, placed-listed (page_of address) residency p is))

  pub few_bits : p.entry.perm.bits < 8
  few_bits = permission_small p.entry.perm.bits (placed-mapped (page_of address) residency p listed.mapped is).permission

  abbrev pub leaf_value : ℕ
  leaf_value = page_entry p.entry.perm.bits p.place

  pub leaf_is : leaf_entry residency (page_of address) ≡ leaf_value
  leaf_is = ap (λ (o : Option PlacedPage). option_map_or (λ (q : PlacedPage). page_entry q.entry.perm.bits q.place) o 0) is

  -- the leaf's part of the walk
  pub mapped : ((expected residency root address want).answer ≡ leaf_answer want leaf_value)
      × ((expected residency root address want).write ≡ option_map (λ (written : ℕ). record { word = leaf_word root (pages_of residency) (page_of address); value = written }) (leaf_written want leaf_value))
  mapped =
      let known = mapped_low in
      let giga : has_region gib (region2 address) (pages_of residency) ≡ true = rw known.region2 (placed-region gib (page_of address) residency p is) in
      let mega : has_region mib2 (region1 address) (pages_of residency) ≡ true = rw known.region1 (placed-region mib2 (page_of address) residency p is) in
      let value : leaf_entry residency (page0 address) ≡ leaf_value = ap (leaf_entry residency) known.page ∙ leaf_is in
      let word : entry_word (leaf_frame root (pages_of residency) (region1 address)) address 0 ≡ leaf_word root (pages_of residency) (page_of address) =
      ap (λ (region : ℕ). 512 * leaf_frame root (pages_of residency) region + field address 12 9) known.region1
      ∙ ap (λ (i : ℕ). 512 * leaf_frame root (pages_of residency) (page_of address / mib2) + i) known.place in
      rw (known.canonical, giga, mega) (
        ap (leaf_answer want) value,
        ap (λ (v : ℕ). option_map (λ (written : ℕ). record { word = entry_word (leaf_frame root (pages_of residency) (region1 address)) address 0; value = written }) (leaf_written want v)) value
            ∙ ap (λ (w : ℕ). option_map (λ (written : ℕ). record { word = w; value = written }) (leaf_written want leaf_value)) word,
      )

  pub mapped-answer : (expected residency root address want).answer ≡ page_map residency address want
  unfolding page_map
  mapped-answer =
      mapped.0 ∙ leaf_answer-entry p.entry.perm.bits want p.place few_bits
      ∙ sym (ap (λ (o : Option PlacedPage). option_map_or (λ (q : PlacedPage). found_at q.entry.perm.bits want q.place) o walked.Denied) is)

pub table_walk-answer : (root address : ℕ) (want : Want) (residency : Residency) → IsPageList (pages_of residency) → (table_walk residency root address want).answer ≡ page_map residency address want
unfolding page_map
table_walk-answer root address want residency listed =
    ap (λ (w : Walk). w.answer) (table_walk-expected residency root address want)
    ∙ by_page (placed (page_of address) residency) refl
  where
    by_page : (o : Option PlacedPage) → placed (page_of address) residency ≡ o → (expected residency root address want).answer ≡ page_map residency address want
    by_page None none =
        (unmapped residency root address want listed none).0
        ∙ sym (ap (λ (o : Option PlacedPage). option_map_or (λ (q : PlacedPage). found_at q.entry.perm.bits want q.place) o walked.Denied) none)
    by_page (Some p) is = mapped-answer residency root address want listed p is

-- the tables once the entry is written that a walk writes which has seen a residency that agrees with theirs
module _ (contents : List ℕ) (seen residency : Residency) (root address : ℕ) (want : Want) (agree : Agree address want seen residency) (stand : Stand contents root residency) (room : 512 * (root + table_count (pages_of residency)) ≤ length contents) where
  abbrev there : ℕ
  there = leaf_word root (pages_of residency) (page_of address)

  seen_listed : IsPageList (pages_of seen)
  seen_listed = subst IsPageList agree.pages stand.listed

  module _ (q : PlacedPage) (is : placed (page_of address) residency ≡ Some q) where
    -- the leaf as it stands
    kept : get_or contents there 0 ≡ page_entry q.entry.perm.bits q.place
    kept =
        let mega = placed-region mib2 (page_of address) residency q is in
        let lt : page_of address % mib2 < 512 = omega arith in
        let frame = leaf_frame-within root (page_of address / mib2) (pages_of residency) mega in
        let split : 512 * (page_of address / mib2) + page_of address % mib2 ≡ page_of address = omega arith in
        stand.each there (omega arith) (omega (arith, frame))
        ∙ table_word-leaf residency root (page_of address / mib2) (page_of address % mib2) mega lt
        ∙ ap (leaf_entry residency) split
        ∙ leaf_is residency root address want stand.listed q is

    moves : (place : Place) → Stand (set contents there (page_entry q.entry.perm.bits place)) root (with_place (page_of address) place residency)
    moves place = Stand-moved contents root (page_of address) residency q place is room stand

    by_written : (written : Option ℕ) → Writes q.entry.perm.bits want q.place written → Stand (with_entry (option_map (λ (v : ℕ). record { word = there; value = v }) written) contents) root (with_place (page_of address) (touched q.entry.perm.bits want q.place) residency)
    by_written written writes =
        let place : Place = touched q.entry.perm.bits want q.place in
        elim writes [
          | inl some ↦ rw some (moves place)
          | inr stays ↦
              let same : set contents there (page_entry q.entry.perm.bits place) ≡ contents =
              ap (set contents there) (stays.1 ∙ sym kept) ∙ set-get_or contents there 0 in
              rw stays.0 (subst (λ (ws : List ℕ). Stand ws root (with_place (page_of address) place residency)) same (moves place))
        ]

    module _ (p : PlacedPage) (was : placed (page_of address) seen ≡ Some p) (same : q.entry ≡ p.entry) (places : PlacesAgree p.entry.perm.bits want p.place q.place) where
      pub writes-seen : Writes q.entry.perm.bits want q.place (leaf_written want (page_entry p.entry.perm.bits p.place))
      writes-seen =
          subst (λ (e : PageEntry). Writes e.perm.bits want q.place (leaf_written want (page_entry p.entry.perm.bits p.place))) (sym same)
          (leaf_written-late p.entry.perm.bits want p.place q.place (few_bits seen root address want seen_listed p was) places)

      write-is : (expected seen root address want).write ≡ option_map (λ (v : ℕ). record { word = there; value = v }) (leaf_written want (page_entry p.entry.perm.bits p.place))
      write-is =
          (mapped seen root address want seen_listed p was).1
          ∙ ap (λ (ps : List PageEntry). option_map (λ (v : ℕ). record { word = leaf_word root ps (page_of address); value = v }) (leaf_written want (page_entry p.entry.perm.bits p.place))) (sym agree.pages)

      pub Stand-mapped : Stand (with_entry (expected seen root address want).write contents) root (with_place (page_of address) (touched q.entry.perm.bits want q.place) residency)
      Stand-mapped =
          subst (λ (w : Option TableEntry). Stand (with_entry w contents) root (with_place (page_of address) (touched q.entry.perm.bits want q.place) residency))
          (sym write-is)
          (by_written (leaf_written want (page_entry p.entry.perm.bits p.place)) writes-seen)

  by_place : (o u : Option PlacedPage) → placed (page_of address) seen ≡ o → placed (page_of address) residency ≡ u → PagesAgree want o u → Stand (with_entry (expected seen root address want).write contents) root (option_map_or (λ (p : PlacedPage). with_place (page_of address) (touched p.entry.perm.bits want p.place) residency) u residency)
  by_place None None none now is =
      subst (λ (w : Option TableEntry). Stand (with_entry w contents) root residency) (sym (unmapped seen root address want seen_listed none).1) stand
  by_place None (Some q) none now is = absurd is
  by_place (Some p) None was none is = absurd is
  by_place (Some p) (Some q) was now is = Stand-mapped q now p was is.0 is.1

  pub Stand-after_walk : Stand (with_entry (table_walk seen root address want).write contents) root (after_walk residency address want)
  unfolding after_walk
  Stand-after_walk =
      subst (λ (w : Walk). Stand (with_entry w.write contents) root (after_walk residency address want)) (sym (table_walk-expected seen root address want))
      (by_place (placed (page_of address) seen) (placed (page_of address) residency) refl refl agree.page)

  -- what it writes is small where the pages are in few frames
  by_value : (frames : ℕ) → frames ≤ 16384 → AreBelow frames residency → (o u : Option PlacedPage) → placed (page_of address) seen ≡ o → placed (page_of address) residency ≡ u → PagesAgree want o u → IfSome (expected seen root address want).write (λ (e : TableEntry). e.value < 2 ^ 64)
  by_value frames few below None None none now is = rw (unmapped seen root address want seen_listed none).1 tt
  by_value frames few below None (Some q) none now is = absurd is
  by_value frames few below (Some p) None was none is = absurd is
  by_value frames few below (Some p) (Some q) was now is =
      rw (mapped seen root address want seen_listed p was).1 (go (leaf_written want (page_entry p.entry.perm.bits p.place)) (writes-seen q now p was is.0 is.1) _)
    where
      go : (written : Option ℕ) → Writes q.entry.perm.bits want q.place written → (word : ℕ) → IfSome (option_map (λ (v : ℕ). record { word = word; value = v }) written) (λ (e : TableEntry). e.value < 2 ^ 64)
      go None writes word = tt
      go (Some v) writes word =
          elim writes [
            | inl some ↦
                let these : v ≡ page_entry q.entry.perm.bits (touched q.entry.perm.bits want q.place) = cc some in
                let within = IsBelow-touched frames q.entry.perm.bits want q.place (placed-below frames (page_of address) residency q below now) in
                omega (arith, these, page_entry-frame q.entry.perm.bits frames (touched q.entry.perm.bits want q.place) (few_bits residency root address want stand.listed q now) few within)
            | inr stays ↦ absurd (cc stays.0)
          ]

  pub small-write : (frames : ℕ) → frames ≤ 16384 → AreBelow frames residency → IfSome (table_walk seen root address want).write (λ (e : TableEntry). e.value < 2 ^ 64)
  small-write frames few below =
      subst (λ (w : Walk). IfSome w.write (λ (e : TableEntry). e.value < 2 ^ 64)) (sym (table_walk-expected seen root address want))
      (by_value frames few below (placed (page_of address) seen) (placed (page_of address) residency) refl refl agree.page)
