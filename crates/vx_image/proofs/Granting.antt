-- The places of the entries that a segment meets, and its permissions put there.
use Rattle.std.proofs.Common.{◌≡◌, ℕ, ◌+◌, ◌<◌, ◌≤◌, Bool, true, false, ◌&&◌, leb, ltb, bit_or, if◌then◌else◌, inl, inr, List, [], ◌∷◌, ◌++◌, length, take, map, filter, fold, get_or, set, refl, sym, ap, ◌∙◌, arith}
use Rattle.std.proofs.Math.ListN.{length-map}
use Rattle.std.proofs.lemmas.Bool.{cases_lt, cases_Bool}
use Rattle.std.proofs.lemmas.Bool.Decides.{nat_tests}
use Rattle.std.proofs.lemmas.List.{get_or_default, get_or-map, get_or-set_same, get_or-set_other, take_more, same_lists}
use Rattle.std.proofs.lemmas.List.Elements.{filter-append}
use Rattle.std.proofs.lemmas.List.Sums.{fold-append}
use Rattle.vx_base.specs.declared.perm.PageEntry.{PageEntry}
use Rattle.vx_elf.specs.declared.segment.Segment.{Segment}
use Rattle.vx_image.specs.Building.{IsSpan, ArePlaces, granted, entry_of_segments}
use Rattle.vx_image.specs.Kept.{IsPlaceFrom, entry_at}
use Rattle.vx_image.specs.Mapping.{meets_page, page_permissions}

-- the places from the span's first page on, to below those from its end on
pub places_are : (entries : List PageEntry) (segment : Segment) (start end low high : ℕ) → IsSpan segment start end → IsPlaceFrom entries start low → IsPlaceFrom entries end high → ArePlaces entries segment low high
places_are entries segment start end low high span from to = record {
  order =
      elim (cases_lt high low) [
        | inl lt ↦
            let one = from.below high lt in
            let other = to.above high (omega arith) (omega (arith, from.within)) in
            absurd (omega (arith, one, other, span.some))
        | inr le ↦ le
      ];
  within = to.within;
  met = λ k within.
      let page = (entry_at entries k).page in
      let one : k < low → page < start = from.below k in
      let two : low ≤ k → start ≤ page = λ le. from.above k le within in
      let three : k < high → page < end = to.below k in
      let four : high ≤ k → end ≤ page = λ le. to.above k le within in
      span.met page ∙ (let same : (leb start page && ltb page end) ≡ (leb low k && ltb k high) = grind (arith, nat_tests, one, two, three, four) in same);
}

-- an entry with the permissions of a segment too
abbrev pub with_bits : PageEntry → Segment → PageEntry
with_bits entry segment = record { page = entry.page; perm = record { bits = bit_or entry.perm.bits segment.perm.bits } }

-- an entry before the places or behind them has no more permissions
module _ (entries : List PageEntry) (segment : Segment) (start end : ℕ) (places : ArePlaces entries segment start end) where
  pub met_at : (k : ℕ) (d : PageEntry) (answer : Bool) → k < length entries → (leb start k && ltb k end) ≡ answer → meets_page (get_or entries k d).page segment ≡ answer
  met_at k d answer within is =
      ap (λ (e : PageEntry). meets_page e.page segment) (get_or_default entries k d (record { page = 0; perm = record { bits = 0 } }) within)
      ∙ places.met k within ∙ is

  outside : (k : ℕ) (d : PageEntry) → k < length entries → (leb start k && ltb k end) ≡ false → granted segment (get_or entries k d) ≡ get_or entries k d
  outside k d within fails = rw (met_at k d false within fails) refl

  pub grant_none : (k : ℕ) (d : PageEntry) → k < length entries → get_or entries k d ≡ (if ltb k start then granted segment (get_or entries k d) else get_or entries k d)
  grant_none k d within =
      elim (cases_lt k start) [
        | inl lt ↦
            let yes : ltb k start ≡ true = grind (arith, nat_tests) in
            let no : (leb start k && ltb k end) ≡ false = grind (arith, nat_tests) in
            sym (rw yes (outside k d within no))
        | inr le ↦
            let no : ltb k start ≡ false = grind (arith, nat_tests) in
            rw no refl
      ]

  pub grant_all : (now : List PageEntry) (place : ℕ) → end ≤ place → place ≤ end → length now ≡ length entries → ((k : ℕ) (d : PageEntry) → k < length entries → get_or now k d ≡ (if ltb k place then granted segment (get_or entries k d) else get_or entries k d)) → now ≡ map (granted segment) entries
  grant_all now place over under size each =
      same_lists now (map (granted segment) entries) (size ∙ sym (length-map entries (granted segment))) (λ k d below.
      let within : k < length entries = omega (arith, size) in
      let mapped : get_or (map (granted segment) entries) k d ≡ granted segment (get_or entries k d) = get_or-map (granted segment) entries k d d within in
      elim (cases_lt k place) [
        | inl lt ↦
            let yes : ltb k place ≡ true = grind (arith, nat_tests) in
            each k d within ∙ ap (λ (b : Bool). if b then granted segment (get_or entries k d) else get_or entries k d) yes ∙ sym mapped
        | inr le ↦
            let no : ltb k place ≡ false = grind (arith, nat_tests) in
            let unmet : (leb start k && ltb k end) ≡ false = grind (arith, nat_tests) in
            each k d within ∙ ap (λ (b : Bool). if b then granted segment (get_or entries k d) else get_or entries k d) no ∙ sym (outside k d within unmet) ∙ sym mapped
      ])

  -- one place more
  pub grant_more : (now : List PageEntry) (place : ℕ) (entry : PageEntry) → start ≤ place → place < end → length now ≡ length entries → ((k : ℕ) (d : PageEntry) → k < length entries → get_or now k d ≡ (if ltb k place then granted segment (get_or entries k d) else get_or entries k d)) → entry ≡ with_bits (get_or now place (record { page = 0; perm = record { bits = 0 } })) segment → (k : ℕ) (d : PageEntry) → k < length entries → get_or (set now place entry) k d ≡ (if ltb k (place + 1) then granted segment (get_or entries k d) else get_or entries k d)
  grant_more now place entry over under size each made k d within =
      let e : PageEntry = record { page = 0; perm = record { bits = 0 } } in
      elim (cases_lt k place) [
        | inl lt ↦
            let yes : ltb k (place + 1) ≡ true = grind (arith, nat_tests) in
            let before : ltb k place ≡ true = grind (arith, nat_tests) in
            get_or-set_other now place k entry d (λ same. omega (arith, same)) ∙ each k d within ∙ rw (yes, before) refl
        | inr le ↦ elim (cases_lt place k) [
          | inl lt ↦
              let no : ltb k (place + 1) ≡ false = grind (arith, nat_tests) in
              let before : ltb k place ≡ false = grind (arith, nat_tests) in
              get_or-set_other now place k entry d (λ same. omega (arith, same)) ∙ each k d within ∙ rw (no, before) refl
          | inr ge ↦
              let at : k ≡ place = omega arith in
              let yes : ltb k (place + 1) ≡ true = grind (arith, nat_tests) in
              let before : ltb place place ≡ false = grind (arith, nat_tests) in
              let inside : (leb start place && ltb place end) ≡ true = grind (arith, nat_tests) in
              let there : place < length entries = omega (arith, at, within) in
              let old : get_or now place e ≡ get_or entries place e = each place e there ∙ ap (λ (b : Bool). if b then granted segment (get_or entries place e) else get_or entries place e) before in
              let met : meets_page (get_or entries place e).page segment ≡ true = met_at place e true there inside in
              let new : entry ≡ granted segment (get_or entries place e) =
              made ∙ ap (λ (o : PageEntry). with_bits o segment) old ∙ sym (rw met refl) in
              ap (λ (n : ℕ). get_or (set now place entry) n d) at
              ∙ get_or-set_same now place entry d (omega (arith, size))
              ∙ new
              ∙ ap (granted segment) (get_or_default entries place e d there)
              ∙ ap (λ (n : ℕ). granted segment (get_or entries n d)) (sym at)
              ∙ sym (rw yes refl)
        ]
      ]

-- the permissions of a page with one segment more
permissions_more : (segments : List Segment) (i : ℕ) (segment : Segment) (n : ℕ) → i < length segments → segment ≡ get_or segments i segment → page_permissions (take (i + 1) segments) n ≡ (if meets_page n segment then bit_or (page_permissions (take i segments) n) segment.perm.bits else page_permissions (take i segments) n)
unfolding page_permissions
permissions_more segments i segment n within item =
    let gather : ℕ → Segment → ℕ = λ bits s. bit_or bits s.perm.bits in
    ap (λ (ss : List Segment). fold gather 0 (filter (meets_page n) ss)) (take_more segments i segment within ∙ ap (λ (s : Segment). take i segments ++ s ∷ []) (sym item))
    ∙ ap (fold gather 0) (filter-append (meets_page n) (take i segments) (segment ∷ []))
    ∙ fold-append gather 0 (filter (meets_page n) (take i segments)) (filter (meets_page n) (segment ∷ []))
    ∙ elim (cases_Bool (meets_page n segment)) [
      | inl met ↦ rw met refl
      | inr unmet ↦ rw unmet refl
    ]

-- an entry of a page with such permissions
abbrev entry_with : ℕ → ℕ → PageEntry
entry_with n bits = record { page = n; perm = record { bits = bits } }

-- an entry of the segments before is one of those with it, once its permissions are given
entry_more : (segments : List Segment) (i : ℕ) (segment : Segment) (n : ℕ) → i < length segments → segment ≡ get_or segments i segment → granted segment (entry_of_segments (take i segments) n) ≡ entry_of_segments (take (i + 1) segments) n
entry_more segments i segment n within item =
    let before = entry_of_segments (take i segments) n in
    let more : page_permissions (take (i + 1) segments) n ≡ (if meets_page n segment then bit_or (page_permissions (take i segments) n) segment.perm.bits else page_permissions (take i segments) n) = permissions_more segments i segment n within item in
    elim (cases_Bool (meets_page n segment)) [
      | inl met ↦
          ap (λ (b : Bool). if b then with_bits before segment else before) met
          ∙ ap (entry_with n) (sym (more ∙ ap (λ (b : Bool). if b then bit_or (page_permissions (take i segments) n) segment.perm.bits else page_permissions (take i segments) n) met))
      | inr unmet ↦
          ap (λ (b : Bool). if b then with_bits before segment else before) unmet
          ∙ ap (entry_with n) (sym (more ∙ ap (λ (b : Bool). if b then bit_or (page_permissions (take i segments) n) segment.perm.bits else page_permissions (take i segments) n) unmet))
    ]

pub entries_more : (segments : List Segment) (i : ℕ) (segment : Segment) → i < length segments → segment ≡ get_or segments i segment → (numbers : List ℕ) → map (granted segment) (map (entry_of_segments (take i segments)) numbers) ≡ map (entry_of_segments (take (i + 1) segments)) numbers
entries_more segments i segment within item [] = refl
entries_more segments i segment within item (n ∷ numbers) =
    ap (λ (e : PageEntry). e ∷ map (granted segment) (map (entry_of_segments (take i segments)) numbers)) (entry_more segments i segment n within item)
    ∙ ap (λ (es : List PageEntry). entry_of_segments (take (i + 1) segments) n ∷ es) (entries_more segments i segment within item numbers)
