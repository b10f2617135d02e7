-- The bytes of segments laid onto a page.
use Rattle.std.proofs.Common.{◌≡◌, ℕ, ◌+◌, ◌-◌, ◌*◌, ◌<◌, ◌≤◌, min, max, Bool, true, false, ◌&&◌, leb, ltb, if◌then◌else◌, inl, inr, List, ◌++◌, length, take, drop, get_or, refl, sym, ap, ◌∙◌, length-append, length-drop, arith}
use Rattle.std.proofs.lemmas.Bool.{cases_lt}
use Rattle.std.proofs.lemmas.Bool.Decides.{nat_tests}
use Rattle.std.proofs.lemmas.List.{get_or_append_left, get_or-append_right, get_or-take, get_or-drop, length-take-le}
use Rattle.vx_elf.specs.declared.segment.Segment.{Segment}
use Rattle.vx_base.specs.declared.perm.PageEntry.{PageEntry}
use Rattle.vx_elf.specs.Segments.{IsSegment}
use Rattle.vx_image.specs.Kept.{entry_at}
use Rattle.vx_image.specs.Mapping.{meets_page, segment_byte}
use Rattle.vx_image.proofs.Filling.{laid_byte}
use Rattle.vx_image.specs.Building.{has_byte, IsLaid, IsLaidOn, ArePlaces}

-- an element before, in and behind a part of a list that was written
module _ (xs ys : List ℕ) (a k : ℕ) (inside : a + k ≤ length xs) (long : length ys ≡ k) where
  length-written : length (take a xs ++ (ys ++ drop k (drop a xs))) ≡ length xs
  length-written =
      omega (arith, length-append (take a xs) (ys ++ drop k (drop a xs)), length-append ys (drop k (drop a xs)), length-take-le a xs (omega arith), length-drop k (drop a xs), length-drop a xs)

  before_written : (j : ℕ) → j < a → get_or (take a xs ++ (ys ++ drop k (drop a xs))) j 0 ≡ get_or xs j 0
  before_written j lt =
      get_or_append_left (take a xs) (ys ++ drop k (drop a xs)) 0 j (omega (arith, length-take-le a xs (omega arith))) ∙ get_or-take a xs j 0 lt

  in_written : (j : ℕ) → a ≤ j → j < a + k → get_or (take a xs ++ (ys ++ drop k (drop a xs))) j 0 ≡ get_or ys (j - a) 0
  in_written j le lt =
      get_or-append_right (take a xs) (ys ++ drop k (drop a xs)) a j 0 (length-take-le a xs (omega arith)) le
      ∙ get_or_append_left ys (drop k (drop a xs)) 0 (j - a) (omega arith)

  behind_written : (j : ℕ) → a + k ≤ j → get_or (take a xs ++ (ys ++ drop k (drop a xs))) j 0 ≡ get_or xs j 0
  behind_written j le =
      let there : a + (k + (j - a - k)) ≡ j = omega arith in
      get_or-append_right (take a xs) (ys ++ drop k (drop a xs)) a j 0 (length-take-le a xs (omega arith)) (omega arith)
      ∙ get_or-append_right ys (drop k (drop a xs)) k (j - a) 0 long (omega arith)
      ∙ get_or-drop k (drop a xs) (j - a - k) 0
      ∙ get_or-drop a xs (k + (j - a - k)) 0
      ∙ ap (λ (n : ℕ). get_or xs n 0) there

-- the bytes of a segment laid from the first address of both to the last
pub laid : (page ys : List ℕ) (segment : Segment) (address start end : ℕ) → start ≡ max address segment.address → end ≡ min (segment.address + length segment.bytes) (address + length page) → start < end → ys ≡ take (end - start) (drop (start - segment.address) segment.bytes) → IsLaid page (take (start - address) page ++ (ys ++ drop (end - start) (drop (start - address) page))) segment address
laid page ys segment address start end first last some part =
    let a = start - address in
    let k = end - start in
    let inside : a + k ≤ length page = omega arith in
    let long : length ys ≡ k = ap length part ∙ length-take-le k (drop (start - segment.address) segment.bytes) (omega (arith, length-drop (start - segment.address) segment.bytes)) in
    record {
      size = length-written page ys a k inside long;
      each = λ j within.
          elim (cases_lt j a) [
            | inl lt ↦
                let no : has_byte (address + j) segment ≡ false = grind (arith, nat_tests) in
                before_written page ys a k inside long j lt ∙ sym (rw no refl)
            | inr le ↦ elim (cases_lt j (a + k)) [
              | inl lt ↦
                  let yes : has_byte (address + j) segment ≡ true = grind (arith, nat_tests) in
                  let there : start - segment.address + (j - a) ≡ address + j - segment.address = omega arith in
                  in_written page ys a k inside long j le lt
                  ∙ ap (λ (zs : List ℕ). get_or zs (j - a) 0) part
                  ∙ get_or-take k (drop (start - segment.address) segment.bytes) (j - a) 0 (omega arith)
                  ∙ get_or-drop (start - segment.address) segment.bytes (j - a) 0
                  ∙ ap (λ (n : ℕ). get_or segment.bytes n 0) there
                  ∙ sym (rw yes refl)
              | inr far ↦
                  let no : has_byte (address + j) segment ≡ false = grind (arith, nat_tests) in
                  behind_written page ys a k inside long j far ∙ sym (rw no refl)
            ]
          ];
    }

-- the pages that a segment is laid on
module _ (entries : List PageEntry) (segment : Segment) (start end : ℕ) (places : ArePlaces entries segment start end) (old : List ℕ) where
  -- a page that the segment doesn't meet has none of its bytes
  untouched : IsSegment segment → (k j : ℕ) → k < length entries → j < 4096 → (leb start k && ltb k end) ≡ false → laid_byte entries segment old k j ≡ get_or old (4096 * k + j) 0
  untouched is k j within below fails =
      let unmet : meets_page (entry_at entries k).page segment ≡ false = places.met k within ∙ fails in
      let holds = is.holds in
      let no : has_byte (4096 * (entry_at entries k).page + j) segment ≡ false = grind (arith, nat_tests) in
      rw no refl

  pub pages_none : IsSegment segment → (k j : ℕ) → k < length entries → j < 4096 → get_or old (4096 * k + j) 0 ≡ (if ltb k start then laid_byte entries segment old k j else get_or old (4096 * k + j) 0)
  pages_none is k j within below =
      elim (cases_lt k start) [
        | inl lt ↦
            let yes : ltb k start ≡ true = grind (arith, nat_tests) in
            let no : (leb start k && ltb k end) ≡ false = grind (arith, nat_tests) in
            sym (rw yes (untouched is k j within below no))
        | inr le ↦
            let no : ltb k start ≡ false = grind (arith, nat_tests) in
            rw no refl
      ]

  pub pages_all : IsSegment segment → (now : List ℕ) (place : ℕ) → end ≤ place → place ≤ end → length now ≡ length old → ((k j : ℕ) → k < length entries → j < 4096 → get_or now (4096 * k + j) 0 ≡ (if ltb k place then laid_byte entries segment old k j else get_or old (4096 * k + j) 0)) → IsLaidOn entries old now segment
  pages_all is now place over under size each = record {
    size = size;
    each = λ k j within below.
        elim (cases_lt k place) [
          | inl lt ↦
              let yes : ltb k place ≡ true = grind (arith, nat_tests) in
              each k j within below ∙ ap (λ (b : Bool). if b then laid_byte entries segment old k j else get_or old (4096 * k + j) 0) yes
          | inr le ↦
              let no : ltb k place ≡ false = grind (arith, nat_tests) in
              let unmet : (leb start k && ltb k end) ≡ false = grind (arith, nat_tests) in
              each k j within below ∙ ap (λ (b : Bool). if b then laid_byte entries segment old k j else get_or old (4096 * k + j) 0) no ∙ sym (untouched is k j within below unmet)
        ];
  }

  -- one page more
  pub pages_more : (now ys : List ℕ) (place : ℕ) → place < length entries → length old ≡ 4096 * length entries → length now ≡ length old → ((k j : ℕ) → k < length entries → j < 4096 → get_or now (4096 * k + j) 0 ≡ (if ltb k place then laid_byte entries segment old k j else get_or old (4096 * k + j) 0)) → IsLaid (take 4096 (drop (4096 * place) now)) ys segment (4096 * (entry_at entries place).page) → (k j : ℕ) → k < length entries → j < 4096 → get_or (take (4096 * place) now ++ (ys ++ drop 4096 (drop (4096 * place) now))) (4096 * k + j) 0 ≡ (if ltb k (place + 1) then laid_byte entries segment old k j else get_or old (4096 * k + j) 0)
  pages_more now ys place there whole size each laid k j within below =
      let inside : 4096 * place + 4096 ≤ length now = omega arith in
      let page_long : length (take 4096 (drop (4096 * place) now)) ≡ 4096 = length-take-le 4096 (drop (4096 * place) now) (omega (arith, length-drop (4096 * place) now)) in
      let long : length ys ≡ 4096 = laid.size ∙ page_long in
      elim (cases_lt k place) [
        | inl lt ↦
            let yes : ltb k (place + 1) ≡ true = grind (arith, nat_tests) in
            let before : ltb k place ≡ true = grind (arith, nat_tests) in
            before_written now ys (4096 * place) 4096 inside long (4096 * k + j) (omega arith) ∙ each k j within below ∙ rw (yes, before) refl
        | inr le ↦ elim (cases_lt place k) [
          | inl lt ↦
              let no : ltb k (place + 1) ≡ false = grind (arith, nat_tests) in
              let before : ltb k place ≡ false = grind (arith, nat_tests) in
              behind_written now ys (4096 * place) 4096 inside long (4096 * k + j) (omega arith) ∙ each k j within below ∙ rw (no, before) refl
          | inr ge ↦
              let at : k ≡ place = omega arith in
              let yes : ltb k (place + 1) ≡ true = grind (arith, nat_tests, at) in
              let before : ltb k place ≡ false = grind (arith, nat_tests, at) in
              let same : 4096 * k + j - 4096 * place ≡ j = omega arith in
              let first : get_or (take 4096 (drop (4096 * place) now)) j 0 ≡ get_or old (4096 * k + j) 0 =
              get_or-take 4096 (drop (4096 * place) now) j 0 below
              ∙ get_or-drop (4096 * place) now j 0
              ∙ ap (λ (n : ℕ). get_or now (4096 * n + j) 0) (sym at)
              ∙ each k j within below
              ∙ rw before refl in
              let address = 4096 * (entry_at entries place).page + j in
              in_written now ys (4096 * place) 4096 inside long (4096 * k + j) (omega arith) (omega arith)
              ∙ ap (λ (n : ℕ). get_or ys n 0) same
              ∙ laid.each j (omega (arith, page_long, below))
              ∙ ap (λ (n : ℕ). if has_byte address segment then segment_byte address segment else n) first
              ∙ ap (λ (n : ℕ). if has_byte (4096 * (entry_at entries n).page + j) segment then segment_byte (4096 * (entry_at entries n).page + j) segment else get_or old (4096 * k + j) 0) (sym at)
              ∙ sym (rw yes refl)
        ]
      ]

  pub length_more : (now ys : List ℕ) (place : ℕ) → place < length entries → length old ≡ 4096 * length entries → length now ≡ length old → length ys ≡ 4096 → length (take (4096 * place) now ++ (ys ++ drop 4096 (drop (4096 * place) now))) ≡ length old
  length_more now ys place there whole size long = length-written now ys (4096 * place) 4096 (omega arith) long ∙ size
