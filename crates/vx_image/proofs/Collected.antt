-- The pages that segments meet, collected and put in order.
use Rattle.std.proofs.Common.{◌≡◌, ℕ, ◌+◌, ◌<◌, ◌≤◌, Bool, true, false, ◌||◌, ◌&&◌, leb, ltb, eqb, inl, inr, List, [], ◌∷◌, ◌++◌, length, take, map, get_or, refl, sym, ap, subst, ◌∙◌, arith}
use Rattle.std.proofs.Math.Bool.{or-false}
use Rattle.std.specs.List.Sorted.{IsPermutation, IsSorted, IsNonDecreasingBy}
use Rattle.std.specs.Ordering.{nat_cmp}
use Rattle.std.proofs.lemmas.Bool.{cases_lt, cases_Bool, eqb-true, eq-eqb}
use Rattle.std.proofs.lemmas.Bool.Decides.{nat_tests}
use Rattle.std.proofs.lemmas.List.{get_or_default, map-append}
use Rattle.std.proofs.lemmas.List.Folds.{list_any-append, list_any_more, list_any-from_Any, Any-from_list_any}
use Rattle.std.proofs.lemmas.List.Sorted.{list_any-IsPermutation, IsNonDecreasingBy-from_sort}
use Rattle.vx_elf.specs.declared.segment.Segment.{Segment}
use Rattle.vx_elf.specs.Segments.{IsSegment, IsSegmentList}
use Rattle.vx_image.specs.Mapping.{meets_page, page_permissions, stack_page}
use Rattle.vx_image.specs.Building.{is_among, is_met, numbers_below, entry_of_segments, AreMet}
use Rattle.vx_image.proofs.Numbers.{one_more, none_between, below_zero}

joined : (x y z w : Bool) → (y || (z || false)) ≡ w → ((x || y) || (z || false)) ≡ (x || w)
joined true y z w same = refl
joined false y z w same = same

-- the pages of a span so far
pub span_none : (b : Bool) (start n : ℕ) → b ≡ (b || (leb start n && ltb n start))
span_none b start n =
    let no : (leb start n && ltb n start) ≡ false = grind (arith, nat_tests) in
    rw no (sym (or-false b))

pub span_more : (pages old : List ℕ) (start page n : ℕ) → start ≤ page → is_among pages n ≡ (is_among old n || (leb start n && ltb n page)) → is_among (pages ++ page ∷ []) n ≡ (is_among old n || (leb start n && ltb n (page + 1)))
span_more pages old start page n order before =
    let one : ((leb start n && ltb n page) || (eqb page n || false)) ≡ (leb start n && ltb n (page + 1)) = grind (arith, nat_tests) in
    list_any-append (λ (m : ℕ). eqb m n) pages (page ∷ [])
    ∙ ap (λ (b : Bool). b || (eqb page n || false)) before
    ∙ joined (is_among old n) (leb start n && ltb n page) (eqb page n) _ one

-- the pages of one segment more
pub met_more : (pages old : List ℕ) (segments : List Segment) (i : ℕ) (segment : Segment) (n : ℕ) → i < length segments → segment ≡ get_or segments i segment → is_among old n ≡ is_met (take i segments) n → is_among pages n ≡ (is_among old n || meets_page n segment) → is_among pages n ≡ is_met (take (i + 1) segments) n
met_more pages old segments i segment n within item before now =
    now
    ∙ ap (λ (b : Bool). b || meets_page n segment) before
    ∙ ap (λ (s : Segment). is_met (take i segments) n || meets_page n s) item
    ∙ sym (list_any_more (meets_page n) segments i segment within)

pub among_at : (pages : List ℕ) (k d : ℕ) → k < length pages → is_among pages (get_or pages k d) ≡ true
among_at pages k d within =
    list_any-from_Any (λ (m : ℕ). eqb m (get_or pages k d)) pages (k, get_or pages k d, within, get_or_default pages k (get_or pages k d) d within, eq-eqb (get_or pages k d) (get_or pages k d) refl)

-- a page that a segment meets is below the stack
low_page : (segments : List Segment) (n : ℕ) → IsSegmentList segments → is_met segments n ≡ true → n < stack_page
low_page segments n list met =
    let (k, x, within, same, passes) = Any-from_list_any (meets_page n) segments met in
    let one : IsSegment x = subst IsSegment same (list.each k x within) in
    let inside = one.within in
    grind (arith, nat_tests)

-- put in order
pub in_order : (pages sorted : List ℕ) (segments : List Segment) → IsSegmentList segments → ((n : ℕ) → is_among pages n ≡ is_met segments n) → IsPermutation pages sorted → IsSorted nat_cmp sorted → AreMet sorted segments
in_order pages sorted segments list met order sort =
    let same : (n : ℕ) → is_among sorted n ≡ is_met segments n = λ n. sym (list_any-IsPermutation (λ (m : ℕ). eqb m n) pages sorted order) ∙ met n in
    record {
      met = same;
      rising = IsNonDecreasingBy-from_sort (λ (n : ℕ). n) sorted sort;
      low = λ k d within. low_page segments (get_or sorted k d) list (sym (same (get_or sorted k d)) ∙ among_at sorted k d within);
    }

-- pages in order, of which those before a place are below a number
module _ (pages : List ℕ) (rising : IsNonDecreasingBy (λ (n : ℕ). n) pages) (i from : ℕ) (below : (k d : ℕ) → k < i → get_or pages k d < from) where
  -- none of them stands between that number and the one at the place
  unmet : (page n : ℕ) → page ≡ get_or pages i page → from ≤ n → n < page → is_among pages n ≡ false
  unmet page n item above under =
      elim (cases_Bool (is_among pages n)) [
        | inl among ↦
            let (k, x, within, same, passes) = Any-from_list_any (λ (m : ℕ). eqb m n) pages among in
            let is : x ≡ n = eqb-true x n passes in
            elim (cases_lt k i) [
              | inl lt ↦ let low = below k x lt in absurd (omega (arith, low, same, is, above))
              | inr le ↦
                  let up : get_or pages i x ≤ get_or pages k x = rising i k x le within in
                  let first : get_or pages i x ≡ get_or pages i page = get_or_default pages i x page (omega (arith, le, within)) in
                  absurd (omega (arith, up, first, item, same, is, under))
            ]
        | inr fails ↦ fails
      ]

  pub blank_more : (page : ℕ) → i < length pages → page ≡ get_or pages i page → from ≤ page → map (entry_of_segments []) (numbers_below (is_among pages) from) ++ entry_of_segments [] page ∷ [] ≡ map (entry_of_segments []) (numbers_below (is_among pages) (page + 1))
  blank_more page within item above =
      let among : is_among pages page ≡ true = ap (is_among pages) item ∙ among_at pages i page within in
      sym (ap (map (entry_of_segments [])) (one_more (is_among pages) page among ∙ ap (λ (ns : List ℕ). ns ++ page ∷ []) (none_between (is_among pages) from page above (λ n over under. unmet page n item over under)))
      ∙ map-append (entry_of_segments []) (numbers_below (is_among pages) from) (page ∷ []))

  pub below_more : (page next : ℕ) → page ≡ get_or pages i page → i < length pages → from ≤ next → page < next → (k d : ℕ) → k < i + 1 → get_or pages k d < next
  below_more page next item within order under k d lt =
      elim (cases_lt k i) [
        | inl before ↦ let low = below k d before in omega (arith, low, order)
        | inr after ↦
            let at : k ≡ i = omega arith in
            rw at (let same = get_or_default pages i d page within in omega (arith, same, item, under))
      ]

  -- all of them
  pub blank_all : length pages ≤ i → from ≤ stack_page → map (entry_of_segments []) (numbers_below (is_among pages) from) ≡ map (entry_of_segments []) (numbers_below (is_among pages) stack_page)
  blank_all done order =
      sym (ap (map (entry_of_segments [])) (none_between (is_among pages) from stack_page order (λ n over under.
      elim (cases_Bool (is_among pages n)) [
        | inl among ↦
            let (k, x, within, same, passes) = Any-from_list_any (λ (m : ℕ). eqb m n) pages among in
            let is : x ≡ n = eqb-true x n passes in
            let low = below k x (omega (arith, within, done)) in
            absurd (omega (arith, low, same, is, over))
        | inr fails ↦ fails
      ])))

pub blank_none : (pages : List ℕ) → [] ≡ map (entry_of_segments []) (numbers_below (is_among pages) 0)
blank_none pages = sym (ap (map (entry_of_segments [])) (below_zero (is_among pages)))

pub blank_is : (page : ℕ) → record { page = page; perm = record { bits = 0 } } ≡ entry_of_segments [] page
unfolding page_permissions
blank_is page = refl
