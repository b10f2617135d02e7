-- What a search for a page finds.
use Rattle.std.proofs.Common.{◌≡◌, ℕ, zero, suc, ◌<◌, ◌≤◌, List, [], ◌∷◌, length, get_or, Ok, Err, Some, None, refl, sym, ap, arith}
use Rattle.std.specs.Prelude.{Option, Result}
use Rattle.std.specs.List.Sorted.{IsSearchInRange, IsBinarySearchResult, IsNonDecreasingBy, IsPartitionPoint}
use Rattle.std.specs.declared.cmp.Ordering.TheVariants.{Less, Greater}
use Rattle.std.specs.Ordering.{nat_cmp, ordering_index}
use Rattle.std.proofs.lemmas.Cmp.{ranked}
use Rattle.std.proofs.lemmas.List.Sorted.{IsNonDecreasingBy-from_default}
use Rattle.std.proofs.lemmas.Bool.{eq-eqb, ne_eqb}
use Rattle.std.proofs.lemmas.Bool.Decides.{nat_tests}
use Rattle.vx_paged.specs.Framed.{IsPlacement, framed}
use Rattle.vx_paged.specs.declared.placement.FramedPage.{FramedPage}
use Rattle.vx_paged.proofs.Shown.{rising}

abbrev AreRising : List FramedPage → Type 0
AreRising placement = (i j : ℕ) (d : FramedPage) → i < j → j < length placement → (get_or placement i d).entry.page < (get_or placement j d).entry.page

pub framed_at : (placement : List FramedPage) → AreRising placement → (number k : ℕ) (d : FramedPage) → k < length placement → (get_or placement k d).entry.page ≡ number → framed number placement ≡ Some (get_or placement k d)
framed_at [] rise number k d below same = absurd (omega arith)
framed_at (p ∷ placement) rise number zero d below same = rw (eq-eqb p.entry.page number same) refl
framed_at (p ∷ placement) rise number (suc k) d below same =
    rw (ne_eqb p.entry.page number (λ here. omega (arith, rise 0 (suc k) d (omega arith) below, same, here)))
    (framed_at placement (λ i j e less within. rise (suc i) (suc j) e (omega arith) (omega arith)) number k d (omega arith) same)

framed_none : (placement : List FramedPage) (number : ℕ) → ((k : ℕ) (d : FramedPage) → k < length placement → (get_or placement k d).entry.page ≡ number → ⊥) → framed number placement ≡ None
framed_none [] number none = refl
framed_none (p ∷ placement) number none =
    rw (ne_eqb p.entry.page number (none 0 p (omega arith))) (framed_none placement number (λ k d below. none (suc k) d (omega arith)))

-- the answer of a search
abbrev pub answer_at : List FramedPage → (d : FramedPage) → Result ℕ ℕ → Option FramedPage
answer_at placement d (Ok k) = Some (get_or placement k d)
answer_at placement d (Err k) = None

module _ (placement : List FramedPage) (is : IsPlacement placement) (number : ℕ) (d : FramedPage) where
  comparisons_rise : IsNonDecreasingBy (λ (p : FramedPage). ordering_index (nat_cmp p.entry.page number)) placement
  comparisons_rise = IsNonDecreasingBy-from_default (λ (p : FramedPage). ordering_index (nat_cmp p.entry.page number)) placement d (λ i j le within.
      let pages_rise : (get_or placement i d).entry.page ≤ (get_or placement j d).entry.page = grind (arith, rising placement is i j d, λ (same : i ≡ j). ap (λ (n : ℕ). (get_or placement n d).entry.page) same) in
      grind (arith, nat_tests))

  absent : (k : ℕ) → IsPartitionPoint (λ (p : FramedPage). nat_cmp p.entry.page number ≡ Less) (λ (p : FramedPage). nat_cmp p.entry.page number ≡ Greater) placement k → (i : ℕ) (e : FramedPage) → i < length placement → (get_or placement i e).entry.page ≡ number → ⊥
  absent k parted i e below same =
      let before : i < k → (get_or placement i e).entry.page < number = λ lt. ranked _ number _ (sym (parted.0 i e (omega arith) lt)) in
      let after : k ≤ i → number < (get_or placement i e).entry.page = λ le. ranked _ number _ (sym (parted.1 i e le below)) in
      grind (arith, before, after)

  -- a binary search by number ends at the page, or there is none
  pub searched : (r : Result ℕ ℕ) → IsSearchInRange r (length placement) → IsBinarySearchResult (λ (p : FramedPage). nat_cmp p.entry.page number) placement r → answer_at placement d r ≡ framed number placement
  searched (Ok k) within equal = sym (framed_at placement (rising placement is) number k d within (ranked _ number _ (sym (equal d))))
  searched (Err k) within parted = sym (framed_none placement number (absent k (parted comparisons_rise)))
