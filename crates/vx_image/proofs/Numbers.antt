-- The numbers below one that pass a test, and the entries of pages with these numbers.
use Rattle.std.proofs.Common.{◌≡◌, ℕ, zero, suc, ◌+◌, ◌-◌, ◌<◌, ◌≤◌, Bool, true, false, inl, inr, if◌then◌else◌, List, [], ◌∷◌, ◌++◌, length, map, get_or, refl, sym, ap, ◌∙◌, append-nil, add-one, add-zero, arith}
use Rattle.std.proofs.Math.ListN.{length-map}
use Rattle.std.proofs.Math.Nat.{add-suc}
use Rattle.std.specs.List.{All, AllPairs}
use Rattle.std.proofs.lemmas.Bool.{cases_Bool}
use Rattle.std.proofs.lemmas.List.{get_or-map}
use Rattle.std.proofs.lemmas.List.Elements.{All-push}
use Rattle.std.proofs.lemmas.List.Quantifiers.{all_pairs_push}
use Rattle.vx_base.specs.declared.perm.PageEntry.{PageEntry}
use Rattle.vx_elf.specs.declared.segment.Segment.{Segment}
use Rattle.vx_image.specs.Building.{numbers_below, entry_of_segments}
use Rattle.vx_image.specs.Kept.{IsRising, entry_at}

module _ (p : ℕ → Bool) where
  -- one that passes
  pub one_more : (n : ℕ) → p n ≡ true → numbers_below p (n + 1) ≡ numbers_below p n ++ n ∷ []
  unfolding numbers_below
  one_more n passes =
      ap (numbers_below p) (add-one n)
      ∙ ap (λ (b : Bool). numbers_below p n ++ (if b then n ∷ [] else [])) passes

  skipped : (start count : ℕ) → ((n : ℕ) → start ≤ n → n < start + count → p n ≡ false) → numbers_below p (start + count) ≡ numbers_below p start
  unfolding numbers_below
  skipped start zero fails = ap (numbers_below p) (add-zero start)
  skipped start (suc count) fails =
      ap (numbers_below p) (add-suc start count)
      ∙ ap (λ (b : Bool). numbers_below p (start + count) ++ (if b then (start + count) ∷ [] else [])) (fails (start + count) (omega arith) (omega arith))
      ∙ append-nil (numbers_below p (start + count))
      ∙ skipped start count (λ n above below. fails n above (omega arith))

  -- none from one number to another
  pub none_between : (start end : ℕ) → start ≤ end → ((n : ℕ) → start ≤ n → n < end → p n ≡ false) → numbers_below p end ≡ numbers_below p start
  none_between start end order fails =
      let there : start + (end - start) ≡ end = omega arith in
      sym (ap (numbers_below p) there) ∙ skipped start (end - start) (λ n above below. fails n above (omega arith))

  pub below_zero : numbers_below p 0 ≡ []
  unfolding numbers_below
  below_zero = refl

-- by the same test
pub same_numbers : (p q : ℕ → Bool) → ((n : ℕ) → p n ≡ q n) → (n : ℕ) → numbers_below p n ≡ numbers_below q n
unfolding numbers_below
same_numbers p q same zero = refl
same_numbers p q same (suc n) =
    ap (λ (ns : List ℕ). ns ++ (if p n then n ∷ [] else [])) (same_numbers p q same n)
    ∙ ap (λ (b : Bool). numbers_below q n ++ (if b then n ∷ [] else [])) (same n)

-- they rise, and are below it
record AreNumbersBelow (numbers : List ℕ) (n : ℕ) : Type 0 where
  pub rising : AllPairs (λ (a b : ℕ). a < b) numbers
  pub below : All (λ (a : ℕ). a < n) numbers

are_below : (p : ℕ → Bool) (n : ℕ) → AreNumbersBelow (numbers_below p n) n
unfolding numbers_below
are_below p zero = record { rising = λ i j d before within. absurd (omega arith); below = λ k d within. absurd (omega arith) }
are_below p (suc n) =
    let before = are_below p n in
    let lower : All (λ (a : ℕ). a < suc n) (numbers_below p n) = λ k d within. let low = before.below k d within in omega arith in
    elim (cases_Bool (p n)) [
      | inl passes ↦ rw passes (record {
        rising = all_pairs_push (λ (a b : ℕ). a < b) (numbers_below p n) n before.rising (λ k d within. before.below k d within);
        below = All-push (λ (a : ℕ). a < suc n) (numbers_below p n) n lower (omega arith);
      })
      | inr fails ↦ rw (fails, append-nil (numbers_below p n)) (record { rising = before.rising; below = lower })
    ]

-- entries of such pages rise
pub entries_of_rise : (segments : List Segment) (p : ℕ → Bool) (n : ℕ) → IsRising (map (entry_of_segments segments) (numbers_below p n))
entries_of_rise segments p n i j before within =
    let numbers = numbers_below p n in
    let long : length (map (entry_of_segments segments) numbers) ≡ length numbers = length-map numbers (entry_of_segments segments) in
    let one : (entry_at (map (entry_of_segments segments) numbers) i).page ≡ get_or numbers i 0 =
    ap (λ (e : PageEntry). e.page) (get_or-map (entry_of_segments segments) numbers i 0 (record { page = 0; perm = record { bits = 0 } }) (omega (arith, long, before, within))) in
    let other : (entry_at (map (entry_of_segments segments) numbers) j).page ≡ get_or numbers j 0 =
    ap (λ (e : PageEntry). e.page) (get_or-map (entry_of_segments segments) numbers j 0 (record { page = 0; perm = record { bits = 0 } }) (omega (arith, long, within))) in
    let rise = (are_below p n).rising i j 0 before (omega (arith, long, within)) in
    omega (arith, one, other, rise)
