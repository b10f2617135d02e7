-- Batches of one element each, and their accesses.
use Rattle.std.proofs.Common.{◌≡◌, ℕ, zero, suc, ◌+◌, ◌-◌, ◌≤◌, ◌<◌, Bool, true, false, List, [], ◌∷◌, refl, sym, ap, ◌∙◌, arith}
use Rattle.std.specs.Prelude.{nat_lt, map, flat_map, if◌then◌else◌}
use Rattle.std.specs.List.{range_with_len}
use Rattle.std.proofs.lemmas.List.{append-nil}
use Rattle.std.proofs.lemmas.Bool.{ltb-true, ltb-false}
use Rattle.vx_vector.specs.Accesses.{Movement, movement_count, accesses_of_element}
use Rattle.vx_vector.specs.Batches.{batch_at, next_batches, batches, accesses_of_batch}
use Rattle.vx_flat.specs.Transfers.{Transfer}
use Rattle.vx_episode.specs.Footprint.{Batch, moved_batch}
use Rattle.vx_pipe.specs.Transfers.{element_batch, element_batches}

-- a batch of one element at the most is one of one element: as the law of the longest run says
abbrev pub EndsBehindOne : Type 0
EndsBehindOne = (m : Movement) (lanes from : ℕ) → (from < (batch_at m lanes 1 from).after) × ((batch_at m lanes 1 from).after ≤ from + 1)

one-at : EndsBehindOne → (m : Movement) (lanes from : ℕ) → batch_at m lanes 1 from ≡ record { from = from; after = from + 1 }
one-at law m lanes from =
    let bounds = law m lanes from in
    let some = bounds.0 in
    let few = bounds.1 in
    let e : (batch_at m lanes 1 from).after ≡ from + 1 = omega arith in
    (λ j. record { from = from; after = e j })

none-left : (count from : ℕ) → count ≤ from + 0 → count - from ≡ 0
none-left count from h = omega arith

module _ (law : EndsBehindOne) (t : Transfer) (lanes : ℕ) where
  abbrev count : ℕ
  count = movement_count t.movement

  at-test : (n from : ℕ) (b : Bool) → nat_lt from count ≡ b → count ≤ from + suc n
      → (count ≤ from + 1 + n → map (moved_batch t) (next_batches t.movement lanes 1 n (from + 1)) ≡ element_batches t (count - (from + 1)) (from + 1))
      → map (moved_batch t) (if b then batch_at t.movement lanes 1 from ∷ next_batches t.movement lanes 1 n (batch_at t.movement lanes 1 from).after else []) ≡ element_batches t (count - from) from
  at-test n from true e few rest =
      let below : from < count = ltb-true from count e in
      let one : count - from ≡ suc (count - (from + 1)) = omega arith in
      (λ j. moved_batch t (one-at law t.movement lanes from j) ∷ map (moved_batch t) (next_batches t.movement lanes 1 n (one-at law t.movement lanes from j).after))
      ∙ ap (λ (bs : List Batch). element_batch t from ∷ bs) (rest (omega arith))
      ∙ ap (λ (k : ℕ). element_batches t k from) (sym one)
  at-test n from false e few rest =
      let over : count ≤ from = ltb-false from count e in
      let none : count - from ≡ 0 = omega arith in
      ap (λ (k : ℕ). element_batches t k from) (sym none)

  next-are : (n from : ℕ) → count ≤ from + n → map (moved_batch t) (next_batches t.movement lanes 1 n from) ≡ element_batches t (count - from) from
  next-are zero from few = ap (λ (k : ℕ). element_batches t k from) (sym (none-left count from few))
  next-are (suc n) from few = at-test n from (nat_lt from count) refl few (next-are n (from + 1))

  pub batches-are : map (moved_batch t) (batches t.movement lanes 1) ≡ element_batches t (count - t.movement.at.vstart) t.movement.at.vstart
  batches-are = next-are count t.movement.at.vstart (omega arith)

-- the accesses of a batch of one element
pub accesses-are : (m : Movement) (i : ℕ) → accesses_of_batch m (record { from = i; after = i + 1 }) ≡ accesses_of_element m i
accesses-are m i =
    let one : i + 1 - i ≡ 1 = omega arith in
    ap (λ (n : ℕ). flat_map (accesses_of_element m) (range_with_len i n)) one ∙ append-nil (accesses_of_element m i)
