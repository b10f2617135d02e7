-- The fold over the elements, element by element, and the words that it leaves.
use Rattle.std.proofs.Common.{◌≡◌, ◌≢◌, ℕ, zero, suc, ◌*◌, ◌%◌, ◌^◌, ◌<◌, ◌≤◌, IsTrue, List, length, Option, Some, None, slice_index, refl, sym, ap, ◌∙◌, subst, ⊎_elim, eq-or-lt_of_le, arith}
use Rattle.std.proofs.Math.Nat.{mod-mod}
use Rattle.vx_base.specs.Options.{is_register_length}
use Rattle.vx_vstate.specs.Vtype.{vlmax}
use Rattle.vx_bits.specs.declared.saturation.Sat.{Sat}
use Rattle.vx_packed.specs.Joined.{lane, joined}
use Rattle.vx_vstate.specs.Registers.{words_of_register, place_of, element, element_word, with_element, is_element_width}
use Rattle.vx_vector.specs.Arithmetic.{becomes, with_result, after_elements}
use Rattle.vx_vector.specs.Laws.{value_after, element_after}
use Rattle.vx_vector.specs.Reading.{Reading, destination_width, element_of}

-- ---- what the crates below say

pub record ElementLaws : Type 0 where
  pub same : (vlen : ℕ) (words : List ℕ) (register width index value : ℕ) → place_of vlen register (element_word width index) < length words → element vlen (with_element vlen words register width index value) register width index ≡ value % 2 ^ width
  pub other : (vlen : ℕ) (words : List ℕ) (register width index value other : ℕ) → index ≢ other → element vlen (with_element vlen words register width index value) register width other ≡ element vlen words register width other
  pub place : (vlen : ℕ) (words : List ℕ) (register width index value place : ℕ) → place_of vlen register (element_word width index) ≢ place → slice_index (with_element vlen words register width index value) place ≡ slice_index words place
  pub count : (vlen : ℕ) (words : List ℕ) (register width index value : ℕ) → length (with_element vlen words register width index value) ≡ length words
  pub bits : (vlen : ℕ) (words : List ℕ) (register width index value place : ℕ) → IsTrue (is_element_width width) → slice_index words place < 2 ^ 64 → slice_index (with_element vlen words register width index value) place < 2 ^ 64
  pub mask : (vlen vtype index : ℕ) → IsTrue (is_register_length vlen) → index < vlmax vlen vtype → element_word 1 index < words_of_register vlen
  pub whole : (width n word : ℕ) → joined width n (lane width word) ≡ word % 2 ^ (n * width)
  pub alike : (width n : ℕ) (f g : ℕ → ℕ) → ((k : ℕ) → k < n → f k % 2 ^ width ≡ g k % 2 ^ width) → joined width n f ≡ joined width n g

-- ---- options

pub none_from : {X : Type 0} (o : Option X) → ((x : X) → o ≡ Some x → ⊥) → o ≡ None
none_from None h = refl
none_from (Some x) h = absurd (h x refl)

-- ---- the fold

pub after-suc : (r : Reading) (n : ℕ) → after_elements r (suc n) ≡ with_result r n (becomes r n) (after_elements r n)
unfolding after_elements
after-suc r n = refl

pub after-none : (r : Reading) → after_elements r 0 ≡ r.words
unfolding after_elements
after-none r = refl

result-count : (e : ElementLaws) (r : Reading) (n : ℕ) (b : Option Sat) (words : List ℕ) → length (with_result r n b words) ≡ length words
result-count e r n None words = refl
result-count e r n (Some s) words = e.count r.at.vlen words r.places.vd (destination_width r) n s.value

pub after-count : (e : ElementLaws) (r : Reading) (n : ℕ) → length (after_elements r n) ≡ length r.words
after-count e r zero = ap length (after-none r)
after-count e r (suc n) = ap length (after-suc r n) ∙ result-count e r n (becomes r n) (after_elements r n) ∙ after-count e r n

result-other : (e : ElementLaws) (r : Reading) (n i : ℕ) (b : Option Sat) (words : List ℕ) → n ≢ i → element r.at.vlen (with_result r n b words) r.places.vd (destination_width r) i ≡ element r.at.vlen words r.places.vd (destination_width r) i
result-other e r n i None words h = refl
result-other e r n i (Some s) words h = e.other r.at.vlen words r.places.vd (destination_width r) n s.value i h

result-same : (e : ElementLaws) (r : Reading) (n : ℕ) (b : Option Sat) (words : List ℕ) → ((s : Sat) → b ≡ Some s → place_of r.at.vlen r.places.vd (element_word (destination_width r) n) < length words) → element r.at.vlen (with_result r n b words) r.places.vd (destination_width r) n % 2 ^ destination_width r ≡ value_after b (element r.at.vlen words r.places.vd (destination_width r) n) % 2 ^ destination_width r
result-same e r n None words h = refl
result-same e r n (Some s) words h = ap (λ m. m % 2 ^ destination_width r) (e.same r.at.vlen words r.places.vd (destination_width r) n s.value (h s refl)) ∙ mod-mod s.value (2 ^ destination_width r)

-- an element that isn't reached is as it was
pub after-above : (e : ElementLaws) (r : Reading) (n i : ℕ) → n ≤ i → element r.at.vlen (after_elements r n) r.places.vd (destination_width r) i ≡ element_of r r.places.vd (destination_width r) i
after-above e r zero i h = ap (λ words. element r.at.vlen words r.places.vd (destination_width r) i) (after-none r)
after-above e r (suc n) i h =
    let ne : n ≢ i = λ q. absurd (omega arith) in
    ap (λ words. element r.at.vlen words r.places.vd (destination_width r) i) (after-suc r n)
    ∙ result-other e r n i (becomes r n) (after_elements r n) ne
    ∙ after-above e r n i (omega arith)

-- an element that was reached is what it becomes
pub after-below : (e : ElementLaws) (r : Reading) → ((i : ℕ) (s : Sat) → becomes r i ≡ Some s → place_of r.at.vlen r.places.vd (element_word (destination_width r) i) < length r.words) → (n i : ℕ) → i < n → element r.at.vlen (after_elements r n) r.places.vd (destination_width r) i % 2 ^ destination_width r ≡ element_after r i % 2 ^ destination_width r
after-below e r room zero i h = absurd (omega arith)
after-below e r room (suc n) i h =
    let at_most : i ≤ n = omega arith in
    ap (λ words. element r.at.vlen words r.places.vd (destination_width r) i % 2 ^ destination_width r) (after-suc r n)
    ∙ ⊎_elim
    (λ q. let p : n ≡ i = sym q in
    subst (λ j. element r.at.vlen (with_result r n (becomes r n) (after_elements r n)) r.places.vd (destination_width r) j % 2 ^ destination_width r ≡ element_after r j % 2 ^ destination_width r) p
    (result-same e r n (becomes r n) (after_elements r n) (λ s b. subst (λ m. place_of r.at.vlen r.places.vd (element_word (destination_width r) n) < m) (sym (after-count e r n)) (room n s b))
    ∙ ap (λ m. value_after (becomes r n) m % 2 ^ destination_width r) (after-above e r n n (omega arith))))
    (λ l. let ne : n ≢ i = λ q. absurd (omega arith) in
    ap (λ m. m % 2 ^ destination_width r) (result-other e r n i (becomes r n) (after_elements r n) ne)
    ∙ after-below e r room n i l)
    (eq-or-lt_of_le at_most)
