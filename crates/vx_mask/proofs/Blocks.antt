-- Words of mask logic in blocks: where they are read, how far the blocks go, and a block that is put behind those before.
use Rattle.std.proofs.Common.{◌≡◌, ℕ, suc, ◌+◌, ◌-◌, ◌*◌, ◌/◌, ◌<◌, ◌≤◌, IsTrue, Fits, w64, List, length, length-set, slice_index, slice_set, refl, sym, ap, ◌∙◌, subst, ⊎_elim, arith, eq-or-lt_of_le, mul-le-mul_right, div-mul-le_self}
use Rattle.std.proofs.Math.Nat.{lt-div-mul-add}
use Rattle.std.proofs.lemmas.Bool.{cases_lt}
use Rattle.std.proofs.lemmas.Grind.{get_or-set_at}
use Rattle.std.proofs.lemmas.List.{get_or-set_other}
use Rattle.vx_rows.specs.Families.{operands_of}
use Rattle.vx_rows.specs.declared.family.Operand.{Operand}
use Rattle.vx_rows.specs.declared.family.Operands.{Operands}
use Rattle.vx_rows.specs.declared.row.First.TheVariants.{Vector}
use Rattle.vx_vector.specs.Laws.{IsPlaced, IsSound}
use Rattle.vx_vector.specs.Reading.{Reading}
use Rattle.vx_vector.specs.Words.{destination_words}
use Rattle.vx_vstate.specs.Registers.{place_of, words_of_all}
use Rattle.vx_operands.proofs.Even.{vs1_is}
use Rattle.vx_operands.proofs.Filled.{IsFilledBelow}
use Rattle.vx_operands.proofs.Places.{registers_small}
use Rattle.vx_mask.specs.Kinds.{is_logic}
use Rattle.vx_mask.proofs.Families.{logic_operands, mask_word, mask_place}

-- ---- where the words are

-- word w of a group that begins at `start`
pub record IsRead (r : Reading) (start register w : ℕ) : Type 0 where
  pub at : start + w ≡ place_of r.at.vlen register w
  pub inside : start + w < length r.words
  pub small : Fits w64 (start + w)

read : (r : Reading) (start register w : ℕ) → IsSound r → start ≡ place_of r.at.vlen register 0 → place_of r.at.vlen register w < words_of_all r.at.vlen → IsRead r start register w
read r start register w sound e place =
    let most = registers_small r.at.vlen sound.setting.vlen_in_range in
    record {
      at = omega (arith, e);
      inside = omega (arith, place, sound.count, e);
      small = omega (arith, place, e, most);
    }

module _ (r : Reading) (start w : ℕ) (sound : IsSound r) (h : IsTrue (is_logic r.family)) (within : w < length (destination_words r)) where
  pub reads_vd : start ≡ place_of r.at.vlen r.places.vd 0 → IsRead r start r.places.vd w
  reads_vd e =
      let o = logic_operands r.family h in
      read r start r.places.vd w sound e (mask_word r w sound (ap (λ (o : Operands). o.destination) o) within).place

  pub reads_vs2 : start ≡ place_of r.at.vlen r.places.vs2 0 → IsRead r start r.places.vs2 w
  reads_vs2 e =
      let o = logic_operands r.family h in
      let m = mask_word r w sound (ap (λ (o : Operands). o.destination) o) within in
      read r start r.places.vs2 w sound e (mask_place r (operands_of r.family).vs2 r.places.vs2 w (ap (λ (o : Operands). o.vs2) o) sound.vs2 m.below)

  pub reads_vs1 : r.first ≡ Vector → start ≡ place_of r.at.vlen r.places.vs1 0 → IsRead r start r.places.vs1 w
  reads_vs1 v e =
      let o = logic_operands r.family h in
      let m = mask_word r w sound (ap (λ (o : Operands). o.destination) o) within in
      let placed = subst (λ (o : Operand). IsPlaced r o r.places.vs1) (vs1_is r v) sound.vs1 in
      read r start r.places.vs1 w sound e (mask_place r (operands_of r.family).vs1 r.places.vs1 w (ap (λ (o : Operands). o.vs1) o) placed m.below)

pub few_words : (r : Reading) (w : ℕ) → IsSound r → IsTrue (is_logic r.family) → w < length (destination_words r) → w < 32
few_words r w sound h within = (mask_word r w sound (ap (λ (o : Operands). o.destination) (logic_operands r.family h)) within).few

-- ---- how far the blocks go

module _ (done count size : ℕ) (order : done ≤ count) where
  pub blocks_end : done + (count - done) / size * size ≤ count
  blocks_end =
      let most = div-mul-le_self (count - done) size in
      omega (arith, most, order)

  pub block_end : (n : ℕ) → n < (count - done) / size → done + n * size + size ≤ count
  block_end n l =
      let next : suc n ≤ (count - done) / size = l in
      let rows = mul-le-mul_right size next in
      let most = div-mul-le_self (count - done) size in
      omega (arith, rows, most, order)

  pub next_block : (n : ℕ) → done + (n + 1) * size ≡ done + n * size + size
  next_block n = omega arith

  pub few_left : 0 < size → count < done + (count - done) / size * size + size
  few_left some =
      let least : count - done < (count - done) / size * size + size = lt-div-mul-add some in
      omega (arith, least, order)

-- ---- a block that is put

-- the first n words of a block are put, from word first on
pub record IsPutFrom (block before : List ℕ) (first n : ℕ) (words : List ℕ) : Type 0 where
  pub room : length words ≡ length before
  pub kept : (k : ℕ) → k < first → slice_index words k ≡ slice_index before k
  pub put : (k : ℕ) → k < n → slice_index words (first + k) ≡ slice_index block k

pub put_none : (block words : List ℕ) (first : ℕ) → IsPutFrom block words first 0 words
put_none block words first = record { room = refl; kept = λ k l. refl; put = λ k l. absurd (omega (arith, l)) }

pub put_more : (block before : List ℕ) (first n value : ℕ) (words : List ℕ) → IsPutFrom block before first n words → first + n < length before → value ≡ slice_index block n → IsPutFrom block before first (n + 1) (slice_set words (first + n) value)
put_more block before first n value words h l is = record {
  room = length-set words (first + n) value ∙ h.room;
  kept = λ k b. get_or-set_other words (first + n) k value 0 (λ e. omega (arith, e, b)) ∙ h.kept k b;
  put = λ k b.
      let at_most : k ≤ n = omega (arith, b) in
      let within : first + n < length words = omega (arith, h.room, l) in
      ⊎_elim
      (λ e. get_or-set_at words (first + n) (first + k) value 0 (ap (λ j. first + j) e) within ∙ is ∙ ap (slice_index block) (sym e))
      (λ less. get_or-set_other words (first + n) (first + k) value 0 (λ e. omega (arith, e, less)) ∙ h.put k less)
      (eq-or-lt_of_le at_most);
}

-- so the words are filled up to the block's end
pub filled_block : (f : ℕ → ℕ) (size first n next : ℕ) (block before words : List ℕ) → next ≡ first + n → IsFilledBelow f size first before → ((k : ℕ) → k < n → slice_index block k ≡ f (first + k)) → length words ≡ length before → ((k : ℕ) → k < first → slice_index words k ≡ slice_index before k) → ((k : ℕ) → k < n → slice_index words (first + k) ≡ slice_index block k) → IsFilledBelow f size next words
filled_block f size first n next block before words e h is room kept put = record {
  room = room ∙ h.room;
  made = λ k l.
      ⊎_elim
      (λ (low : k < first). kept k low ∙ h.made k low)
      (λ (high : first ≤ k).
      let inside : k - first < n = omega (arith, l, high, e) in
      let at : first + (k - first) ≡ k = omega (arith, high) in
      sym (ap (slice_index words) at) ∙ put (k - first) inside ∙ is (k - first) inside ∙ ap f at)
      (cases_lt k first);
}
