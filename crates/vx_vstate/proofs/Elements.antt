-- Elements of the registers, of which one is set.
use Rattle.std.proofs.Common.{◌≡◌, ℕ, suc, ◌+◌, ◌%◌, ◌^◌, ◌<◌, ◌≤◌, ◌≢◌, ⊎_elim, inl, inr, List, length, slice_index, slice_set, sym, ap, ◌∙◌, arith}
use Rattle.std.proofs.lemmas.List.{get_or-set_same, get_or-set_other, length-set, set_past}
use Rattle.std.proofs.lemmas.Bool.{cases_lt, cases_eq}
use Rattle.std.proofs.lemmas.Nat.{same_from_place}
use Rattle.std.proofs.Math.Nat.{mul-le-mul_right}
use Rattle.vx_base.specs.Numbers.{field}
use Rattle.vx_vstate.specs.Registers.{words_of_register, place_of, element_word, element_bit, element, with_field, with_element, AreApart}
use Rattle.vx_vstate.proofs.Fields.{field-with_same, field-with_below, field-with_above}

pub element-with_same : (vlen : ℕ) (words : List ℕ) (register width index value : ℕ) → place_of vlen register (element_word width index) < length words → element vlen (with_element vlen words register width index value) register width index ≡ value % 2 ^ width
element-with_same vlen words register width index value within =
    let place = place_of vlen register (element_word width index) in
    let word = slice_index words place in
    ap (λ n. field n (element_bit width index) width) (get_or-set_same words place (with_field word (element_bit width index) width value) 0 within)
    ∙ field-with_same word (element_bit width index) width value

-- a word that is replaced by one that has the same in a field
field-set_same : (words : List ℕ) (place other n low count : ℕ) → place ≡ other → field n low count ≡ field (slice_index words place) low count → field (slice_index (slice_set words place n) other) low count ≡ field (slice_index words other) low count
field-set_same words place other n low count e same = ⊎_elim there past (cases_lt place (length words))
  where
    there : place < length words → field (slice_index (slice_set words place n) other) low count ≡ field (slice_index words other) low count
    there h =
        ap (λ k. field (slice_index (slice_set words place n) k) low count) (sym e)
        ∙ ap (λ k. field k low count) (get_or-set_same words place n 0 h)
        ∙ same
        ∙ ap (λ k. field (slice_index words k) low count) e

    past : length words ≤ place → field (slice_index (slice_set words place n) other) low count ≡ field (slice_index words other) low count
    past h = ap (λ (ws : List ℕ). field (slice_index ws other) low count) (set_past words place n h)

field-set_other : (words : List ℕ) (place other n low count : ℕ) → place ≢ other → field (slice_index (slice_set words place n) other) low count ≡ field (slice_index words other) low count
field-set_other words place other n low count ne = ap (λ k. field k low count) (get_or-set_other words place other n 0 (λ e. ne (sym e)))

pub element-with_other : (vlen : ℕ) (words : List ℕ) (register width index value other_register other_width other_index : ℕ) → AreApart vlen register width index other_register other_width other_index → element vlen (with_element vlen words register width index value) other_register other_width other_index ≡ element vlen words other_register other_width other_index
element-with_other vlen words register width index value other_register other_width other_index apart = ⊎_elim one two (cases_eq place other)
  where
    place : ℕ
    place = place_of vlen register (element_word width index)

    other : ℕ
    other = place_of vlen other_register (element_word other_width other_index)

    n : ℕ
    n = with_field (slice_index words place) (element_bit width index) width value

    Goal : Type 0
    Goal = element vlen (with_element vlen words register width index value) other_register other_width other_index ≡ element vlen words other_register other_width other_index

    two : (place ≡ other → ⊥) → Goal
    two ne = field-set_other words place other n (element_bit other_width other_index) other_width ne

    one : place ≡ other → Goal
    one e = ⊎_elim (λ ne. absurd (ne e)) (⊎_elim first last) apart
      where
        first : element_bit width index + width ≤ element_bit other_width other_index → Goal
        first h = field-set_same words place other n (element_bit other_width other_index) other_width e (field-with_above (slice_index words place) (element_bit width index) width value (element_bit other_width other_index) other_width h)

        last : element_bit other_width other_index + other_width ≤ element_bit width index → Goal
        last h = field-set_same words place other n (element_bit other_width other_index) other_width e (field-with_below (slice_index words place) (element_bit width index) width value (element_bit other_width other_index) other_width h)

-- ---- elements that are apart

pub apart-index : (vlen register width index other : ℕ) → index ≢ other → AreApart vlen register width index register width other
apart-index vlen register width index other ne = ⊎_elim one two (cases_eq (element_word width index) (element_word width other))
  where
    two : (element_word width index ≡ element_word width other → ⊥) → AreApart vlen register width index register width other
    two apart = inl (λ e. apart (omega arith))

    one : element_word width index ≡ element_word width other → AreApart vlen register width index register width other
    one e = ⊎_elim first last (cases_lt index other)
      where
        first : index < other → AreApart vlen register width index register width other
        first h = let more = mul-le-mul_right {m = suc index} {n = other} width h in inr (inl (omega arith))

        last : other ≤ index → AreApart vlen register width index register width other
        last h = let less : suc other ≤ index = omega arith in let more = mul-le-mul_right {m = suc other} {n = index} width less in inr (inr (omega arith))

pub apart-register : (vlen register width index other_register other_width other_index : ℕ) → register ≢ other_register → element_word width index < words_of_register vlen → element_word other_width other_index < words_of_register vlen → AreApart vlen register width index other_register other_width other_index
apart-register vlen register width index other_register other_width other_index ne h k =
    inl (λ e. ne (same_from_place register (element_word width index) other_register (element_word other_width other_index) (words_of_register vlen) h k e).0)

-- ---- the words

pub word-with_other : (vlen : ℕ) (words : List ℕ) (register width index value place : ℕ) → place_of vlen register (element_word width index) ≢ place → slice_index (with_element vlen words register width index value) place ≡ slice_index words place
word-with_other vlen words register width index value place ne =
    let here = place_of vlen register (element_word width index) in
    get_or-set_other words here place (with_field (slice_index words here) (element_bit width index) width value) 0 (λ e. ne (sym e))

pub length-with_element : (vlen : ℕ) (words : List ℕ) (register width index value : ℕ) → length (with_element vlen words register width index value) ≡ length words
length-with_element vlen words register width index value =
    let here = place_of vlen register (element_word width index) in
    length-set words here (with_field (slice_index words here) (element_bit width index) width value)
