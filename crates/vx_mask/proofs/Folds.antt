-- What the active elements of a register come to.
use Rattle.std.proofs.Common.{◌≡◌, ℕ, List, ◌+◌, ◌*◌, ◌/◌, ◌%◌, ◌^◌, ◌<◌, ◌≤◌, Bool, true, false, not, IsTrue, nat_eq, if◌then◌else◌, map, get_or, refl, sym, ap, ◌∙◌, subst, arith}
use Rattle.std.specs.Prelude.{fold}
use Rattle.std.specs.List.{range_with_len}
use Rattle.std.proofs.lemmas.Bool.{false≢true}
use Rattle.vx_decode.specs.Groups.{width_of}
use Rattle.vx_packed.specs.Joined.{lane}
use Rattle.vx_rows.specs.Families.{operands_of}
use Rattle.vx_rows.specs.declared.family.Operand.{Operand}
use Rattle.vx_rows.specs.declared.family.Operand.TheVariants.{Single, Element, WideElement}
use Rattle.vx_rows.specs.declared.row.First.{First}
use Rattle.vx_rows.specs.declared.row.First.TheVariants.{Vector}
use Rattle.vx_vstate.specs.Registers.{word_at, place_of, words_of_all, element_word, is_element_width}
use Rattle.vx_vstate.specs.State.{IsSetting}
use Rattle.vx_vstate.specs.Vtype.{vlmax}
use Rattle.vx_vector.specs.Laws.{IsPlaced, is_absent}
use Rattle.vx_vector.specs.Lists.{chosen, joined_with}
use Rattle.vx_vector.specs.Reading.{Reading, sew_of, destination_width, vs1_width, count_in, element_of, elements_of, elements_by, is_active, lists_of, whole_registers}
use Rattle.vx_vector.specs.Rules.{Rule, rule_of}
use Rattle.vx_vector.specs.Rules.Rule.{Reduce}
use Rattle.vx_vector.specs.Words.{registers_of_operand}
use Rattle.vx_operands.specs.Rising.{joined_below, is_reduce, reduced_by, is_first_alone, first_by}
use Rattle.vx_operands.proofs.Places.{in_place}
use Rattle.vx_operands.proofs.Even.{vl-le}
use Rattle.vx_operands.proofs.ByIndex.{Lanes}
use Rattle.vx_operands.proofs.Counts.{chosen_short, fold_chosen}
use Rattle.vx_mask.specs.Kinds.{AreReduced, is_element}

-- ---- operands of one element

pub element_there : (o : Operand) → is_element o ≡ true → not (is_absent o) ≡ true
element_there Element h = refl
element_there WideElement h = refl
element_there other h = absurd (false≢true h)

pub element_whole : (o : Operand) → is_element o ≡ true → whole_registers o ≡ 0
element_whole Element h = refl
element_whole WideElement h = refl
element_whole other h = absurd (false≢true h)

element_one : (r : Reading) (o : Operand) → is_element o ≡ true → count_in r o ≡ 1
element_one r Element h = refl
element_one r WideElement h = refl
element_one r other h = absurd (false≢true h)

pub first_place : (r : Reading) (o : Operand) (register : ℕ) → is_element o ≡ true → IsPlaced r o register → place_of r.at.vlen register 0 < words_of_all r.at.vlen
first_place r o register h placed =
    let one = element_one r o h in
    let z : 0 * width_of o (sew_of r) ≡ 0 = omega arith in
    let w : element_word (width_of o (sew_of r)) 0 ≡ 0 = ap (λ n. n / 64) z in
    let within = placed.within 0 (omega (arith, one)) in
    in_place register (registers_of_operand r o) 0 (r.at.vlen / 64) placed.room (subst (λ n. n < registers_of_operand r o * (r.at.vlen / 64)) w within)

pub first_of : (r : Reading) (o : Operand) (register : ℕ) → is_element o ≡ true → get_or (elements_of r o register) 0 0 ≡ element_of r register (width_of o (sew_of r)) 0
first_of r Element register h = refl
first_of r WideElement register h = refl
first_of r other register h = absurd (false≢true h)

pub first_lane : Lanes → (r : Reading) (register width : ℕ) → IsTrue (is_element_width width) → 0 < 64 / width → element_of r register width 0 ≡ lane width (word_at r.at.vlen r.words register 0) 0
first_lane lanes r register width h some =
    let z : 0 ≡ 0 * (64 / width) + 0 = omega arith in
    ap (λ n. element_of r register width n) z ∙ lanes r.at.vlen r.words register width 0 0 h some

-- the number with which a reduction begins
pub start_is : Lanes → (r : Reading) (width word : ℕ) → AreReduced (operands_of r.family) → r.first ≡ Vector → width ≡ destination_width r → IsTrue (is_element_width width) → 0 < 64 / width → word ≡ word_at r.at.vlen r.words r.places.vs1 0 → lane width word 0 ≡ get_or (lists_of r).vs1 0 0
start_is lanes r width word o v e h some is =
    let same : width ≡ vs1_width r = e ∙ sym (ap (λ (o : Operand). width_of o (sew_of r)) o.vs1) in
    ap (λ x. lane width x 0) is
    ∙ sym (first_lane lanes r r.places.vs1 width h some)
    ∙ ap (λ n. element_of r r.places.vs1 n 0) same
    ∙ sym (first_of r (operands_of r.family).vs1 r.places.vs1 (ap is_element o.vs1 ∙ o.destination))
    ∙ sym (ap (λ (f : First). get_or (elements_by r f) 0 0) v)

-- ---- the sum

pub reduce_alone : (rule : Rule) → IsTrue (is_reduce rule) → IsTrue (is_first_alone rule)
reduce_alone (Reduce f) h = refl
reduce_alone other h = absurd (false≢true h)

reduce_first : (rule : Rule) (r : Reading) → IsTrue (is_reduce rule) → first_by rule r ≡ joined_with (reduced_by rule (sew_of r)) (lists_of r)
reduce_first (Reduce f) r h = refl
reduce_first other r h = absurd (false≢true h)

joined_is : (s : ℕ → ℕ → ℕ) (r : Reading) → IsSetting r.at → (operands_of r.family).vs2 ≡ Single → joined_with s (lists_of r) ≡ joined_below s (get_or (lists_of r).vs1 0 0) (is_active r) (element_of r r.places.vs2 (sew_of r)) r.at.vl
joined_is s r k e =
    let active : List Bool = map (is_active r) (range_with_len 0 r.at.vl) in
    ap (λ (o : Operand). fold s (get_or (lists_of r).vs1 0 0) (chosen (elements_of r o r.places.vs2) active)) e
    ∙ ap (λ xs. fold s (get_or (lists_of r).vs1 0 0) xs) (chosen_short (element_of r r.places.vs2 (sew_of r)) (is_active r) 0 (vlmax r.at.vlen r.at.vtype) r.at.vl (vl-le r.at k))
    ∙ fold_chosen s (get_or (lists_of r).vs1 0 0) (element_of r r.places.vs2 (sew_of r)) (is_active r) r.at.vl

pub reduced_is : (r : Reading) (sew start sum : ℕ) → IsSetting r.at → IsTrue (is_reduce (rule_of r.family)) → (operands_of r.family).vs2 ≡ Single → sew ≡ sew_of r → start ≡ get_or (lists_of r).vs1 0 0 → sum ≡ joined_below (reduced_by (rule_of r.family) sew) start (is_active r) (element_of r r.places.vs2 sew) r.at.vl → sum ≡ first_by (rule_of r.family) r
reduced_is r sew start sum k reduces single e begins is =
    is
    ∙ (λ i. joined_below (reduced_by (rule_of r.family) (e i)) (begins i) (is_active r) (element_of r r.places.vs2 (e i)) r.at.vl)
    ∙ sym (joined_is (reduced_by (rule_of r.family) (sew_of r)) r k single)
    ∙ sym (reduce_first (rule_of r.family) r reduces)
