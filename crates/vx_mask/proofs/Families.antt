-- What holds of the families by their kinds.
use Rattle.std.proofs.Common.{◌≡◌, ◌⊎◌, ℕ, ◌+◌, ◌*◌, ◌/◌, ◌<◌, ◌≤◌, Bool, true, false, not, ◌&&◌, ◌||◌, IsTrue, nat_eq, if◌then◌else◌, length, refl, sym, ap, ◌∙◌, subst, ⊎_elim, arith}
use Rattle.std.proofs.lemmas.Bool.{false≢true, and_parts, cases_Bool, eqb-true}
use Rattle.vx_bits.specs.Width.{is_width}
use Rattle.vx_bits.specs.declared.saturation.Sat.{Sat}
use Rattle.vx_decode.specs.Groups.{width_of}
use Rattle.vx_rows.specs.Families.{operands_of}
use Rattle.vx_rows.specs.declared.family.Family.{Family}
use Rattle.vx_rows.specs.declared.family.Family.TheVariants.{Vredsum, Vredand, Vredor, Vredxor, Vredminu, Vredmin, Vredmaxu, Vredmax, Vwredsumu, Vwredsum, Vcpop, Vmsbf, Vmsof, Vmsif, Vmandn, Vmand, Vmor, Vmxor, Vmorn, Vmnand, Vmnor, Vmxnor}
use Rattle.vx_rows.specs.declared.family.Operand.{Operand}
use Rattle.vx_rows.specs.declared.family.Operand.TheVariants.{Absent, Single, Mask, Element, WideElement}
use Rattle.vx_rows.specs.declared.family.Operands.{Operands}
use Rattle.vx_rows.specs.declared.row.First.{First}
use Rattle.vx_rows.specs.declared.row.First.TheVariants.{Vector}
use Rattle.vx_operands.specs.Forms.{is_vector}
use Rattle.vx_operands.specs.declared.form.Form.{Form}
use Rattle.vx_vstate.specs.Registers.{is_element_width, place_of, words_of_register, words_of_all}
use Rattle.vx_vector.specs.Laws.{IsPlaced, IsSound, is_absent}
use Rattle.vx_vector.specs.Numbers.{Numbers, plain}
use Rattle.vx_vector.specs.Reading.{Reading, sew_of, destination_width, count_in, count_of, whole_registers}
use Rattle.vx_vector.specs.Rules.{rule_of}
use Rattle.vx_vector.specs.Words.{places_of_operand, destination_words}
use Rattle.vx_operands.specs.Lanes.{answer, is_each}
use Rattle.vx_operands.specs.Rising.{is_by_index, is_reduce}
use Rattle.vx_operands.proofs.Places.{in_place, registers_small}
use Rattle.vx_operands.proofs.Even.{words_of_group}
use Rattle.vx_mask.specs.Kinds.{AreReduced, has_two, is_logic, is_span, is_even_reduction, is_wide_reduction, is_index, is_telling, is_mask_form}

follows : (a b : Bool) → (not a || b) ≡ true → a ≡ true → b ≡ true
follows true b h e = h
follows false b h e = absurd (false≢true e)

not_true : (b : Bool) → not b ≡ true → b ≡ false
not_true true h = absurd (false≢true h)
not_true false h = refl

-- ---- mask logic

abbrev three : (a b c : Operand) → Operands
three a b c = record { destination = a; vs2 = b; vs1 = c }

pub logic_operands : (f : Family) → IsTrue (is_logic f) → operands_of f ≡ three Mask Mask Mask
logic_operands Vmandn h = refl
logic_operands Vmand h = refl
logic_operands Vmor h = refl
logic_operands Vmxor h = refl
logic_operands Vmorn h = refl
logic_operands Vmnand h = refl
logic_operands Vmnor h = refl
logic_operands Vmxnor h = refl
logic_operands other h = absurd (false≢true h)

each_suits : (f : Family) → (not (is_logic f) || is_each (rule_of f)) ≡ true
each_suits Vmand = refl
each_suits other = refl

pub logic_each : (f : Family) → IsTrue (is_logic f) → IsTrue (is_each (rule_of f))
logic_each f h = follows (is_logic f) (is_each (rule_of f)) (each_suits f) h

plain_suits : (f : Family) (n : Numbers) → (not (is_logic f) || not (answer f n).sat) ≡ true
plain_suits Vmand n = refl
plain_suits other n = refl

pub plain_of : (s : Sat) → s.sat ≡ false → s ≡ plain s.value
plain_of s e = λ i. record { value = s.value; sat = e i }

pub logic_plain : (f : Family) (n : Numbers) → IsTrue (is_logic f) → answer f n ≡ plain (answer f n).value
logic_plain f n h = plain_of (answer f n) (not_true (answer f n).sat (follows (is_logic f) (not (answer f n).sat) (plain_suits f n) h))

-- ---- masks by the first mark

pub span_operands : (f : Family) → IsTrue (is_span f) → operands_of f ≡ three Mask Mask Absent
span_operands Vmsbf h = refl
span_operands Vmsof h = refl
span_operands Vmsif h = refl
span_operands other h = absurd (false≢true h)

span_suits : (f : Family) → (not (is_span f) || is_by_index (rule_of f)) ≡ true
span_suits Vmsbf = refl
span_suits other = refl

pub span_by_index : (f : Family) → IsTrue (is_span f) → IsTrue (is_by_index (rule_of f))
span_by_index f h = follows (is_span f) (is_by_index (rule_of f)) (span_suits f) h

-- ---- reductions

pub even_operands : (f : Family) → IsTrue (is_even_reduction f) → operands_of f ≡ three Element Single Element
even_operands Vredsum h = refl
even_operands Vredand h = refl
even_operands Vredor h = refl
even_operands Vredxor h = refl
even_operands Vredminu h = refl
even_operands Vredmin h = refl
even_operands Vredmaxu h = refl
even_operands Vredmax h = refl
even_operands other h = absurd (false≢true h)

pub wide_operands : (f : Family) → IsTrue (is_wide_reduction f) → operands_of f ≡ three WideElement Single WideElement
wide_operands Vwredsumu h = refl
wide_operands Vwredsum h = refl
wide_operands other h = absurd (false≢true h)

pub even_reduced : (o : Operands) → o ≡ three Element Single Element → AreReduced o
even_reduced o e = subst (λ (o : Operands). AreReduced o) (sym e) (record { destination = refl; vs2 = refl; vs1 = refl })

pub wide_reduced : (o : Operands) → o ≡ three WideElement Single WideElement → AreReduced o
wide_reduced o e = subst (λ (o : Operands). AreReduced o) (sym e) (record { destination = refl; vs2 = refl; vs1 = refl })

even_suits : (f : Family) → (not (is_even_reduction f) || is_reduce (rule_of f)) ≡ true
even_suits Vredsum = refl
even_suits other = refl

pub even_reduces : (f : Family) → IsTrue (is_even_reduction f) → IsTrue (is_reduce (rule_of f))
even_reduces f h = follows (is_even_reduction f) (is_reduce (rule_of f)) (even_suits f) h

wide_suits : (f : Family) → (not (is_wide_reduction f) || is_reduce (rule_of f)) ≡ true
wide_suits Vwredsum = refl
wide_suits other = refl

pub wide_reduces : (f : Family) → IsTrue (is_wide_reduction f) → IsTrue (is_reduce (rule_of f))
wide_reduces f h = follows (is_wide_reduction f) (is_reduce (rule_of f)) (wide_suits f) h

-- ---- words of masks

pub mask_below : (r : Reading) (o : Operand) (register w : ℕ) → o ≡ Mask → w < length (places_of_operand r o register) → w < words_of_register r.at.vlen
mask_below r o register w e l =
    let m = subst (λ (o : Operand). w < length (places_of_operand r o register)) e l in
    let n : w < 1 * words_of_register r.at.vlen = subst (λ n. w < n) (words_of_group r Mask register refl) m in
    omega (arith, n)

pub mask_place : (r : Reading) (o : Operand) (register w : ℕ) → o ≡ Mask → IsPlaced r o register → w < words_of_register r.at.vlen → place_of r.at.vlen register w < words_of_all r.at.vlen
mask_place r o register w e placed l =
    let p = subst (λ (o : Operand). IsPlaced r o register) e placed in
    let n : w < 1 * words_of_register r.at.vlen = omega (arith, l) in
    in_place register 1 w (words_of_register r.at.vlen) p.room n

-- a word of a destination that is a mask
pub record IsMaskWord (r : Reading) (w : ℕ) : Type 0 where
  pub width : destination_width r ≡ 1
  pub whole : whole_registers (operands_of r.family).destination ≡ 0
  pub count : count_of r ≡ r.at.vl
  pub below : w < words_of_register r.at.vlen
  pub place : place_of r.at.vlen r.places.vd w < words_of_all r.at.vlen
  pub few : w < 32

pub mask_word : (r : Reading) (w : ℕ) → IsSound r → (operands_of r.family).destination ≡ Mask → w < length (destination_words r) → IsMaskWord r w
mask_word r w sound e l =
    let below = mask_below r (operands_of r.family).destination r.places.vd w e l in
    let most = registers_small r.at.vlen sound.setting.vlen_in_range in
    record {
      width = ap (λ (o : Operand). width_of o (sew_of r)) e;
      whole = ap whole_registers e;
      count = ap (λ (o : Operand). if nat_eq (whole_registers o) 0 then r.at.vl else count_in r o) e;
      below = below;
      place = mask_place r (operands_of r.family).destination r.places.vd w e sound.destination below;
      few = omega (arith, below, most);
    }

-- ---- forms

is_vector_true : (f : First) → is_vector f ≡ true → f ≡ Vector
is_vector_true Vector h = refl
is_vector_true other h = absurd (false≢true h)

two_suits : (f : Family) → (not (has_two f) || not (is_span f || is_index f || is_telling f)) ≡ true
two_suits Vredsum = refl
two_suits other = refl

or_none : (a b : Bool) → not a ≡ true → (a || b) ≡ true → b ≡ true
or_none true b h e = absurd (false≢true h)
or_none false b h e = e

some_of : (a b c : Bool) → (a ≡ true) ⊎ (b ≡ true) ⊎ (c ≡ true) → (a || b || c) ≡ true
some_of true b c h = refl
some_of false true c h = refl
some_of false false true h = refl
some_of false false false h = absurd (⊎_elim (λ e. false≢true e) (λ k. ⊎_elim (λ e. false≢true e) (λ e. false≢true e) k) h)

pub two_registers : (form : Form) → IsTrue (is_mask_form form) → (is_logic form.family ≡ true) ⊎ (is_even_reduction form.family ≡ true) ⊎ (is_wide_reduction form.family ≡ true) → form.first ≡ Vector
two_registers form h k =
    let two = some_of (is_logic form.family) (is_even_reduction form.family) (is_wide_reduction form.family) k in
    let others = follows (has_two form.family) (not (is_span form.family || is_index form.family || is_telling form.family)) (two_suits form.family) two in
    let rest = or_none (is_span form.family || is_index form.family || is_telling form.family) (has_two form.family && is_vector form.first) others h in
    is_vector_true form.first (and_parts (has_two form.family) (is_vector form.first) rest).1

telling_suits : (f : Family) → (not (is_telling f) || is_absent (operands_of f).destination) ≡ true
telling_suits Vcpop = refl
telling_suits other = refl

not_telling : (f : Family) → not (is_absent (operands_of f).destination) ≡ true → is_telling f ≡ false
not_telling f h =
    ⊎_elim
    (λ t. absurd (false≢true (sym (ap not (follows (is_telling f) (is_absent (operands_of f).destination) (telling_suits f) t)) ∙ h)))
    (λ e. e)
    (cases_Bool (is_telling f))

left_of : (s i t l e w v : Bool) → ((s || i || t) || ((l || e || w) && v)) ≡ true → l ≡ false → s ≡ false → e ≡ false → w ≡ false → t ≡ false → i ≡ true
left_of s true t l e w v h a b c d f = refl
left_of s false t l e w v h a b c d f = absurd (false≢true (sym (λ j. (b j || false || f j) || ((a j || c j || d j) && v)) ∙ h))

pub is_left : (r : Reading) (w : ℕ) → IsTrue (is_mask_form (record { family = r.family; first = r.first; vm = r.vm })) → is_logic r.family ≡ false → is_span r.family ≡ false → is_even_reduction r.family ≡ false → is_wide_reduction r.family ≡ false → not (is_absent (operands_of r.family).destination) ≡ true → IsTrue (is_index r.family)
is_left r w h l s e d there = left_of (is_span r.family) (is_index r.family) (is_telling r.family) (is_logic r.family) (is_even_reduction r.family) (is_wide_reduction r.family) (is_vector r.first) h l s e d (not_telling r.family there)

twice_one : (n : ℕ) → is_element_width (2 * n) ≡ true → is_width (2 * n) ≡ true
twice_one n h =
    ⊎_elim
    (λ t. let e : 2 * n ≡ 1 = eqb-true (2 * n) 1 t in absurd (omega (arith, e)))
    (λ f. or_none (nat_eq (2 * n) 1) (is_width (2 * n)) (ap not f) h)
    (cases_Bool (nat_eq (2 * n) 1))

pub wide_width : (r : Reading) (sew : ℕ) → IsTrue (is_wide_reduction r.family) → sew ≡ sew_of r → IsTrue (is_absent (operands_of r.family).destination || is_element_width (width_of (operands_of r.family).destination (sew_of r))) → IsTrue (is_width (2 * sew))
wide_width r sew h e width =
    let o = wide_operands r.family h in
    let wide : is_element_width (2 * sew_of r) ≡ true = sym (ap (λ (o : Operands). is_absent o.destination || is_element_width (width_of o.destination (sew_of r))) o) ∙ width in
    ap (λ s. is_width (2 * s)) e ∙ twice_one (sew_of r) wide
