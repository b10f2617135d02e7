-- Rows whose operands are groups of elements of several widths, and whole registers.
use Rattle.vx_vstate.specs.State.{IsSetting}
use Rattle.std.proofs.Common.{◌≡◌, ℕ, suc, ◌+◌, ◌*◌, ◌/◌, ◌<◌, ◌≤◌, Bool, true, false, not, ◌&&◌, IsTrue, nat_eq, if◌then◌else◌, refl, sym, ap, ◌∙◌, ⊎_elim, arith, mul-le-mul_right}
use Rattle.std.proofs.lemmas.Bool.{false≢true, and_parts, eqb-true, cases_Bool}
use Rattle.std.proofs.Math.Nat.{mul-le-mul_left}
use Rattle.std.proofs.lemmas.Nat.{le-div}
use Rattle.vx_bits.specs.Width.{is_width}
use Rattle.vx_packed.specs.Joined.{lane}
use Rattle.vx_packed.specs.declared.elements.Sources.{Sources}
use Rattle.vx_decode.specs.Groups.{width_of}
use Rattle.vx_rows.specs.Families.{operands_of}
use Rattle.vx_rows.specs.declared.family.Operand.{Operand}
use Rattle.vx_rows.specs.declared.family.Operand.TheVariants.{Single, Double, Half, Quarter, Eighth, Whole1, Whole2, Whole4, Whole8}
use Rattle.vx_rows.specs.declared.family.Operands.{Operands}
use Rattle.vx_rows.specs.declared.row.First.{First}
use Rattle.vx_rows.specs.declared.row.First.TheVariants.{Vector}
use Rattle.vx_rows.specs.declared.row.Vm.{Vm}
use Rattle.vx_rows.specs.declared.row.Vm.TheVariants.{Any, Zero, One}
use Rattle.vx_vstate.specs.Registers.{word_at, place_of, words_of_all, element, element_word}
use Rattle.vx_vstate.specs.Vtype.{vlmax}
use Rattle.vx_vector.specs.Laws.{IsPlaced, is_absent, per_word}
use Rattle.vx_vector.specs.Reading.{Reading, is_unmasked_by, sew_of, destination_width, vs2_width, count_in, count_of, whole_registers, mask_bit}
use Rattle.vx_operands.specs.Forms.{is_unmasked, second_operand}
use Rattle.vx_vector.specs.Words.{registers_of_operand}
use Rattle.vx_operands.specs.Lanes.{AreLanes, AreSources, is_single, is_group, are_groups, is_whole, packing_of}
use Rattle.vx_operands.proofs.Places.{even_element, in_place, filled}
use Rattle.vx_operands.proofs.Even.{single_is, vl-le, zero_lane}

-- ---- groups

pub record IsGroup (r : Reading) (o : Operand) : Type 0 where
  pub whole : whole_registers o ≡ 0
  pub elements : count_in r o ≡ vlmax r.at.vlen r.at.vtype
  pub there : not (is_absent o) ≡ true

pub group_is : (r : Reading) (o : Operand) → IsTrue (is_group o) → IsGroup r o
group_is r Single h = record { whole = refl; elements = refl; there = refl }
group_is r Double h = record { whole = refl; elements = refl; there = refl }
group_is r Half h = record { whole = refl; elements = refl; there = refl }
group_is r Quarter h = record { whole = refl; elements = refl; there = refl }
group_is r Eighth h = record { whole = refl; elements = refl; there = refl }
group_is r other h = absurd (false≢true h)

pub record AreGroups (r : Reading) (f : First) (o : Operands) : Type 0 where
  pub destination : IsGroup r o.destination
  pub vs2 : IsGroup r o.vs2
  pub vs1 : f ≡ Vector → o.vs1 ≡ Single

pub groups_of : (r : Reading) (f : First) (o : Operands) → IsTrue (are_groups f o) → AreGroups r f o
groups_of r Vector o h =
    let all = and_parts (is_group o.destination && is_group o.vs2) (is_single o.vs1) h in
    let two = and_parts (is_group o.destination) (is_group o.vs2) all.0 in
    record { destination = group_is r o.destination two.0; vs2 = group_is r o.vs2 two.1; vs1 = λ e. single_is o.vs1 all.1 }
groups_of r other o h =
    let two = and_parts (is_group o.destination) (is_group o.vs2) h in
    record { destination = group_is r o.destination two.0; vs2 = group_is r o.vs2 two.1; vs1 = λ e. absurd (cc) }

pub count_of_group : (r : Reading) → IsGroup r (operands_of r.family).destination → count_of r ≡ r.at.vl
count_of_group r g = ap (λ n. if nat_eq n 0 then r.at.vl else count_in r (operands_of r.family).destination) g.whole

-- the word in which an element below vl begins is there
pub placed_part : (r : Reading) → IsSetting r.at → (o : Operand) (register i : ℕ) → IsGroup r o → IsPlaced r o register → i < r.at.vl → place_of r.at.vlen register (element_word (width_of o (sew_of r)) i) < words_of_all r.at.vlen
placed_part r k o register i g placed l =
    let most = vl-le r.at k in
    let below : i < count_in r o = omega (arith, g.elements) in
    in_place register (registers_of_operand r o) (element_word (width_of o (sew_of r)) i) (r.at.vlen / 64) placed.room (placed.within i below)

-- ---- the operands of a word's elements

pub sources_wide : (r : Reading) (w : ℕ) (from : Sources) → IsTrue (is_width (destination_width r)) → AreLanes (vs2_width r) from.a (per_word r) (λ k. element r.at.vlen r.words r.places.vs2 (vs2_width r) (w * per_word r + k)) → AreLanes (sew_of r) from.b (per_word r) (λ k. second_operand r (w * per_word r + k)) → from.d ≡ word_at r.at.vlen r.words r.places.vd w → (r.places.vm ≡ false → AreLanes 1 from.m (per_word r) (λ k. element r.at.vlen r.words 0 1 (w * per_word r + k))) → (r.places.vm ≡ true → from.m ≡ 0) → AreSources r w (packing_of r) from
sources_wide r w from width a b d some none k l = λ i. record {
  sew = sew_of r;
  mode = r.at.vxrm;
  a = a k l i;
  b = b k l i;
  d = old i;
  m = bit i;
}
  where
    old : lane (destination_width r) from.d k ≡ element r.at.vlen r.words r.places.vd (destination_width r) (w * per_word r + k)
    old = ap (λ x. lane (destination_width r) x k) d ∙ sym (even_element r.at.vlen r.words r.places.vd (destination_width r) w k width l)

    bit : nat_eq (lane 1 from.m k) 1 ≡ (not r.places.vm && mask_bit r (w * per_word r + k))
    bit =
        ⊎_elim
        (λ t. ap (λ x. nat_eq (lane 1 x k) 1) (none t) ∙ zero_lane k ∙ sym (ap (λ b. not b && mask_bit r (w * per_word r + k)) t))
        (λ f. ap (λ x. nat_eq x 1) (some f k l) ∙ sym (ap (λ b. not b && mask_bit r (w * per_word r + k)) f))
        (cases_Bool r.places.vm)

pub count_divides : (width : ℕ) → IsTrue (is_width width) → 64 / (64 / width) * (64 / width) ≡ 64
count_divides width h = grind (arith, h)

pub count_some : (width : ℕ) → IsTrue (is_width width) → 0 < 64 / width
count_some width h = grind (arith, h)

-- ---- whole registers

pub record IsWhole (r : Reading) (o : Operand) : Type 0 where
  pub width : width_of o (sew_of r) ≡ sew_of r
  pub registers : registers_of_operand r o ≡ whole_registers o
  pub elements : count_in r o ≡ whole_registers o * r.at.vlen / sew_of r
  pub there : not (is_absent o) ≡ true

whole_is : (r : Reading) (o : Operand) → IsTrue (not (nat_eq (whole_registers o) 0)) → IsWhole r o
whole_is r Whole1 h = record { width = refl; registers = refl; elements = refl; there = refl }
whole_is r Whole2 h = record { width = refl; registers = refl; elements = refl; there = refl }
whole_is r Whole4 h = record { width = refl; registers = refl; elements = refl; there = refl }
whole_is r Whole8 h = record { width = refl; registers = refl; elements = refl; there = refl }
whole_is r other h = absurd (false≢true h)

pub record AreWhole (r : Reading) (o : Operands) (v : Vm) : Type 0 where
  pub destination : IsWhole r o.destination
  pub vs2 : IsWhole r o.vs2
  pub same : whole_registers o.destination ≡ whole_registers o.vs2
  pub some : nat_eq (whole_registers o.destination) 0 ≡ false
  pub vm : v ≡ One

not_false : (b : Bool) → not b ≡ true → b ≡ false
not_false true h = absurd (false≢true h)
not_false false h = refl

pub whole_of : (r : Reading) (o : Operands) (v : Vm) → IsTrue (is_whole o v) → AreWhole r o v
whole_of r o Any h = absurd (false≢true h)
whole_of r o Zero h = absurd (false≢true h)
whole_of r o One h =
    let two = and_parts (not (nat_eq (whole_registers o.destination) 0)) (nat_eq (whole_registers o.destination) (whole_registers o.vs2)) h in
    let e = eqb-true (whole_registers o.destination) (whole_registers o.vs2) two.1 in
    record {
      destination = whole_is r o.destination two.0;
      vs2 = whole_is r o.vs2 (ap (λ n. not (nat_eq n 0)) (sym e) ∙ two.0);
      same = e;
      some = not_false (nat_eq (whole_registers o.destination) 0) two.0;
      vm = refl;
    }

pub count_of_whole : (r : Reading) → AreWhole r (operands_of r.family) r.vm → count_of r ≡ whole_registers (operands_of r.family).destination * r.at.vlen / sew_of r
count_of_whole r h = ap (λ (b : Bool). if b then r.at.vl else count_in r (operands_of r.family).destination) h.some ∙ h.destination.elements

pub whole_unmasked : (r : Reading) → r.vm ≡ One → is_unmasked r ≡ true
whole_unmasked r e = ap (λ (v : Vm). is_unmasked_by r v) e

-- a word of whole registers begins before their end
pub whole_begins : (w n vlen sew : ℕ) → IsTrue (is_width sew) → w < n * (vlen / 64) → w * (64 / sew) < n * vlen / sew
whole_begins w n vlen sew width l =
    let full = filled sew width in
    let rows : w * (64 / sew * sew) ≡ w * 64 = ap (λ x. w * x) full in
    let some : 0 < sew = grind (arith, width) in
    let most : sew ≤ 64 = grind (arith, width) in
    let next : suc w ≤ n * (vlen / 64) = l in
    let all = mul-le-mul_right 64 next in
    let words : vlen / 64 * 64 ≤ vlen = omega arith in
    let bits = mul-le-mul_left n words in
    let turned : n * (vlen / 64) * 64 ≡ n * (vlen / 64 * 64) = omega arith in
    let fits : suc (w * (64 / sew)) * sew ≤ n * vlen = omega arith in
    le-div (suc (w * (64 / sew))) (n * vlen) sew some fits
