-- Mask logic, bit by bit.
use Rattle.std.proofs.Common.{◌≡◌, ℕ, zero, suc, ◌+◌, ◌-◌, ◌*◌, ◌/◌, ◌%◌, ◌^◌, ◌<◌, Bool, true, false, not, ◌&&◌, ◌||◌, IsTrue, nat_eq, if◌then◌else◌, bit_and, bit_or, min, max, w64, refl, sym, ap, ◌∙◌, arith, Option, Some, None}
use Rattle.std.specs.Prelude.{bit_xor}
use Rattle.std.specs.Int.{bit_at, bit_not}
use Rattle.std.proofs.lemmas.Nat.Bits.{bit_at_and, bit_at_or, bit_at_xor, bit_at_not, bit_at-lt}
use Rattle.vx_bits.specs.declared.saturation.Sat.{Sat}
use Rattle.vx_decode.specs.Groups.{width_of}
use Rattle.vx_packed.specs.Joined.{lane}
use Rattle.vx_base.specs.Numbers.{truth}
use Rattle.vx_rows.specs.Families.{operands_of}
use Rattle.vx_rows.specs.declared.family.Operands.{Operands}
use Rattle.vx_rows.specs.declared.row.First.{First}
use Rattle.vx_rows.specs.declared.row.First.TheVariants.{Vector}
use Rattle.vx_vstate.specs.Registers.{word_at, element}
use Rattle.vx_vector.specs.Arithmetic.{given, becomes, has_saturated}
use Rattle.vx_vector.specs.Numbers.{Numbers, plain}
use Rattle.vx_vector.specs.Reading.{Reading, sew_of, vs2_width, vs1_width, second_by, is_active, numbers_at}
use Rattle.vx_vector.specs.Rules.{rule_of}
use Rattle.vx_operands.specs.Lanes.{answer}
use Rattle.vx_operands.proofs.Merging.{lane_bit, truth_one, becomes_each}
use Rattle.vx_operands.proofs.ByIndex.{Lanes}
use Rattle.vx_mask.specs.Kinds.{is_logic}
use Rattle.vx_mask.proofs.Families.{logic_operands, logic_each, logic_plain}

-- one of the two holds, and the other doesn't
abbrev pub differ : Bool → Bool → Bool
differ a b = if a then not b else b

-- bit k of a word is set
abbrev pub set : (word k : ℕ) → Bool
set word k = nat_eq (lane 1 word k) 1

min_bits : (x y : ℕ) → x < 2 → y < 2 → min x y ≡ truth (nat_eq x 1 && nat_eq y 1)
min_bits zero zero l m = refl
min_bits zero (suc zero) l m = refl
min_bits (suc zero) zero l m = refl
min_bits (suc zero) (suc zero) l m = refl
min_bits (suc (suc x)) y l m = absurd (omega (arith, l))
min_bits x (suc (suc y)) l m = absurd (omega (arith, m))

max_bits : (x y : ℕ) → x < 2 → y < 2 → max x y ≡ truth (nat_eq x 1 || nat_eq y 1)
max_bits zero zero l m = refl
max_bits zero (suc zero) l m = refl
max_bits (suc zero) zero l m = refl
max_bits (suc zero) (suc zero) l m = refl
max_bits (suc (suc x)) y l m = absurd (omega (arith, l))
max_bits x (suc (suc y)) l m = absurd (omega (arith, m))

sum_bits : (x y : ℕ) → x < 2 → y < 2 → (x + y) % 2 ≡ truth (differ (nat_eq x 1) (nat_eq y 1))
sum_bits zero zero l m = refl
sum_bits zero (suc zero) l m = refl
sum_bits (suc zero) zero l m = refl
sum_bits (suc zero) (suc zero) l m = refl
sum_bits (suc (suc x)) y l m = absurd (omega (arith, l))
sum_bits x (suc (suc y)) l m = absurd (omega (arith, m))

less_bit : (x : ℕ) → x < 2 → 1 - x ≡ truth (not (nat_eq x 1))
less_bit zero l = refl
less_bit (suc zero) l = refl
less_bit (suc (suc x)) l = absurd (omega (arith, l))

by_bits : (f : Bool → Bool → Bool) (a b k : ℕ) → truth (f (nat_eq (bit_at a k) 1) (nat_eq (bit_at b k) 1)) ≡ truth (f (set a k) (set b k))
by_bits f a b k = λ i. truth (f (nat_eq (sym (lane_bit a k) i) 1) (nat_eq (sym (lane_bit b k) i) 1))

pub and_lane : (a b k : ℕ) → lane 1 (bit_and a b) k ≡ truth (set a k && set b k)
and_lane a b k = lane_bit (bit_and a b) k ∙ bit_at_and a b k ∙ min_bits (bit_at a k) (bit_at b k) (bit_at-lt a k) (bit_at-lt b k) ∙ by_bits (λ x y. x && y) a b k

pub or_lane : (a b k : ℕ) → lane 1 (bit_or a b) k ≡ truth (set a k || set b k)
or_lane a b k = lane_bit (bit_or a b) k ∙ bit_at_or a b k ∙ max_bits (bit_at a k) (bit_at b k) (bit_at-lt a k) (bit_at-lt b k) ∙ by_bits (λ x y. x || y) a b k

pub xor_lane : (a b k : ℕ) → lane 1 (bit_xor a b) k ≡ truth (differ (set a k) (set b k))
xor_lane a b k = lane_bit (bit_xor a b) k ∙ bit_at_xor a b k ∙ sum_bits (bit_at a k) (bit_at b k) (bit_at-lt a k) (bit_at-lt b k) ∙ by_bits differ a b k

pub not_lane : (a k : ℕ) → a < 2 ^ 64 → k < 64 → lane 1 (bit_not w64 a) k ≡ truth (not (set a k))
not_lane a k small l = lane_bit (bit_not w64 a) k ∙ bit_at_not w64 a k small l ∙ less_bit (bit_at a k) (bit_at-lt a k) ∙ ap (λ x. truth (not (nat_eq x 1))) (sym (lane_bit a k))

pub set_of : (a k : ℕ) (b : Bool) → lane 1 a k ≡ truth b → set a k ≡ b
set_of a k b e = ap (λ x. nat_eq x 1) e ∙ truth_one b

pub same_bits : (f : Bool → Bool → Bool) (a b : ℕ) (n : Numbers) (k : ℕ) → n.a ≡ lane 1 a k → n.b ≡ lane 1 b k → truth (f (set a k) (set b k)) ≡ truth (f (nat_eq n.a 1) (nat_eq n.b 1))
same_bits f a b n k ea eb = λ i. truth (f (nat_eq (sym ea i) 1) (nat_eq (sym eb i) 1))

-- ---- the instruction

module _ (lanes : Lanes) (r : Reading) (h : IsTrue (is_logic r.family)) where
  pub first_bit : (w a k : ℕ) → k < 64 → a ≡ word_at r.at.vlen r.words r.places.vs2 w → (numbers_at r (w * 64 + k)).a ≡ lane 1 a k
  first_bit w a k l e =
      ap (λ (o : Operands). element r.at.vlen r.words r.places.vs2 (width_of o.vs2 (sew_of r)) (w * 64 + k)) (logic_operands r.family h)
      ∙ lanes r.at.vlen r.words r.places.vs2 1 w k refl l
      ∙ ap (λ x. lane 1 x k) (sym e)

  pub second_bit : (w b k : ℕ) → k < 64 → r.first ≡ Vector → b ≡ word_at r.at.vlen r.words r.places.vs1 w → (numbers_at r (w * 64 + k)).b ≡ lane 1 b k
  second_bit w b k l v e =
      ap (λ (f : First). second_by r f (w * 64 + k)) v
      ∙ ap (λ (o : Operands). element r.at.vlen r.words r.places.vs1 (width_of o.vs1 (sew_of r)) (w * 64 + k)) (logic_operands r.family h)
      ∙ lanes r.at.vlen r.words r.places.vs1 1 w k refl l
      ∙ ap (λ x. lane 1 x k) (sym e)

module _ (r : Reading) (h : IsTrue (is_logic r.family)) where
  pub logic_none : (i : ℕ) → is_active r i ≡ false → becomes r i ≡ None
  logic_none i f = becomes_each (rule_of r.family) r i (logic_each r.family h) ∙ ap (λ b. given b (answer r.family (numbers_at r i))) f

  pub logic_some : (i value : ℕ) → value ≡ (answer r.family (numbers_at r i)).value → is_active r i ≡ true → becomes r i ≡ Some (plain value)
  logic_some i value e t =
      becomes_each (rule_of r.family) r i (logic_each r.family h)
      ∙ ap (λ b. given b (answer r.family (numbers_at r i))) t
      ∙ ap Some (logic_plain r.family (numbers_at r i) h ∙ ap plain (sym e))

  quiet_given : (b : Bool) (s : Sat) (value : ℕ) → s ≡ plain value → has_saturated (given b s) ≡ false
  quiet_given true s value e = ap (λ (s : Sat). s.sat) e
  quiet_given false s value e = refl

  pub logic_quiet : (i : ℕ) → has_saturated (becomes r i) ≡ false
  logic_quiet i = ap has_saturated (becomes_each (rule_of r.family) r i (logic_each r.family h)) ∙ quiet_given (is_active r i) (answer r.family (numbers_at r i)) (answer r.family (numbers_at r i)).value (logic_plain r.family (numbers_at r i) h)
