-- Rows whose operands all have elements of SEW.
use Rattle.std.proofs.Common.{◌≡◌, ℕ, ◌+◌, ◌*◌, ◌/◌, ◌<◌, ◌≤◌, Bool, true, false, not, ◌&&◌, IsTrue, nat_eq, if◌then◌else◌, length, refl, sym, ap, ◌∙◌, subst, ⊎_elim, arith}
use Rattle.std.proofs.lemmas.List.FromFn.{length-range_with_len}
use Rattle.std.proofs.lemmas.Bool.{cases_Bool, false≢true, true≢false, and_parts}
use Rattle.vx_bits.specs.Width.{is_width}
use Rattle.vx_packed.specs.Joined.{lane}
use Rattle.vx_packed.specs.Made.{even_packing, lane_of}
use Rattle.vx_packed.specs.declared.elements.Sources.{Sources}
use Rattle.vx_decode.specs.Groups.{width_of}
use Rattle.vx_rows.specs.Families.{operands_of}
use Rattle.vx_rows.specs.declared.family.Operand.{Operand}
use Rattle.vx_rows.specs.declared.family.Operand.TheVariants.{Single, Absent}
use Rattle.vx_rows.specs.declared.family.Operands.{Operands}
use Rattle.vx_rows.specs.declared.row.First.{First}
use Rattle.vx_rows.specs.declared.row.First.TheVariants.{Vector}
use Rattle.vx_rows.specs.declared.row.Vm.{Vm}
use Rattle.vx_rows.specs.declared.row.Vm.TheVariants.{Any, Zero, One}
use Rattle.vx_vstate.specs.Registers.{word_at, place_of, words_of_register, words_of_all, element}
use Rattle.vx_vstate.specs.Vtype.{vill, vlmax}
use Rattle.vx_vstate.specs.State.{SettingView, IsSetting}
use Rattle.vx_vector.specs.Laws.{IsPlaced, is_absent, per_word}
use Rattle.vx_vector.specs.Reading.{Reading, is_unmasked_by, sew_of, destination_width, vs2_width, vs1_width, count_in, count_of, whole_registers, mask_bit, numbers_at}
use Rattle.vx_operands.specs.Forms.{is_unmasked, second_operand}
use Rattle.vx_vector.specs.Words.{vs1_operand, vs1_operand_by, registers_of_operand, places_of_operand, destination_words}
use Rattle.vx_operands.specs.Lanes.{AreLanes, AreMaskBits, AreSources, is_single, is_even, numbers_of}
use Rattle.vx_operands.proofs.Places.{even_element, first_word, in_place}

pub single_is : (o : Operand) → IsTrue (is_single o) → o ≡ Single
single_is Single h = refl
single_is other h = absurd (false≢true h)

pub record IsEvenOf (f : First) (o : Operands) : Type 0 where
  pub destination : o.destination ≡ Single
  pub vs2 : o.vs2 ≡ Single
  pub vs1 : f ≡ Vector → o.vs1 ≡ Single

pub even_of : (f : First) (o : Operands) → IsTrue (is_even f o) → IsEvenOf f o
even_of Vector o h =
    let all = and_parts (is_single o.destination && is_single o.vs2) (is_single o.vs1) h in
    let two = and_parts (is_single o.destination) (is_single o.vs2) all.0 in
    record { destination = single_is o.destination two.0; vs2 = single_is o.vs2 two.1; vs1 = λ e. single_is o.vs1 all.1 }
even_of other o h =
    let two = and_parts (is_single o.destination) (is_single o.vs2) h in
    record { destination = single_is o.destination two.0; vs2 = single_is o.vs2 two.1; vs1 = λ e. absurd (cc) }

module _ (r : Reading) (h : IsEvenOf r.first (operands_of r.family)) where
  pub destination_even : destination_width r ≡ sew_of r
  destination_even = ap (λ o. width_of o (sew_of r)) h.destination

  pub count_even : count_of r ≡ r.at.vl
  count_even = ap (λ o. if nat_eq (whole_registers o) 0 then r.at.vl else count_in r o) h.destination

  vs2_even : vs2_width r ≡ sew_of r
  vs2_even = ap (λ o. width_of o (sew_of r)) h.vs2

  pub vs1_even : r.first ≡ Vector → vs1_width r ≡ sew_of r
  vs1_even e = ap (λ o. width_of o (sew_of r)) (h.vs1 e)

pub vl-le : (at : SettingView) → IsSetting at → at.vl ≤ vlmax at.vlen at.vtype
vl-le at k =
    ⊎_elim
    (λ t. let e = ap (λ (b : Bool). if b then 0 else vlmax at.vlen at.vtype) t in let most = k.vl_in_range in omega arith)
    (λ f. let e = ap (λ (b : Bool). if b then 0 else vlmax at.vlen at.vtype) f in let most = k.vl_in_range in omega arith)
    (cases_Bool (nat_eq at.vtype vill))

-- a word of an operand that holds an element below vl is there
pub placed_word : (r : Reading) → IsSetting r.at → (o : Operand) (register w : ℕ) → o ≡ Single → IsPlaced r o register → IsTrue (is_width (sew_of r)) → w * (64 / sew_of r) < r.at.vl → place_of r.at.vlen register w < words_of_all r.at.vlen
placed_word r k o register w e placed width l =
    let p = subst (λ (o : Operand). IsPlaced r o register) e placed in
    let most = vl-le r.at k in
    let below : w * (64 / sew_of r) < vlmax r.at.vlen r.at.vtype = omega arith in
    let at = first_word (sew_of r) w width in
    let within = p.within (w * (64 / sew_of r)) below in
    in_place register (registers_of_operand r Single) w (r.at.vlen / 64) p.room (subst (λ n. n < registers_of_operand r Single * (r.at.vlen / 64)) at within)

-- how many words the destination has
pub words_of_group : (r : Reading) (o : Operand) (register : ℕ) → IsTrue (not (is_absent o)) → length (places_of_operand r o register) ≡ registers_of_operand r o * words_of_register r.at.vlen
words_of_group r Absent register h = absurd (false≢true h)
words_of_group r other register h = length-range_with_len (place_of r.at.vlen register 0) (registers_of_operand r other * words_of_register r.at.vlen)

-- an operand that has a word is there
pub is_there : (r : Reading) (o : Operand) (register w : ℕ) → w < length (places_of_operand r o register) → IsTrue (not (is_absent o))
is_there r Absent register w l = absurd (omega (arith, l))
is_there r other register w l = refl

pub destination_place : (r : Reading) (w : ℕ) → IsTrue (not (is_absent (operands_of r.family).destination)) → IsPlaced r (operands_of r.family).destination r.places.vd → w < length (destination_words r) → place_of r.at.vlen r.places.vd w < words_of_all r.at.vlen
destination_place r w h placed l =
    in_place r.places.vd (registers_of_operand r (operands_of r.family).destination) w (r.at.vlen / 64) placed.room (subst (λ n. w < n) (words_of_group r (operands_of r.family).destination r.places.vd h) l)

pub vs1_is : (r : Reading) → r.first ≡ Vector → vs1_operand r ≡ (operands_of r.family).vs1
vs1_is r e = ap (λ (f : First). vs1_operand_by r f) e

-- ---- the mask

vm_false : (r : Reading) (v : Vm) → is_unmasked_by r v ≡ false → r.places.vm ≡ false
vm_false r Any h = h
vm_false r Zero h = absurd (true≢false h)
vm_false r One h = absurd (true≢false h)

pub masked : (r : Reading) → is_unmasked r ≡ false → r.places.vm ≡ false
masked r h = vm_false r r.vm h

pub mask_are : (r : Reading) (w n mask : ℕ) → n ≡ per_word r → AreLanes 1 mask n (λ k. element r.at.vlen r.words 0 1 (w * n + k)) → AreMaskBits r w mask
mask_are r w n mask e h = subst (λ m. (k : ℕ) → k < m → nat_eq (lane 1 mask k) 1 ≡ mask_bit r (w * m + k)) e (λ k l. ap (λ x. nat_eq x 1) (h k l))

pub zero_lane : (k : ℕ) → nat_eq (lane 1 0 k) 1 ≡ false
zero_lane k = let e : lane 1 0 k ≡ 0 = grind arith in ap (λ x. nat_eq x 1) e

-- ---- the operands of a word's elements

pub sources_are : (r : Reading) (w sew : ℕ) (from : Sources) → IsEvenOf r.first (operands_of r.family) → IsTrue (is_width (sew_of r)) → sew ≡ sew_of r → from.a ≡ word_at r.at.vlen r.words r.places.vs2 w → AreLanes sew from.b (64 / sew) (λ k. second_operand r (w * (64 / sew) + k)) → from.d ≡ word_at r.at.vlen r.words r.places.vd w → (r.places.vm ≡ false → AreLanes 1 from.m (64 / sew) (λ k. element r.at.vlen r.words 0 1 (w * (64 / sew) + k))) → (r.places.vm ≡ true → from.m ≡ 0) → AreSources r w (even_packing (sew_of r)) from
sources_are r w sew from even width e a b d some none =
    subst (λ n. (k : ℕ) → k < n → numbers_of (sew_of r) r.at.vxrm (lane_of (even_packing (sew_of r)) from k) ≡ numbers_at r (w * n + k)) (sym (ap (λ n. 64 / n) (destination_even r even)))
    (λ k l. λ i. record {
      sew = sew_of r;
      mode = r.at.vxrm;
      a = first k l i;
      b = second k l i;
      d = old k l i;
      m = bit k l i;
    })
  where
    n : ℕ
    n = 64 / sew_of r

    first : (k : ℕ) → k < n → lane (sew_of r) from.a k ≡ element r.at.vlen r.words r.places.vs2 (vs2_width r) (w * n + k)
    first k l =
        ap (λ x. lane (sew_of r) x k) a
        ∙ sym (even_element r.at.vlen r.words r.places.vs2 (sew_of r) w k width l)
        ∙ ap (λ x. element r.at.vlen r.words r.places.vs2 x (w * n + k)) (sym (vs2_even r even))

    old : (k : ℕ) → k < n → lane (sew_of r) from.d k ≡ element r.at.vlen r.words r.places.vd (destination_width r) (w * n + k)
    old k l =
        ap (λ x. lane (sew_of r) x k) d
        ∙ sym (even_element r.at.vlen r.words r.places.vd (sew_of r) w k width l)
        ∙ ap (λ x. element r.at.vlen r.words r.places.vd x (w * n + k)) (sym (destination_even r even))

    second : (k : ℕ) → k < n → lane (sew_of r) from.b k ≡ second_operand r (w * n + k)
    second = subst (λ s. AreLanes s from.b (64 / s) (λ k. second_operand r (w * (64 / s) + k))) e b

    bit : (k : ℕ) → k < n → nat_eq (lane 1 from.m k) 1 ≡ (not r.places.vm && mask_bit r (w * n + k))
    bit k l =
        ⊎_elim
        (λ t. ap (λ x. nat_eq (lane 1 x k) 1) (none t) ∙ zero_lane k ∙ sym (ap (λ b. not b && mask_bit r (w * n + k)) t))
        (λ f. ap (λ x. nat_eq x 1) (subst (λ s. AreLanes 1 from.m (64 / s) (λ k. element r.at.vlen r.words 0 1 (w * (64 / s) + k))) e (some f) k l) ∙ sym (ap (λ b. not b && mask_bit r (w * n + k)) f))
        (cases_Bool r.places.vm)
