-- A word of a destination that is a mask, made of as many words of vs2 as hold its elements.
use Rattle.std.proofs.Common.{◌≡◌, ℕ, List, ◌+◌, ◌-◌, ◌*◌, ◌/◌, ◌%◌, ◌^◌, ◌<◌, ◌≤◌, Bool, true, false, not, ◌&&◌, IsTrue, length, nat_eq, if◌then◌else◌, refl, sym, ap, ◌∙◌, subst, ⊎_elim, arith, pow_pos}
use Rattle.std.proofs.lemmas.Bool.{false≢true, and_parts, cases_lt}
use Rattle.vx_base.specs.Numbers.{field}
use Rattle.vx_bits.specs.Width.{is_width}
use Rattle.vx_decode.specs.Groups.{width_of}
use Rattle.vx_packed.specs.Joined.{lane, joined}
use Rattle.vx_packed.specs.Made.{made, merged}
use Rattle.vx_packed.specs.declared.elements.Made.{Made}
use Rattle.vx_packed.specs.declared.elements.Sources.{Sources}
use Rattle.vx_rows.specs.Families.{operands_of}
use Rattle.vx_rows.specs.declared.family.Operand.{Operand}
use Rattle.vx_rows.specs.declared.family.Operand.TheVariants.{Single, Mask}
use Rattle.vx_rows.specs.declared.family.Operands.{Operands}
use Rattle.vx_rows.specs.declared.row.First.{First}
use Rattle.vx_rows.specs.declared.row.First.TheVariants.{Vector}
use Rattle.vx_vstate.specs.Registers.{word_at, element}
use Rattle.vx_vector.specs.Arithmetic.{becomes, has_saturated}
use Rattle.vx_vector.specs.Laws.{element_after, is_absent, made_word, per_word, word_saturates}
use Rattle.vx_vector.specs.Numbers.{Numbers}
use Rattle.vx_vector.specs.Reading.{Reading, sew_of, destination_width, vs2_width, element_of, count_of, count_in, whole_registers, is_active, numbers_at}
use Rattle.vx_vector.specs.Rules.{rule_of}
use Rattle.vx_vector.specs.Words.{destination_words, registers_of_operand}
use Rattle.vx_operands.specs.Lanes.{AreLanes, answer, is_each, is_single, numbers_of}
use Rattle.vx_operands.specs.Parts.{AreBitsMade, ArePartOf, is_mask, is_comparing, bit_packing}
use Rattle.vx_operands.proofs.Places.{lane_shifted}
use Rattle.vx_operands.proofs.Even.{single_is, words_of_group}
use Rattle.vx_operands.proofs.Merging.{Element, Whole, Same, AreActive, element_is, saturates_is, pick, none_below}
use Rattle.vx_operands.proofs.Packings.{by_width, IsPartMade, part_made}
use Rattle.vx_operands.proofs.Halves.{AreBeside, Below, Joins, beside_are, value_below, active_below}

-- ---- rows whose results are bits

pub mask_is : (o : Operand) → IsTrue (is_mask o) → o ≡ Mask
mask_is Mask h = refl
mask_is other h = absurd (false≢true h)

pub record AreComparing (f : First) (o : Operands) : Type 0 where
  pub destination : o.destination ≡ Mask
  pub vs2 : o.vs2 ≡ Single
  pub vs1 : f ≡ Vector → o.vs1 ≡ Single

pub comparing_of : (f : First) (o : Operands) → IsTrue (is_comparing f o) → AreComparing f o
comparing_of Vector o h =
    let all = and_parts (is_mask o.destination && is_single o.vs2) (is_single o.vs1) h in
    let two = and_parts (is_mask o.destination) (is_single o.vs2) all.0 in
    record { destination = mask_is o.destination two.0; vs2 = single_is o.vs2 two.1; vs1 = λ e. single_is o.vs1 all.1 }
comparing_of other o h =
    let two = and_parts (is_mask o.destination) (is_single o.vs2) h in
    record { destination = mask_is o.destination two.0; vs2 = single_is o.vs2 two.1; vs1 = λ e. absurd (cc) }

module _ (r : Reading) (h : AreComparing r.first (operands_of r.family)) where
  pub comparing_width : destination_width r ≡ 1
  comparing_width = ap (λ (o : Operand). width_of o (sew_of r)) h.destination

  pub comparing_vs2 : vs2_width r ≡ sew_of r
  comparing_vs2 = ap (λ (o : Operand). width_of o (sew_of r)) h.vs2

  pub comparing_count : count_of r ≡ r.at.vl
  comparing_count = ap (λ (o : Operand). if nat_eq (whole_registers o) 0 then r.at.vl else count_in r o) h.destination

-- ---- bits of a word

pub bit_element : (vlen : ℕ) (words : List ℕ) (register w k : ℕ) → k < 64 → element vlen words register 1 (w * 64 + k) ≡ lane 1 (word_at vlen words register w) k
bit_element vlen words register w k l =
    let place : (w * 64 + k) * 1 / 64 ≡ w = omega arith in
    let bit : (w * 64 + k) * 1 % 64 ≡ k * 1 = omega arith in
    λ i. field (word_at vlen words register (place i)) (bit i) 1

count_full : (sew : ℕ) → IsTrue (is_width sew) → sew * (64 / sew) ≡ 64
count_full sew h = by_width (λ sew. sew * (64 / sew) ≡ 64) sew h refl refl refl refl

-- the old bits of the elements of a word of vs2
pub old_bits : (r : Reading) (w sew j old : ℕ) → IsTrue (is_width sew) → destination_width r ≡ 1 → j * (64 / sew) + 64 / sew ≤ 64 → old ≡ word_at r.at.vlen r.words r.places.vd w → AreLanes 1 (old / 2 ^ (j * (64 / sew))) (64 / sew) (λ k. element_of r r.places.vd (destination_width r) ((w * sew + j) * (64 / sew) + k))
old_bits r w sew j old width d fits is k l =
    let full = count_full sew width in
    let inside : j * (64 / sew) + k < 64 = omega arith in
    let rows : w * (sew * (64 / sew)) ≡ w * 64 = ap (λ n. w * n) full in
    let index : w * 64 + (j * (64 / sew) + k) ≡ (w * sew + j) * (64 / sew) + k = omega arith in
    let place : j * (64 / sew) + k * 1 ≡ (j * (64 / sew) + k) * 1 = omega arith in
    lane_shifted 1 old (j * (64 / sew)) k
    ∙ (λ i. field (is i) (place i) 1)
    ∙ sym (bit_element r.at.vlen r.words r.places.vd w (j * (64 / sew) + k) inside)
    ∙ (λ i. element r.at.vlen r.words r.places.vd (sym d i) (index i))

-- ---- one word of vs2 behind another

pub record AreBitsBelow (r : Reading) (w n bits : ℕ) : Type 0 where
  pub below : bits < 2 ^ (n * 1)
  pub made : AreBitsMade r w n bits

pub bits_none : (r : Reading) (w n : ℕ) → n ≡ 0 → AreBitsBelow r w n 0
bits_none r w n e = record { below = pow_pos (n * 1); made = record { is = λ k l early. absurd (omega (arith, e, l)) } }

-- whole words of vs2 come to 64 elements
pub part_fits : (sew j parts : ℕ) → IsTrue (is_width sew) → j < parts → parts * (64 / sew) < 64 + 64 / sew → j * (64 / sew) + 64 / sew ≤ 64
part_fits sew j parts h l m =
    by_width (λ sew. parts * (64 / sew) < 64 + 64 / sew → j * (64 / sew) + 64 / sew ≤ 64) sew h
    (λ m. omega (arith, l, m))
    (λ m. omega (arith, l, m))
    (λ m. omega (arith, l, m))
    (λ m. omega (arith, l, m)) m

pub bits_more : (r : Reading) (w sew j bits next : ℕ) (part : Made) → IsTrue (is_width sew) → AreBitsBelow r w (j * (64 / sew)) bits → IsPartMade r (bit_packing sew) (w * sew + j) part → AreBeside 1 (j * (64 / sew)) (64 / sew) bits part.value next → next < 2 ^ ((j * (64 / sew) + 64 / sew) * 1) → AreBitsBelow r w ((j + 1) * (64 / sew)) next
bits_more r w sew j bits next part width so_far made both small = record {
  below = subst (λ n. next < 2 ^ (n * 1)) more small;
  made = record { is = is };
}
  where
    n : ℕ
    n = 64 / sew

    more : j * n + n ≡ (j + 1) * n
    more = omega arith

    rows : w * (sew * n) ≡ w * 64
    rows = ap (λ x. w * x) (count_full sew width)

    is : (k : ℕ) → k < (j + 1) * n → w * 64 + k < r.at.vl → lane 1 next k ≡ (answer r.family (numbers_at r (w * 64 + k))).value % 2
    is k l early =
        ⊎_elim
        (λ i. both.low k i ∙ so_far.made.is k i early)
        (λ m.
        let behind : k ≡ j * n + (k - j * n) = omega (arith, m) in
        let i : k - j * n < n = omega (arith, l, more, m) in
        let index : (w * sew + j) * n + (k - j * n) ≡ w * 64 + k = omega (arith, rows, m) in
        let there : (w * sew + j) * n + (k - j * n) < r.at.vl = omega (arith, index, early) in
        ap (lane 1 next) behind ∙ both.high (k - j * n) i ∙ made.value (k - j * n) i there ∙ ap (λ x. (answer r.family (numbers_at r x)).value % 2) index)
        (cases_lt k (j * n))

pub bits_step : Element → Whole → Same → Below → (r : Reading) (w sew j bits next : ℕ) (part : Made) (from : Sources) → IsTrue (is_width sew) → AreBitsBelow r w (j * (64 / sew)) bits → ArePartOf r (bit_packing sew) (w * sew + j) from → part ≡ made (bit_packing sew) from (λ l. answer r.family (numbers_of sew r.at.vxrm l)) → Joins 1 (j * (64 / sew)) (64 / sew) bits part.value next → next < 2 ^ ((j * (64 / sew) + 64 / sew) * 1) → AreBitsBelow r w ((j + 1) * (64 / sew)) next
bits_step element whole same below r w sew j bits next part from width so_far sources is joins small =
    bits_more r w sew j bits next part width so_far
    (part_made element r (bit_packing sew) (w * sew + j) from part sources is)
    (beside_are element whole same 1 (j * (64 / sew)) (64 / sew) bits part.value next so_far.below (value_below below r (bit_packing sew) from part is) joins)
    small

pub bits_all : (r : Reading) (w n bits : ℕ) → AreBitsBelow r w n bits → ((k : ℕ) → k < 64 → w * 64 + k < r.at.vl → k < n) → AreBitsMade r w 64 bits
bits_all r w n bits h all = record { is = λ k l early. h.made.is k (all k l early) early }

-- ---- the word that is made

and_false : (x : Bool) → (x && false) ≡ false
and_false true = refl
and_false false = refl

pub merged_bits_value : Same → (r : Reading) (w lanes old new : ℕ) → IsTrue (is_each (rule_of r.family)) → destination_width r ≡ 1 → count_of r ≡ r.at.vl → AreActive r w lanes → old ≡ word_at r.at.vlen r.words r.places.vd w → AreBitsMade r w 64 new → merged 1 64 lanes new old ≡ made_word r w
merged_bits_value same r w lanes old new each d count active is made =
    same 1 64 (λ k. if nat_eq (lane 1 lanes k) 1 then lane 1 new k else lane 1 old k) (λ k. element_after r (w * 64 + k)) bit
    ∙ (λ i. joined (sym d i) (64 / sym d i) (λ k. element_after r (w * (64 / sym d i) + k)))
  where
    chosen : (k : ℕ) → k < 64 → nat_eq (lane 1 lanes k) 1 ≡ is_active r (w * 64 + k)
    chosen = subst (λ s. (k : ℕ) → k < 64 / s → nat_eq (lane 1 lanes k) 1 ≡ is_active r (w * (64 / s) + k)) d active.is

    bit : (k : ℕ) → k < 64 → (if nat_eq (lane 1 lanes k) 1 then lane 1 new k else lane 1 old k) % 2 ^ 1 ≡ element_after r (w * 64 + k) % 2 ^ 1
    bit k l =
        let i = w * 64 + k in
        ap (λ (b : Bool). (if b then lane 1 new k else lane 1 old k) % 2 ^ 1) (chosen k l)
        ∙ ap (λ x. (if is_active r i then lane 1 new k else x) % 2 ^ 1) (ap (λ word. lane 1 word k) is ∙ sym (bit_element r.at.vlen r.words r.places.vd w k l) ∙ ap (λ s. element_of r r.places.vd s i) (sym d))
        ∙ pick (is_active r i) (2 ^ 1) (lane 1 new k) (element_of r r.places.vd (destination_width r) i) (answer r.family (numbers_at r i)).value (λ a. made.is k l (subst (λ n. i < n) count (active_below r i a)))
        ∙ ap (λ x. x % 2 ^ 1) (sym (element_is r i each))

pub unsaturated : (r : Reading) (w : ℕ) → IsTrue (is_each (rule_of r.family)) → ((n : Numbers) → (answer r.family n).sat ≡ false) → word_saturates r w ≡ false
unsaturated r w each h =
    none_below (per_word r) (λ k. has_saturated (becomes r (w * per_word r + k)))
    (λ k l.
    let i = w * per_word r + k in
    saturates_is r i each ∙ ap (λ b. is_active r i && b) (h (numbers_at r i)) ∙ and_false (is_active r i))

-- a destination that is a mask is one register
pub mask_place : (r : Reading) (w : ℕ) → AreComparing r.first (operands_of r.family) → w < length (destination_words r) → w < r.at.vlen / 64
mask_place r w h l =
    let there = ap (λ (o : Operand). not (is_absent o)) h.destination in
    let words = words_of_group r (operands_of r.family).destination r.places.vd there in
    let one : registers_of_operand r (operands_of r.family).destination ≡ 1 = ap (registers_of_operand r) h.destination in
    let all : 1 * (r.at.vlen / 64) ≡ r.at.vlen / 64 = omega arith in
    subst (λ m. w < m) (words ∙ ap (λ k. k * (r.at.vlen / 64)) one ∙ all) l
