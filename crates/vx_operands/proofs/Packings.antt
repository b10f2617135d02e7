-- Rows whose operands have other widths than the destination.
use Rattle.std.proofs.Common.{◌≡◌, ℕ, ◌+◌, ◌-◌, ◌*◌, ◌/◌, ◌%◌, ◌^◌, ◌<◌, ◌≤◌, Bool, true, false, not, ◌&&◌, ◌||◌, IsTrue, nat_eq, if◌then◌else◌, refl, sym, ap, ◌∙◌, subst, ⊎_elim, arith}
use Rattle.std.proofs.lemmas.Bool.{false≢true, and_parts, cases_Bool, eqb-true, or_cases}
use Rattle.vx_bits.specs.Width.{is_width}
use Rattle.vx_decode.specs.Groups.{width_of}
use Rattle.vx_packed.specs.Joined.{lane}
use Rattle.vx_base.specs.Numbers.{truth}
use Rattle.vx_packed.specs.Made.{made, lane_of}
use Rattle.vx_packed.specs.declared.elements.Made.{Made}
use Rattle.vx_packed.specs.declared.elements.Packing.{Packing}
use Rattle.vx_packed.specs.declared.elements.Sources.{Sources}
use Rattle.vx_rows.specs.Families.{operands_of}
use Rattle.vx_rows.specs.declared.family.Operand.{Operand}
use Rattle.vx_rows.specs.declared.family.Operand.TheVariants.{Double}
use Rattle.vx_rows.specs.declared.family.Operands.{Operands}
use Rattle.vx_rows.specs.declared.row.First.{First}
use Rattle.vx_rows.specs.declared.row.First.TheVariants.{Vector}
use Rattle.vx_vstate.specs.Registers.{word_at, place_of, words_of_all, element, is_element_width}
use Rattle.vx_vstate.specs.State.{IsSetting}
use Rattle.vx_vector.specs.Laws.{IsPlaced}
use Rattle.vx_vector.specs.Reading.{Reading, sew_of, destination_width, vs2_width, element_of, mask_bit, numbers_at}
use Rattle.vx_operands.specs.Forms.{second_operand}
use Rattle.vx_operands.specs.Lanes.{AreLanes, FillsPart, answer, are_groups, is_group, is_single, numbers_of, packing_of}
use Rattle.vx_operands.specs.Parts.{FillsWord, ArePartOf, is_double, is_doubling, narrow_packing, doubled_packing}
use Rattle.vx_operands.proofs.Places.{even_element, first_word}
use Rattle.vx_operands.proofs.Even.{single_is, zero_lane}
use Rattle.vx_operands.proofs.Groups.{IsGroup, placed_part}
use Rattle.vx_operands.proofs.Merging.{Element}

-- ---- widths

pub by_width : (P : ℕ → Type 0) (n : ℕ) → IsTrue (is_width n) → P 8 → P 16 → P 32 → P 64 → P n
by_width P n h a b c d =
    ⊎_elim
    (λ e. ⊎_elim
    (λ f. ⊎_elim
    (λ g. subst P (sym (eqb-true n 8 g)) a)
    (λ g. subst P (sym (eqb-true n 16 g)) b)
    (or_cases (nat_eq n 8) (nat_eq n 16) f))
    (λ f. subst P (sym (eqb-true n 32 f)) c)
    (or_cases (nat_eq n 8 || nat_eq n 16) (nat_eq n 32) e))
    (λ e. subst P (sym (eqb-true n 64 e)) d)
    (or_cases (nat_eq n 8 || nat_eq n 16 || nat_eq n 32) (nat_eq n 64) h)

-- a width of which there is twice as large a one
pub doubles : (n : ℕ) → IsTrue (is_width n) → IsTrue (is_element_width (2 * n)) → n ≤ 32
doubles n h k = by_width (λ n. IsTrue (is_element_width (2 * n)) → n ≤ 32) n h (λ k. omega arith) (λ k. omega arith) (λ k. omega arith) (λ k. absurd (false≢true k)) k

pub narrow_fills : (sew : ℕ) → IsTrue (is_width sew) → sew ≤ 32 → FillsWord (narrow_packing sew)
narrow_fills sew h l = by_width (λ sew. sew ≤ 32 → FillsWord (narrow_packing sew)) sew h
    (λ l. record { a = refl; b = refl; count = refl; some = omega arith; divides = refl; b_some = omega arith; b_part = refl; b_few = omega arith })
    (λ l. record { a = refl; b = refl; count = refl; some = omega arith; divides = refl; b_some = omega arith; b_part = refl; b_few = omega arith })
    (λ l. record { a = refl; b = refl; count = refl; some = omega arith; divides = refl; b_some = omega arith; b_part = refl; b_few = omega arith })
    (λ l. absurd (omega arith)) l

-- ---- where words are

-- word v of a group is there, where its first element is below the last
pub part_word : (r : Reading) → IsSetting r.at → (o : Operand) (register v : ℕ) → IsGroup r o → IsPlaced r o register → IsTrue (is_width (width_of o (sew_of r))) → v * (64 / width_of o (sew_of r)) < r.at.vl → place_of r.at.vlen register v < words_of_all r.at.vlen
part_word r k o register v g placed width l =
    subst (λ n. place_of r.at.vlen register n < words_of_all r.at.vlen) (first_word (width_of o (sew_of r)) v width) (placed_part r k o register (v * (64 / width_of o (sew_of r))) g placed l)

-- ---- the operands of the elements of a word of vs2

pub part_of : (r : Reading) (widths : Packing) (v : ℕ) (from : Sources) → FillsWord widths → widths.a ≡ vs2_width r → widths.b ≡ sew_of r → from.a ≡ word_at r.at.vlen r.words r.places.vs2 v → AreLanes widths.b from.b widths.count (λ k. second_operand r (v * widths.count + k)) → AreLanes widths.width from.d widths.count (λ k. element_of r r.places.vd (destination_width r) (v * widths.count + k)) → (r.places.vm ≡ false → AreLanes 1 from.m widths.count (λ k. element r.at.vlen r.words 0 1 (v * widths.count + k))) → (r.places.vm ≡ true → from.m ≡ 0) → ArePartOf r widths v from
part_of r widths v from fills a_is b_is a b d some none k l early = λ i. record {
  sew = b_is i;
  mode = r.at.vxrm;
  a = first i;
  b = b k l i;
  d = d k l i;
  m = bit i;
}
  where
    first : lane widths.a from.a k ≡ element r.at.vlen r.words r.places.vs2 (vs2_width r) (v * widths.count + k)
    first =
        let inside : k < 64 / widths.a = subst (λ n. k < n) fills.count l in
        ap (λ x. lane widths.a x k) a
        ∙ sym (even_element r.at.vlen r.words r.places.vs2 widths.a v k fills.a inside)
        ∙ (λ i. element r.at.vlen r.words r.places.vs2 (a_is i) (v * sym fills.count i + k))

    bit : nat_eq (lane 1 from.m k) 1 ≡ (not r.places.vm && mask_bit r (v * widths.count + k))
    bit =
        ⊎_elim
        (λ t. ap (λ x. nat_eq (lane 1 x k) 1) (none t) ∙ zero_lane k ∙ sym (ap (λ b. not b && mask_bit r (v * widths.count + k)) t))
        (λ f. ap (λ x. nat_eq x 1) (some f k l) ∙ sym (ap (λ b. not b && mask_bit r (v * widths.count + k)) f))
        (cases_Bool r.places.vm)

-- ---- what they become

truth_bit : (b : Bool) → nat_eq (truth b % 2 ^ 1) 1 ≡ b
truth_bit true = refl
truth_bit false = refl

pub record IsPartMade (r : Reading) (widths : Packing) (v : ℕ) (new : Made) : Type 0 where
  pub value : (k : ℕ) → k < widths.count → v * widths.count + k < r.at.vl → lane widths.width new.value k ≡ (answer r.family (numbers_at r (v * widths.count + k))).value % 2 ^ widths.width
  pub sats : (k : ℕ) → k < widths.count → v * widths.count + k < r.at.vl → nat_eq (lane 1 new.sats k) 1 ≡ (answer r.family (numbers_at r (v * widths.count + k))).sat

pub part_made : Element → (r : Reading) (widths : Packing) (v : ℕ) (from : Sources) (new : Made) → ArePartOf r widths v from → new ≡ made widths from (λ l. answer r.family (numbers_of widths.b r.at.vxrm l)) → IsPartMade r widths v new
part_made joined r widths v from new sources is = record {
  value = λ k l early.
      ap (λ (m : Made). lane widths.width m.value k) is
      ∙ joined widths.width widths.count (λ k. (answer r.family (numbers_of widths.b r.at.vxrm (lane_of widths from k))).value) k l
      ∙ ap (λ n. (answer r.family n).value % 2 ^ widths.width) (sources k l early);
  sats = λ k l early.
      ap (λ (m : Made). nat_eq (lane 1 m.sats k) 1) is
      ∙ ap (λ x. nat_eq x 1) (joined 1 widths.count (λ k. truth (answer r.family (numbers_of widths.b r.at.vxrm (lane_of widths from k))).sat) k l)
      ∙ truth_bit (answer r.family (numbers_of widths.b r.at.vxrm (lane_of widths from k))).sat
      ∙ ap (λ n. (answer r.family n).sat) (sources k l early);
}

-- ---- elements of twice SEW

pub record AreDoubling (is_wide : Bool) (f : First) (o : Operands) : Type 0 where
  pub destination : o.destination ≡ Double
  pub groups : IsTrue (are_groups f o)
  pub vs2 : (sew : ℕ) → width_of o.vs2 sew ≡ (if is_wide then 2 * sew else sew)

pub double_is : (o : Operand) → IsTrue (is_double o) → o ≡ Double
double_is Double h = refl
double_is other h = absurd (false≢true h)

-- vs2 has elements of twice SEW, or of SEW
either_width : (is_wide : Bool) (o : Operand) → (if is_wide then is_double o else is_single o) ≡ true → (sew : ℕ) → width_of o sew ≡ (if is_wide then 2 * sew else sew)
either_width true o h sew = ap (λ (o : Operand). width_of o sew) (double_is o h)
either_width false o h sew = ap (λ (o : Operand). width_of o sew) (single_is o h)

either_group : (is_wide : Bool) (o : Operand) → (if is_wide then is_double o else is_single o) ≡ true → is_group o ≡ true
either_group true o h = ap is_group (double_is o h)
either_group false o h = ap is_group (single_is o h)

both_true : (a b : Bool) → a ≡ true → b ≡ true → (a && b) ≡ true
both_true a b h k = λ i. h i && k i

pub doubling_of : (is_wide : Bool) (f : First) (o : Operands) → IsTrue (is_doubling is_wide f o) → AreDoubling is_wide f o
doubling_of is_wide Vector o h =
    let all = and_parts (is_double o.destination && (if is_wide then is_double o.vs2 else is_single o.vs2)) (is_single o.vs1) h in
    let two = and_parts (is_double o.destination) (if is_wide then is_double o.vs2 else is_single o.vs2) all.0 in
    record {
      destination = double_is o.destination two.0;
      groups = both_true (is_group o.destination && is_group o.vs2) (is_single o.vs1) (both_true (is_group o.destination) (is_group o.vs2) (ap is_group (double_is o.destination two.0)) (either_group is_wide o.vs2 two.1)) all.1;
      vs2 = either_width is_wide o.vs2 two.1;
    }
doubling_of is_wide other o h =
    let two = and_parts (is_double o.destination) (if is_wide then is_double o.vs2 else is_single o.vs2) h in
    record {
      destination = double_is o.destination two.0;
      groups = both_true (is_group o.destination) (is_group o.vs2) (ap is_group (double_is o.destination two.0)) (either_group is_wide o.vs2 two.1);
      vs2 = either_width is_wide o.vs2 two.1;
    }

pub doubled_is : (r : Reading) (is_wide : Bool) (sew : ℕ) → AreDoubling is_wide r.first (operands_of r.family) → sew ≡ sew_of r → doubled_packing sew is_wide ≡ packing_of r
doubled_is r is_wide sew h e =
    let d : 2 * sew ≡ destination_width r = ap (λ s. 2 * s) e ∙ sym (ap (λ (o : Operand). width_of o (sew_of r)) h.destination) in
    let a : (if is_wide then 2 * sew else sew) ≡ vs2_width r = ap (λ s. if is_wide then 2 * s else s) e ∙ sym (h.vs2 (sew_of r)) in
    λ i. record { count = 64 / d i; width = d i; a = a i; b = e i }

pub record DoubledFits (at : Packing) : Type 0 where
  pub width : IsTrue (is_width at.width)
  pub some_a : 0 < at.a * at.count
  pub some_b : 0 < at.b * at.count
  pub a_part : FillsPart at.a at.count
  pub b_part : FillsPart at.b at.count
  pub few : at.count ≤ 64 / at.b

pub doubled_fits : (is_wide : Bool) (sew : ℕ) → IsTrue (is_width sew) → sew ≤ 32 → DoubledFits (doubled_packing sew is_wide)
doubled_fits true sew h l = by_width (λ sew. sew ≤ 32 → DoubledFits (doubled_packing sew true)) sew h
    (λ l. record { width = refl; some_a = omega arith; some_b = omega arith; a_part = refl; b_part = refl; few = omega arith })
    (λ l. record { width = refl; some_a = omega arith; some_b = omega arith; a_part = refl; b_part = refl; few = omega arith })
    (λ l. record { width = refl; some_a = omega arith; some_b = omega arith; a_part = refl; b_part = refl; few = omega arith })
    (λ l. absurd (omega arith)) l
doubled_fits false sew h l = by_width (λ sew. sew ≤ 32 → DoubledFits (doubled_packing sew false)) sew h
    (λ l. record { width = refl; some_a = omega arith; some_b = omega arith; a_part = refl; b_part = refl; few = omega arith })
    (λ l. record { width = refl; some_a = omega arith; some_b = omega arith; a_part = refl; b_part = refl; few = omega arith })
    (λ l. record { width = refl; some_a = omega arith; some_b = omega arith; a_part = refl; b_part = refl; few = omega arith })
    (λ l. absurd (omega arith)) l

-- ---- SEW, where there is twice as large a width

pub twice : (sew : ℕ) → IsTrue (is_width sew) → sew ≤ 32 → IsTrue (is_width (2 * sew))
twice sew h l = by_width (λ sew. sew ≤ 32 → IsTrue (is_width (2 * sew))) sew h (λ l. refl) (λ l. refl) (λ l. refl) (λ l. absurd (omega arith)) l

-- an operand of twice SEW is there
pub small_of : (r : Reading) (o : Operand) (register : ℕ) → o ≡ Double → IsPlaced r o register → IsTrue (is_width (sew_of r)) → sew_of r ≤ 32
small_of r o register e placed width =
    let p = subst (λ (o : Operand). IsPlaced r o register) e placed in
    doubles (sew_of r) width p.width
