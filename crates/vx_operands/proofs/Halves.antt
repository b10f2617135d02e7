-- A word of the destination whose halves are made of two words of vs2.
use Rattle.std.proofs.Common.{◌≡◌, ℕ, ◌+◌, ◌-◌, ◌*◌, ◌/◌, ◌%◌, ◌^◌, ◌<◌, ◌≤◌, Bool, true, ◌&&◌, ◌||◌, IsTrue, leb, ltb, nat_eq, if◌then◌else◌, refl, sym, ap, ◌∙◌, subst, ⊎_elim, arith, lt-ltb, le-ltb, mod-lt, mod-eq_of_lt, pow_pos}
use Rattle.std.proofs.lemmas.Bool.{true≢false, and_parts, cases_lt}
use Rattle.vx_base.specs.Numbers.{field, truth}
use Rattle.vx_bits.specs.Width.{is_width}
use Rattle.vx_decode.specs.Groups.{width_of}
use Rattle.vx_packed.specs.Joined.{lane, joined}
use Rattle.vx_packed.specs.Made.{made, lane_of}
use Rattle.vx_packed.specs.declared.elements.Made.{Made}
use Rattle.vx_packed.specs.declared.elements.Packing.{Packing}
use Rattle.vx_packed.specs.declared.elements.Sources.{Sources}
use Rattle.vx_rows.specs.Families.{operands_of}
use Rattle.vx_rows.specs.declared.family.Operand.{Operand}
use Rattle.vx_rows.specs.declared.family.Operand.TheVariants.{Single, Double}
use Rattle.vx_rows.specs.declared.family.Operands.{Operands}
use Rattle.vx_rows.specs.declared.row.First.{First}
use Rattle.vx_rows.specs.declared.row.First.TheVariants.{Vector}
use Rattle.vx_vstate.specs.Registers.{word_at, element}
use Rattle.vx_vector.specs.Reading.{Reading, sew_of, destination_width, vs2_width, element_of, count_of, count_in, whole_registers, is_active, mask_bit, numbers_at}
use Rattle.vx_operands.specs.Forms.{is_unmasked}
use Rattle.vx_operands.specs.Lanes.{AreLanes, AreMade, answer, is_single, numbers_of}
use Rattle.vx_operands.specs.Parts.{ArePartOf, is_double, is_narrowing, narrow_packing}
use Rattle.vx_operands.proofs.Places.{even_element, lane_shifted}
use Rattle.vx_operands.proofs.Even.{single_is}
use Rattle.vx_operands.proofs.Merging.{Element, Whole, Same}
use Rattle.vx_operands.proofs.Packings.{by_width, double_is, IsPartMade, part_made}

-- ---- elements one behind another

pub record AreBeside (width n m a b x : ℕ) : Type 0 where
  pub low : (k : ℕ) → k < n → lane width x k ≡ lane width a k
  pub high : (k : ℕ) → k < m → lane width x (n + k) ≡ lane width b k

-- a word is that of numbers that are its lanes
of_lanes : Whole → Same → (width n x : ℕ) (f : ℕ → ℕ) → x < 2 ^ (n * width) → ((k : ℕ) → k < n → f k ≡ lane width x k) → x ≡ joined width n f
of_lanes whole same width n x f h e = sym (mod-eq_of_lt h) ∙ sym (whole width n x) ∙ same width n (lane width x) f (λ k l. ap (λ y. y % 2 ^ width) (sym (e k l)))

-- elements one behind another are those of any numbers of which both words are
abbrev pub Joins : (width n m low high x : ℕ) → Type 0
Joins width n m low high x = (f : ℕ → ℕ) → low ≡ joined width n f → high ≡ joined width m (λ k. f (n + k)) → x ≡ joined width (n + m) f

pub beside_are : Element → Whole → Same → (width n m low high x : ℕ) → low < 2 ^ (n * width) → high < 2 ^ (m * width) → Joins width n m low high x → AreBeside width n m low high x
beside_are element whole same width n m low high x l h is = record {
  low = λ k i.
      let inside : k < n + m = omega arith in
      ap (λ y. lane width y k) x_is ∙ element width (n + m) f k inside ∙ ap (λ y. y % 2 ^ width) (at_low k i) ∙ mod-eq_of_lt (mod-lt (low / 2 ^ (k * width)) (pow_pos width));
  high = λ k i.
      let inside : n + k < n + m = omega arith in
      ap (λ y. lane width y (n + k)) x_is ∙ element width (n + m) f (n + k) inside ∙ ap (λ y. y % 2 ^ width) (at_high k) ∙ mod-eq_of_lt (mod-lt (high / 2 ^ (k * width)) (pow_pos width));
}
  where
    f : ℕ → ℕ
    f k = if ltb k n then lane width low k else lane width high (k - n)

    at_low : (k : ℕ) → k < n → f k ≡ lane width low k
    at_low k i = ap (λ (b : Bool). if b then lane width low k else lane width high (k - n)) (lt-ltb k n i)

    at_high : (k : ℕ) → f (n + k) ≡ lane width high k
    at_high k =
        let late : n ≤ n + k = omega arith in
        let back : n + k - n ≡ k = omega arith in
        ap (λ (b : Bool). if b then lane width low (n + k) else lane width high (n + k - n)) (le-ltb (n + k) n late) ∙ ap (lane width high) back

    x_is : x ≡ joined width (n + m) f
    x_is = is f (of_lanes whole same width n low f l at_low) (of_lanes whole same width m high (λ k. f (n + k)) h (λ k i. at_high k))

-- ---- active elements

pub active_below : (r : Reading) (i : ℕ) → is_active r i ≡ true → i < count_of r
active_below r i h =
    let all = and_parts (leb r.at.vstart i && ltb i (count_of r)) (is_unmasked r || mask_bit r i) h in
    let two = and_parts (leb r.at.vstart i) (ltb i (count_of r)) all.0 in
    ⊎_elim (λ l. l) (λ m. absurd (true≢false (sym two.1 ∙ le-ltb i (count_of r) m))) (cases_lt i (count_of r))

-- ---- rows that narrow

pub record AreNarrowing (f : First) (o : Operands) : Type 0 where
  pub destination : o.destination ≡ Single
  pub vs2 : o.vs2 ≡ Double
  pub vs1 : f ≡ Vector → o.vs1 ≡ Single

pub narrowing_of : (f : First) (o : Operands) → IsTrue (is_narrowing f o) → AreNarrowing f o
narrowing_of Vector o h =
    let all = and_parts (is_single o.destination && is_double o.vs2) (is_single o.vs1) h in
    let two = and_parts (is_single o.destination) (is_double o.vs2) all.0 in
    record { destination = single_is o.destination two.0; vs2 = double_is o.vs2 two.1; vs1 = λ e. single_is o.vs1 all.1 }
narrowing_of other o h =
    let two = and_parts (is_single o.destination) (is_double o.vs2) h in
    record { destination = single_is o.destination two.0; vs2 = double_is o.vs2 two.1; vs1 = λ e. absurd (cc) }

module _ (r : Reading) (h : AreNarrowing r.first (operands_of r.family)) where
  pub narrowing_width : destination_width r ≡ sew_of r
  narrowing_width = ap (λ (o : Operand). width_of o (sew_of r)) h.destination

  pub narrowing_vs2 : vs2_width r ≡ 2 * sew_of r
  narrowing_vs2 = ap (λ (o : Operand). width_of o (sew_of r)) h.vs2

  pub narrowing_count : count_of r ≡ r.at.vl
  narrowing_count = ap (λ (o : Operand). if nat_eq (whole_registers o) 0 then r.at.vl else count_in r o) h.destination

halves_are : (sew : ℕ) → IsTrue (is_width sew) → sew ≤ 32 → (64 / sew ≡ 32 / sew + 32 / sew) × (32 / sew * sew ≡ 32)
halves_are sew h l = by_width (λ sew. sew ≤ 32 → (64 / sew ≡ 32 / sew + 32 / sew) × (32 / sew * sew ≡ 32)) sew h (λ l. (refl, refl)) (λ l. (refl, refl)) (λ l. (refl, refl)) (λ l. absurd (omega arith)) l

-- the old elements of both halves
pub old_low : (r : Reading) (w sew old : ℕ) → IsTrue (is_width sew) → sew ≤ 32 → sew ≡ destination_width r → old ≡ word_at r.at.vlen r.words r.places.vd w → AreLanes sew old (32 / sew) (λ k. element_of r r.places.vd (destination_width r) (2 * w * (32 / sew) + k))
old_low r w sew old width small d is k l =
    let two = (halves_are sew width small).0 in
    let inside : k < 64 / sew = omega arith in
    let rows : w * (64 / sew) ≡ w * (32 / sew + 32 / sew) = ap (λ n. w * n) two in
    let index : w * (64 / sew) + k ≡ 2 * w * (32 / sew) + k = omega arith in
    ap (λ x. lane sew x k) is ∙ sym (even_element r.at.vlen r.words r.places.vd sew w k width inside) ∙ (λ i. element r.at.vlen r.words r.places.vd (d i) (index i))

pub old_high : (r : Reading) (w sew old : ℕ) → IsTrue (is_width sew) → sew ≤ 32 → sew ≡ destination_width r → old ≡ word_at r.at.vlen r.words r.places.vd w → AreLanes sew (old / 2 ^ 32) (32 / sew) (λ k. element_of r r.places.vd (destination_width r) ((2 * w + 1) * (32 / sew) + k))
old_high r w sew old width small d is k l =
    let both = halves_are sew width small in
    let two = both.0 in
    let bits = both.1 in
    let inside : 32 / sew + k < 64 / sew = omega arith in
    let rows : w * (64 / sew) ≡ w * (32 / sew + 32 / sew) = ap (λ n. w * n) two in
    let index : w * (64 / sew) + (32 / sew + k) ≡ (2 * w + 1) * (32 / sew) + k = omega arith in
    let place : 32 + k * sew ≡ (32 / sew + k) * sew = omega arith in
    lane_shifted sew old 32 k
    ∙ (λ i. field (is i) (place i) sew)
    ∙ sym (even_element r.at.vlen r.words r.places.vd sew w (32 / sew + k) width inside)
    ∙ (λ i. element r.at.vlen r.words r.places.vd (d i) (index i))

pub halves_made : (r : Reading) (w sew : ℕ) (low high new : Made) → IsTrue (is_width sew) → sew ≤ 32 → sew ≡ destination_width r → count_of r ≡ r.at.vl → IsPartMade r (narrow_packing sew) (2 * w) low → IsPartMade r (narrow_packing sew) (2 * w + 1) high → AreBeside sew (32 / sew) (32 / sew) low.value high.value new.value → AreBeside 1 (32 / sew) (32 / sew) low.sats high.sats new.sats → AreMade r w new
halves_made r w sew low high new width small d count first second values sats = record {
  value = subst (λ s. (k : ℕ) → k < 64 / s → is_active r (w * (64 / s) + k) ≡ true → lane s new.value k ≡ (answer r.family (numbers_at r (w * (64 / s) + k))).value % 2 ^ s) d value;
  sats = subst (λ s. (k : ℕ) → k < 64 / s → is_active r (w * (64 / s) + k) ≡ true → nat_eq (lane 1 new.sats k) 1 ≡ (answer r.family (numbers_at r (w * (64 / s) + k))).sat) d saturates;
}
  where
    n : ℕ
    n = 32 / sew

    two : 64 / sew ≡ n + n
    two = (halves_are sew width small).0

    rows : w * (64 / sew) ≡ w * (n + n)
    rows = ap (λ x. w * x) two

    value : (k : ℕ) → k < 64 / sew → is_active r (w * (64 / sew) + k) ≡ true → lane sew new.value k ≡ (answer r.family (numbers_at r (w * (64 / sew) + k))).value % 2 ^ sew
    value k l active =
        let below = active_below r (w * (64 / sew) + k) active in
        ⊎_elim
        (λ i.
        let index : 2 * w * n + k ≡ w * (64 / sew) + k = omega (arith, rows) in
        let early : 2 * w * n + k < r.at.vl = omega (arith, index, below, count) in
        values.low k i ∙ first.value k i early ∙ ap (λ x. (answer r.family (numbers_at r x)).value % 2 ^ sew) index)
        (λ m.
        let behind : k ≡ n + (k - n) = omega (arith, m) in
        let i : k - n < n = omega (arith, l, two, m) in
        let index : (2 * w + 1) * n + (k - n) ≡ w * (64 / sew) + k = omega (arith, rows, m) in
        let early : (2 * w + 1) * n + (k - n) < r.at.vl = omega (arith, index, below, count) in
        ap (lane sew new.value) behind ∙ values.high (k - n) i ∙ second.value (k - n) i early ∙ ap (λ x. (answer r.family (numbers_at r x)).value % 2 ^ sew) index)
        (cases_lt k n)

    saturates : (k : ℕ) → k < 64 / sew → is_active r (w * (64 / sew) + k) ≡ true → nat_eq (lane 1 new.sats k) 1 ≡ (answer r.family (numbers_at r (w * (64 / sew) + k))).sat
    saturates k l active =
        let below = active_below r (w * (64 / sew) + k) active in
        ⊎_elim
        (λ i.
        let index : 2 * w * n + k ≡ w * (64 / sew) + k = omega (arith, rows) in
        let early : 2 * w * n + k < r.at.vl = omega (arith, index, below, count) in
        ap (λ x. nat_eq x 1) (sats.low k i) ∙ first.sats k i early ∙ ap (λ x. (answer r.family (numbers_at r x)).sat) index)
        (λ m.
        let behind : k ≡ n + (k - n) = omega (arith, m) in
        let i : k - n < n = omega (arith, l, two, m) in
        let index : (2 * w + 1) * n + (k - n) ≡ w * (64 / sew) + k = omega (arith, rows, m) in
        let early : (2 * w + 1) * n + (k - n) < r.at.vl = omega (arith, index, below, count) in
        ap (λ x. nat_eq x 1) (ap (lane 1 new.sats) behind ∙ sats.high (k - n) i) ∙ second.sats (k - n) i early ∙ ap (λ x. (answer r.family (numbers_at r x)).sat) index)
        (cases_lt k n)

abbrev pub Below : Type 0
Below = (width n : ℕ) (f : ℕ → ℕ) → joined width n f < 2 ^ (n * width)

-- what was made is below the power of its bits
pub value_below : Below → (r : Reading) (at : Packing) (from : Sources) (new : Made) → new ≡ made at from (λ l. answer r.family (numbers_of at.b r.at.vxrm l)) → new.value < 2 ^ (at.count * at.width)
value_below below r at from new is =
    subst (λ (m : Made). m.value < 2 ^ (at.count * at.width)) (sym is) (below at.width at.count (λ k. (answer r.family (numbers_of at.b r.at.vxrm (lane_of at from k))).value))

pub sats_below : Below → (r : Reading) (at : Packing) (from : Sources) (new : Made) → new ≡ made at from (λ l. answer r.family (numbers_of at.b r.at.vxrm l)) → new.sats < 2 ^ (at.count * 1)
sats_below below r at from new is =
    subst (λ (m : Made). m.sats < 2 ^ (at.count * 1)) (sym is) (below 1 at.count (λ k. truth (answer r.family (numbers_of at.b r.at.vxrm (lane_of at from k))).sat))

pub halves_all : Element → Whole → Same → Below → (r : Reading) (w sew x y : ℕ) (low high : Made) (first second : Sources) → IsTrue (is_width sew) → sew ≤ 32 → sew ≡ destination_width r → count_of r ≡ r.at.vl → ArePartOf r (narrow_packing sew) (2 * w) first → ArePartOf r (narrow_packing sew) (2 * w + 1) second → low ≡ made (narrow_packing sew) first (λ l. answer r.family (numbers_of sew r.at.vxrm l)) → high ≡ made (narrow_packing sew) second (λ l. answer r.family (numbers_of sew r.at.vxrm l)) → Joins sew (32 / sew) (32 / sew) low.value high.value x → Joins 1 (32 / sew) (32 / sew) low.sats high.sats y → AreMade r w (record { value = x; sats = y })
halves_all element whole same below r w sew x y low high first second width small d count low_of high_of low_is high_is values sats =
    halves_made r w sew low high (record { value = x; sats = y }) width small d count
    (part_made element r (narrow_packing sew) (2 * w) first low low_of low_is)
    (part_made element r (narrow_packing sew) (2 * w + 1) second high high_of high_is)
    (beside_are element whole same sew (32 / sew) (32 / sew) low.value high.value x (value_below below r (narrow_packing sew) first low low_is) (value_below below r (narrow_packing sew) second high high_is) values)
    (beside_are element whole same 1 (32 / sew) (32 / sew) low.sats high.sats y (sats_below below r (narrow_packing sew) first low low_is) (sats_below below r (narrow_packing sew) second high high_is) sats)
