-- Words of rows whose elements become something of elements at other indices, and of masks.
use Rattle.std.proofs.Common.{◌≡◌, ◌≢◌, ◌⊎◌, ℕ, zero, suc, List, ◌+◌, ◌-◌, ◌*◌, ◌/◌, ◌%◌, ◌^◌, ◌<◌, ◌≤◌, Bool, true, false, ◌&&◌, ◌||◌, IsTrue, nat_eq, leb, ltb, if◌then◌else◌, Option, Some, None, option_map, unwrap_or, refl, sym, ap, ◌∙◌, subst, ⊎_elim, arith, mod-eq_of_lt, mod-lt, pow_pos, eq-eqb, inl, inr, mul-le-mul_right}
use Rattle.std.proofs.Math.Nat.{mod-mod}
use Rattle.std.proofs.lemmas.Bool.{cases_Bool, false≢true, and_parts, cases_lt, eqb-true}
use Rattle.std.proofs.lemmas.Nat.Bits.{bit_at-pow_other}
use Rattle.std.proofs.lemmas.Bool.Decides.{nat_tests}
use Rattle.vx_bits.specs.Width.{is_width}
use Rattle.vx_bits.specs.declared.saturation.Sat.{Sat}
use Rattle.vx_packed.specs.Joined.{lane, joined, some_below}
use Rattle.vx_base.specs.Numbers.{truth}
use Rattle.vx_packed.specs.Made.{merged}
use Rattle.vx_rows.specs.Families.{operands_of}
use Rattle.vx_vstate.specs.Registers.{word_at, element, is_element_width}
use Rattle.vx_vector.specs.Arithmetic.{given, has_first, becomes, becomes_by, has_saturated}
use Rattle.vx_vector.specs.Laws.{value_after, element_after, per_word, made_word, word_saturates}
use Rattle.vx_vector.specs.Numbers.{plain}
use Rattle.vx_vector.specs.Reading.{Reading, destination_width, element_of, count_in, count_of, mask_bit, is_active, lists_of, whole_registers}
use Rattle.vx_vector.specs.Rules.{Rule, rule_of}
use Rattle.vx_vector.specs.Rules.Rule.{Index, Permute, Reduce, Put}
use Rattle.vx_operands.specs.Forms.{is_unmasked}
use Rattle.vx_operands.specs.Rising.{is_by_index, moved_by, is_first_alone, first_by}
use Rattle.vx_operands.proofs.Merging.{Whole, Same, none_below, lane_bit, full_bit, truth_one, behind}

-- an element is a lane of its word
abbrev pub Lanes : Type 0
Lanes = (vlen : ℕ) (words : List ℕ) (register width w k : ℕ) → IsTrue (is_element_width width) → k < 64 / width → element vlen words register width (w * (64 / width) + k) ≡ lane width (word_at vlen words register w) k

-- ---- which elements are active

pub count_is : (r : Reading) → whole_registers (operands_of r.family).destination ≡ 0 → count_of r ≡ r.at.vl
count_is r e = ap (λ n. if nat_eq n 0 then r.at.vl else count_in r (operands_of r.family).destination) e

pub active_at : (r : Reading) (w n bits mask lanes k : ℕ) → k < n → n ≤ 64 → count_of r ≡ r.at.vl → ((k : ℕ) → k < n → lane 1 lanes k ≡ truth ((leb r.at.vstart (w * n + k) && ltb (w * n + k) r.at.vl) && nat_eq (lane 1 bits k) 1)) → (is_unmasked r ≡ true → bits ≡ 2 ^ 64 - 1) → (is_unmasked r ≡ false → bits ≡ mask) → (is_unmasked r ≡ false → (k : ℕ) → k < n → lane 1 mask k ≡ element r.at.vlen r.words 0 1 (w * n + k)) → nat_eq (lane 1 lanes k) 1 ≡ is_active r (w * n + k)
active_at r w n bits mask lanes k l most count h all some is =
    ap (λ x. nat_eq x 1) (h k l)
    ∙ truth_one ((leb r.at.vstart (w * n + k) && ltb (w * n + k) r.at.vl) && nat_eq (lane 1 bits k) 1)
    ∙ (λ i. (leb r.at.vstart (w * n + k) && ltb (w * n + k) (sym count i)) && let_in i)
  where
    small : k < 64
    small = omega (arith, l, most)

    let_in : nat_eq (lane 1 bits k) 1 ≡ (is_unmasked r || mask_bit r (w * n + k))
    let_in =
        ⊎_elim
        (λ t. ap (λ x. nat_eq (lane 1 x k) 1) (all t) ∙ full_bit k small ∙ sym (ap (λ b. b || mask_bit r (w * n + k)) t))
        (λ f. ap (λ x. nat_eq (lane 1 x k) 1) (some f) ∙ ap (λ x. nat_eq x 1) (is f k l) ∙ sym (ap (λ b. b || mask_bit r (w * n + k)) f))
        (cases_Bool (is_unmasked r))

pub below_tells : (a b : ℕ) → ltb a b ≡ true → a < b
below_tells a b h = grind (arith, nat_tests, h)

pub active_below : (r : Reading) (i : ℕ) → is_active r i ≡ true → i < count_of r
active_below r i h =
    let two = and_parts (leb r.at.vstart i && ltb i (count_of r)) (is_unmasked r || mask_bit r i) h in
    let more = and_parts (leb r.at.vstart i) (ltb i (count_of r)) two.0 in
    below_tells i (count_of r) more.1

-- ---- a word that stays

pub all_filled : (width : ℕ) → IsTrue (is_element_width width) → 64 / width * width ≡ 64
all_filled width h = grind (arith, h)

pub unchanged_value : Whole → Same → Lanes → (r : Reading) (w old : ℕ) → IsTrue (is_element_width (destination_width r)) → old < 2 ^ 64 → ((k : ℕ) → k < per_word r → becomes r (w * per_word r + k) ≡ None) → old ≡ word_at r.at.vlen r.words r.places.vd w → old ≡ made_word r w
unchanged_value whole same lanes r w old width small none is =
    let d = destination_width r in
    let full : 2 ^ (per_word r * d) ≡ 2 ^ 64 = ap (λ n. 2 ^ n) (all_filled d width) in
    sym (mod-eq_of_lt small)
    ∙ sym (ap (λ p. old % p) full)
    ∙ sym (whole d (per_word r) old)
    ∙ same d (per_word r) (lane d old) (λ k. element_after r (w * per_word r + k))
    (λ k l.
    ap (λ n. n % 2 ^ d) (
    ap (λ word. lane d word k) is
    ∙ sym (lanes r.at.vlen r.words r.places.vd d w k width l)
    ∙ sym (ap (λ o. value_after o (element_of r r.places.vd d (w * per_word r + k))) (none k l))))

pub quiet : (r : Reading) (w : ℕ) → ((k : ℕ) → k < per_word r → has_saturated (becomes r (w * per_word r + k)) ≡ false) → word_saturates r w ≡ false
quiet r w h = none_below (per_word r) (λ k. has_saturated (becomes r (w * per_word r + k))) h

-- ---- elements of the index

pub moved_becomes : (rule : Rule) (r : Reading) (i : ℕ) → IsTrue (is_by_index rule) → becomes_by rule r i ≡ (if is_active r i then option_map plain (moved_by rule (lists_of r) i) else None)
moved_becomes (Index f) r i h = refl
moved_becomes (Permute f) r i h = refl
moved_becomes other r i h = absurd (false≢true h)

moved_after : (b : Bool) (o : Option ℕ) (old : ℕ) → value_after (if b then option_map plain o else None) old ≡ (if b then unwrap_or o old else old)
moved_after true (Some x) old = refl
moved_after true None old = refl
moved_after false o old = refl

moved_quiet : (b : Bool) (o : Option ℕ) → has_saturated (if b then option_map plain o else None) ≡ false
moved_quiet true (Some x) = refl
moved_quiet true None = refl
moved_quiet false o = refl

pub moved_late : (r : Reading) (i : ℕ) → IsTrue (is_by_index (rule_of r.family)) → count_of r ≤ i → becomes r i ≡ None
moved_late r i by late = moved_becomes (rule_of r.family) r i by ∙ ap (λ (b : Bool). if b then option_map plain (moved_by (rule_of r.family) (lists_of r) i) else None) (behind r i late)

pub moved_sat : (r : Reading) (w : ℕ) → IsTrue (is_by_index (rule_of r.family)) → word_saturates r w ≡ false
moved_sat r w by = quiet r w (λ k l. ap has_saturated (moved_becomes (rule_of r.family) r (w * per_word r + k) by) ∙ moved_quiet (is_active r (w * per_word r + k)) (moved_by (rule_of r.family) (lists_of r) (w * per_word r + k)))

pub moved_value : Same → Lanes → (r : Reading) (w width active old : ℕ) → IsTrue (is_by_index (rule_of r.family)) → width ≡ destination_width r → IsTrue (is_element_width width) → ((k : ℕ) → k < 64 / width → nat_eq (lane 1 active k) 1 ≡ is_active r (w * (64 / width) + k)) → old ≡ word_at r.at.vlen r.words r.places.vd w → joined width (64 / width) (λ k. if nat_eq (lane 1 active k) 1 then unwrap_or (moved_by (rule_of r.family) (lists_of r) (w * (64 / width) + k)) (lane width old k) else lane width old k) ≡ made_word r w
moved_value same lanes r w width active old by e is_width are is =
    same width (64 / width) (λ k. if nat_eq (lane 1 active k) 1 then unwrap_or (moved_by (rule_of r.family) (lists_of r) (w * (64 / width) + k)) (lane width old k) else lane width old k) (λ k. element_after r (w * (64 / width) + k))
    (λ k l. ap (λ n. n % 2 ^ width) (at k l))
    ∙ ap (λ d. joined d (64 / d) (λ k. element_after r (w * (64 / d) + k))) e
  where
    at : (k : ℕ) → k < 64 / width → (if nat_eq (lane 1 active k) 1 then unwrap_or (moved_by (rule_of r.family) (lists_of r) (w * (64 / width) + k)) (lane width old k) else lane width old k) ≡ element_after r (w * (64 / width) + k)
    at k l =
        let i = w * (64 / width) + k in
        let o = moved_by (rule_of r.family) (lists_of r) i in
        let before : lane width old k ≡ element_of r r.places.vd (destination_width r) i =
        ap (λ word. lane width word k) is
        ∙ sym (lanes r.at.vlen r.words r.places.vd width w k is_width l)
        ∙ ap (λ d. element_of r r.places.vd d i) e in
        (λ j. if are k l j then unwrap_or o (before j) else before j)
        ∙ sym (moved_after (is_active r i) o (element_of r r.places.vd (destination_width r) i))
        ∙ sym (ap (λ (b : Option Sat). value_after b (element_of r r.places.vd (destination_width r) i)) (moved_becomes (rule_of r.family) r i by))

-- ---- one lane after another

-- the lanes below n are as they must be
pub record AreAfterBelow (post : ℕ → Option ℕ → Type 0) (width active old n word : ℕ) : Type 0 where
  pub below : word < 2 ^ (n * width)
  pub value : (g : ℕ → Option ℕ) → ((k : ℕ) → k < n → nat_eq (lane 1 active k) 1 ≡ true → (o : Option ℕ) → post k o → o ≡ g k) → word ≡ joined width n (λ k. if nat_eq (lane 1 active k) 1 then unwrap_or (g k) (lane width old k) else lane width old k)

none_joined : (width : ℕ) (f : ℕ → ℕ) → joined width 0 f ≡ 0
unfolding joined
none_joined width f = refl

one_joined : (width : ℕ) (f : ℕ → ℕ) → joined width 1 f ≡ joined width 0 f + f 0 % 2 ^ width * 2 ^ (0 * width)
unfolding joined
one_joined width f = refl

pub after_none : (post : ℕ → Option ℕ → Type 0) (width active old : ℕ) → AreAfterBelow post width active old 0 0
after_none post width active old = record { below = pow_pos (0 * width); value = λ g h. sym (none_joined width _) }

pub one_lane : (width x : ℕ) (f : ℕ → ℕ) → x ≡ f 0 % 2 ^ width → x ≡ joined width 1 f
one_lane width x f e =
    let z : 0 * width ≡ 0 = omega arith in
    let p : 2 ^ (0 * width) ≡ 1 = ap (λ m. 2 ^ m) z in
    let t : f 0 % 2 ^ width * 2 ^ (0 * width) ≡ f 0 % 2 ^ width * 1 = ap (λ m. f 0 % 2 ^ width * m) p in
    let s = one_joined width f in
    let u = none_joined width f in
    omega (arith, e, s, t, u)

pub after_more : (post : ℕ → Option ℕ → Type 0) (width active old n word next lowest result : ℕ) → AreAfterBelow post width active old n word → ((g : Option ℕ) → (nat_eq (lane 1 active n) 1 ≡ true → (o : Option ℕ) → post n o → o ≡ g) → next ≡ (if nat_eq (lane 1 active n) 1 then unwrap_or g (lane width old n) else lane width old n)) → lowest ≡ next % 2 ^ width → ((f : ℕ → ℕ) → word ≡ joined width n f → lowest ≡ joined width 1 (λ k. f (n + k)) → result ≡ joined width (n + 1) f) → result < 2 ^ ((n + 1) * width) → AreAfterBelow post width active old (n + 1) result
after_more post width active old n word next lowest result so_far is low joins below = record {
  below = below;
  value = λ g h.
      let f : ℕ → ℕ = λ k. if nat_eq (lane 1 active k) 1 then unwrap_or (g k) (lane width old k) else lane width old k in
      let same : n + 0 ≡ n = omega arith in
      joins f (so_far.value g (λ k l. h k (omega arith)))
      (one_lane width lowest (λ k. f (n + k)) (low ∙ ap (λ m. m % 2 ^ width) (is (g n) (h n (omega arith)) ∙ sym (ap f same))));
}

-- ---- masks

pub mask_value : Same → Lanes → (r : Reading) (w active new old : ℕ) → destination_width r ≡ 1 → ((k : ℕ) → k < 64 → nat_eq (lane 1 active k) 1 ≡ is_active r (w * 64 + k)) → old ≡ word_at r.at.vlen r.words r.places.vd w → ((i : ℕ) → is_active r i ≡ false → becomes r i ≡ None) → ((k : ℕ) → k < 64 → is_active r (w * 64 + k) ≡ true → becomes r (w * 64 + k) ≡ Some (plain (lane 1 new k))) → merged 1 64 active new old ≡ made_word r w
mask_value same lanes r w active new old e are is none some =
    same 1 64 (λ k. if nat_eq (lane 1 active k) 1 then lane 1 new k else lane 1 old k) (λ k. element_after r (w * 64 + k))
    (λ k l. ap (λ n. n % 2 ^ 1) (at k l))
    ∙ ap (λ d. joined d (64 / d) (λ k. element_after r (w * (64 / d) + k))) (sym e)
  where
    at : (k : ℕ) → k < 64 → (if nat_eq (lane 1 active k) 1 then lane 1 new k else lane 1 old k) ≡ element_after r (w * 64 + k)
    at k l =
        let i = w * 64 + k in
        let before : lane 1 old k ≡ element_of r r.places.vd (destination_width r) i =
        ap (λ word. lane 1 word k) is
        ∙ sym (lanes r.at.vlen r.words r.places.vd 1 w k refl l)
        ∙ ap (λ d. element_of r r.places.vd d i) (sym e) in
        ⊎_elim
        (λ t. ap (λ (b : Bool). if b then lane 1 new k else lane 1 old k) (are k l ∙ t) ∙ sym (ap (λ (b : Option Sat). value_after b (element_of r r.places.vd (destination_width r) i)) (some k l t)))
        (λ f. ap (λ (b : Bool). if b then lane 1 new k else lane 1 old k) (are k l ∙ f) ∙ before ∙ sym (ap (λ (b : Option Sat). value_after b (element_of r r.places.vd (destination_width r) i)) (none i f)))
        (cases_Bool (is_active r i))

-- ---- element 0 alone

first_becomes : (rule : Rule) (r : Reading) (i : ℕ) → IsTrue (is_first_alone rule) → becomes_by rule r i ≡ given (has_first r i) (plain (first_by rule r))
first_becomes (Reduce f) r i h = refl
first_becomes Put r i h = refl
first_becomes other r i h = absurd (false≢true h)

given_quiet : (b : Bool) (x : ℕ) → has_saturated (given b (plain x)) ≡ false
given_quiet true x = refl
given_quiet false x = refl

given_after : (b : Bool) (x old : ℕ) → value_after (given b (plain x)) old ≡ (if b then x else old)
given_after true x old = refl
given_after false x old = refl

none_of : (a b : Bool) → a ≡ false → (a && b) ≡ false
none_of a b e = ap (λ x. x && b) e

none_second : (a b : Bool) → b ≡ false → (a && b) ≡ false
none_second true b e = e
none_second false b e = refl

not_first : (i : ℕ) → 0 < i → nat_eq i 0 ≡ false
not_first i h = grind (arith, nat_tests, h)

pub not_below : (a b : ℕ) → b ≤ a → ltb a b ≡ false
not_below a b h = grind (arith, nat_tests, h)

pub is_below : (a b : ℕ) → a < b → ltb a b ≡ true
is_below a b h = grind (arith, nat_tests, h)

-- a word none of whose elements is written
pub first_none : (r : Reading) (w k : ℕ) → IsTrue (is_first_alone (rule_of r.family)) → (0 < w * per_word r + k) ⊎ (r.at.vl ≤ r.at.vstart) → becomes r (w * per_word r + k) ≡ None
first_none r w k alone h =
    first_becomes (rule_of r.family) r (w * per_word r + k) alone
    ∙ ap (λ (b : Bool). given b (plain (first_by (rule_of r.family) r)))
    (⊎_elim
    (λ l. none_of (nat_eq (w * per_word r + k) 0) (ltb r.at.vstart r.at.vl) (not_first (w * per_word r + k) l))
    (λ m. none_second (nat_eq (w * per_word r + k) 0) (ltb r.at.vstart r.at.vl) (not_below r.at.vstart r.at.vl m))
    h)

pub first_sat : (r : Reading) (w : ℕ) → IsTrue (is_first_alone (rule_of r.family)) → word_saturates r w ≡ false
first_sat r w alone = quiet r w (λ k l. ap has_saturated (first_becomes (rule_of r.family) r (w * per_word r + k) alone) ∙ given_quiet (has_first r (w * per_word r + k)) (first_by (rule_of r.family) r))

one_bit : (k : ℕ) → nat_eq (lane 1 1 k) 1 ≡ nat_eq k 0
one_bit zero = refl
one_bit (suc k) = let other : suc k ≢ 0 = λ q. absurd (omega arith) in ap (λ x. nat_eq x 1) (lane_bit 1 (suc k) ∙ bit_at-pow_other 0 (suc k) other) ∙ sym (not_first (suc k) (omega arith))

pub lowest_lane : (width x : ℕ) → lane width x 0 ≡ x % 2 ^ width
lowest_lane width x =
    let z : 0 * width ≡ 0 = omega arith in
    let d : x / 2 ^ (0 * width) ≡ x / 1 = ap (λ m. x / 2 ^ m) z in
    ap (λ m. m % 2 ^ width) (d ∙ omega arith)

pub first_value : Same → Lanes → (r : Reading) (width old value : ℕ) → width ≡ destination_width r → IsTrue (is_element_width width) → IsTrue (is_first_alone (rule_of r.family)) → r.at.vstart < r.at.vl → old ≡ word_at r.at.vlen r.words r.places.vd 0 → value % 2 ^ width ≡ first_by (rule_of r.family) r % 2 ^ width → merged width (64 / width) 1 value old ≡ made_word r 0
first_value same lanes r width old value e is_width alone early is equal =
    same width (64 / width) (λ k. if nat_eq (lane 1 1 k) 1 then lane width value k else lane width old k) (λ k. element_after r (0 * (64 / width) + k)) at
    ∙ ap (λ d. joined d (64 / d) (λ k. element_after r (0 * (64 / d) + k))) e
  where
    after : (i : ℕ) → element_after r i ≡ (if has_first r i then first_by (rule_of r.family) r else element_of r r.places.vd (destination_width r) i)
    after i = ap (λ (b : Option Sat). value_after b (element_of r r.places.vd (destination_width r) i)) (first_becomes (rule_of r.family) r i alone) ∙ given_after (has_first r i) (first_by (rule_of r.family) r) (element_of r r.places.vd (destination_width r) i)

    begins : ltb r.at.vstart r.at.vl ≡ true
    begins = is_below r.at.vstart r.at.vl early

    here : (k : ℕ) → k < 64 / width → (b : Bool) → nat_eq k 0 ≡ b → (if b then lane width value k else lane width old k) % 2 ^ width ≡ (if b && true then first_by (rule_of r.family) r else element_of r r.places.vd (destination_width r) k) % 2 ^ width
    here zero l true t = ap (λ n. n % 2 ^ width) (lowest_lane width value) ∙ mod-mod value (2 ^ width) ∙ equal
    here (suc k) l true t = absurd (false≢true (sym (not_first (suc k) (omega arith)) ∙ t))
    here k l false t =
        let same_index : 0 * (64 / width) + k ≡ k = omega arith in
        ap (λ n. n % 2 ^ width) (
        ap (λ word. lane width word k) is
        ∙ sym (lanes r.at.vlen r.words r.places.vd width 0 k is_width l)
        ∙ (λ j. element_of r r.places.vd (e j) (same_index j)))

    at : (k : ℕ) → k < 64 / width → (if nat_eq (lane 1 1 k) 1 then lane width value k else lane width old k) % 2 ^ width ≡ element_after r (0 * (64 / width) + k) % 2 ^ width
    at k l =
        let same_index : 0 * (64 / width) + k ≡ k = omega arith in
        ap (λ (b : Bool). (if b then lane width value k else lane width old k) % 2 ^ width) (one_bit k)
        ∙ here k l (nat_eq k 0) refl
        ∙ ap (λ (b : Bool). (if nat_eq k 0 && b then first_by (rule_of r.family) r else element_of r r.places.vd (destination_width r) k) % 2 ^ width) (sym begins)
        ∙ ap (λ n. n % 2 ^ width) (sym (after k) ∙ sym (ap (λ n. element_after r n) same_index))

or_right : (a b : Bool) → b ≡ true → (a || b) ≡ true
or_right true b h = refl
or_right false b h = h

-- a width of numbers is one of elements
pub element_width : (width : ℕ) → IsTrue (is_width width) → IsTrue (is_element_width width)
element_width width h = or_right (nat_eq width 1) (is_width width) h

-- ---- a word of a mask behind the last element

pub mask_late : (r : Reading) (w vl : ℕ) → destination_width r ≡ 1 → ((i : ℕ) → vl ≤ i → becomes r i ≡ None) → vl ≤ w * 64 → (k : ℕ) → k < per_word r → becomes r (w * per_word r + k) ≡ None
mask_late r w vl e none late k l =
    let per : per_word r ≡ 64 = ap (λ d. 64 / d) e in
    let same : w * per_word r ≡ w * 64 = ap (λ n. w * n) per in
    none (w * per_word r + k) (omega (arith, same, late))

pub mask_unchanged : (r : Reading) (w vl : ℕ) → destination_width r ≡ 1 → (result old : ℕ) → ((r : Reading) (w : ℕ) → IsTrue (is_element_width (destination_width r)) → ((k : ℕ) → k < per_word r → becomes r (w * per_word r + k) ≡ None) → old ≡ word_at r.at.vlen r.words r.places.vd w → result ≡ made_word r w) → ((i : ℕ) → vl ≤ i → becomes r i ≡ None) → vl ≤ w * 64 → old ≡ word_at r.at.vlen r.words r.places.vd w → result ≡ made_word r w
mask_unchanged r w vl e result old unchanged none late is = unchanged r w (subst (λ d. IsTrue (is_element_width d)) (sym e) refl) (mask_late r w vl e none late) is

pub mask_unchanged_sat : (r : Reading) (w vl : ℕ) → destination_width r ≡ 1 → (result : Bool) → ((r : Reading) (w : ℕ) → ((k : ℕ) → k < per_word r → becomes r (w * per_word r + k) ≡ None) → result ≡ word_saturates r w) → ((i : ℕ) → vl ≤ i → becomes r i ≡ None) → vl ≤ w * 64 → result ≡ word_saturates r w
mask_unchanged_sat r w vl e result unchanged none late = unchanged r w (mask_late r w vl e none late)

-- ---- whether element 0 is written

pub first_writes : (w a b : ℕ) → (nat_eq w 0 && ltb a b) ≡ true → (w ≡ 0) × (a < b)
first_writes w a b h = let two = and_parts (nat_eq w 0) (ltb a b) h in (eqb-true w 0 two.0, below_tells a b two.1)

first_stays : (w a b : ℕ) → (nat_eq w 0 && ltb a b) ≡ false → (0 < w) ⊎ (b ≤ a)
first_stays w a b h =
    ⊎_elim
    (λ l. inl l)
    (λ m.
    let z : w ≡ 0 = omega (arith, m) in
    ⊎_elim
    (λ l. absurd (false≢true (sym h ∙ (λ i. eq-eqb w 0 z i && is_below a b l i))))
    (λ m. inr m)
    (cases_lt a b))
    (cases_lt 0 w)

pub first_unwritten : (r : Reading) (w : ℕ) → IsTrue (is_element_width (destination_width r)) → IsTrue (is_first_alone (rule_of r.family)) → (nat_eq w 0 && ltb r.at.vstart r.at.vl) ≡ false → (k : ℕ) → k < per_word r → becomes r (w * per_word r + k) ≡ None
first_unwritten r w width alone h k l =
    first_none r w k alone
    (⊎_elim
    (λ some. let next : 1 ≤ w = some in let rows = mul-le-mul_right (per_word r) next in inl (omega (arith, rows, l)))
    (λ m. inr m)
    (first_stays w r.at.vstart r.at.vl h))
