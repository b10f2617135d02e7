-- A word of the destination by its lanes: active elements are new, and others old.
use Rattle.std.proofs.Common.{◌≡◌, ℕ, zero, suc, ◌+◌, ◌-◌, ◌*◌, ◌/◌, ◌%◌, ◌^◌, ◌<◌, ◌≤◌, Bool, true, false, ◌&&◌, ◌||◌, IsTrue, nat_eq, leb, ltb, if◌then◌else◌, refl, sym, ap, ◌∙◌, subst, ⊎_elim, arith, eq-eqb, le-ltb, mod-eq_of_lt, mod-lt, pow_pos}
use Rattle.std.specs.Int.{bit_at}
use Rattle.std.proofs.Math.Nat.{mod-mod}
use Rattle.std.proofs.lemmas.Bool.{cases_Bool, false≢true}
use Rattle.std.proofs.lemmas.Nat.Bits.{bit_at_ones}
use Rattle.vx_bits.specs.Width.{is_width}
use Rattle.vx_bits.specs.declared.saturation.Sat.{Sat}
use Rattle.vx_packed.specs.Joined.{lane, joined, some_below}
use Rattle.vx_base.specs.Numbers.{truth}
use Rattle.vx_packed.specs.Made.{merged, made, lane_of}
use Rattle.vx_packed.specs.declared.elements.Made.{Made}
use Rattle.vx_packed.specs.declared.elements.Packing.{Packing}
use Rattle.vx_packed.specs.declared.elements.Sources.{Sources}
use Rattle.vx_vstate.specs.Registers.{word_at, element}
use Rattle.vx_vector.specs.Arithmetic.{given, becomes, becomes_by, has_saturated}
use Rattle.vx_vector.specs.Laws.{value_after, element_after, per_word, made_word, word_saturates}
use Rattle.vx_vector.specs.Numbers.{plain}
use Rattle.vx_vector.specs.Reading.{Reading, sew_of, destination_width, element_of, count_of, mask_bit, is_active, numbers_at}
use Rattle.vx_operands.specs.Forms.{is_unmasked}
use Rattle.vx_vector.specs.Rules.{Rule, rule_of}
use Rattle.vx_vector.specs.Rules.Rule.{Each}
use Rattle.vx_operands.specs.Lanes.{is_each, answer_by, answer, index_at, numbers_of, AreMaskBits, AreSources, AreMade}
use Rattle.vx_operands.proofs.Places.{filled, even_element}

-- ---- the laws of elements that are joined

abbrev pub Element : Type 0
Element = (width n : ℕ) (f : ℕ → ℕ) (k : ℕ) → k < n → lane width (joined width n f) k ≡ f k % 2 ^ width

abbrev pub Whole : Type 0
Whole = (width n word : ℕ) → joined width n (lane width word) ≡ word % 2 ^ (n * width)

abbrev pub Same : Type 0
Same = (width n : ℕ) (f g : ℕ → ℕ) → ((k : ℕ) → k < n → f k % 2 ^ width ≡ g k % 2 ^ width) → joined width n f ≡ joined width n g

-- ---- tests

pub none_below : (n : ℕ) (f : ℕ → Bool) → ((k : ℕ) → k < n → f k ≡ false) → some_below n f ≡ false
unfolding some_below
none_below zero f h = refl
none_below (suc n) f h = λ i. none_below n f (λ k l. h k (omega arith)) i || h n (omega arith) i

pub some_alike : (n : ℕ) (f g : ℕ → Bool) → ((k : ℕ) → k < n → f k ≡ g k) → some_below n f ≡ some_below n g
unfolding some_below
some_alike zero f g h = refl
some_alike (suc n) f g h = λ i. some_alike n f g (λ k l. h k (omega arith)) i || h n (omega arith) i

pub lane_bit : (x k : ℕ) → lane 1 x k ≡ bit_at x k
lane_bit x k = let e : k * 1 ≡ k = omega arith in ap (λ j. x / 2 ^ j % 2) e

pub full_bit : (k : ℕ) → k < 64 → nat_eq (lane 1 (2 ^ 64 - 1) k) 1 ≡ true
full_bit k l = eq-eqb (lane 1 (2 ^ 64 - 1) k) 1 (lane_bit (2 ^ 64 - 1) k ∙ bit_at_ones 64 k l)

pub truth_bit : (b : Bool) → nat_eq (truth b % 2 ^ 1) 1 ≡ b
truth_bit true = refl
truth_bit false = refl

pub truth_one : (b : Bool) → nat_eq (truth b) 1 ≡ b
truth_one true = refl
truth_one false = refl

and_none : (x y : Bool) → ((x && false) && y) ≡ false
and_none true y = refl
and_none false y = refl

-- ---- what becomes of an element

pub becomes_each : (rule : Rule) (r : Reading) (i : ℕ) → IsTrue (is_each rule) → becomes_by rule r i ≡ given (is_active r i) (answer_by rule (numbers_at r i))
becomes_each (Each f) r i h = refl
becomes_each other r i h = absurd (false≢true h)

after_given : (b : Bool) (s : Sat) (old : ℕ) → value_after (given b s) old ≡ (if b then s.value else old)
after_given true s old = refl
after_given false s old = refl

saturated_given : (b : Bool) (s : Sat) → has_saturated (given b s) ≡ (b && s.sat)
saturated_given true s = refl
saturated_given false s = refl

pub element_is : (r : Reading) (i : ℕ) → IsTrue (is_each (rule_of r.family)) → element_after r i ≡ (if is_active r i then (answer r.family (numbers_at r i)).value else element_of r r.places.vd (destination_width r) i)
element_is r i h = ap (λ o. value_after o (element_of r r.places.vd (destination_width r) i)) (becomes_each (rule_of r.family) r i h) ∙ after_given (is_active r i) (answer r.family (numbers_at r i)) (element_of r r.places.vd (destination_width r) i)

pub saturates_is : (r : Reading) (i : ℕ) → IsTrue (is_each (rule_of r.family)) → has_saturated (becomes r i) ≡ (is_active r i && (answer r.family (numbers_at r i)).sat)
saturates_is r i h = ap has_saturated (becomes_each (rule_of r.family) r i h) ∙ saturated_given (is_active r i) (answer r.family (numbers_at r i))

-- ---- a word behind the last element

pub behind : (r : Reading) (i : ℕ) → count_of r ≤ i → is_active r i ≡ false
behind r i h = ap (λ b. (leb r.at.vstart i && b) && (is_unmasked r || mask_bit r i)) (le-ltb i (count_of r) h) ∙ and_none (leb r.at.vstart i) (is_unmasked r || mask_bit r i)

pub kept_value : Whole → Same → (r : Reading) (w old : ℕ) → IsTrue (is_each (rule_of r.family)) → IsTrue (is_width (destination_width r)) → count_of r ≤ w * per_word r → old < 2 ^ 64 → old ≡ word_at r.at.vlen r.words r.places.vd w → old ≡ made_word r w
kept_value whole same r w old each width late small is =
    let d = destination_width r in
    let full : 2 ^ (per_word r * d) ≡ 2 ^ 64 = ap (λ n. 2 ^ n) (filled d width) in
    sym (mod-eq_of_lt small)
    ∙ sym (ap (λ p. old % p) full)
    ∙ sym (whole d (per_word r) old)
    ∙ same d (per_word r) (lane d old) (λ k. element_after r (w * per_word r + k))
    (λ k l.
    let inactive = behind r (w * per_word r + k) (omega arith) in
    ap (λ n. n % 2 ^ d) (
    ap (λ word. lane d word k) is
    ∙ sym (even_element r.at.vlen r.words r.places.vd d w k width l)
    ∙ sym (element_is r (w * per_word r + k) each ∙ ap (λ (b : Bool). if b then (answer r.family (numbers_at r (w * per_word r + k))).value else element_of r r.places.vd d (w * per_word r + k)) inactive)))

pub kept_sat : (r : Reading) (w : ℕ) → IsTrue (is_each (rule_of r.family)) → count_of r ≤ w * per_word r → word_saturates r w ≡ false
kept_sat r w each late =
    none_below (per_word r) (λ k. has_saturated (becomes r (w * per_word r + k)))
    (λ k l.
    let inactive = behind r (w * per_word r + k) (omega arith) in
    saturates_is r (w * per_word r + k) each ∙ ap (λ b. b && (answer r.family (numbers_at r (w * per_word r + k))).sat) inactive)

-- ---- the lanes that take part

let_in : (r : Reading) (w bits mask k : ℕ) → (is_unmasked r ≡ true → bits ≡ 2 ^ 64 - 1) → (is_unmasked r ≡ false → bits ≡ mask) → (is_unmasked r ≡ false → AreMaskBits r w mask) → k < per_word r → k < 64 → nat_eq (lane 1 bits k) 1 ≡ (is_unmasked r || mask_bit r (index_at r w k))
let_in r w bits mask k all some is l small =
    ⊎_elim
    (λ t. ap (λ x. nat_eq (lane 1 x k) 1) (all t) ∙ full_bit k small ∙ sym (ap (λ b. b || mask_bit r (index_at r w k)) t))
    (λ f. ap (λ x. nat_eq (lane 1 x k) 1) (some f) ∙ is f k l ∙ sym (ap (λ b. b || mask_bit r (index_at r w k)) f))
    (cases_Bool (is_unmasked r))

pub record AreActive (r : Reading) (w lanes : ℕ) : Type 0 where
  pub is : (k : ℕ) → k < per_word r → nat_eq (lane 1 lanes k) 1 ≡ is_active r (index_at r w k)

pub active_are : (r : Reading) (w lanes bits mask n to : ℕ) → n ≡ per_word r → per_word r ≤ 64 → ((k : ℕ) → k < n → lane 1 lanes k ≡ truth ((leb r.at.vstart (w * n + k) && ltb (w * n + k) to) && nat_eq (lane 1 bits k) 1)) → to ≡ count_of r → (is_unmasked r ≡ true → bits ≡ 2 ^ 64 - 1) → (is_unmasked r ≡ false → bits ≡ mask) → (is_unmasked r ≡ false → AreMaskBits r w mask) → AreActive r w lanes
active_are r w lanes bits mask n to e most h t all some is = record {
  is = λ k l.
      let small : k < 64 = omega arith in
      let inside : k < n = subst (λ m. k < m) (sym e) l in
      ap (λ x. nat_eq x 1) (h k inside)
      ∙ truth_one ((leb r.at.vstart (w * n + k) && ltb (w * n + k) to) && nat_eq (lane 1 bits k) 1)
      ∙ (λ i. (leb r.at.vstart (w * e i + k) && ltb (w * e i + k) (t i)) && let_in r w bits mask k all some is l small i);
}

-- ---- the word that is made

pub pick : (b : Bool) (p x y v : ℕ) → (b ≡ true → x ≡ v % p) → (if b then x else y) % p ≡ (if b then v else y) % p
pick true p x y v h = ap (λ n. n % p) (h refl) ∙ mod-mod v p
pick false p x y v h = refl

both : (b x y : Bool) → (b ≡ true → x ≡ y) → (b && x) ≡ (b && y)
both true x y h = h refl
both false x y h = refl

pub merged_value : Same → (r : Reading) (w width lanes old : ℕ) (made : Made) → IsTrue (is_each (rule_of r.family)) → IsTrue (is_width (destination_width r)) → width ≡ destination_width r → AreActive r w lanes → old ≡ word_at r.at.vlen r.words r.places.vd w → AreMade r w made → merged width (64 / width) lanes made.value old ≡ made_word r w
merged_value same r w width lanes old made each is_width e active is new =
    let d = destination_width r in
    ap (λ x. merged x (64 / x) lanes made.value old) e
    ∙ same d (per_word r) (λ k. if nat_eq (lane 1 lanes k) 1 then lane d made.value k else lane d old k) (λ k. element_after r (w * per_word r + k))
    (λ k l.
    let i = w * per_word r + k in
    ap (λ (b : Bool). (if b then lane d made.value k else lane d old k) % 2 ^ d) (active.is k l)
    ∙ ap (λ x. (if is_active r i then lane d made.value k else x) % 2 ^ d) (ap (λ word. lane d word k) is ∙ sym (even_element r.at.vlen r.words r.places.vd d w k is_width l))
    ∙ pick (is_active r i) (2 ^ d) (lane d made.value k) (element_of r r.places.vd d i) (answer r.family (numbers_at r i)).value (new.value k l)
    ∙ ap (λ x. x % 2 ^ d) (sym (element_is r i each)))

pub merged_sat : (r : Reading) (w width lanes : ℕ) (made : Made) → IsTrue (is_each (rule_of r.family)) → width ≡ destination_width r → AreActive r w lanes → AreMade r w made → some_below (64 / width) (λ k. nat_eq (lane 1 lanes k) 1 && nat_eq (lane 1 made.sats k) 1) ≡ word_saturates r w
merged_sat r w width lanes made each e active new =
    ap (λ x. some_below (64 / x) (λ k. nat_eq (lane 1 lanes k) 1 && nat_eq (lane 1 made.sats k) 1)) e
    ∙ some_alike (per_word r) (λ k. nat_eq (lane 1 lanes k) 1 && nat_eq (lane 1 made.sats k) 1) (λ k. has_saturated (becomes r (w * per_word r + k)))
    (λ k l.
    let i = w * per_word r + k in
    ap (λ b. b && nat_eq (lane 1 made.sats k) 1) (active.is k l)
    ∙ both (is_active r i) (nat_eq (lane 1 made.sats k) 1) (answer r.family (numbers_at r i)).sat (new.sats k l)
    ∙ sym (saturates_is r i each))

-- ---- new elements lane by lane

pub made_are : Element → (r : Reading) (w : ℕ) (at : Packing) (from : Sources) (new : Made) → at.width ≡ destination_width r → at.count ≡ per_word r → AreSources r w at from → new ≡ made at from (λ l. answer r.family (numbers_of (sew_of r) r.at.vxrm l)) → AreMade r w new
made_are element r w at from new width count sources is = record {
  value = λ k l active. value k l;
  sats = λ k l active. saturates k l;
}
  where
    answers : (k : ℕ) → k < per_word r → answer r.family (numbers_of (sew_of r) r.at.vxrm (lane_of at from k)) ≡ answer r.family (numbers_at r (index_at r w k))
    answers k l = ap (λ n. answer r.family n) (sources k l)

    inside : (k : ℕ) → k < per_word r → k < at.count
    inside k l = subst (λ n. k < n) (sym count) l

    value : (k : ℕ) → k < per_word r → lane (destination_width r) new.value k ≡ (answer r.family (numbers_at r (index_at r w k))).value % 2 ^ destination_width r
    value k l =
        ap (λ x. lane x new.value k) (sym width)
        ∙ ap (λ (m : Made). lane at.width m.value k) is
        ∙ element at.width at.count (λ k. (answer r.family (numbers_of (sew_of r) r.at.vxrm (lane_of at from k))).value) k (inside k l)
        ∙ (λ i. (answers k l i).value % 2 ^ width i)

    saturates : (k : ℕ) → k < per_word r → nat_eq (lane 1 new.sats k) 1 ≡ (answer r.family (numbers_at r (index_at r w k))).sat
    saturates k l =
        ap (λ (m : Made). nat_eq (lane 1 m.sats k) 1) is
        ∙ ap (λ x. nat_eq x 1) (element 1 at.count (λ k. truth (answer r.family (numbers_of (sew_of r) r.at.vxrm (lane_of at from k))).sat) k (inside k l))
        ∙ truth_bit (answer r.family (numbers_of (sew_of r) r.at.vxrm (lane_of at from k))).sat
        ∙ (λ i. (answers k l i).sat)

pub zero_lane : (k : ℕ) → nat_eq (lane 1 0 k) 1 ≡ false
zero_lane k = let e : lane 1 0 k ≡ 0 = grind arith in ap (λ x. nat_eq x 1) e

-- new elements that are those of a word
pub copied_are : (r : Reading) (w new : ℕ) (f : ℕ → ℕ) → ((k : ℕ) → k < per_word r → lane (destination_width r) new k ≡ f k) → ((k : ℕ) → answer r.family (numbers_at r (index_at r w k)) ≡ plain (f k)) → AreMade r w (record { value = new; sats = 0 })
copied_are r w new f lanes same = record {
  value = λ k l active.
      let low = mod-lt (new / 2 ^ (k * destination_width r)) (pow_pos (destination_width r)) in
      sym (mod-eq_of_lt low) ∙ ap (λ x. x % 2 ^ destination_width r) (lanes k l) ∙ sym (ap (λ (s : Sat). s.value % 2 ^ destination_width r) (same k));
  sats = λ k l active. zero_lane k ∙ sym (ap (λ (s : Sat). s.sat) (same k));
}
