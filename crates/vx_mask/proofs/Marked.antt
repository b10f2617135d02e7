-- Active elements whose bit of a mask is set.
use Rattle.std.proofs.Common.{◌≡◌, ◌⊎◌, ℕ, zero, suc, List, [], ◌∷◌, ◌++◌, ◌+◌, ◌-◌, ◌*◌, ◌/◌, ◌%◌, ◌^◌, ◌<◌, ◌≤◌, Bool, true, false, not, ◌&&◌, ◌||◌, IsTrue, nat_eq, leb, ltb, if◌then◌else◌, map, take, length, w64, refl, sym, ap, ◌∙◌, subst, ⊎_elim, arith, add-one, Option, Some, None, option_map, unwrap_or}
use Rattle.std.specs.Int.{bit_at, trailing_zeros}
use Rattle.std.specs.List.{range_with_len}
use Rattle.std.proofs.lemmas.Bool.{cases_Bool, false≢true, true≢false, cases_lt}
use Rattle.std.proofs.lemmas.Bool.Decides.{nat_tests}
use Rattle.std.proofs.lemmas.List.FromFn.{map-range_with_len_more, take-map-range_with_len}
use Rattle.std.proofs.lemmas.Nat.Bits.{bit_at-trailing_zeros}
use Rattle.vx_packed.specs.Joined.{lane}
use Rattle.vx_base.specs.Numbers.{truth}
use Rattle.vx_decode.specs.Groups.{width_of}
use Rattle.vx_rows.specs.Families.{operands_of}
use Rattle.vx_rows.specs.declared.family.Family.{Family}
use Rattle.vx_rows.specs.declared.family.Family.TheVariants.{Vmsbf, Vmsif, Vmsof}
use Rattle.vx_rows.specs.declared.family.Operand.{Operand}
use Rattle.vx_rows.specs.declared.family.Operand.TheVariants.{Mask}
use Rattle.vx_vstate.specs.State.{IsSetting}
use Rattle.vx_vstate.specs.Vtype.{vlmax}
use Rattle.vx_vector.specs.Lists.{Lists, count_true, first_true, marked, marks, marks_below}
use Rattle.vx_vector.specs.Reading.{Reading, element_of, elements_of, is_active, lists_of}
use Rattle.vx_vector.specs.Rules.{rule_of}
use Rattle.vx_operands.specs.Rising.{IsFirstBelow, count_below, mark, moved_by}
use Rattle.vx_operands.proofs.Even.{vl-le}
use Rattle.vx_operands.proofs.Merging.{lane_bit, zero_lane}
use Rattle.vx_operands.proofs.Counts.{count_zero, count_more, count_sum, count_alike, count_front}
use Rattle.vx_mask.specs.Kinds.{is_span, spans_from, spans_to}
use Rattle.vx_mask.proofs.Bitwise.{set}

-- ---- lists

count_push : (xs : List Bool) (b : Bool) → count_true (xs ++ (b ∷ [])) ≡ count_true xs + (if b then 1 else 0)
count_push [] b = omega arith
count_push (x ∷ xs) b = let rest = count_push xs b in omega (arith, rest)

count_list : (h : ℕ → Bool) (n : ℕ) → count_true (map h (range_with_len 0 n)) ≡ count_below h n
count_list h zero = sym (count_zero h)
count_list h (suc n) =
    let z : 0 + n ≡ n = omega arith in
    ap (λ m. count_true (map h (range_with_len 0 m))) (sym (add-one n))
    ∙ ap count_true (map-range_with_len_more h 0 n n z)
    ∙ count_push (map h (range_with_len 0 n)) (h n)
    ∙ ap (λ m. m + (if h n then 1 else 0)) (count_list h n)
    ∙ sym (count_more h n)
    ∙ ap (λ m. count_below h m) (add-one n)

marked_map : (b : ℕ → ℕ) (h : ℕ → Bool) (s n : ℕ) → marked (map b (range_with_len s n)) (map h (range_with_len s n)) ≡ map (λ i. nat_eq (b i) 1 && h i) (range_with_len s n)
marked_map b h s zero = refl
marked_map b h s (suc n) = ap (λ xs. (nat_eq (b s) 1 && h s) ∷ xs) (marked_map b h (s + 1) n)

pub marks_are : (r : Reading) → IsSetting r.at → (operands_of r.family).vs2 ≡ Mask → marks (lists_of r) ≡ map (mark r) (range_with_len 0 r.at.vl)
marks_are r k e =
    let active : List Bool = map (is_active r) (range_with_len 0 r.at.vl) in
    ap (λ (o : Operand). marked (take r.at.vl (elements_of r o r.places.vs2)) active) e
    ∙ ap (λ xs. marked xs active) (take-map-range_with_len (element_of r r.places.vs2 1) 0 (vlmax r.at.vlen r.at.vtype) r.at.vl (vl-le r.at k))
    ∙ marked_map (element_of r r.places.vs2 1) (is_active r) 0 r.at.vl

pub below_are : (r : Reading) → IsSetting r.at → (operands_of r.family).vs2 ≡ Mask → (n : ℕ) → n ≤ r.at.vl → marks_below (lists_of r) n ≡ count_below (mark r) n
below_are r k e n l =
    ap (λ xs. count_true (take n xs)) (marks_are r k e)
    ∙ ap count_true (take-map-range_with_len (mark r) 0 r.at.vl n l)
    ∙ count_list (mark r) n

pub counted : (r : Reading) → IsSetting r.at → (operands_of r.family).vs2 ≡ Mask → count_true (marks (lists_of r)) ≡ count_below (mark r) r.at.vl
counted r k e = ap count_true (marks_are r k e) ∙ count_list (mark r) r.at.vl

-- ---- the first

below_true : (a b : ℕ) → a < b → ltb a b ≡ true
below_true a b h = grind (arith, nat_tests, h)

below_false : (a b : ℕ) → b ≤ a → ltb a b ≡ false
below_false a b h = grind (arith, nat_tests, h)

step_none : (flags : List Bool) → first_true flags ≡ None → first_true (false ∷ flags) ≡ None
step_none flags e = ap (λ (o : Option ℕ). elim o [ None ↦ None | Some i ↦ Some (i + 1) ]) e

step_some : (flags : List Bool) (m : ℕ) → first_true flags ≡ Some m → first_true (false ∷ flags) ≡ Some (m + 1)
step_some flags m e = ap (λ (o : Option ℕ). elim o [ None ↦ None | Some i ↦ Some (i + 1) ]) e

first_none : (h : ℕ → Bool) (s n : ℕ) → ((i : ℕ) → i < n → h (s + i) ≡ false) → first_true (map h (range_with_len s n)) ≡ None
first_none h s zero none = refl
first_none h s (suc n) none =
    let z : s + 0 ≡ s = omega arith in
    let here : h s ≡ false = ap h (sym z) ∙ none 0 (omega arith) in
    ap (λ b. first_true (b ∷ map h (range_with_len (s + 1) n))) here
    ∙ step_none (map h (range_with_len (s + 1) n)) (first_none h (s + 1) n (λ i l. let e : s + 1 + i ≡ s + (i + 1) = omega arith in ap h e ∙ none (i + 1) (omega arith)))

first_some : (h : ℕ → Bool) (s n m : ℕ) → m < n → ((i : ℕ) → i < m → h (s + i) ≡ false) → h (s + m) ≡ true → first_true (map h (range_with_len s n)) ≡ Some m
first_some h s zero m l none there = absurd (omega (arith, l))
first_some h s (suc n) zero l none there =
    let z : s + 0 ≡ s = omega arith in
    let here : h s ≡ true = ap h (sym z) ∙ there in
    ap (λ b. first_true (b ∷ map h (range_with_len (s + 1) n))) here
first_some h s (suc n) (suc m) l none there =
    let z : s + 0 ≡ s = omega arith in
    let here : h s ≡ false = ap h (sym z) ∙ none 0 (omega arith) in
    let e : s + 1 + m ≡ s + suc m = omega arith in
    ap (λ b. first_true (b ∷ map h (range_with_len (s + 1) n))) here
    ∙ step_some (map h (range_with_len (s + 1) n)) m (first_some h (s + 1) n m (omega (arith, l)) (λ i k. let q : s + 1 + i ≡ s + (i + 1) = omega arith in ap h q ∙ none (i + 1) (omega (arith, k))) (ap h e ∙ there))
    ∙ ap Some (add-one m)

pub told_first : (h : ℕ → Bool) (n m past : ℕ) → IsFirstBelow h n m → unwrap_or (first_true (map h (range_with_len 0 n))) past ≡ (if ltb m n then m else past)
told_first h n m past first =
    ⊎_elim
    (λ l.
    let z : 0 + m ≡ m = omega arith in
    ap (λ o. unwrap_or o past) (first_some h 0 n m l (λ i k. let q : 0 + i ≡ i = omega arith in ap h q ∙ first.before i k) (ap h z ∙ first.holds_there l))
    ∙ sym (ap {B = ℕ} (λ (b : Bool). if b then m else past) (below_true m n l)))
    (λ g.
    ap (λ o. unwrap_or o past) (first_none h 0 n (λ i k. let q : 0 + i ≡ i = omega arith in ap h q ∙ first.before i (omega (arith, k, g))))
    ∙ sym (ap {B = ℕ} (λ (b : Bool). if b then m else past) (below_false m n g)))
    (cases_lt m n)

-- the first mark is in this word
pub first_found : (h : ℕ → Bool) (vl v word t : ℕ) → ((k : ℕ) → k < 64 → set word k ≡ h (v * 64 + k)) → ((i : ℕ) → i < v * 64 → h i ≡ false) → ((i : ℕ) → h i ≡ true → i < vl) → t < 64 → set word t ≡ true → ((k : ℕ) → k < t → set word k ≡ false) → IsFirstBelow h vl (v * 64 + t)
first_found h vl v word t are none within inside one lower =
    let there : h (v * 64 + t) ≡ true = sym (are t inside) ∙ one in
    let low = within (v * 64 + t) there in
    record {
      most = omega (arith, low);
      before = λ i l.
          ⊎_elim
          (λ a. none i a)
          (λ b.
          let j = i - v * 64 in
          let whole : v * 64 + j ≡ i = omega (arith, b) in
          let short : j < t = omega (arith, b, l) in
          ap h (sym whole) ∙ sym (are j (omega (arith, short, inside))) ∙ lower j short)
          (cases_lt i (v * 64));
      holds_there = λ l. there;
    }

-- the lowest bit that is set
pub lowest_is : (word : ℕ) → 0 < word → word < 2 ^ 64 → (trailing_zeros w64 word < 64) × (set word (trailing_zeros w64 word) ≡ true) × ((k : ℕ) → k < trailing_zeros w64 word → set word k ≡ false)
lowest_is word some small =
    let found = bit_at-trailing_zeros w64 word some small in
    (found.0, ap (λ x. nat_eq x 1) (lane_bit word (trailing_zeros w64 word) ∙ found.1), λ k l. ap (λ x. nat_eq x 1) (lane_bit word k ∙ found.2 k l))

-- it isn't
pub first_past : (h : ℕ → Bool) (v word : ℕ) → ((k : ℕ) → k < 64 → set word k ≡ h (v * 64 + k)) → ((i : ℕ) → i < v * 64 → h i ≡ false) → word ≡ 0 → (i : ℕ) → i < (v + 1) * 64 → h i ≡ false
first_past h v word are none e i l =
    ⊎_elim
    (λ a. none i a)
    (λ b.
    let j = i - v * 64 in
    let whole : v * 64 + j ≡ i = omega (arith, b) in
    ap h (sym whole) ∙ sym (are j (omega (arith, b, l))) ∙ ap (λ x. set x j) e ∙ zero_lane j)
    (cases_lt i (v * 64))

pub first_end : (h : ℕ → Bool) (vl n : ℕ) → vl ≤ n → ((i : ℕ) → i < n → h i ≡ false) → IsFirstBelow h vl vl
first_end h vl n l none = record {
  most = omega arith;
  before = λ i k. none i (omega (arith, k, l));
  holds_there = λ k. absurd (omega (arith, k));
}

-- ---- bits by the first mark

pub le_true : (a b : ℕ) → a ≤ b → leb a b ≡ true
le_true a b h = grind (arith, nat_tests, h)

le_false : (a b : ℕ) → b < a → leb a b ≡ false
le_false a b h = grind (arith, nat_tests, h)

before_is : (i m : ℕ) → leb (i + 1) m ≡ (leb 0 i && ltb i m)
before_is i m =
    ⊎_elim
    (λ l. le_true (i + 1) m (omega (arith, l)) ∙ sym (λ j. le_true 0 i (omega arith) j && below_true i m l j))
    (λ g. le_false (i + 1) m (omega (arith, g)) ∙ sym (λ j. le_true 0 i (omega arith) j && below_false i m g j))
    (cases_lt i m)

up_to_is : (i m : ℕ) → leb i m ≡ (leb 0 i && ltb i (m + 1))
up_to_is i m =
    ⊎_elim
    (λ l. le_true i m (omega (arith, l)) ∙ sym (λ j. le_true 0 i (omega arith) j && below_true i (m + 1) l j))
    (λ g. le_false i m (omega (arith, g)) ∙ sym (λ j. le_true 0 i (omega arith) j && below_false i (m + 1) g j))
    (cases_lt i (m + 1))

only_is : (i m : ℕ) → (leb i m && not (leb (i + 1) m)) ≡ (leb m i && ltb i (m + 1))
only_is i m =
    ⊎_elim
    (λ l. (λ j. le_true i m (omega (arith, l)) j && not (le_true (i + 1) m (omega (arith, l)) j)) ∙ sym (λ j. le_false m i l j && ltb i (m + 1)))
    (λ g.
    ⊎_elim
    (λ l. (λ j. le_true i m (omega (arith, l)) j && not (le_false (i + 1) m (omega (arith, g)) j)) ∙ sym (λ j. le_true m i g j && below_true i (m + 1) l j))
    (λ q. (λ j. le_false i m (omega (arith, q)) j && not (leb (i + 1) m)) ∙ sym (λ j. le_true m i g j && below_false i (m + 1) q j))
    (cases_lt i (m + 1)))
    (cases_lt i m)

pub span_moves : (f : Family) → IsTrue (is_span f) → (s : Lists) (m i : ℕ) → nat_eq (marks_below s i) 0 ≡ leb i m → nat_eq (marks_below s (i + 1)) 0 ≡ leb (i + 1) m → moved_by (rule_of f) s i ≡ Some (truth (leb (spans_from f m) i && ltb i (spans_to f m)))
span_moves Vmsbf h s m i at next = ap (λ b. Some (truth b)) (next ∙ before_is i m)
span_moves Vmsif h s m i at next = ap (λ b. Some (truth b)) (at ∙ up_to_is i m)
span_moves Vmsof h s m i at next = ap (λ b. Some (truth b)) ((λ j. at j && not (next j)) ∙ only_is i m)
span_moves other h s m i at next = absurd (false≢true h)

same_before : (first j k : ℕ) → ltb (first + j) (first + k) ≡ ltb j k
same_before first j k =
    ⊎_elim
    (λ l. below_true (first + j) (first + k) (omega (arith, l)) ∙ sym (below_true j k l))
    (λ g. below_false (first + j) (first + k) (omega (arith, g)) ∙ sym (below_false j k g))
    (cases_lt j k)

-- the marks before an element, by those before its word's first and the word's own
pub marks_before : (h : ℕ → Bool) (first count k before word : ℕ) → k < count → count ≤ 64 → before ≡ count_below h first → ((j : ℕ) → j < count → set word j ≡ h (first + j)) → before + count_below (λ j. ltb (first + j) (first + k) && set word j) 64 ≡ count_below h (first + k)
marks_before h first count k before word l most is are =
    let own : count_below (λ j. ltb (first + j) (first + k) && set word j) 64 ≡ count_below (λ j. h (first + j)) k =
    count_alike (λ j. ltb (first + j) (first + k) && set word j) (λ j. ltb j k && set word j) 64 (λ j m. ap (λ b. b && set word j) (same_before first j k))
    ∙ count_front (set word) k 64 (omega (arith, l, most))
    ∙ count_alike (set word) (λ j. h (first + j)) k (λ j m. are j (omega (arith, m, l))) in
    (λ i. is i + own i) ∙ sym (count_sum h first k)
