-- Words by their lanes: where bits choose lanes, and where lanes are one bit wide.
use Rattle.std.proofs.Common.{◌≡◌, ℕ, zero, suc, ◌+◌, ◌-◌, ◌*◌, ◌/◌, ◌%◌, ◌^◌, ◌<◌, ◌≤◌, Bool, true, false, not, ◌&&◌, ◌||◌, nat_eq, ltb, leb, min, max, if◌then◌else◌, IsTrue, bit_and, bit_or, w64, ⊎_elim, refl, sym, ap, ◌∙◌, subst, arith, pow_pos, pow_mono, mod-lt, mod-eq_of_lt, eq-eqb, ne_eqb, lt-ltb, le-ltb}
use Rattle.std.specs.Int.{bit_at, bit_not}
use Rattle.std.proofs.Math.Nat.{mod-mod}
use Rattle.std.proofs.lemmas.Bool.{cases_eq, cases_lt, le-leb, lt-leb, or_right}
use Rattle.std.proofs.lemmas.Nat.{and_mask, and_le_l, or_lt, mod-pow-add}
use Rattle.std.proofs.lemmas.Nat.Bits.{bit_at_and, bit_at_or, bit_at_not, bit_at_ones, bit_at_ones_above, bit_at-lt}
use Rattle.vx_bits.specs.Width.{is_width}
use Rattle.vx_packed.specs.Joined.{lane, joined, some_below}
use Rattle.vx_base.specs.Numbers.{truth}
use Rattle.vx_packed.specs.Made.{merged}
use Rattle.vx_packed.proofs.Joined.{joined_same, joined_lanes, joined_append, joined-none, joined-suc, lane_joined}

-- as many elements as fill a word
pub filled : (width : ℕ) → IsTrue (is_width width) → 64 / width * width ≡ 64
filled width h = grind (arith, h)

-- a word is the word of its elements
pub from_lanes : (width n x : ℕ) (f : ℕ → ℕ) → x < 2 ^ (n * width) → ((k : ℕ) → k < n → lane width x k % 2 ^ width ≡ f k % 2 ^ width) → x ≡ joined width n f
from_lanes width n x f h e = sym (mod-eq_of_lt h) ∙ sym (joined_lanes width n x) ∙ joined_same width n (lane width x) f e

-- ---- bits

pub lane_bit : (x k : ℕ) → lane 1 x k ≡ bit_at x k
lane_bit x k = let e : k * 1 ≡ k = omega arith in ap (λ j. x / 2 ^ j % 2) e

pub lane-lt : (width x k : ℕ) → lane width x k < 2 ^ width
lane-lt width x k = mod-lt (x / 2 ^ (k * width)) (pow_pos width)

pub bit_lane : (x : ℕ) (n : ℕ) (f : ℕ → ℕ) → x < 2 ^ n → ((k : ℕ) → k < n → bit_at x k ≡ f k) → x ≡ joined 1 n f
bit_lane x n f h e =
    let bits : n ≡ n * 1 = omega arith in
    from_lanes 1 n x f (subst (λ j. x < 2 ^ j) bits h) (λ k l. ap (λ b. b % 2) (lane_bit x k ∙ e k l))

-- ---- lanes that are chosen by bits

chosen_all : (width n lanes new old : ℕ) → ((k : ℕ) → k < n → bit_at lanes k ≡ 1) → merged width n lanes new old ≡ new % 2 ^ (n * width)
chosen_all width n lanes new old h =
    joined_same width n (λ k. if nat_eq (lane 1 lanes k) 1 then lane width new k else lane width old k) (lane width new)
    (λ k l. ap (λ b. (if b then lane width new k else lane width old k) % 2 ^ width) (eq-eqb (lane 1 lanes k) 1 (lane_bit lanes k ∙ h k l)))
    ∙ joined_lanes width n new

all_set : (n lanes k : ℕ) → bit_and lanes (2 ^ n - 1) ≡ 2 ^ n - 1 → k < n → bit_at lanes k ≡ 1
all_set n lanes k h l =
    let both = sym (bit_at_and lanes (2 ^ n - 1) k) ∙ ap (λ x. bit_at x k) h ∙ bit_at_ones n k l in
    let one = bit_at_ones n k l in
    let small = bit_at-lt lanes k in
    omega arith

pub merged_all : (width lanes new old : ℕ) → IsTrue (is_width width) → new < 2 ^ 64 → bit_and lanes (2 ^ (64 / width) - 1) ≡ 2 ^ (64 / width) - 1 → new ≡ merged width (64 / width) lanes new old
merged_all width lanes new old w small h =
    let full = filled width w in
    let below : new < 2 ^ (64 / width * width) = subst (λ n. new < 2 ^ n) (sym full) small in
    sym (mod-eq_of_lt below) ∙ sym (chosen_all width (64 / width) lanes new old (λ k l. all_set (64 / width) lanes k h l))

pub merged_joined : (width n lanes new old : ℕ) (f : ℕ → ℕ) → new ≡ joined width n f → merged width n lanes new old ≡ joined width n (λ k. if nat_eq (lane 1 lanes k) 1 then f k else lane width old k)
merged_joined width n lanes new old f e =
    joined_same width n
    (λ k. if nat_eq (lane 1 lanes k) 1 then lane width new k else lane width old k)
    (λ k. if nat_eq (lane 1 lanes k) 1 then f k else lane width old k)
    (λ k l. same k (nat_eq (lane 1 lanes k) 1) l)
  where
    same : (k : ℕ) (b : Bool) → k < n → (if b then lane width new k else lane width old k) % 2 ^ width ≡ (if b then f k else lane width old k) % 2 ^ width
    same k true l = ap (λ x. lane width x k % 2 ^ width) e ∙ ap (λ x. x % 2 ^ width) (lane_joined width n f k l) ∙ mod-mod (f k) (2 ^ width)
    same k false l = refl

-- ---- bits of 64 lanes

pub merged_bits : (lanes new old : ℕ) → lanes < 2 ^ 64 → new < 2 ^ 64 → old < 2 ^ 64 → bit_or (bit_and new lanes) (bit_and old (2 ^ 64 - 1 - lanes)) ≡ merged 1 64 lanes new old
merged_bits lanes new old l n o =
    bit_lane (bit_or (bit_and new lanes) (bit_and old (2 ^ 64 - 1 - lanes))) 64 (λ k. if nat_eq (lane 1 lanes k) 1 then lane 1 new k else lane 1 old k)
    (let first = and_le_l new lanes in let second = and_le_l old (2 ^ 64 - 1 - lanes) in or_lt 64 (bit_and new lanes) (bit_and old (2 ^ 64 - 1 - lanes)) (omega arith) (omega arith))
    (λ k h. bits k h ∙ chosen k)
  where
    bits : (k : ℕ) → k < 64 → bit_at (bit_or (bit_and new lanes) (bit_and old (2 ^ 64 - 1 - lanes))) k ≡ max (min (bit_at new k) (bit_at lanes k)) (min (bit_at old k) (1 - bit_at lanes k))
    bits k h =
        bit_at_or (bit_and new lanes) (bit_and old (2 ^ 64 - 1 - lanes)) k
        ∙ (λ i. max (bit_at_and new lanes k i) (bit_at_and old (bit_not w64 lanes) k i))
        ∙ ap (λ b. max (min (bit_at new k) (bit_at lanes k)) (min (bit_at old k) b)) (bit_at_not w64 lanes k l h)

    chosen : (k : ℕ) → max (min (bit_at new k) (bit_at lanes k)) (min (bit_at old k) (1 - bit_at lanes k)) ≡ (if nat_eq (lane 1 lanes k) 1 then lane 1 new k else lane 1 old k)
    chosen k =
        let a = bit_at-lt new k in
        let b = bit_at-lt old k in
        let c = bit_at-lt lanes k in
        let d = lane_bit lanes k in
        ⊎_elim
        (λ e. let t = eq-eqb (lane 1 lanes k) 1 (d ∙ e) in let v : max (min (bit_at new k) (bit_at lanes k)) (min (bit_at old k) (1 - bit_at lanes k)) ≡ bit_at new k = omega arith in v ∙ sym (lane_bit new k) ∙ sym (ap (λ t. if t then lane 1 new k else lane 1 old k) t))
        (λ e. let t = ne_eqb (lane 1 lanes k) 1 (λ f. e (sym d ∙ f)) in let v : max (min (bit_at new k) (bit_at lanes k)) (min (bit_at old k) (1 - bit_at lanes k)) ≡ bit_at old k = omega arith in v ∙ sym (lane_bit old k) ∙ sym (ap (λ t. if t then lane 1 new k else lane 1 old k) t))
        (cases_eq (bit_at lanes k) 1)

-- ---- some lane

some_same : (n : ℕ) (f g : ℕ → Bool) → ((k : ℕ) → k < n → f k ≡ g k) → some_below n f ≡ some_below n g
unfolding some_below
some_same zero f g h = refl
some_same (suc n) f g h = λ i. some_same n f g (λ k l. h k (omega arith)) i || h n (omega arith) i

or_false : (b : Bool) → b ≡ (b || false)
or_false true = refl
or_false false = refl

-- a bit put above a number
sum_zero : (b p r : ℕ) → 0 < p → b < 2 → not (nat_eq (b * p + r) 0) ≡ (not (nat_eq r 0) || nat_eq b 1)
sum_zero zero p r h l = let e : 0 * p + r ≡ r = omega arith in ap (λ n. not (nat_eq n 0)) e ∙ or_false (not (nat_eq r 0))
sum_zero (suc zero) p r h l =
    let some : 1 * p + r ≡ 0 → ⊥ = λ e. absurd (omega arith) in
    ap not (ne_eqb (1 * p + r) 0 some) ∙ sym (or_right (not (nat_eq r 0)) true refl)
sum_zero (suc (suc b)) p r h l = absurd (omega arith)

some_bits : (x n : ℕ) → not (nat_eq (x % 2 ^ n) 0) ≡ some_below n (λ k. nat_eq (bit_at x k) 1)
unfolding some_below
some_bits x zero = ap (λ r. not (nat_eq r 0)) (let e : x % 1 ≡ 0 = omega arith in e)
some_bits x (suc n) = ap (λ r. not (nat_eq r 0)) whole ∙ sum_zero (bit_at x n) (2 ^ n) (x % 2 ^ n) (pow_pos n) (bit_at-lt x n) ∙ ap (λ t. t || nat_eq (bit_at x n) 1) (some_bits x n)
  where
    whole : x % 2 ^ suc n ≡ bit_at x n * 2 ^ n + x % 2 ^ n
    whole = let e : suc n ≡ 1 + n = omega arith in ap (λ j. x % 2 ^ j) e ∙ mod-pow-add x 1 n

both_one : (a b : ℕ) → a < 2 → b < 2 → nat_eq (min a b) 1 ≡ (nat_eq a 1 && nat_eq b 1)
both_one zero b h l = let e : min 0 b ≡ 0 = omega arith in ap (λ m. nat_eq m 1) e
both_one (suc zero) zero h l = refl
both_one (suc zero) (suc zero) h l = refl
both_one (suc zero) (suc (suc b)) h l = absurd (omega arith)
both_one (suc (suc a)) b h l = absurd (omega arith)

pub any_bit : (n a b : ℕ) → n ≤ 64 → not (nat_eq (bit_and (bit_and a b) (2 ^ min n 64 - 1)) 0) ≡ some_below n (λ k. nat_eq (lane 1 a k) 1 && nat_eq (lane 1 b k) 1)
any_bit n a b h =
    let all : min n 64 ≡ n = omega arith in
    ap (λ j. not (nat_eq (bit_and (bit_and a b) (2 ^ j - 1)) 0)) all
    ∙ ap (λ x. not (nat_eq x 0)) (and_mask (bit_and a b) n)
    ∙ some_bits (bit_and a b) n
    ∙ some_same n (λ k. nat_eq (bit_at (bit_and a b) k) 1) (λ k. nat_eq (lane 1 a k) 1 && nat_eq (lane 1 b k) 1)
    (λ k l. ap (λ x. nat_eq x 1) (bit_at_and a b k) ∙ both_one (bit_at a k) (bit_at b k) (bit_at-lt a k) (bit_at-lt b k) ∙ (λ i. nat_eq (sym (lane_bit a k) i) 1 && nat_eq (sym (lane_bit b k) i) 1))

-- ---- lanes of elements from one on, before another

ones_bit : (n k : ℕ) → k < 64 → bit_at (2 ^ min n 64 - 1) k ≡ truth (ltb k n)
ones_bit n k h =
    ⊎_elim
    (λ l. let m : k < min n 64 = omega arith in bit_at_ones (min n 64) k m ∙ sym (ap truth (lt-ltb k n l)))
    (λ l. let m : min n 64 ≤ k = omega arith in bit_at_ones_above (min n 64) k m ∙ sym (ap truth (le-ltb k n l)))
    (cases_lt k n)

three : (b : ℕ) (low high : Bool) → b < 2 → min (min b (truth low)) (1 - truth high) ≡ truth (not high && low && nat_eq b 1)
three zero true true h = refl
three zero true false h = refl
three zero false true h = refl
three zero false false h = refl
three (suc zero) true true h = refl
three (suc zero) true false h = refl
three (suc zero) false true h = refl
three (suc zero) false false h = refl
three (suc (suc b)) low high h = absurd (omega arith)

before : (first to k : ℕ) → ltb k (to - first) ≡ ltb (first + k) to
before first to k =
    ⊎_elim
    (λ l. let m : first + k < to = omega arith in lt-ltb k (to - first) l ∙ sym (lt-ltb (first + k) to m))
    (λ l. let m : to ≤ first + k = omega arith in le-ltb k (to - first) l ∙ sym (le-ltb (first + k) to m))
    (cases_lt k (to - first))

behind : (first from k : ℕ) → not (ltb k (from - first)) ≡ leb from (first + k)
behind first from k =
    ⊎_elim
    (λ l. let m : first + k < from = omega arith in ap not (lt-ltb k (from - first) l) ∙ sym (lt-leb from (first + k) m))
    (λ l. let m : from ≤ first + k = omega arith in ap not (le-ltb k (from - first) l) ∙ sym (le-leb from (first + k) m))
    (cases_lt k (from - first))

pub active_bit : (first from to bits k : ℕ) → k < 64 → lane 1 (bit_and (bit_and bits (2 ^ min (to - first) 64 - 1)) (2 ^ 64 - 1 - (2 ^ min (from - first) 64 - 1))) k ≡ truth (leb from (first + k) && ltb (first + k) to && nat_eq (lane 1 bits k) 1)
active_bit first from to bits k h =
    lane_bit (bit_and (bit_and bits low) (2 ^ 64 - 1 - high)) k
    ∙ bit_at_and (bit_and bits low) (bit_not w64 high) k
    ∙ (λ i. min (bit_at_and bits low k i) (bit_at_not w64 high k high-lt h i))
    ∙ (λ i. min (min (bit_at bits k) (ones_bit (to - first) k h i)) (1 - ones_bit (from - first) k h i))
    ∙ three (bit_at bits k) (ltb k (to - first)) (ltb k (from - first)) (bit_at-lt bits k)
    ∙ (λ i. truth (behind first from k i && before first to k i && nat_eq (sym (lane_bit bits k) i) 1))
  where
    low : ℕ
    low = 2 ^ min (to - first) 64 - 1

    high : ℕ
    high = 2 ^ min (from - first) 64 - 1

    high-lt : high < 2 ^ 64
    high-lt =
        let n : min (from - first) 64 ≤ 64 = omega arith in
        let p : 2 ^ min (from - first) 64 ≤ 2 ^ 64 = pow_mono n in
        let some = pow_pos (min (from - first) 64) in
        omega arith

one_or_none : (b : ℕ) → b < 2 → b ≡ truth (nat_eq b 1)
one_or_none zero h = refl
one_or_none (suc zero) h = refl
one_or_none (suc (suc b)) h = absurd (omega arith)

-- where all of the lanes are among the elements
pub active_all : (count first from to bits k : ℕ) → from ≤ first → count ≤ to - first → k < count → lane 1 bits k ≡ truth (leb from (first + k) && ltb (first + k) to && nat_eq (lane 1 bits k) 1)
active_all count first from to bits k low high l =
    let after : from ≤ first + k = omega arith in
    let until : first + k < to = omega arith in
    one_or_none (lane 1 bits k) (lane-lt 1 bits k) ∙ (λ i. truth (sym (le-leb from (first + k) after) i && sym (lt-ltb (first + k) to until) i && nat_eq (lane 1 bits k) 1))

-- ---- words of one element, many times

pub joined_one : (width x : ℕ) → x % 2 ^ width ≡ joined width 1 (λ k. x)
joined_one width x =
    let bits : 0 * width ≡ 0 = omega arith in
    let low = ap (λ j. x % 2 ^ width * 2 ^ j) bits in
    let none = joined-none width (λ k. x) in
    let e : joined width 1 (λ k. x) ≡ joined width 0 (λ k. x) + x % 2 ^ width * 2 ^ (0 * width) = joined-suc width 0 (λ k. x) in
    omega arith

pub joined_beside : (width n m low high : ℕ) (f : ℕ → ℕ) → low ≡ joined width n f → high ≡ joined width m (λ k. f (n + k)) → low + high * 2 ^ (n * width) ≡ joined width (n + m) f
joined_beside width n m low high f l h = (λ i. l i + h i * 2 ^ (n * width)) ∙ sym (joined_append width n m f)
