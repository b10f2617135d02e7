-- How many of the first numbers hold, and lists by their indices.
use Rattle.std.proofs.Common.{◌≡◌, ◌⊎◌, ℕ, zero, suc, List, [], ◌∷◌, ◌++◌, ◌+◌, ◌-◌, ◌*◌, ◌/◌, ◌%◌, ◌^◌, ◌<◌, ◌≤◌, Bool, true, false, ◌&&◌, nat_eq, leb, ltb, if◌then◌else◌, map, length, get_or, refl, sym, ap, ◌∙◌, subst, ⊎_elim, arith, mod-lt, mod-eq_of_lt, pow_pos, add-one, eq-or-lt_of_le, min}
use Rattle.std.specs.Prelude.{count_ones, fold}
use Rattle.std.proofs.Common.{mul-le-mul_right}
use Rattle.std.specs.Int.{bit_at}
use Rattle.std.specs.Int.Count.{ones}
use Rattle.std.specs.List.{range_with_len}
use Rattle.std.proofs.Math.Arith.{mod-mul}
use Rattle.std.proofs.Math.Seq.{get_or-append_right}
use Rattle.std.proofs.lemmas.Bool.{cases_Bool, false≢true, cases_lt}
use Rattle.std.proofs.lemmas.Bool.Decides.{nat_tests}
use Rattle.std.proofs.lemmas.List.{get_or_append_left}
use Rattle.std.proofs.lemmas.List.FromFn.{map-range_with_len_more, length-map-range_with_len, take-map-range_with_len}
use Rattle.std.proofs.lemmas.List.Sums.{fold-append}
use Rattle.std.proofs.lemmas.Nat.{pow-add, ones_cat}
use Rattle.vx_packed.specs.Joined.{lane}
use Rattle.vx_vector.specs.Lists.{chosen}
use Rattle.vx_operands.specs.Rising.{count_below, joined_below, IsFirstBelow}
use Rattle.vx_operands.proofs.Merging.{lane_bit}

-- ---- counts

pub count_sum : (h : ℕ → Bool) (a b : ℕ) → count_below h (a + b) ≡ count_below h a + count_below (λ k. h (a + k)) b
unfolding count_below
count_sum h a zero = let e : a + 0 ≡ a = omega arith in let f = ap (λ n. count_below h n) e in omega (arith, f)
count_sum h a (suc b) =
    let e : a + suc b ≡ suc (a + b) = omega arith in
    let f = ap (λ n. count_below h n) e in
    let rest = count_sum h a b in
    omega (arith, f, rest)

pub count_more : (h : ℕ → Bool) (n : ℕ) → count_below h (n + 1) ≡ count_below h n + (if h n then 1 else 0)
unfolding count_below
count_more h n = ap (λ m. count_below h m) (add-one n)

pub count_zero : (h : ℕ → Bool) → count_below h 0 ≡ 0
unfolding count_below
count_zero h = refl

pub count_alike : (h g : ℕ → Bool) (n : ℕ) → ((k : ℕ) → k < n → h k ≡ g k) → count_below h n ≡ count_below g n
unfolding count_below
count_alike h g zero e = refl
count_alike h g (suc n) e = λ i. count_alike h g n (λ k l. e k (omega arith)) i + (if e n (omega arith) i then 1 else 0)

pub count_none : (h : ℕ → Bool) (n : ℕ) → ((k : ℕ) → k < n → h k ≡ false) → count_below h n ≡ 0
unfolding count_below
count_none h zero e = refl
count_none h (suc n) e = λ i. count_none h n (λ k l. e k (omega arith)) i + (if e n (omega arith) i then 1 else 0)

pub count_most : (h : ℕ → Bool) (n : ℕ) → count_below h n ≤ n
unfolding count_below
count_most h zero = omega arith
count_most h (suc n) =
    let rest = count_most h n in
    ⊎_elim
    (λ t. let x = ap {B = ℕ} (λ (b : Bool). if b then 1 else 0) t in omega (arith, rest, x))
    (λ f. let x = ap {B = ℕ} (λ (b : Bool). if b then 1 else 0) f in omega (arith, rest, x))
    (cases_Bool (h n))

pub count_some : (h : ℕ → Bool) (n k : ℕ) → k < n → h k ≡ true → 0 < count_below h n
unfolding count_below
count_some h zero k l t = absurd (omega (arith, l))
count_some h (suc n) k l t =
    let at_most : k ≤ n = omega (arith, l) in
    ⊎_elim
    (λ e. let one = ap {B = ℕ} (λ (b : Bool). if b then 1 else 0) (ap h (sym e) ∙ t) in omega (arith, one))
    (λ m. let rest = count_some h n k m t in omega (arith, rest))
    (eq-or-lt_of_le at_most)

below_true : (a b : ℕ) → a < b → ltb a b ≡ true
below_true a b h = grind (arith, nat_tests, h)

below_false : (a b : ℕ) → b ≤ a → ltb a b ≡ false
below_false a b h = grind (arith, nat_tests, h)

-- those below n of more
pub count_front : (h : ℕ → Bool) (n m : ℕ) → n ≤ m → count_below (λ i. ltb i n && h i) m ≡ count_below h n
count_front h n m l =
    let g : ℕ → Bool = λ i. ltb i n && h i in
    let d = m - n in
    let whole : m ≡ n + d = omega (arith, l) in
    let cut = ap (λ x. count_below g x) whole ∙ count_sum g n d in
    let front = count_alike g h n (λ k k_below. ap (λ b. b && h k) (below_true k n k_below)) in
    let rest = count_none (λ k. g (n + k)) d (λ k k_below. ap (λ b. b && h (n + k)) (below_false (n + k) n (omega arith))) in
    omega (arith, cut, front, rest)

pub none_counted : (h : ℕ → Bool) (v m n : ℕ) → IsFirstBelow h v m → n ≤ v → nat_eq (count_below h n) 0 ≡ leb n m
none_counted h v m n first l =
    ⊎_elim
    (λ inside.
    let some = count_some h n m inside (first.holds_there (omega (arith, inside, l))) in
    grind (arith, nat_tests, some, inside))
    (λ outside.
    let none = count_none h n (λ k k_below. first.before k (omega (arith, k_below, outside))) in
    grind (arith, nat_tests, none, outside))
    (cases_lt m n)

-- ---- the bits of a word

ones_bit : (b : ℕ) → b < 2 → count_ones b ≡ (if nat_eq b 1 then 1 else 0)
unfolding ones
ones_bit zero l = refl
ones_bit (suc zero) l = refl
ones_bit (suc (suc b)) l = absurd (omega (arith, l))

swapped : (a b : ℕ) → a + b ≡ b + a
swapped a b = omega arith

low_ones : (m n : ℕ) → count_ones (n % 2 ^ m) ≡ count_below (λ k. nat_eq (bit_at n k) 1) m
unfolding count_below
low_ones zero n = let z : n % 2 ^ 0 ≡ 0 = omega arith in ap count_ones z ∙ ones_bit 0 (omega arith)
low_ones (suc m) n =
    let one : suc m ≡ 1 + m = omega arith in
    let power : 2 ^ suc m ≡ 2 * 2 ^ m = ap (λ x. 2 ^ x) one ∙ pow-add 2 1 m in
    let two : 0 < 2 = omega arith in
    let cut : n % 2 ^ suc m ≡ n / 2 ^ m % 2 * 2 ^ m + n % 2 ^ m = ap (λ x. n % x) power ∙ mod-mul n two (pow_pos m) in
    let joined = ap count_ones cut ∙ ones_cat m (n / 2 ^ m % 2) (n % 2 ^ m) (mod-lt n (pow_pos m)) in
    let bit = ones_bit (n / 2 ^ m % 2) (mod-lt (n / 2 ^ m) two) in
    let rest = low_ones m n in
    joined ∙ (λ i. bit i + rest i) ∙ swapped (if nat_eq (n / 2 ^ m % 2) 1 then 1 else 0) (count_below (λ k. nat_eq (bit_at n k) 1) m)

pub ones_lanes : (m n : ℕ) → n < 2 ^ m → count_ones n ≡ count_below (λ k. nat_eq (lane 1 n k) 1) m
ones_lanes m n l =
    ap count_ones (sym (mod-eq_of_lt l))
    ∙ low_ones m n
    ∙ count_alike (λ k. nat_eq (bit_at n k) 1) (λ k. nat_eq (lane 1 n k) 1) m (λ k k_below. ap (λ x. nat_eq x 1) (sym (lane_bit n k)))

-- ---- those that are chosen

pub chosen_short : (f : ℕ → ℕ) (a : ℕ → Bool) (s m n : ℕ) → n ≤ m → chosen (map f (range_with_len s m)) (map a (range_with_len s n)) ≡ chosen (map f (range_with_len s n)) (map a (range_with_len s n))
chosen_short f a s zero zero l = refl
chosen_short f a s (suc m) zero l = refl
chosen_short f a s zero (suc n) l = absurd (omega (arith, l))
chosen_short f a s (suc m) (suc n) l = ap (λ xs. if a s then f s ∷ xs else xs) (chosen_short f a (s + 1) m n (omega (arith, l)))

pub chosen_long : (f : ℕ → ℕ) (a : ℕ → Bool) (s m n : ℕ) → n ≤ m → chosen (map f (range_with_len s n)) (map a (range_with_len s m)) ≡ chosen (map f (range_with_len s n)) (map a (range_with_len s n))
chosen_long f a s zero zero l = refl
chosen_long f a s (suc m) zero l = refl
chosen_long f a s zero (suc n) l = absurd (omega (arith, l))
chosen_long f a s (suc m) (suc n) l = ap (λ xs. if a s then f s ∷ xs else xs) (chosen_long f a (s + 1) m n (omega (arith, l)))

both_push : (b : Bool) (y : ℕ) (xs ys zs : List ℕ) → xs ≡ ys ++ zs → (if b then y ∷ xs else xs) ≡ (if b then y ∷ ys else ys) ++ zs
both_push true y xs ys zs e = ap (λ l. y ∷ l) e
both_push false y xs ys zs e = e

chosen_push : (xs : List ℕ) (hs : List Bool) (x : ℕ) (h : Bool) → length xs ≡ length hs → chosen (xs ++ (x ∷ [])) (hs ++ (h ∷ [])) ≡ chosen xs hs ++ (if h then x ∷ [] else [])
chosen_push [] [] x h e = refl
chosen_push [] (g ∷ gs) x h e = absurd (omega (arith, e))
chosen_push (y ∷ ys) [] x h e = absurd (omega (arith, e))
chosen_push (y ∷ ys) (g ∷ gs) x h e = both_push g y (chosen (ys ++ (x ∷ [])) (gs ++ (h ∷ []))) (chosen ys gs) (if h then x ∷ [] else []) (chosen_push ys gs x h (omega (arith, e)))

-- those of the first n, and one more
abbrev pub chosen_below : (f : ℕ → ℕ) (a : ℕ → Bool) (n : ℕ) → List ℕ
chosen_below f a n = chosen (map f (range_with_len 0 n)) (map a (range_with_len 0 n))

pub chosen_more : (f : ℕ → ℕ) (a : ℕ → Bool) (n : ℕ) → chosen_below f a (suc n) ≡ chosen_below f a n ++ (if a n then f n ∷ [] else [])
chosen_more f a n =
    let z : 0 + n ≡ n = omega arith in
    ap (λ m. chosen_below f a m) (sym (add-one n))
    ∙ (λ i. chosen (map-range_with_len_more f 0 n n z i) (map-range_with_len_more a 0 n n z i))
    ∙ chosen_push (map f (range_with_len 0 n)) (map a (range_with_len 0 n)) (f n) (a n) (length-map-range_with_len f 0 n ∙ sym (length-map-range_with_len a 0 n))

-- ---- sums of those that are chosen

fold_one : (s : ℕ → ℕ → ℕ) (p y : ℕ) (b : Bool) → fold s p (if b then y ∷ [] else []) ≡ (if b then s p y else p)
fold_one s p y true = refl
fold_one s p y false = refl

pub fold_chosen : (s : ℕ → ℕ → ℕ) (x : ℕ) (f : ℕ → ℕ) (a : ℕ → Bool) (n : ℕ) → fold s x (chosen_below f a n) ≡ joined_below s x a f n
unfolding joined_below
fold_chosen s x f a zero = refl
fold_chosen s x f a (suc n) =
    ap (λ l. fold s x l) (chosen_more f a n)
    ∙ fold-append s x (chosen_below f a n) (if a n then f n ∷ [] else [])
    ∙ fold_one s (fold s x (chosen_below f a n)) (f n) (a n)
    ∙ ap (λ p. if a n then s p (f n) else p) (fold_chosen s x f a n)

pub joined_none : (g : ℕ → ℕ → ℕ) (x : ℕ) (h : ℕ → Bool) (f : ℕ → ℕ) → joined_below g x h f 0 ≡ x
unfolding joined_below
joined_none g x h f = refl

pub joined_more : (g : ℕ → ℕ → ℕ) (x : ℕ) (h : ℕ → Bool) (f : ℕ → ℕ) (n : ℕ) → joined_below g x h f (n + 1) ≡ (if h n then g (joined_below g x h f n) (f n) else joined_below g x h f n)
unfolding joined_below
joined_more g x h f n = ap (λ m. joined_below g x h f m) (add-one n)

pub joined_sum : (g : ℕ → ℕ → ℕ) (x : ℕ) (h : ℕ → Bool) (f : ℕ → ℕ) (a b : ℕ) → joined_below g x h f (a + b) ≡ joined_below g (joined_below g x h f a) (λ k. h (a + k)) (λ k. f (a + k)) b
unfolding joined_below
joined_sum g x h f a zero = let e : a + 0 ≡ a = omega arith in ap (λ n. joined_below g x h f n) e
joined_sum g x h f a (suc b) =
    let e : a + suc b ≡ suc (a + b) = omega arith in
    ap (λ n. joined_below g x h f n) e ∙ ap (λ p. if h (a + b) then g p (f (a + b)) else p) (joined_sum g x h f a b)

pub joined_alike : (g : ℕ → ℕ → ℕ) (x : ℕ) (h h' : ℕ → Bool) (f f' : ℕ → ℕ) (n : ℕ) → ((k : ℕ) → k < n → h k ≡ h' k) → ((k : ℕ) → k < n → f k ≡ f' k) → joined_below g x h f n ≡ joined_below g x h' f' n
unfolding joined_below
joined_alike g x h h' f f' zero p q = refl
joined_alike g x h h' f f' (suc n) p q = λ i. if p n (omega arith) i then g (joined_alike g x h h' f f' n (λ k l. p k (omega arith)) (λ k l. q k (omega arith)) i) (q n (omega arith) i) else joined_alike g x h h' f f' n (λ k l. p k (omega arith)) (λ k l. q k (omega arith)) i

joined_stays : (g : ℕ → ℕ → ℕ) (x : ℕ) (h : ℕ → Bool) (f : ℕ → ℕ) (n : ℕ) → ((k : ℕ) → k < n → h k ≡ false) → joined_below g x h f n ≡ x
unfolding joined_below
joined_stays g x h f zero p = refl
joined_stays g x h f (suc n) p = ap (λ (b : Bool). if b then g (joined_below g x h f n) (f n) else joined_below g x h f n) (p n (omega arith)) ∙ joined_stays g x h f n (λ k l. p k (omega arith))

-- those behind n don't hold
pub joined_front : (g : ℕ → ℕ → ℕ) (x : ℕ) (h : ℕ → Bool) (f : ℕ → ℕ) (n m : ℕ) → n ≤ m → ((k : ℕ) → n ≤ k → h k ≡ false) → joined_below g x h f m ≡ joined_below g x h f n
joined_front g x h f n m l none =
    let whole : m ≡ n + (m - n) = omega (arith, l) in
    ap (λ k. joined_below g x h f k) whole
    ∙ joined_sum g x h f n (m - n)
    ∙ joined_stays g (joined_below g x h f n) (λ k. h (n + k)) (λ k. f (n + k)) (m - n) (λ k k_below. none (n + k) (omega arith))

-- ---- as many words as hold so many elements

pub word_begins : (n count w words : ℕ) → words * count < n + count → w < words → w * count < n
word_begins n count w words most l =
    let next : suc w ≤ words = l in
    let rows = mul-le-mul_right count next in
    omega (arith, most, rows)
