-- Elements joined to a word, and taken out of it again.
use Rattle.std.proofs.Common.{◌≡◌, ℕ, zero, suc, ◌+◌, ◌-◌, ◌*◌, ◌/◌, ◌%◌, ◌^◌, ◌<◌, ◌≤◌, ⊎_elim, eq-or-lt_of_le, refl, sym, ap, ◌∙◌, subst, arith, pow_pos, mod-lt, mul-le-mul_right}
use Rattle.std.proofs.Math.Nat.{add-mul-div_right, add-mul-mod_self_right, mod-mod}
use Rattle.std.proofs.lemmas.Nat.{pow-add, mod-pow-add, shr_high}
use Rattle.vx_base.specs.Numbers.{field}
use Rattle.vx_packed.specs.Joined.{lane, joined}

-- ---- numbers

-- a number of k bits with one of j bits above it
pub above-lt : (j k a b : ℕ) → a < 2 ^ k → b < 2 ^ j → a + b * 2 ^ k < 2 ^ (j + k)
above-lt j k a b low high =
    let whole = pow-add 2 j k in
    let next : suc b ≤ 2 ^ j = omega arith in
    let product = mul-le-mul_right (2 ^ k) next in
    omega arith

-- a field below what is added
pub field_below : (x t low count high : ℕ) → low + count ≤ high → field (x + t * 2 ^ high) low count ≡ field x low count
field_below x t low count high h =
    let rest = high - (low + count) in
    let whole : high ≡ (rest + count) + low = omega arith in
    let power : 2 ^ high ≡ 2 ^ rest * 2 ^ count * 2 ^ low = ap (λ n. 2 ^ n) whole ∙ pow-add 2 (rest + count) low ∙ ap (λ n. n * 2 ^ low) (pow-add 2 rest count) in
    let sum : x + t * 2 ^ high ≡ x + t * 2 ^ rest * 2 ^ count * 2 ^ low = omega (arith, ap (λ n. t * n) power) in
    ap (λ n. n / 2 ^ low % 2 ^ count) sum
    ∙ ap (λ n. n % 2 ^ count) (add-mul-div_right x (t * 2 ^ rest * 2 ^ count) (pow_pos low))
    ∙ add-mul-mod_self_right (x / 2 ^ low) (t * 2 ^ rest) (2 ^ count)

-- the field that was added
pub field_at : (x t low count : ℕ) → x < 2 ^ low → field (x + t * 2 ^ low) low count ≡ t % 2 ^ count
field_at x t low count h =
    let turned : x + t * 2 ^ low ≡ t * 2 ^ low + x = omega arith in
    ap (λ n. n / 2 ^ low % 2 ^ count) turned ∙ ap (λ n. n % 2 ^ count) (shr_high t low x h)

-- ---- elements

pub joined-none : (width : ℕ) (f : ℕ → ℕ) → joined width 0 f ≡ 0
unfolding joined
joined-none width f = refl

pub joined-suc : (width n : ℕ) (f : ℕ → ℕ) → joined width (suc n) f ≡ joined width n f + f n % 2 ^ width * 2 ^ (n * width)
unfolding joined
joined-suc width n f = refl

pub joined-lt : (width n : ℕ) (f : ℕ → ℕ) → joined width n f < 2 ^ (n * width)
joined-lt width zero f = subst (λ m. m < 2 ^ (0 * width)) (sym (joined-none width f)) (pow_pos (0 * width))
joined-lt width (suc n) f =
    let rest = joined-lt width n f in
    let top = mod-lt (f n) (pow_pos width) in
    let both = above-lt width (n * width) (joined width n f) (f n % 2 ^ width) rest top in
    let bits : suc n * width ≡ width + n * width = omega arith in
    omega (arith, joined-suc width n f, ap (λ k. 2 ^ k) bits)

pub lane_joined : (width n : ℕ) (f : ℕ → ℕ) (k : ℕ) → k < n → lane width (joined width n f) k ≡ f k % 2 ^ width
lane_joined width zero f k h = absurd (omega arith)
lane_joined width (suc n) f k h =
    let step = ap (λ m. field m (k * width) width) (joined-suc width n f) in
    let at_most : k ≤ n = omega arith in
    ⊎_elim
    (λ e. step
    ∙ ap (λ m. field (joined width n f + f n % 2 ^ width * 2 ^ (n * width)) (m * width) width) e
    ∙ field_at (joined width n f) (f n % 2 ^ width) (n * width) width (joined-lt width n f)
    ∙ mod-mod (f n) (2 ^ width)
    ∙ ap (λ m. f m % 2 ^ width) (sym e))
    (λ l. let next : suc k ≤ n = l in
    let within = mul-le-mul_right width next in
    step
    ∙ field_below (joined width n f) (f n % 2 ^ width) (k * width) width (n * width) (omega arith)
    ∙ lane_joined width n f k l)
    (eq-or-lt_of_le at_most)

-- a word is its elements
pub joined_lanes : (width n word : ℕ) → joined width n (lane width word) ≡ word % 2 ^ (n * width)
joined_lanes width zero word =
    let one : 0 * width ≡ 0 = omega arith in
    joined-none width (lane width word) ∙ sym (ap (λ k. word % 2 ^ k) one ∙ omega arith)
joined_lanes width (suc n) word =
    let bits : suc n * width ≡ width + n * width = omega arith in
    let whole = ap (λ k. word % 2 ^ k) bits ∙ mod-pow-add word width (n * width) in
    let cut = ap (λ m. m * 2 ^ (n * width)) (mod-mod (word / 2 ^ (n * width)) (2 ^ width)) in
    omega (arith, joined-suc width n (lane width word), joined_lanes width n word)

pub joined_same : (width n : ℕ) (f g : ℕ → ℕ) → ((k : ℕ) → k < n → f k % 2 ^ width ≡ g k % 2 ^ width) → joined width n f ≡ joined width n g
joined_same width zero f g h = joined-none width f ∙ sym (joined-none width g)
joined_same width (suc n) f g h =
    let rest = joined_same width n f g (λ k l. h k (omega arith)) in
    let top = ap (λ m. m * 2 ^ (n * width)) (h n (omega arith)) in
    omega (arith, joined-suc width n f, joined-suc width n g)

-- two words one behind the other
pub joined_append : (width n m : ℕ) (f : ℕ → ℕ) → joined width (n + m) f ≡ joined width n f + joined width m (λ k. f (n + k)) * 2 ^ (n * width)
joined_append width n zero f =
    let none = ap (λ j. j * 2 ^ (n * width)) (joined-none width (λ k. f (n + k))) in
    let all : n + 0 ≡ n = omega arith in
    omega (arith, ap (λ j. joined width j f) all)
joined_append width n (suc m) f =
    let rest = joined_append width n m f in
    let one_more : n + suc m ≡ suc (n + m) = omega arith in
    let bits : (n + m) * width ≡ m * width + n * width = omega arith in
    let power : 2 ^ ((n + m) * width) ≡ 2 ^ (m * width) * 2 ^ (n * width) = ap (λ k. 2 ^ k) bits ∙ pow-add 2 (m * width) (n * width) in
    let top = ap (λ j. f (n + m) % 2 ^ width * j) power in
    let low = ap (λ j. joined width j f) one_more ∙ joined-suc width (n + m) f in
    let high = ap (λ j. j * 2 ^ (n * width)) (joined-suc width m (λ k. f (n + k))) in
    omega arith
