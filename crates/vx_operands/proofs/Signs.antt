-- The order of signed numbers, and of the words whose highest bits they are.
use Rattle.std.proofs.Common.{◌≡◌, ℕ, ◌+◌, ◌-◌, ◌*◌, ◌/◌, ◌%◌, ◌^◌, ◌<◌, ◌≤◌, Bool, true, false, IsTrue, ltb, if◌then◌else◌, pos, negsuc, refl, sym, ap, ◌∙◌, subst, ⊎_elim, arith, pow_pos, mod-lt}
use Rattle.std.specs.Prelude.{int_lt}
use Rattle.std.proofs.lemmas.Bool.{cases_lt}
use Rattle.std.proofs.lemmas.Bool.Decides.{nat_tests}
use Rattle.std.proofs.lemmas.Nat.{mod-pow-add, pow-add}
use Rattle.std.proofs.Math.Nat.{mul-div_cancel, mul-mod_left}
use Rattle.vx_base.specs.Numbers.{signed}
use Rattle.vx_bits.specs.Width.{is_width}
use Rattle.vx_operands.proofs.ByIndex.{is_below, not_below}

-- a number that is shifted left loses what goes beyond
cut : (n s k : ℕ) → s + k ≡ 64 → n * 2 ^ k % 2 ^ 64 ≡ n % 2 ^ s * 2 ^ k
cut n s k e =
    let back : n * 2 ^ k / 2 ^ k ≡ n = mul-div_cancel n (pow_pos k) in
    let left : n * 2 ^ k % 2 ^ k ≡ 0 = mul-mod_left n (2 ^ k) in
    ap (λ m. n * 2 ^ k % 2 ^ m) (sym e)
    ∙ mod-pow-add (n * 2 ^ k) s k
    ∙ (λ i. back i % 2 ^ s * 2 ^ k + left i)
    ∙ omega arith

whole_of : (width : ℕ) → IsTrue (is_width width) → width + (64 - width) ≡ 64
whole_of width h = grind (arith, h)

some_of : (width : ℕ) → IsTrue (is_width width) → 0 < width
some_of width h = grind (arith, h)

pub raised_is : (width n : ℕ) → IsTrue (is_width width) → n * 2 ^ (64 - width) % 2 ^ 64 ≡ n % 2 ^ width * 2 ^ (64 - width)
raised_is width n h = cut n width (64 - width) (whole_of width h)

-- the order by the signs and the order of the bits
abbrev in_order : (small_a small_b less : Bool) → Bool
in_order true true less = less
in_order false false less = less
in_order true false less = false
in_order false true less = true

same_test : (a b c d : ℕ) → (a < b → c < d) → (b ≤ a → d ≤ c) → ltb a b ≡ ltb c d
same_test a b c d below above =
    ⊎_elim
    (λ l. is_below a b l ∙ sym (is_below c d (below l)))
    (λ g. not_below a b g ∙ sym (not_below c d (above g)))
    (cases_lt a b)

by_signs : (top n m : ℕ) (b c : Bool) → n < top → m < top → int_lt (if b then pos n else negsuc (top - 1 - n)) (if c then pos m else negsuc (top - 1 - m)) ≡ in_order b c (ltb n m)
by_signs top n m true true l g = refl
by_signs top n m true false l g = refl
by_signs top n m false true l g = refl
by_signs top n m false false l g = same_test (top - 1 - m) (top - 1 - n) n m (λ h. omega (arith, l, g, h)) (λ h. omega (arith, l, g, h))

scaled : (n m p : ℕ) → 0 < p → ltb (n * p) (m * p) ≡ ltb n m
scaled n m p some = same_test (n * p) (m * p) n m (λ h. less n m p h) (λ h. more n m p some h)
  where
    less : (n m p : ℕ) → n * p < m * p → n < m
    less n m p h = grind (arith, h)

    more : (n m p : ℕ) → 0 < p → m * p ≤ n * p → m ≤ n
    more n m p some h = grind (arith, some, h)

pub raised_order : (width a b : ℕ) → IsTrue (is_width width) → int_lt (signed 64 (a % 2 ^ width * 2 ^ (64 - width))) (signed 64 (b % 2 ^ width * 2 ^ (64 - width))) ≡ int_lt (signed width (a % 2 ^ width)) (signed width (b % 2 ^ width))
raised_order width a b h =
    let n = a % 2 ^ width in
    let m = b % 2 ^ width in
    let k = 64 - width in
    let p = 2 ^ k in
    let some = pow_pos k in
    let whole = whole_of width h in
    let positive = some_of width h in
    let power : 2 ^ width * p ≡ 2 ^ 64 = sym (pow-add 2 width k) ∙ ap (λ x. 2 ^ x) whole in
    let halves : width - 1 + k ≡ 63 = omega (arith, whole, positive) in
    let half : 2 ^ (width - 1) * p ≡ 2 ^ 63 = sym (pow-add 2 (width - 1) k) ∙ ap (λ x. 2 ^ x) halves in
    let n-in = mod-lt a (pow_pos width) in
    let m-in = mod-lt b (pow_pos width) in
    let n-fits : n * p < 2 ^ 64 = subst (λ x. n * p < x) power (grow n (2 ^ width) p some n-in) in
    let m-fits : m * p < 2 ^ 64 = subst (λ x. m * p < x) power (grow m (2 ^ width) p some m-in) in
    let test : (x : ℕ) → ltb (x * p) (2 ^ 63) ≡ ltb x (2 ^ (width - 1)) = λ x. ap (λ y. ltb (x * p) y) (sym half) ∙ scaled x (2 ^ (width - 1)) p some in
    by_signs (2 ^ 64) (n * p) (m * p) (ltb (n * p) (2 ^ 63)) (ltb (m * p) (2 ^ 63)) n-fits m-fits
    ∙ (λ i. in_order (test n i) (test m i) (scaled n m p some i))
    ∙ sym (by_signs (2 ^ width) n m (ltb n (2 ^ (width - 1))) (ltb m (2 ^ (width - 1))) n-in m-in)
  where
    grow : (n m p : ℕ) → 0 < p → n < m → n * p < m * p
    grow n m p some l = grind (arith, some, l)
