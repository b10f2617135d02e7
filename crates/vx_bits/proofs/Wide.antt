-- Numbers of 64 bits that are computed with at 128 bits, and quotients.
use Rattle.std.proofs.Common.{◌≡◌, ℕ, zero, suc, ◌-◌, ◌/◌, ◌^◌, ◌<◌, ◌≤◌, false, if◌then◌else◌, ℤ, pos, negsuc, neg_ℤ, ◌+ℤ◌, ◌-ℤ◌, ◌*ℤ◌, nat_abs, int_div, int_rem, FitsSigned, to_z, of_z, w64, refl, sym, ap, ◌∙◌, ⊎_elim, arith, mul-le-mul, div-le_self}
use Rattle.std.specs.Int.{w128, int_shr}
use Rattle.std.specs.Ordering.{int_eq}
use Rattle.std.proofs.lemmas.Bool.{cases_Bool}
use Rattle.std.proofs.lemmas.Bool.Decides.{Decides-int_eq}
use Rattle.std.proofs.lemmas.Int.{ints, to_z_pos, to_z-of_z, fits_signed_from_abs, unsigned_abs-mul}
use lib.Signed.{mag_shr, nat_abs-le}
use Rattle.vx_base.specs.Numbers.{reduced}
use Rattle.vx_bits.specs.Arithmetic.{quotient, remainder}
use Rattle.vx_bits.proofs.Readings.{reduced-wrapped}

-- x, read from 64 bits and then from 128
abbrev pub cast : ℤ → ℤ
cast x = to_z w128 (of_z w128 (to_z w64 (of_z w64 x)))

pub cast-is : (x : ℤ) → FitsSigned w64 x → cast x ≡ x
cast-is x f =
    let wide : FitsSigned w128 x = record { sfits = omega (arith, f.sfits) } in
    ap (λ z. to_z w128 (of_z w128 z)) (to_z-of_z w64 x f) ∙ to_z-of_z w128 x wide

pub read_sum : (x y : ℤ) → FitsSigned w64 x → FitsSigned w64 y → to_z w128 (of_z w128 (cast x +ℤ cast y)) ≡ (x +ℤ y)
read_sum x y f g = (λ i. to_z w128 (of_z w128 (cast-is x f i +ℤ cast-is y g i))) ∙ omega (arith, ints)

pub read_difference : (x y : ℤ) → FitsSigned w64 x → FitsSigned w64 y → to_z w128 (of_z w128 (cast x -ℤ cast y)) ≡ (x -ℤ y)
read_difference x y f g = (λ i. to_z w128 (of_z w128 (cast-is x f i -ℤ cast-is y g i))) ∙ omega (arith, ints)

-- ---- the high half of a product

pub read_shifted : (z : ℤ) (by : ℕ) → FitsSigned w128 z → to_z w128 (of_z w128 (int_shr (to_z w128 (of_z w128 z)) by)) ≡ int_shr z by
read_shifted z by f =
    let g : FitsSigned w128 (int_shr z by) = record { sfits = omega (arith, mag_shr z (2 ^ by), f.sfits) } in
    ap (λ y. to_z w128 (of_z w128 (int_shr y by))) (to_z-of_z w128 z f) ∙ to_z-of_z w128 (int_shr z by) g

product_fits : (x y : ℤ) → nat_abs x ≤ 2 ^ 63 → nat_abs y < 2 ^ 64 → FitsSigned w128 (x *ℤ y)
product_fits x y p q =
    let q' : nat_abs y ≤ 2 ^ 64 - 1 = omega arith in
    let most = mul-le-mul p q' in
    fits_signed_from_abs w128 (x *ℤ y) (omega (arith, unsigned_abs-mul x y))

pub read_signed_high : (x y : ℤ) (by : ℕ) → FitsSigned w64 x → FitsSigned w64 y → to_z w128 (of_z w128 (int_shr (to_z w128 (of_z w128 (cast x *ℤ cast y))) by)) ≡ int_shr (x *ℤ y) by
read_signed_high x y by f g =
    let small = nat_abs-le y {H = 2 ^ 63} g.sfits in
    (λ i. to_z w128 (of_z w128 (int_shr (to_z w128 (of_z w128 (cast-is x f i *ℤ cast-is y g i))) by)))
    ∙ read_shifted (x *ℤ y) by (product_fits x y (nat_abs-le x f.sfits) (omega arith))

pub read_mixed_high : (x : ℤ) (n : ℕ) (by : ℕ) → FitsSigned w64 x → n < 2 ^ 64 → to_z w128 (of_z w128 (int_shr (to_z w128 (of_z w128 (cast x *ℤ to_z w128 n))) by)) ≡ int_shr (x *ℤ pos n) by
read_mixed_high x n by f h =
    (λ i. to_z w128 (of_z w128 (int_shr (to_z w128 (of_z w128 (cast-is x f i *ℤ to_z_pos w128 n (omega arith) i))) by)))
    ∙ read_shifted (x *ℤ pos n) by (product_fits x (pos n) (nat_abs-le x f.sfits) h)

-- ---- quotients and remainders

pub int_eq-false : (x y : ℤ) → (x ≡ y → ⊥) → int_eq x y ≡ false
int_eq-false x y ne = ⊎_elim (λ t. absurd (ne ((Decides-int_eq x y).0 t))) (λ e. e) (cases_Bool (int_eq x y))

not_zero : (y : ℤ) → (of_z w64 y ≡ 0 → ⊥) → int_eq y (pos 0) ≡ false
not_zero y ne = int_eq-false y (pos 0) (λ e. ne (ap (of_z w64) e))

abs_neg : (n : ℕ) → nat_abs (neg_ℤ (pos n)) ≡ n
abs_neg zero = refl
abs_neg (suc n) = refl

quotient_small : (x y : ℤ) → nat_abs (int_div x y) ≤ nat_abs x
quotient_small (pos a) (pos b) = div-le_self a b
quotient_small (pos a) (negsuc b) = omega (arith, abs_neg (a / suc b), div-le_self a (suc b))
quotient_small (negsuc a) (pos b) = omega (arith, abs_neg (suc a / b), div-le_self (suc a) b)
quotient_small (negsuc a) (negsuc b) = div-le_self (suc a) (suc b)

-- what is left of the quotient that 64 bits hold
pub read_quotient : (width : ℕ) (x y q : ℤ) → width ≤ 64 → FitsSigned w64 x → FitsSigned w64 y → FitsSigned w64 q → (of_z w64 y ≡ 0 → ⊥) → q ≡ to_z w64 (of_z w64 (int_div (to_z w64 (of_z w64 x)) (to_z w64 (of_z w64 y)))) → reduced width (cast q) ≡ reduced width (quotient x y)
read_quotient width x y q h f g k ne e =
    let small = quotient_small x y in
    let within = nat_abs-le x {H = 2 ^ 63} f.sfits in
    ap (reduced width) (cast-is q k ∙ e ∙ (λ i. to_z w64 (of_z w64 (int_div (to_z-of_z w64 x f i) (to_z-of_z w64 y g i)))))
    ∙ reduced-wrapped width (int_div x y) h (omega arith)
    ∙ ap (λ t. reduced width (if t then negsuc 0 else int_div x y)) (sym (not_zero y ne))

pub read_remainder : (width : ℕ) (x y r : ℤ) → FitsSigned w64 x → FitsSigned w64 y → FitsSigned w64 r → (of_z w64 y ≡ 0 → ⊥) → r ≡ int_rem (to_z w64 (of_z w64 x)) (to_z w64 (of_z w64 y)) → reduced width (cast r) ≡ reduced width (remainder x y)
read_remainder width x y r f g k ne e =
    ap (reduced width) (cast-is r k ∙ e ∙ (λ i. int_rem (to_z-of_z w64 x f i) (to_z-of_z w64 y g i)))
    ∙ ap (λ t. reduced width (if t then x else int_rem x y)) (sym (not_zero y ne))
