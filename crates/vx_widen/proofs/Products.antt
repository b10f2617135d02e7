-- A product of a signed and an unsigned number of 64 bits, computed with at 128 bits.
use Rattle.std.proofs.Common.{◌≡◌, ℕ, ◌-◌, ◌^◌, ◌<◌, ◌≤◌, ℤ, pos, ◌*ℤ◌, nat_abs, FitsSigned, to_z, of_z, w64, ◌∙◌, arith, mul-le-mul}
use Rattle.std.specs.Int.{w128}
use Rattle.std.proofs.lemmas.Int.{to_z_pos, to_z-of_z, fits_signed_from_abs, unsigned_abs-mul}
use lib.Signed.{nat_abs-le}
use Rattle.vx_bits.proofs.Wide.{cast, cast-is}

product_fits : (x y : ℤ) → nat_abs x ≤ 2 ^ 63 → nat_abs y < 2 ^ 64 → FitsSigned w128 (x *ℤ y)
product_fits x y p q =
    let q' : nat_abs y ≤ 2 ^ 64 - 1 = omega arith in
    let most = mul-le-mul p q' in
    fits_signed_from_abs w128 (x *ℤ y) (omega (arith, unsigned_abs-mul x y))

pub read_mixed : (x : ℤ) (n : ℕ) → FitsSigned w64 x → n < 2 ^ 64 → to_z w128 (of_z w128 (cast x *ℤ to_z w128 n)) ≡ x *ℤ pos n
read_mixed x n f h =
    (λ i. to_z w128 (of_z w128 (cast-is x f i *ℤ to_z_pos w128 n (omega arith) i)))
    ∙ to_z-of_z w128 (x *ℤ pos n) (product_fits x (pos n) (nat_abs-le x f.sfits) h)
