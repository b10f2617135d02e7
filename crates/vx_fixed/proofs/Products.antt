-- A product of signed numbers of 64 bits, computed with at 128 bits.
use Rattle.std.proofs.Common.{◌≡◌, ◌^◌, ◌≤◌, ℤ, ◌*ℤ◌, nat_abs, FitsSigned, to_z, of_z, w64, ◌∙◌, arith, mul-le-mul}
use Rattle.std.specs.Int.{w128}
use Rattle.std.proofs.lemmas.Int.{to_z-of_z, fits_signed_from_abs, unsigned_abs-mul}
use lib.Signed.{nat_abs-le}
use Rattle.vx_bits.proofs.Wide.{cast, cast-is}

product_fits : (x y : ℤ) → nat_abs x ≤ 2 ^ 63 → nat_abs y ≤ 2 ^ 63 → FitsSigned w128 (x *ℤ y)
product_fits x y p q =
    let most = mul-le-mul p q in
    fits_signed_from_abs w128 (x *ℤ y) (omega (arith, unsigned_abs-mul x y))

pub read_product : (x y : ℤ) → FitsSigned w64 x → FitsSigned w64 y → to_z w128 (of_z w128 (cast x *ℤ cast y)) ≡ x *ℤ y
read_product x y f g =
    (λ i. to_z w128 (of_z w128 (cast-is x f i *ℤ cast-is y g i)))
    ∙ to_z-of_z w128 (x *ℤ y) (product_fits x y (nat_abs-le x f.sfits) (nat_abs-le y g.sfits))
