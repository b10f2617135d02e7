-- The ends of a width's range, and the test whether clipping changed a number.
use Rattle.std.proofs.Common.{◌≡◌, ℕ, ◌-◌, ◌/◌, ◌^◌, ◌<◌, ◌≤◌, nat_eq, ℤ, pos, negsuc, neg_ℤ, ◌-ℤ◌, FitsSigned, to_z, of_z, sym, ap, ◌∙◌, arith, pow_pos, pow_mono}
use Rattle.std.specs.Int.{w128}
use Rattle.std.specs.Ordering.{int_eq}
use Rattle.std.proofs.lemmas.Bool.Decides.{Decides-int_eq, Decides-eqb, Decides-like, same_from_decides}
use Rattle.std.proofs.lemmas.Int.{ints, to_z-of_z}
use Rattle.vx_bits.proofs.Readings.{half_ones}

pub least-is : (width : ℕ) → 0 < width → width ≤ 64 → to_z w128 (of_z w128 (negsuc 0 -ℤ to_z w128 ((2 ^ width - 1) / 2))) ≡ neg_ℤ (pos (2 ^ (width - 1)))
least-is width p h =
    let half = half_ones width p in
    let some = pow_pos (width - 1) in
    let within : width - 1 ≤ 63 = omega arith in
    let power : 2 ^ (width - 1) ≤ 2 ^ 63 = pow_mono within in
    omega (arith, ints)

-- to compare the bits is to compare the numbers
pub same_bits : (x y : ℤ) → FitsSigned w128 x → FitsSigned w128 y → nat_eq (of_z w128 x) (of_z w128 y) ≡ int_eq x y
same_bits x y f g =
    let by_bits = Decides-like (nat_eq (of_z w128 x) (of_z w128 y)) (λ e. sym (to_z-of_z w128 x f) ∙ ap (to_z w128) e ∙ to_z-of_z w128 y g) (λ e. ap (of_z w128) e) (Decides-eqb (of_z w128 x) (of_z w128 y)) in
    same_from_decides _ _ by_bits (Decides-int_eq x y)
