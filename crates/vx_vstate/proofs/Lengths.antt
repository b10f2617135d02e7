-- VLMAX under two vtypes, and the bounds of vl.
use Rattle.std.proofs.Common.{◌≡◌, ℕ, ◌+◌, ◌*◌, ◌/◌, ◌^◌, ◌<◌, ◌≤◌, Bool, false, ◌==◌, IsTrue, if◌then◌else◌, sym, ap, ◌∙◌, arith, pow_pos}
use Rattle.std.proofs.Math.Nat.{mul-div-mul_right}
use Rattle.std.proofs.lemmas.Nat.{pow-add}
use Rattle.std.proofs.lemmas.Bool.Decides.{nat_tests}
use Rattle.vx_vstate.specs.Vtype.{vill, vsew, sew, lmul_eighths, vlmax, is_accepted, most_elements}
use Rattle.vx_vstate.specs.Configuration.{length_for, is_lost}
use Rattle.vx_vstate.specs.declared.avl.Avl.{Avl}
use Rattle.vx_vstate.specs.declared.avl.Avl.TheVariants.{Value, Max, Keep}

-- eight times SEW is a power of two
pub width_power : (field : ℕ) → 2 ^ (field + 6) ≡ 8 * (8 * 2 ^ field)
width_power field = let e : 2 ^ (field + 6) ≡ 2 ^ field * 64 = pow-add 2 field 6 in omega arith

same_quotient : (x y s t : ℕ) → 0 < s → 0 < t → x * t ≡ y * s → x / s ≡ y / t
same_quotient x y s t p q e =
    sym (mul-div-mul_right {m = t} x s q) ∙ ap (λ n. n / (s * t)) e ∙ ap (λ n. y * s / n) (omega arith) ∙ mul-div-mul_right {m = s} y t p

crossed : (l m s t v : ℕ) → s * m ≡ t * l → l * v * (8 * t) ≡ m * v * (8 * s)
crossed l m s t v e = let times = ap (λ n. n * (8 * v)) e in omega arith

sew_positive : (vtype : ℕ) → 0 < 8 * sew vtype
sew_positive vtype = let some = pow_pos (vsew vtype) in omega arith

vlmax-same_ratio : (vlen a b : ℕ) → sew a * lmul_eighths b ≡ sew b * lmul_eighths a → vlmax vlen a ≡ vlmax vlen b
vlmax-same_ratio vlen a b e =
    same_quotient (lmul_eighths a * vlen) (lmul_eighths b * vlen) (8 * sew a) (8 * sew b) (sew_positive a) (sew_positive b)
    (crossed (lmul_eighths a) (lmul_eighths b) (sew a) (sew b) vlen e)

most-if_not_vill : (vlen vtype : ℕ) → (vtype == vill) ≡ false → most_elements vlen vtype ≡ vlmax vlen vtype
most-if_not_vill vlen vtype e = ap (λ (b : Bool). if b then 0 else vlmax vlen vtype) e

most-accepted : (vlen vtype : ℕ) → IsTrue (is_accepted vtype) → most_elements vlen vtype ≡ vlmax vlen vtype
most-accepted vlen vtype h = most-if_not_vill vlen vtype (grind (arith, nat_tests, h))

pub length-le : (avl : Avl) (vlen vl old wanted : ℕ) → IsTrue (is_accepted wanted) → is_lost avl old wanted ≡ false → vl ≤ most_elements vlen old → length_for avl (vlmax vlen wanted) vl ≤ most_elements vlen wanted
length-le (Value n) vlen vl old wanted h k l = let e = most-accepted vlen wanted h in omega arith
length-le Max vlen vl old wanted h k l = let e = most-accepted vlen wanted h in omega arith
length-le Keep vlen vl old wanted h k l =
    let e = most-accepted vlen wanted h in
    let same : sew old * lmul_eighths wanted ≡ sew wanted * lmul_eighths old = grind (arith, nat_tests, k) in
    let here : (old == vill) ≡ false = grind (arith, nat_tests, k) in
    let f = most-if_not_vill vlen old here in
    let g = vlmax-same_ratio vlen old wanted same in
    omega arith
