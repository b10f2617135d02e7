-- There are few elements.
use Rattle.std.proofs.Common.{ℕ, zero, suc, ◌-◌, ◌*◌, ◌/◌, ◌^◌, ◌<◌, ◌≤◌, Bool, true, false, nat_eq, ltb, if◌then◌else◌, IsTrue, arith, rules, mul-le-mul}
use Rattle.std.proofs.Math.Nat.{div-mul-le_self, le_refl}
use Rattle.std.proofs.lemmas.Nat.{pow_pos}
use Rattle.vx_base.specs.Options.{is_register_length}
use Rattle.vx_vstate.specs.Vtype.{lmul_eighths, most_elements, sew, vill, vlmul, vsew}

-- LMUL by its field
lmul_by : ℕ → ℕ
lmul_by m = if ltb m 4 then 8 * 2 ^ m else 2 ^ (m - 5)

lmul-few : (m : ℕ) → m < 8 → lmul_by m ≤ 64
unfolding lmul_by
lmul-few zero h = omega arith
lmul-few (suc zero) h = omega arith
lmul-few (suc (suc zero)) h = omega arith
lmul-few (suc (suc (suc zero))) h = omega arith
lmul-few (suc (suc (suc (suc zero)))) h = omega arith
lmul-few (suc (suc (suc (suc (suc zero))))) h = omega arith
lmul-few (suc (suc (suc (suc (suc (suc zero)))))) h = omega arith
lmul-few (suc (suc (suc (suc (suc (suc (suc zero))))))) h = omega arith
lmul-few (suc (suc (suc (suc (suc (suc (suc (suc m)))))))) h = absurd (omega arith)

length-few : (vlen : ℕ) → IsTrue (is_register_length vlen) → vlen ≤ 2048
length-few vlen h = search rules

most-few : (ill : Bool) (lmul vlen size : ℕ) → lmul ≤ 64 → vlen ≤ 2048 → 64 ≤ size → (if ill then 0 else lmul * vlen / size) ≤ 2048
most-few true lmul vlen size l v s = omega arith
most-few false lmul vlen size l v s =
    let product : lmul * vlen ≤ 64 * 2048 = mul-le-mul l v in
    let parts : lmul * vlen / size * size ≤ lmul * vlen = div-mul-le_self (lmul * vlen) size in
    let some : lmul * vlen / size * 64 ≤ lmul * vlen / size * size = mul-le-mul (le_refl (lmul * vlen / size)) s in
    omega (arith, product, parts, some)

pub few : (vlen vtype vl : ℕ) → IsTrue (is_register_length vlen) → vl ≤ most_elements vlen vtype → vl ≤ 2048
unfolding lmul_by
few vlen vtype vl h l =
    let field : vlmul vtype < 8 = omega arith in
    let size : 0 < 2 ^ vsew vtype = pow_pos (vsew vtype) in
    let most = most-few (nat_eq vtype vill) (lmul_eighths vtype) vlen (8 * sew vtype) (lmul-few (vlmul vtype) field) (length-few vlen h) (omega (arith, size)) in
    omega (arith, l, most)
