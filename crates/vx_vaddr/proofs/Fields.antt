-- A field of a number that is set by taking the old one away.
use Rattle.std.proofs.Common.{◌≡◌, ℕ, ◌+◌, ◌-◌, ◌*◌, ◌/◌, ◌%◌, ◌^◌, ◌<◌, ◌≤◌, sym, ap, ◌∙◌, arith, pow_pos, mod-lt, mod-eq_of_lt}
use Rattle.std.proofs.Math.Nat.{mul-le-mul_left}
use Rattle.std.proofs.lemmas.Nat.{pow-add, shr-shr, mul-add-lt, div_below, div-add-mod'}
use Rattle.vx_vstate.specs.Registers.{with_field}

-- a number as what is above its field, the field, and what is below
split : (n low count : ℕ) → n / 2 ^ (low + count) * 2 ^ (low + count) + n / 2 ^ low % 2 ^ count * 2 ^ low + n % 2 ^ low ≡ n
split n low count =
    let a = 2 ^ low in
    let b = 2 ^ count in
    let q = n / 2 ^ low in
    let h = n / 2 ^ (low + count) in
    let whole = div-add-mod' n (2 ^ low) in
    let top = div-add-mod' q (2 ^ count) in
    let high : q / 2 ^ count ≡ h = shr-shr n low count in
    let power : 2 ^ (low + count) ≡ a * b = pow-add 2 low count in
    let times : h * 2 ^ (low + count) ≡ h * (a * b) = ap (λ p. h * p) power in
    let parts : h * b + q % b ≡ q = ap (λ x. x * b + q % b) (sym high) ∙ top in
    let product : (h * b + q % b) * a ≡ q * a = ap (λ x. x * a) parts in
    omega arith

pub field-set : (n low count value : ℕ) → n - n / 2 ^ low % 2 ^ count * 2 ^ low + value % 2 ^ count * 2 ^ low ≡ with_field n low count value
field-set n low count value = let parts = split n low count in omega arith

pub field-below : (n low count value : ℕ) → low + count ≤ 64 → n < 2 ^ 64 → with_field n low count value < 2 ^ 64
field-below n low count value h below =
    let rest = 64 - (low + count) in
    let whole : low + count + rest ≡ 64 = omega arith in
    let power = ap (λ k. 2 ^ k) (sym whole) ∙ pow-add 2 (low + count) rest in
    let some = pow_pos (low + count) in
    let within = mul-add-lt (value % 2 ^ count) (2 ^ low) (n % 2 ^ low) (2 ^ count) (mod-lt value (pow_pos count)) (mod-lt n (pow_pos low)) in
    let joined = pow-add 2 low count in
    let high : n / 2 ^ (low + count) < 2 ^ rest = div_below n (2 ^ (low + count)) (2 ^ rest) some (omega arith) in
    let sum = mul-add-lt (n / 2 ^ (low + count)) (2 ^ (low + count)) (value % 2 ^ count * 2 ^ low + n % 2 ^ low) (2 ^ rest) high (omega arith) in
    omega arith

-- a field that was shifted to its place loses no bit
pub shifted : (x low count : ℕ) → x < 2 ^ count → low + count ≤ 64 → x * 2 ^ low % 2 ^ 64 ≡ x * 2 ^ low
shifted x low count h fits =
    let rest = 64 - (low + count) in
    let whole : low + count + rest ≡ 64 = omega arith in
    let power = ap (λ k. 2 ^ k) (sym whole) ∙ pow-add 2 (low + count) rest in
    let joined = pow-add 2 low count in
    let one : 1 ≤ 2 ^ rest = pow_pos rest in
    let more = mul-le-mul_left (2 ^ (low + count)) one in
    let below = mul-add-lt x (2 ^ low) 0 (2 ^ count) h (pow_pos low) in
    mod-eq_of_lt (omega arith)
