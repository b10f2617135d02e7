-- Ones, and what is cut by them and shifted within a word.
use Rattle.std.proofs.Common.{◌≡◌, ℕ, ◌+◌, ◌-◌, ◌*◌, ◌/◌, ◌%◌, ◌^◌, ◌<◌, ◌≤◌, bit_or, sym, ap, ◌∙◌, arith, pow_pos}
use Rattle.std.proofs.Math.Arith.{mul_pred}
use Rattle.std.proofs.lemmas.Nat.{pow-add, shr_high, shl_whole, or_comm, or_shifted}

shifted_ones : (width rest : ℕ) → (2 ^ (width + rest) - 1) / 2 ^ rest ≡ 2 ^ width - 1
shifted_ones width rest =
    let high = pow_pos width in
    let low = pow_pos rest in
    ap (λ n. (n - 1) / 2 ^ rest) (pow-add 2 width rest) ∙ ap (λ n. n / 2 ^ rest) (mul_pred high low) ∙ shr_high (2 ^ width - 1) rest (2 ^ rest - 1) (omega arith)

-- ones shifted right until `width` of them are left
pub ones_of : (width : ℕ) → width ≤ 64 → (2 ^ 64 - 1) / 2 ^ (64 - width) ≡ 2 ^ width - 1
ones_of width h =
    let whole : width + (64 - width) ≡ 64 = omega arith in
    ap (λ n. (2 ^ n - 1) / 2 ^ (64 - width)) (sym whole) ∙ shifted_ones width (64 - width)

-- a value of `width` bits put above a number of `low` bits
pub or_above : (word value low width : ℕ) → low + width ≤ 64 → word < 2 ^ low → value < 2 ^ width → bit_or word (value * 2 ^ low % 2 ^ 64) ≡ word + value * 2 ^ low
or_above word value low width h l v =
    let fits : width + low ≤ 64 = omega arith in
    let turned : value * 2 ^ low + word ≡ word + value * 2 ^ low = omega arith in
    ap (bit_or word) (shl_whole value width low 64 v fits) ∙ or_comm word (value * 2 ^ low) ∙ or_shifted value low word l ∙ turned
