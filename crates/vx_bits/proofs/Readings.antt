-- The two readings of a number's low bits, and what is left of a number at a width.
use Rattle.std.proofs.Common.{◌≡◌, ℕ, suc, ◌+◌, ◌-◌, ◌*◌, ◌/◌, ◌%◌, ◌^◌, ◌<◌, ◌≤◌, IsTrue, if◌then◌else◌, bit_and, ℤ, pos, negsuc, ◌-ℤ◌, nat_abs, FitsSigned, to_z, of_z, w64, sym, ap, ⊎_elim, eq-or-lt_of_le, lit<, ◌∙◌, subst, arith, pow_pos, pow_mono, mod-lt, div-add-mod', lt-ltb, le-ltb}
use Rattle.std.specs.Int.{w128}
use Rattle.std.proofs.Math.Arith.{mul_pred, digits_mod}
use Rattle.std.proofs.lemmas.Nat.{pow-add, and_mask, mod-pow-add, mod_low, shr_high, div_below}
use Rattle.std.proofs.lemmas.Int.{ints, to_z_pos, to_z-of_z}
use Rattle.vx_base.specs.Numbers.{reduced, signed}
use Rattle.vx_bits.specs.Width.{is_width}

-- ---- masks

shifted_ones : (width rest : ℕ) → (2 ^ (width + rest) - 1) / 2 ^ rest ≡ 2 ^ width - 1
shifted_ones width rest =
    let high = pow_pos width in
    let low = pow_pos rest in
    ap (λ n. (n - 1) / 2 ^ rest) (pow-add 2 width rest) ∙ ap (λ n. n / 2 ^ rest) (mul_pred high low) ∙ shr_high (2 ^ width - 1) rest (2 ^ rest - 1) (omega arith)

-- ones shifted right until `width` of them are left
pub ones_of : (width : ℕ) → width ≤ 64 → (2 ^ 64 - 1) / 2 ^ (64 - width) ≡ 2 ^ width - 1
ones_of width h =
    let whole : width + (64 - width) ≡ 64 = omega arith in
    ap (λ n. (2 ^ n - 1) / 2 ^ (64 - width)) (sym whole) ∙ shifted_ones width (64 - width)

-- half of the ones are one fewer
pub half_ones : (width : ℕ) → 0 < width → (2 ^ width - 1) / 2 ≡ 2 ^ (width - 1) - 1
half_ones width h =
    let one_more : width - 1 + 1 ≡ width = omega arith in
    ap (λ n. (2 ^ n - 1) / 2) (sym one_more) ∙ shifted_ones (width - 1) 1

-- a width's power is twice its half's
pub double_half : (width : ℕ) → 0 < width → 2 ^ width ≡ 2 ^ (width - 1) * 2
double_half width h =
    let one_more : width - 1 + 1 ≡ width = omega arith in
    ap (λ n. 2 ^ n) (sym one_more) ∙ pow-add 2 (width - 1) 1

-- what is left at a width and then at a narrower one
pub mod-narrow : (n all width : ℕ) → width ≤ all → n % 2 ^ all % 2 ^ width ≡ n % 2 ^ width
mod-narrow n all width h =
    let rest = all - width in
    let whole : rest + width ≡ all = omega arith in
    ap (λ k. n % 2 ^ k % 2 ^ width) (sym whole) ∙ ap (λ m. m % 2 ^ width) (mod-pow-add n rest width) ∙ mod_low (n / 2 ^ width % 2 ^ rest) width (n % 2 ^ width) (mod-lt n (pow_pos width))

-- ---- the range of a width

pub width_bounds : (width : ℕ) → IsTrue (is_width width) → (0 < width) × (width ≤ 64)
width_bounds width h = grind (arith, h)

pub width_power : (width : ℕ) → width ≤ 64 → 2 ^ width ≤ 2 ^ 64
width_power width h = pow_mono h

-- ---- the signed reading

pub signed-small : (width n : ℕ) → 0 < width → width ≤ 64 → n ≤ (2 ^ width - 1) / 2 → to_z w64 n ≡ signed width n
signed-small width n p f h =
    let half = half_ones width p in
    let some = pow_pos (width - 1) in
    let below : n < 2 ^ (width - 1) = omega arith in
    let within : width - 1 ≤ 63 = omega arith in
    let power : 2 ^ (width - 1) ≤ 2 ^ 63 = pow_mono within in
    to_z_pos w64 n (omega arith) ∙ ap (λ t. if t then pos n else negsuc (2 ^ width - 1 - n)) (sym (lt-ltb n (2 ^ (width - 1)) below))

pub signed-large : (width n : ℕ) → 0 < width → width ≤ 64 → (2 ^ width - 1) / 2 < n → n < 2 ^ width → to_z w64 (of_z w64 (negsuc 0 -ℤ to_z w64 (2 ^ width - 1 - n))) ≡ signed width n
signed-large width n p f h l =
    let half = half_ones width p in
    let double = double_half width p in
    let some = pow_pos (width - 1) in
    let above : 2 ^ (width - 1) ≤ n = omega arith in
    let within : width - 1 ≤ 63 = omega arith in
    let power : 2 ^ (width - 1) ≤ 2 ^ 63 = pow_mono within in
    let value : to_z w64 (of_z w64 (negsuc 0 -ℤ to_z w64 (2 ^ width - 1 - n))) ≡ negsuc (2 ^ width - 1 - n) = omega (arith, ints) in
    value ∙ ap (λ t. if t then pos n else negsuc (2 ^ width - 1 - n)) (sym (le-ltb n (2 ^ (width - 1)) above))

-- ---- what is left at a width

below_multiple : (n q m : ℕ) → 0 < m → n < q * m → (q * m - suc n) % m ≡ m - 1 - n % m
below_multiple n q m p h =
    let split = div-add-mod' n m in
    let small = mod-lt n p in
    let fewer = div_below n m q p h in
    let j = q - suc (n / m) in
    let sum : q ≡ suc (n / m) + j = omega arith in
    let times = ap (λ k. k * m) sum in
    let is : q * m - suc n ≡ j * m + (m - 1 - n % m) = omega arith in
    ap (λ k. k % m) is ∙ digits_mod j (omega arith)

-- the bits of a negative number, cut down to a width
negative_bits : (all width n : ℕ) → width ≤ all → n < 2 ^ all → (2 ^ all - suc n) % 2 ^ width ≡ 2 ^ width - 1 - n % 2 ^ width
negative_bits all width n h l =
    let whole : all - width + width ≡ all = omega arith in
    let product : 2 ^ all ≡ 2 ^ (all - width) * 2 ^ width = ap (λ k. 2 ^ k) (sym whole) ∙ pow-add 2 (all - width) width in
    ap (λ k. (k - suc n) % 2 ^ width) product ∙ below_multiple n (2 ^ (all - width)) (2 ^ width) (pow_pos width) (subst (λ k. n < k) product l)

pub reduced-masked : (width : ℕ) (v : ℤ) → width ≤ 64 → FitsSigned w128 v → nat_abs (to_z w128 (bit_and (of_z w128 v) (2 ^ width - 1))) ≡ reduced width v
reduced-masked width (pos n) h f =
    let small = mod-lt n (pow_pos width) in
    let power = width_power width h in
    ap (λ k. nat_abs (to_z w128 k)) (and_mask n width) ∙ ap nat_abs (to_z_pos w128 (n % 2 ^ width) (omega arith))
reduced-masked width (negsuc n) h f =
    let some = pow_pos width in
    let power = width_power width h in
    let below : n < 2 ^ 128 = omega (arith, f.sfits) in
    let wide : width ≤ 128 = omega arith in
    let is = negative_bits 128 width n wide below in
    ap (λ k. nat_abs (to_z w128 k)) (and_mask (2 ^ 128 - suc n) width ∙ is) ∙ ap nat_abs (to_z_pos w128 (2 ^ width - 1 - n % 2 ^ width) (omega arith))

-- a number's 64 bits, cut down to a width
pub reduced-wrapped : (width : ℕ) (v : ℤ) → width ≤ 64 → nat_abs v ≤ 2 ^ 63 → reduced width (to_z w64 (of_z w64 v)) ≡ reduced width v
reduced-wrapped width (pos n) h l = ⊎_elim at_top below (eq-or-lt_of_le l)
  where
    at_top : n ≡ 2 ^ 63 → reduced width (to_z w64 n) ≡ n % 2 ^ width
    at_top e =
        let is = negative_bits 64 width (2 ^ 63 - 1) h (lit< tt) in
        subst (λ k. reduced width (to_z w64 k) ≡ k % 2 ^ width) (sym e) (sym is)

    below : n < 2 ^ 63 → reduced width (to_z w64 n) ≡ n % 2 ^ width
    below k = ap (reduced width) (to_z_pos w64 n k)
reduced-wrapped width (negsuc n) h l = let f : FitsSigned w64 (negsuc n) = record { sfits = l } in ap (reduced width) (to_z-of_z w64 (negsuc n) f)

pub reduced-lt : (width : ℕ) (v : ℤ) → reduced width v < 2 ^ width
reduced-lt width (pos n) = mod-lt n (pow_pos width)
reduced-lt width (negsuc n) = let some = pow_pos width in omega arith

pub reduced-narrow : (all width : ℕ) (v : ℤ) → width ≤ all → reduced all v % 2 ^ width ≡ reduced width v
reduced-narrow all width (pos n) h = mod-narrow n all width h
reduced-narrow all width (negsuc n) h =
    let small = mod-lt n (pow_pos all) in
    let is : 2 ^ all - 1 - n % 2 ^ all ≡ 2 ^ all - suc (n % 2 ^ all) = omega arith in
    ap (λ k. k % 2 ^ width) is ∙ negative_bits all width (n % 2 ^ all) h small ∙ ap (λ k. 2 ^ width - 1 - k) (mod-narrow n all width h)
