-- The number of a word and the bits of a number, in each of the ways in which a number stands in a word.
use Rattle.std.proofs.Common.{◌≡◌, ℕ, zero, suc, ◌+◌, ◌-◌, ◌*◌, ◌/◌, ◌%◌, ◌^◌, ◌<◌, Bool, true, ◌&&◌, nat_lt, ap, sym, refl, ◌∙◌, bit_and, arith, ℤ, pos, neg_ℤ, lit<}
use Rattle.std.proofs.lemmas.Bool.{and_parts}
use Rattle.std.proofs.lemmas.Int.{ints}
use Rattle.std.proofs.lemmas.Nat.{mod-pow-add, pow_pos}
use Rattle.std.proofs.Math.Nat.{mod-eq_of_lt, div-div-eq-div-mul, pow-succ'}
use borrow.Author.Tests.{ltb-true}
use Rattle.std.specs.Prelude.{◌≤ℤ◌, ◌<ℤ◌}
use Rattle.std.specs.Int.Bits.{and_zero_r}
use Rattle.vx_base.specs.Numbers.{field, reduced}
use Rattle.vx_rows.specs.Layouts.{bits_at, number_mask}
use Rattle.vx_rows.specs.declared.row.Number.{Number}
use Rattle.vx_rows.specs.declared.row.Number.TheVariants.{Absent, Unsigned, Signed, FormatS, FormatB, FormatJ}
use Rattle.vx_decode.specs.Decoded.{number_of}
use Rattle.vx_decode.specs.Encoded.{IsNumber, number_bits, bits_s, bits_b, bits_j}
use Rattle.vx_decode.proofs.Fields.{field-at, field-below, low-below}
use Rattle.vx_decode.proofs.Parts.{and-bits_at, within-bits_at, and-sum, within-sum, same-at}
use Rattle.vx_decode.proofs.Signed.{signed-reduced, reduced-signed, reduced-even, reduced-unsigned, reduced-below, signed-in_range, signed-even, signed_by, reduced_by}

-- half of a power of 2
half : (count : ℕ) → 0 < count → 2 ^ count ≡ 2 * 2 ^ (count - 1)
half zero some = absurd (omega arith)
half (suc n) some =
    let same : n ≡ suc n - 1 = omega arith in
    pow-succ' 2 n ∙ ap (λ k. 2 * 2 ^ k) same

-- ---- from a word

-- a number put together from the fields of format S, B or J is taken apart into them
taken_s : (high low : ℕ) → high < 128 → low < 32 → bits_s (high * 2 ^ 5 + low) ≡ high * 2 ^ 25 + low * 2 ^ 7
taken_s high low h l =
    let u = high * 2 ^ 5 + low in
    let of_high : field u 5 7 ≡ high = field-at u 0 high low 5 7 (omega arith) (omega arith) (omega arith) in
    let of_low : u % 2 ^ 5 ≡ low = omega arith in
    ap (λ x. x * 2 ^ 25 + u % 2 ^ 5 * 2 ^ 7) of_high ∙ ap (λ x. high * 2 ^ 25 + x * 2 ^ 7) of_low

taken_b : (first third second fourth : ℕ) → first < 2 → third < 2 → second < 64 → fourth < 16 → bits_b (first * 2 ^ 12 + third * 2 ^ 11 + second * 2 ^ 5 + fourth * 2) ≡ first * 2 ^ 31 + second * 2 ^ 25 + fourth * 2 ^ 8 + third * 2 ^ 7
taken_b first third second fourth h1 h3 h2 h4 =
    let u = first * 2 ^ 12 + third * 2 ^ 11 + second * 2 ^ 5 + fourth * 2 in
    let of_first : field u 12 1 ≡ first = field-at u 0 first (third * 2048 + second * 32 + fourth * 2) 12 1 (omega arith) (omega arith) (omega arith) in
    let of_second : field u 5 6 ≡ second = field-at u (first * 2 + third) second (fourth * 2) 5 6 (omega arith) (omega arith) (omega arith) in
    let of_fourth : field u 1 4 ≡ fourth = field-at u (first * 128 + third * 64 + second) fourth 0 1 4 (omega arith) (omega arith) (omega arith) in
    let of_third : field u 11 1 ≡ third = field-at u first third (second * 32 + fourth * 2) 11 1 (omega arith) (omega arith) (omega arith) in
    ap (λ x. x * 2 ^ 31 + field u 5 6 * 2 ^ 25 + field u 1 4 * 2 ^ 8 + field u 11 1 * 2 ^ 7) of_first
    ∙ ap (λ x. first * 2 ^ 31 + x * 2 ^ 25 + field u 1 4 * 2 ^ 8 + field u 11 1 * 2 ^ 7) of_second
    ∙ ap (λ x. first * 2 ^ 31 + second * 2 ^ 25 + x * 2 ^ 8 + field u 11 1 * 2 ^ 7) of_fourth
    ∙ ap (λ x. first * 2 ^ 31 + second * 2 ^ 25 + fourth * 2 ^ 8 + x * 2 ^ 7) of_third

taken_j : (first fourth third second : ℕ) → first < 2 → fourth < 256 → third < 2 → second < 1024 → bits_j (first * 2 ^ 20 + fourth * 2 ^ 12 + third * 2 ^ 11 + second * 2) ≡ first * 2 ^ 31 + second * 2 ^ 21 + third * 2 ^ 20 + fourth * 2 ^ 12
taken_j first fourth third second h1 h4 h3 h2 =
    let u = first * 2 ^ 20 + fourth * 2 ^ 12 + third * 2 ^ 11 + second * 2 in
    let of_first : field u 20 1 ≡ first = field-at u 0 first (fourth * 4096 + third * 2048 + second * 2) 20 1 (omega arith) (omega arith) (omega arith) in
    let of_second : field u 1 10 ≡ second = field-at u (first * 512 + fourth * 2 + third) second 0 1 10 (omega arith) (omega arith) (omega arith) in
    let of_third : field u 11 1 ≡ third = field-at u (first * 256 + fourth) third (second * 2) 11 1 (omega arith) (omega arith) (omega arith) in
    let of_fourth : field u 12 8 ≡ fourth = field-at u first fourth (third * 2048 + second * 2) 12 8 (omega arith) (omega arith) (omega arith) in
    ap (λ x. x * 2 ^ 31 + field u 1 10 * 2 ^ 21 + field u 11 1 * 2 ^ 20 + field u 12 8 * 2 ^ 12) of_first
    ∙ ap (λ x. first * 2 ^ 31 + x * 2 ^ 21 + field u 11 1 * 2 ^ 20 + field u 12 8 * 2 ^ 12) of_second
    ∙ ap (λ x. first * 2 ^ 31 + second * 2 ^ 21 + x * 2 ^ 20 + field u 12 8 * 2 ^ 12) of_third
    ∙ ap (λ x. first * 2 ^ 31 + second * 2 ^ 21 + third * 2 ^ 20 + x * 2 ^ 12) of_fourth

-- the sums that formats S, B and J make
abbrev sum_s : ℕ → ℕ
sum_s word = field word 25 7 * 2 ^ 5 + field word 7 5

abbrev sum_b : ℕ → ℕ
sum_b word = field word 31 1 * 2 ^ 12 + field word 7 1 * 2 ^ 11 + field word 25 6 * 2 ^ 5 + field word 8 4 * 2

abbrev sum_j : ℕ → ℕ
sum_j word = field word 31 1 * 2 ^ 20 + field word 12 8 * 2 ^ 12 + field word 20 1 * 2 ^ 11 + field word 21 10 * 2

sum_s-below : (high low : ℕ) → high < 128 → low < 32 → high * 2 ^ 5 + low < 4096
sum_s-below high low h l = omega arith

sum_b-below : (first third second fourth : ℕ) → first < 2 → third < 2 → second < 64 → fourth < 16 → first * 2 ^ 12 + third * 2 ^ 11 + second * 2 ^ 5 + fourth * 2 < 8192
sum_b-below first third second fourth h1 h3 h2 h4 = omega arith

sum_j-below : (first fourth third second : ℕ) → first < 2 → fourth < 256 → third < 2 → second < 1024 → first * 2 ^ 20 + fourth * 2 ^ 12 + third * 2 ^ 11 + second * 2 < 2097152
sum_j-below first fourth third second h1 h4 h3 h2 = omega arith

even_b : (first third second fourth : ℕ) → (first * 2 ^ 12 + third * 2 ^ 11 + second * 2 ^ 5 + fourth * 2) % 2 ≡ 0
even_b first third second fourth = omega arith

even_j : (first fourth third second : ℕ) → (first * 2 ^ 20 + fourth * 2 ^ 12 + third * 2 ^ 11 + second * 2) % 2 ≡ 0
even_j first fourth third second = omega arith

in_range : (n m : ℕ) → n < m → (pos 0 ≤ℤ pos n) × (pos n <ℤ pos m)
in_range n m h = (omega (arith, ints), omega (arith, ints))

-- ---- to a word

-- an immediate is the sum of the parts that formats S, B and J keep
joined_s : (u : ℕ) → u < 4096 → field u 5 7 * 2 ^ 5 + u % 2 ^ 5 ≡ u
joined_s u below = sym (mod-pow-add u 7 5) ∙ mod-eq_of_lt below

sum_of_b : (u f12 r12 f11 r11 f5 r5 f1 r1 : ℕ) → u ≡ f12 * 4096 + r12 → r12 ≡ f11 * 2048 + r11 → r11 ≡ f5 * 32 + r5 → r5 ≡ f1 * 2 + r1 → r1 ≡ 0 → f12 * 2 ^ 12 + f11 * 2 ^ 11 + f5 * 2 ^ 5 + f1 * 2 ≡ u
sum_of_b u f12 r12 f11 r11 f5 r5 f1 r1 e1 e2 e3 e4 e5 = omega arith

joined_b : (u : ℕ) → u < 8192 → u % 2 ≡ 0 → field u 12 1 * 2 ^ 12 + field u 11 1 * 2 ^ 11 + field u 5 6 * 2 ^ 5 + field u 1 4 * 2 ≡ u
joined_b u below even =
    sum_of_b u (field u 12 1) (u % 2 ^ 12) (field u 11 1) (u % 2 ^ 11) (field u 5 6) (u % 2 ^ 5) (field u 1 4) (u % 2 ^ 1) (sym (mod-eq_of_lt below) ∙ mod-pow-add u 1 12) (mod-pow-add u 1 11) (mod-pow-add u 6 5) (mod-pow-add u 4 1) even

sum_of_j : (u f20 r20 f12 r12 f11 r11 f1 r1 : ℕ) → u ≡ f20 * 1048576 + r20 → r20 ≡ f12 * 4096 + r12 → r12 ≡ f11 * 2048 + r11 → r11 ≡ f1 * 2 + r1 → r1 ≡ 0 → f20 * 2 ^ 20 + f12 * 2 ^ 12 + f11 * 2 ^ 11 + f1 * 2 ≡ u
sum_of_j u f20 r20 f12 r12 f11 r11 f1 r1 e1 e2 e3 e4 e5 = omega arith

joined_j : (u : ℕ) → u < 2097152 → u % 2 ≡ 0 → field u 20 1 * 2 ^ 20 + field u 12 8 * 2 ^ 12 + field u 11 1 * 2 ^ 11 + field u 1 10 * 2 ≡ u
joined_j u below even =
    sum_of_j u (field u 20 1) (u % 2 ^ 20) (field u 12 8) (u % 2 ^ 12) (field u 11 1) (u % 2 ^ 11) (field u 1 10) (u % 2 ^ 1) (sym (mod-eq_of_lt below) ∙ mod-pow-add u 1 20) (mod-pow-add u 8 12) (mod-pow-add u 1 11) (mod-pow-add u 10 1) even

-- ---- each number

-- it stands in a word of 32 bits, and a signed one has a sign
abbrev pub in_word : Number → Bool
in_word Absent = true
in_word (Unsigned low count) = nat_lt low 32 && nat_lt count 32
in_word (Signed low count) = nat_lt low 32 && nat_lt count 32 && nat_lt 0 count
in_word FormatS = true
in_word FormatB = true
in_word FormatJ = true

some_of : (low count : ℕ) → (nat_lt low 32 && nat_lt count 32 && nat_lt 0 count) ≡ true → 0 < count
some_of low count within = ltb-true 0 count (and_parts _ _ within).1

-- a field by two parts of it
field-split : (w low a b whole : ℕ) → 2 ^ low * 2 ^ a ≡ 2 ^ whole → field w low (b + a) ≡ field w whole b * 2 ^ a + field w low a
field-split w low a b whole e =
    mod-pow-add (w / 2 ^ low) b a ∙ ap (λ x. x % 2 ^ b * 2 ^ a + field w low a) (div-div-eq-div-mul w (2 ^ low) (2 ^ a) ∙ ap (λ x. w / x) e)

high_b : (w f31 f25 f8 f7 high low : ℕ) → high ≡ f31 * 64 + f25 → low ≡ f8 * 2 + f7 → high * 2 ^ 25 + low * 2 ^ 7 ≡ f31 * 2 ^ 31 + f25 * 2 ^ 25 + f8 * 2 ^ 8 + f7 * 2 ^ 7
high_b w f31 f25 f8 f7 high low e1 e2 = omega arith

bits_at_b : (w : ℕ) → field w 25 7 * 2 ^ 25 + field w 7 5 * 2 ^ 7 ≡ field w 31 1 * 2 ^ 31 + field w 25 6 * 2 ^ 25 + field w 8 4 * 2 ^ 8 + field w 7 1 * 2 ^ 7
bits_at_b w = high_b w (field w 31 1) (field w 25 6) (field w 8 4) (field w 7 1) (field w 25 7) (field w 7 5) (field-split w 25 6 1 31 refl) (field-split w 7 1 4 8 refl)

all_j : (f31 f21 f20 f12 f21_11 f20_12 all : ℕ) → all ≡ f20_12 * 256 + f12 → f20_12 ≡ f21_11 * 2 + f20 → f21_11 ≡ f31 * 1024 + f21 → all * 2 ^ 12 ≡ f31 * 2 ^ 31 + f21 * 2 ^ 21 + f20 * 2 ^ 20 + f12 * 2 ^ 12
all_j f31 f21 f20 f12 f21_11 f20_12 all e1 e2 e3 = omega arith

bits_at_j : (w : ℕ) → field w 12 20 * 2 ^ 12 ≡ field w 31 1 * 2 ^ 31 + field w 21 10 * 2 ^ 21 + field w 20 1 * 2 ^ 20 + field w 12 8 * 2 ^ 12
bits_at_j w = all_j (field w 31 1) (field w 21 10) (field w 20 1) (field w 12 8) (field w 21 11) (field w 20 12) (field w 12 20) (field-split w 12 8 12 20 refl) (field-split w 20 1 11 21 refl) (field-split w 21 10 1 31 refl)

below_s : (w : ℕ) → sum_s w < 4096
below_s w = sum_s-below (field w 25 7) (field w 7 5) (field-below w 25 7) (field-below w 7 5)

below_b : (w : ℕ) → sum_b w < 8192
below_b w = sum_b-below (field w 31 1) (field w 7 1) (field w 25 6) (field w 8 4) (field-below w 31 1) (field-below w 7 1) (field-below w 25 6) (field-below w 8 4)

below_j : (w : ℕ) → sum_j w < 2097152
below_j w = sum_j-below (field w 31 1) (field w 12 8) (field w 20 1) (field w 21 10) (field-below w 31 1) (field-below w 12 8) (field-below w 20 1) (field-below w 21 10)

-- the bits of a word in which its number stands are those of its number
pub number-parts : (n : Number) → in_word n ≡ true → (w : ℕ) → bit_and w (number_mask n) ≡ number_bits n (number_of n w)
number-parts Absent within w = and_zero_r w
number-parts (Unsigned low count) within w =
    and-bits_at w low count ∙ ap (λ x. x * 2 ^ low) (sym (mod-eq_of_lt (field-below w low count)))
number-parts (Signed low count) within w =
    and-bits_at w low count ∙ ap (λ x. x * 2 ^ low) (sym (reduced-signed (2 ^ (count - 1)) (2 ^ count) (field w low count) (field-below w low count)))
number-parts FormatS within w =
    and-sum w (bits_at 25 7) (bits_at 7 5) refl
    ∙ ap (λ x. x + bit_and w (bits_at 7 5)) (and-bits_at w 25 7)
    ∙ ap (λ x. field w 25 7 * 2 ^ 25 + x) (and-bits_at w 7 5)
    ∙ sym (taken_s (field w 25 7) (field w 7 5) (field-below w 25 7) (field-below w 7 5))
    ∙ ap bits_s (sym (reduced-signed 2048 4096 (sum_s w) (below_s w)))
number-parts FormatB within w =
    and-sum w (bits_at 25 7) (bits_at 7 5) refl
    ∙ ap (λ x. x + bit_and w (bits_at 7 5)) (and-bits_at w 25 7)
    ∙ ap (λ x. field w 25 7 * 2 ^ 25 + x) (and-bits_at w 7 5)
    ∙ bits_at_b w
    ∙ sym (taken_b (field w 31 1) (field w 7 1) (field w 25 6) (field w 8 4) (field-below w 31 1) (field-below w 7 1) (field-below w 25 6) (field-below w 8 4))
    ∙ ap bits_b (sym (reduced-signed 4096 8192 (sum_b w) (below_b w)))
number-parts FormatJ within w =
    and-bits_at w 12 20
    ∙ bits_at_j w
    ∙ sym (taken_j (field w 31 1) (field w 12 8) (field w 20 1) (field w 21 10) (field-below w 31 1) (field-below w 12 8) (field-below w 20 1) (field-below w 21 10))
    ∙ ap bits_j (sym (reduced-signed 1048576 2097152 (sum_j w) (below_j w)))

-- the number of a word lies in its range
pub number-valid : (n : Number) → in_word n ≡ true → (w : ℕ) → IsNumber n (number_of n w)
number-valid Absent within w = refl
number-valid (Unsigned low count) within w = in_range (field w low count) (2 ^ count) (field-below w low count)
number-valid (Signed low count) within w = signed-in_range (2 ^ (count - 1)) (2 ^ count) (half count (some_of low count within)) (field w low count) (field-below w low count)
number-valid FormatS within w = signed-in_range 2048 4096 refl (sum_s w) (below_s w)
number-valid FormatB within w =
    (signed-in_range 4096 8192 refl (sum_b w) (below_b w), signed-even 4096 8192 refl (sum_b w) (below_b w) (even_b (field w 31 1) (field w 7 1) (field w 25 6) (field w 8 4)))
number-valid FormatJ within w =
    (signed-in_range 1048576 2097152 refl (sum_j w) (below_j w), signed-even 1048576 2097152 refl (sum_j w) (below_j w) (even_j (field w 31 1) (field w 12 8) (field w 20 1) (field w 21 10)))

-- ---- the bits of a number tell it

parts_s : (a b c d : ℕ) → b < 32 → d < 32 → a * 2 ^ 25 + b * 2 ^ 7 ≡ c * 2 ^ 25 + d * 2 ^ 7 → a * 2 ^ 5 + b ≡ c * 2 ^ 5 + d
parts_s a b c d h1 h2 e = omega arith

same_s : (u v : ℕ) → u < 4096 → v < 4096 → bits_s u ≡ bits_s v → u ≡ v
same_s u v hu hv e = sym (joined_s u hu) ∙ parts_s (field u 5 7) (u % 2 ^ 5) (field v 5 7) (v % 2 ^ 5) (low-below u 5) (low-below v 5) e ∙ joined_s v hv

parts_b : (a b c d e f g h : ℕ) → b < 64 → c < 16 → d < 2 → f < 64 → g < 16 → h < 2 → a * 2 ^ 31 + b * 2 ^ 25 + c * 2 ^ 8 + d * 2 ^ 7 ≡ e * 2 ^ 31 + f * 2 ^ 25 + g * 2 ^ 8 + h * 2 ^ 7 → a * 2 ^ 12 + d * 2 ^ 11 + b * 2 ^ 5 + c * 2 ≡ e * 2 ^ 12 + h * 2 ^ 11 + f * 2 ^ 5 + g * 2
parts_b a b c d e f g h h1 h2 h3 h4 h5 h6 is = omega arith

same_b : (u v : ℕ) → u < 8192 → v < 8192 → u % 2 ≡ 0 → v % 2 ≡ 0 → bits_b u ≡ bits_b v → u ≡ v
same_b u v hu hv eu ev is =
    sym (joined_b u hu eu) ∙ parts_b (field u 12 1) (field u 5 6) (field u 1 4) (field u 11 1) (field v 12 1) (field v 5 6) (field v 1 4) (field v 11 1) (field-below u 5 6) (field-below u 1 4) (field-below u 11 1) (field-below v 5 6) (field-below v 1 4) (field-below v 11 1) is ∙ joined_b v hv ev

parts_j : (a b c d e f g h : ℕ) → b < 1024 → c < 2 → d < 256 → f < 1024 → g < 2 → h < 256 → a * 2 ^ 31 + b * 2 ^ 21 + c * 2 ^ 20 + d * 2 ^ 12 ≡ e * 2 ^ 31 + f * 2 ^ 21 + g * 2 ^ 20 + h * 2 ^ 12 → a * 2 ^ 20 + d * 2 ^ 12 + c * 2 ^ 11 + b * 2 ≡ e * 2 ^ 20 + h * 2 ^ 12 + g * 2 ^ 11 + f * 2
parts_j a b c d e f g h h1 h2 h3 h4 h5 h6 is = omega arith

same_j : (u v : ℕ) → u < 2097152 → v < 2097152 → u % 2 ≡ 0 → v % 2 ≡ 0 → bits_j u ≡ bits_j v → u ≡ v
same_j u v hu hv eu ev is =
    sym (joined_j u hu eu) ∙ parts_j (field u 20 1) (field u 1 10) (field u 11 1) (field u 12 8) (field v 20 1) (field v 1 10) (field v 11 1) (field v 12 8) (field-below u 1 10) (field-below u 11 1) (field-below u 12 8) (field-below v 1 10) (field-below v 11 1) (field-below v 12 8) is ∙ joined_j v hv ev

signed_same : (half whole : ℕ) → whole ≡ 2 * half → (y z : ℤ) → neg_ℤ (pos half) ≤ℤ y → y <ℤ pos half → neg_ℤ (pos half) ≤ℤ z → z <ℤ pos half → reduced_by whole y ≡ reduced_by whole z → y ≡ z
signed_same half whole twice y z y1 y2 z1 z2 e =
    sym (signed-reduced half whole twice y y1 y2) ∙ ap (signed_by half whole) e ∙ signed-reduced half whole twice z z1 z2

pub number-same : (n : Number) → in_word n ≡ true → (y z : ℤ) → IsNumber n y → IsNumber n z → number_bits n y ≡ number_bits n z → y ≡ z
number-same Absent within y z is_y is_z e = is_y ∙ sym is_z
number-same (Unsigned low count) within y z is_y is_z e =
    sym (reduced-unsigned (2 ^ count) y is_y.0 is_y.1) ∙ ap pos (same-at _ _ low e) ∙ reduced-unsigned (2 ^ count) z is_z.0 is_z.1
number-same (Signed low count) within y z is_y is_z e =
    signed_same (2 ^ (count - 1)) (2 ^ count) (half count (some_of low count within)) y z is_y.0 is_y.1 is_z.0 is_z.1 (same-at _ _ low e)
number-same FormatS within y z is_y is_z e =
    signed_same 2048 4096 refl y z is_y.0 is_y.1 is_z.0 is_z.1 (same_s _ _ (reduced-below 4096 y (lit< tt)) (reduced-below 4096 z (lit< tt)) e)
number-same FormatB within y z is_y is_z e =
    signed_same 4096 8192 refl y z is_y.0.0 is_y.0.1 is_z.0.0 is_z.0.1
    (same_b _ _ (reduced-below 8192 y (lit< tt)) (reduced-below 8192 z (lit< tt)) (reduced-even 4096 8192 refl y is_y.0.0 is_y.0.1 is_y.1) (reduced-even 4096 8192 refl z is_z.0.0 is_z.0.1 is_z.1) e)
number-same FormatJ within y z is_y is_z e =
    signed_same 1048576 2097152 refl y z is_y.0.0 is_y.0.1 is_z.0.0 is_z.0.1
    (same_j _ _ (reduced-below 2097152 y (lit< tt)) (reduced-below 2097152 z (lit< tt)) (reduced-even 1048576 2097152 refl y is_y.0.0 is_y.0.1 is_y.1) (reduced-even 1048576 2097152 refl z is_z.0.0 is_z.0.1 is_z.1) e)

-- ---- the bits of a number lie in their places

two_b : (a b c d : ℕ) → a * 2 ^ 31 + b * 2 ^ 25 + c * 2 ^ 8 + d * 2 ^ 7 ≡ (a * 64 + b) * 2 ^ 25 + (c * 2 + d) * 2 ^ 7
two_b a b c d = omega arith

within_b : (a b c d : ℕ) → a < 2 → b < 64 → c < 16 → d < 2 → bit_and (a * 2 ^ 31 + b * 2 ^ 25 + c * 2 ^ 8 + d * 2 ^ 7) (bits_at 25 7 + bits_at 7 5) ≡ a * 2 ^ 31 + b * 2 ^ 25 + c * 2 ^ 8 + d * 2 ^ 7
within_b a b c d h1 h2 h3 h4 =
    ap (λ x. bit_and x (bits_at 25 7 + bits_at 7 5)) (two_b a b c d)
    ∙ within-sum ((a * 64 + b) * 2 ^ 25) ((c * 2 + d) * 2 ^ 7) (bits_at 25 7) (bits_at 7 5) (within-bits_at (a * 64 + b) 25 7 (omega arith)) (within-bits_at (c * 2 + d) 7 5 (omega arith)) refl
    ∙ sym (two_b a b c d)

one_j : (a b c d : ℕ) → a * 2 ^ 31 + b * 2 ^ 21 + c * 2 ^ 20 + d * 2 ^ 12 ≡ (a * 524288 + b * 512 + c * 256 + d) * 2 ^ 12
one_j a b c d = omega arith

within_j : (a b c d : ℕ) → a < 2 → b < 1024 → c < 2 → d < 256 → bit_and (a * 2 ^ 31 + b * 2 ^ 21 + c * 2 ^ 20 + d * 2 ^ 12) (bits_at 12 20) ≡ a * 2 ^ 31 + b * 2 ^ 21 + c * 2 ^ 20 + d * 2 ^ 12
within_j a b c d h1 h2 h3 h4 =
    ap (λ x. bit_and x (bits_at 12 20)) (one_j a b c d) ∙ within-bits_at (a * 524288 + b * 512 + c * 256 + d) 12 20 (omega arith) ∙ sym (one_j a b c d)

pub number-within : (n : Number) (z : ℤ) → bit_and (number_bits n z) (number_mask n) ≡ number_bits n z
number-within Absent z = refl
number-within (Unsigned low count) z = within-bits_at (reduced count z) low count (reduced-below (2 ^ count) z (pow_pos count))
number-within (Signed low count) z = within-bits_at (reduced count z) low count (reduced-below (2 ^ count) z (pow_pos count))
number-within FormatS z =
    let u = reduced 12 z in
    within-sum (field u 5 7 * 2 ^ 25) (u % 2 ^ 5 * 2 ^ 7) (bits_at 25 7) (bits_at 7 5) (within-bits_at (field u 5 7) 25 7 (field-below u 5 7)) (within-bits_at (u % 2 ^ 5) 7 5 (low-below u 5)) refl
number-within FormatB z =
    let u = reduced 13 z in
    within_b (field u 12 1) (field u 5 6) (field u 1 4) (field u 11 1) (field-below u 12 1) (field-below u 5 6) (field-below u 1 4) (field-below u 11 1)
number-within FormatJ z =
    let u = reduced 21 z in
    within_j (field u 20 1) (field u 1 10) (field u 11 1) (field u 12 8) (field-below u 20 1) (field-below u 1 10) (field-below u 11 1) (field-below u 12 8)
