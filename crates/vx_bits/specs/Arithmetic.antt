-- Integer arithmetic at a width: the result over the whole numbers, reduced to the width.
-- RISC-V Unprivileged ISA 20191213, section 2.4 and chapter 7; RISC-V "V" 1.0, sections 11.1, 11.6, 11.10 and 11.11.
use Rattle.std.specs.Prelude.{ℕ, ◌+◌, ◌*◌, ◌/◌, ◌%◌, ◌^◌, if◌then◌else◌, ℤ, pos, negsuc, ◌-ℤ◌, ◌*ℤ◌, int_div, int_rem}
use Rattle.std.specs.Int.{int_shr}
use Rattle.std.specs.Ordering.{int_eq}
use Rattle.vx_base.specs.Numbers.{reduced}
use Rattle.vx_bits.specs.Width.{unsigned_at, signed_at}

abbrev pub sum_at : ℕ → ℕ → ℕ → ℕ
sum_at width a b = reduced width (pos (unsigned_at width a + unsigned_at width b))

abbrev pub difference_at : ℕ → ℕ → ℕ → ℕ
difference_at width a b = reduced width (pos (unsigned_at width a) -ℤ pos (unsigned_at width b))

-- the low half of the product
abbrev pub product_at : ℕ → ℕ → ℕ → ℕ
product_at width a b = reduced width (pos (unsigned_at width a * unsigned_at width b))

-- the high half of a product of 2 * width bits: what is left of it, rounded down, without its low half
abbrev pub high_half : ℕ → ℤ → ℕ
high_half width product = reduced width (int_shr product width)

abbrev pub signed_high_at : ℕ → ℕ → ℕ → ℕ
signed_high_at width a b = high_half width (signed_at width a *ℤ signed_at width b)

abbrev pub unsigned_high_at : ℕ → ℕ → ℕ → ℕ
unsigned_high_at width a b = high_half width (pos (unsigned_at width a * unsigned_at width b))

-- of a signed a and an unsigned b
abbrev pub mixed_high_at : ℕ → ℕ → ℕ → ℕ
mixed_high_at width a b = high_half width (signed_at width a *ℤ pos (unsigned_at width b))

-- rounded toward zero; by zero, -1, which is all ones at every width. The least signed number by -1 is one more than the
-- greatest: reduced, it is the dividend again
abbrev pub quotient : ℤ → ℤ → ℤ
quotient a b = if int_eq b (pos 0) then negsuc 0 else int_div a b

-- with the dividend's sign; by zero, the dividend
abbrev pub remainder : ℤ → ℤ → ℤ
remainder a b = if int_eq b (pos 0) then a else int_rem a b

abbrev pub signed_quotient_at : ℕ → ℕ → ℕ → ℕ
signed_quotient_at width a b = reduced width (quotient (signed_at width a) (signed_at width b))

abbrev pub unsigned_quotient_at : ℕ → ℕ → ℕ → ℕ
unsigned_quotient_at width a b = reduced width (quotient (pos (unsigned_at width a)) (pos (unsigned_at width b)))

abbrev pub signed_remainder_at : ℕ → ℕ → ℕ → ℕ
signed_remainder_at width a b = reduced width (remainder (signed_at width a) (signed_at width b))

abbrev pub unsigned_remainder_at : ℕ → ℕ → ℕ → ℕ
unsigned_remainder_at width a b = reduced width (remainder (pos (unsigned_at width a)) (pos (unsigned_at width b)))

-- by how many bits b shifts
abbrev pub shift_amount : ℕ → ℕ → ℕ
shift_amount width b = unsigned_at width b % width

abbrev pub shifted_left_at : ℕ → ℕ → ℕ → ℕ
shifted_left_at width a b = reduced width (pos (unsigned_at width a * 2 ^ shift_amount width b))

-- zeros come in
abbrev pub shifted_right_at : ℕ → ℕ → ℕ → ℕ
shifted_right_at width a b = reduced width (pos (unsigned_at width a / 2 ^ shift_amount width b))

-- copies of the sign come in: the signed number divided by the power of two, rounded down
abbrev pub sign_shifted_right_at : ℕ → ℕ → ℕ → ℕ
sign_shifted_right_at width a b = reduced width (int_shr (signed_at width a) (shift_amount width b))
