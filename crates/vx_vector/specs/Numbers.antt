-- What an element becomes, of the numbers at its own index: RISC-V "V" 1.0, sections 11 (integer arithmetic), 12 (fixed
-- point) and 15.1 (mask logic).
use Rattle.std.specs.Prelude.{ℕ, ◌%◌, Bool, false, ◌==◌, if◌then◌else◌, ℤ, int_lt}
use Rattle.vx_base.specs.Numbers.{reduced}
use Rattle.vx_bits.specs.Rounding.{rounded}
use Rattle.vx_bits.specs.Width.{signed_at}
use Rattle.vx_bits.specs.declared.saturation.Sat.{Sat}

-- the numbers at an element's index. Each operand is the number that its bits are, at the width that the row has it at
pub record Numbers : Type 0 where
  -- SEW
  pub sew : ℕ
  -- vxrm
  pub mode : ℕ
  -- the element of vs2
  pub a : ℕ
  -- the element of vs1, or the low SEW bits of the integer register or of the number
  pub b : ℕ
  -- the old element of vd
  pub d : ℕ
  -- the element's bit of v0, where bit 25 is 0; else false
  pub m : Bool

-- a value that wasn't clipped
abbrev pub plain : ℕ → Sat
plain value = record { value = value; sat = false }

-- the bit is set
abbrev pub is_set : ℕ → Bool
is_set bit = bit == 1

-- a is less than b, as signed numbers of a width
abbrev pub is_less_at : (width a b : ℕ) → Bool
is_less_at width a b = int_lt (signed_at width a) (signed_at width b)

-- a number of one width, sign-extended to another
abbrev pub extended_at : (from to a : ℕ) → ℕ
extended_at from to a = reduced to (signed_at from a)

-- by how many bits an operand of a width shifts
abbrev pub amount_at : (width b : ℕ) → ℕ
amount_at width b = b % width

-- v divided by 2 ^ count and rounded in the mode, at a width
abbrev pub rounded_at : (width : ℕ) → ℤ → (count mode : ℕ) → ℕ
rounded_at width v count mode = reduced width (rounded v count mode)
