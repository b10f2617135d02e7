-- The widths at which numbers are computed, and the two numbers that the low bits of a register or an element stand for.
-- RISC-V Unprivileged ISA 20191213, sections 1.3 and 2.1; RISC-V "V" 1.0, section 3.4.1.
use Rattle.std.specs.Prelude.{ℕ, ◌%◌, ◌^◌, Bool, ◌==◌, ◌||◌, ℤ}
use Rattle.vx_base.specs.Numbers.{signed}

-- a width of an element or a register, in bits
abbrev pub is_width : ℕ → Bool
is_width n = n == 8 || n == 16 || n == 32 || n == 64

-- the low `width` bits of a, read as an unsigned number
abbrev pub unsigned_at : ℕ → ℕ → ℕ
unsigned_at width a = a % 2 ^ width

-- the low `width` bits of a, read as a signed number
abbrev pub signed_at : ℕ → ℕ → ℤ
signed_at width a = signed width (a % 2 ^ width)
