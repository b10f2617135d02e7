-- Whole numbers and the numbers of a fixed width, in two's complement, and bytes, least first: RISC-V Unprivileged ISA
-- 20191213, sections 1.4, 1.5 and 2.1.
use Rattle.std.specs.Prelude.{ℕ, ◌-◌, ◌/◌, ◌%◌, ◌^◌, Bool, if◌then◌else◌, nat_lt, ℤ, pos, negsuc, List, [], ◌∷◌, zero, suc, ◌+◌, ◌*◌}

-- z reduced to a width: the number below 2 ^ width that differs from z by a multiple of 2 ^ width
abbrev pub reduced : ℕ → ℤ → ℕ
reduced width (pos n) = n % 2 ^ width
reduced width (negsuc n) = 2 ^ width - 1 - n % 2 ^ width

-- n, a number below 2 ^ width, read as a signed number of that width: n, or n - 2 ^ width where its top bit is set
abbrev pub signed : ℕ → ℕ → ℤ
signed width n = if nat_lt n (2 ^ (width - 1)) then pos n else negsuc (2 ^ width - 1 - n)

-- 1 where a condition holds, else 0
abbrev pub truth : Bool → ℕ
truth holds = if holds then 1 else 0

-- the bits of n from `low` on, `count` of them
abbrev pub field : ℕ → ℕ → ℕ → ℕ
field n low count = n / 2 ^ low % 2 ^ count

-- the first `count` bytes of n, least first
abbrev pub little_endian : ℕ → ℕ → List ℕ
little_endian zero n = []
little_endian (suc count) n = n % 256 ∷ little_endian count (n / 256)

-- the number whose bytes, least first, these are
abbrev pub from_little_endian : List ℕ → ℕ
from_little_endian [] = 0
from_little_endian (byte ∷ bytes) = byte + 256 * from_little_endian bytes
