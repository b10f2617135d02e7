-- vtype, and what it says of elements and groups: RISC-V "V" 1.0, section 3.4. Which numbers are accepted is that
-- section's, for elements of 64 bits at the most (section 18.2, Zve64x); that under an LMUL below 1 no SEW above 64 * LMUL is
-- accepted is a choice that it leaves.
use Rattle.std.specs.Prelude.{ℕ, ◌-◌, ◌*◌, ◌/◌, ◌^◌, Bool, not, ◌==◌, ◌&&◌, ◌||◌, nat_lt, nat_le, if◌then◌else◌}
use Rattle.vx_base.specs.Numbers.{field}

-- the vtype of a configuration that isn't supported: vill, bit 63, alone
abbrev pub vill : ℕ
vill = 2 ^ 63

-- the fields vlmul and vsew
abbrev pub vlmul : ℕ → ℕ
vlmul vtype = field vtype 0 3

abbrev pub vsew : ℕ → ℕ
vsew vtype = field vtype 3 3

-- SEW, the width of an element in bits
abbrev pub sew : ℕ → ℕ
sew vtype = 8 * 2 ^ vsew vtype

-- LMUL, the registers of a group, in eighths: vlmul 0 to 3 are 1, 2, 4 and 8, and 5 to 7 are 1/8, 1/4 and 1/2
abbrev pub lmul_eighths : ℕ → ℕ
lmul_eighths vtype = if nat_lt (vlmul vtype) 4 then 8 * 2 ^ vlmul vtype else 2 ^ (vlmul vtype - 5)

-- VLMAX, the elements of a group: LMUL * VLEN / SEW
abbrev pub vlmax : (vlen vtype : ℕ) → ℕ
vlmax vlen vtype = lmul_eighths vtype * vlen / (8 * sew vtype)

-- no bit but those of vlmul, vsew, vta and vma is set, neither field is reserved, and an element of SEW fits into LMUL
-- parts of 64 bits
abbrev pub is_accepted : ℕ → Bool
is_accepted vtype =
    nat_lt vtype (2 ^ 8) && not (vlmul vtype == 4) && nat_le (vsew vtype) 3 && nat_le (8 * sew vtype) (64 * lmul_eighths vtype)

-- the elements of a group come to as many under both: they have one ratio of SEW to LMUL
abbrev pub is_same_ratio : ℕ → ℕ → Bool
is_same_ratio a b = sew a * lmul_eighths b == sew b * lmul_eighths a

-- what vtype may hold: vill alone, or a number that is accepted
abbrev pub is_vtype : ℕ → Bool
is_vtype vtype = vtype == vill || is_accepted vtype

-- the most that vl may be: VLMAX, and 0 while vill is set
abbrev pub most_elements : (vlen vtype : ℕ) → ℕ
most_elements vlen vtype = if vtype == vill then 0 else vlmax vlen vtype
