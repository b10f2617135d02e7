-- Groups of registers: RISC-V "V" 1.0, sections 3.4.2 and 5.2.
use Rattle.std.specs.Prelude.{ℕ, ◌*◌, ◌/◌, Bool, ◌==◌, ◌||◌, max}
use Rattle.vx_vstate.specs.Vtype.{sew, lmul_eighths}

-- EMUL, the registers of a group whose elements have a width of their own, in eighths: EEW / SEW * LMUL. What is below an
-- eighth is 0
abbrev pub emul_eighths : (vtype width : ℕ) → ℕ
emul_eighths vtype width = width * lmul_eighths vtype / sew vtype

-- the registers that a group of that EMUL takes: a part of a register is one
abbrev pub registers_of_group : (eighths : ℕ) → ℕ
registers_of_group eighths = max 1 (eighths / 8)

-- how many registers a group may take
abbrev pub is_group_size : ℕ → Bool
is_group_size n = n == 1 || n == 2 || n == 4 || n == 8
