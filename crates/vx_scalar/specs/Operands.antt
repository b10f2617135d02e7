-- The registers that an instruction names, and the widths of its access. This project's own.
use Rattle.std.specs.Prelude.{ℕ, ◌<◌, Bool, ◌==◌, ◌||◌}
use Rattle.vx_decode.specs.declared.instr.Instr.{Instr}

-- each register number is that of a register
pub record NamesRegisters (i : Instr) : Type 0 where
  pub rd : i.rd < 32
  pub rs1 : i.rs1 < 32
  pub rs2 : i.rs2 < 32

-- as many bytes as a load or a store may move
abbrev pub is_access_width : ℕ → Bool
is_access_width n = n == 1 || n == 2 || n == 4 || n == 8
