-- The operands of instructions on control registers, and of those that configure vectors: RISC-V Unprivileged ISA 20191213,
-- section 9.1, and RISC-V "V" 1.0, section 6. No other operation asks for them.
use Rattle.std.specs.Prelude.{ℕ, ◌%◌, ◌^◌, List, slice_index}
use Rattle.vx_base.specs.Numbers.{reduced}
use Rattle.vx_decode.specs.declared.instr.Instr.{Instr}
use Rattle.vx_rows.specs.declared.op.Op.{Op}
use Rattle.vx_flat.specs.Scalar.{Work, work}
use Rattle.vx_flat.specs.Scalar.Work.{Controls, Configures}
use Rattle.vx_flat.specs.declared.control.Change.{Change}
use Rattle.vx_flat.specs.declared.control.Change.TheVariants.{Replace}
use Rattle.vx_flat.specs.declared.control.Source.{Source}
use Rattle.vx_flat.specs.declared.control.Source.TheVariants.{Register, Immediate}

-- how a control register is changed
abbrev pub change_of : Work → Change
change_of (Controls operand change) = change
change_of other = Replace

abbrev pub change_in : Op → Change
change_in op = change_of (work op 0 0 0 0)

-- where the operand in the place of rs1 stands
abbrev pub source_of : Work → Source
source_of (Controls operand change) = operand
source_of (Configures length vtype) = length
source_of other = Register

abbrev pub source_in : Op → Source
source_in op = source_of (work op 0 0 0 0)

-- where the wanted vtype stands: in rs2, or in the instruction
abbrev pub vtype_source_of : Work → Source
vtype_source_of (Configures length vtype) = vtype
vtype_source_of other = Immediate

abbrev pub vtype_source_in : Op → Source
vtype_source_in op = vtype_source_of (work op 0 0 0 0)

-- the operand in the place of rs1, of the registers
abbrev pub operand_from : Source → (x : List ℕ) → (rs1 : ℕ) → ℕ
operand_from Register x rs1 = slice_index x rs1
operand_from Immediate x rs1 = rs1

abbrev pub operand_of : Instr → (x : List ℕ) → ℕ
operand_of i x = operand_from (source_in i.op) x i.rs1

-- the wanted vtype
abbrev pub vtype_from : Source → (x : List ℕ) → Instr → ℕ
vtype_from Register x i = slice_index x i.rs2
vtype_from Immediate x i = reduced 64 i.imm

abbrev pub vtype_of : Instr → (x : List ℕ) → ℕ
vtype_of i x = vtype_from (vtype_source_in i.op) x i

-- the number of the control register, of 12 bits
abbrev pub control_number : Instr → ℕ
control_number i = reduced 64 i.imm % 2 ^ 12
