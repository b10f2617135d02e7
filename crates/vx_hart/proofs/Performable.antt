-- A valid instruction names registers.
use Rattle.std.proofs.Common.{ℕ, ◌<◌, Bool, true, false, arith}
use Rattle.vx_decode.specs.Encoded.{IsRegister, IsValid}
use Rattle.vx_decode.specs.declared.instr.Instr.{Instr}
use Rattle.vx_rows.specs.Layouts.{layout_of}
use Rattle.vx_rows.specs.Table.{shape_of}
use Rattle.vx_scalar.specs.Operands.{NamesRegisters}

below-32 : (has : Bool) (n : ℕ) → IsRegister has n → n < 32
below-32 true n is = is
below-32 false n is = omega arith

-- a valid instruction names registers
pub names_registers : (i : Instr) → IsValid i → NamesRegisters i
names_registers i valid =
    let layout = layout_of (shape_of i.op) in
    record { rd = below-32 layout.rd i.rd valid.rd; rs1 = below-32 layout.rs1 i.rs1 valid.rs1; rs2 = below-32 layout.rs2 i.rs2 valid.rs2 }
