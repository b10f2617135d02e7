-- The word of an instruction: RISC-V Unprivileged ISA 20191213, sections 2.2 and 2.3 (formats and immediates), and RISC-V
-- "V" 1.0, sections 6, 7.2 and 10.1.
use Rattle.std.specs.Prelude.{◌≡◌, ◌⊎◌, ℕ, ◌+◌, ◌*◌, ◌-◌, ◌%◌, ◌^◌, ◌<◌, ℤ, pos, neg_ℤ, ◌<ℤ◌, ◌≤ℤ◌, int_rem, Bool, true, false, if◌then◌else◌}
use Rattle.vx_base.specs.Numbers.{field, reduced}
use Rattle.vx_rows.specs.Layouts.{layout_of}
use Rattle.vx_rows.specs.Table.{bits_of, shape_of}
use Rattle.vx_rows.specs.declared.row.Layout.{Layout}
use Rattle.vx_rows.specs.declared.row.Nf.{Nf}
use Rattle.vx_rows.specs.declared.row.Nf.TheVariants as nf
use Rattle.vx_rows.specs.declared.row.Number.{Number}
use Rattle.vx_rows.specs.declared.row.Number.TheVariants.{Absent, Unsigned, Signed, FormatS, FormatB, FormatJ}
use Rattle.vx_rows.specs.declared.row.Vm.{Vm}
use Rattle.vx_rows.specs.declared.row.Vm.TheVariants as vm
use Rattle.vx_decode.specs.declared.instr.Instr.{Instr}

-- ---- which operands an instruction may have

-- z is at least -2 ^ (width - 1) and below 2 ^ (width - 1)
abbrev pub IsSigned : ℕ → ℤ → Type 0
IsSigned width z = (neg_ℤ (pos (2 ^ (width - 1))) ≤ℤ z) × (z <ℤ pos (2 ^ (width - 1)))

-- z is a signed even number of a width
abbrev pub IsSignedEven : ℕ → ℤ → Type 0
IsSignedEven width z = IsSigned width z × (int_rem z (pos 2) ≡ pos 0)

-- z is at least 0 and below 2 ^ width
abbrev pub IsUnsigned : ℕ → ℤ → Type 0
IsUnsigned width z = (pos 0 ≤ℤ z) × (z <ℤ pos (2 ^ width))

abbrev pub IsRegister : (has : Bool) → ℕ → Type 0
IsRegister true n = n < 32
IsRegister false n = n ≡ 0

abbrev pub IsNumber : Number → ℤ → Type 0
IsNumber Absent z = z ≡ pos 0
IsNumber (Unsigned low count) z = IsUnsigned count z
IsNumber (Signed low count) z = IsSigned count z
IsNumber FormatS z = IsSigned 12 z
IsNumber FormatB z = IsSignedEven 13 z
IsNumber FormatJ z = IsSignedEven 21 z

abbrev pub IsVm : Vm → Bool → Type 0
IsVm vm.Any b = Unit {0}
IsVm vm.Zero b = b ≡ false
IsVm vm.One b = b ≡ true

abbrev pub IsNf : Nf → ℕ → Type 0
IsNf nf.Absent n = n ≡ 0
IsNf nf.Any n = n < 8
IsNf nf.Registers n = (n ≡ 0) ⊎ (n ≡ 1) ⊎ (n ≡ 3) ⊎ (n ≡ 7)

-- each operand lies in its range, and those that the layout lacks are 0, or true for vm
pub record HasOperands (layout : Layout) (i : Instr) : Type 0 where
  pub rd : IsRegister layout.rd i.rd
  pub rs1 : IsRegister layout.rs1 i.rs1
  pub rs2 : IsRegister layout.rs2 i.rs2
  pub imm : IsNumber layout.number i.imm
  pub vm : IsVm layout.vm i.vm
  pub nf : IsNf layout.nf i.nf

-- the instruction is one of its operation's rows
abbrev pub IsValid : Instr → Type 0
IsValid i = HasOperands (layout_of (shape_of i.op)) i

-- ---- the bits of the operands

-- the bits of an immediate, reduced to its width, in the formats S, B and J
abbrev pub bits_s : ℕ → ℕ
bits_s u = field u 5 7 * 2 ^ 25 + u % 2 ^ 5 * 2 ^ 7

abbrev pub bits_b : ℕ → ℕ
bits_b u = field u 12 1 * 2 ^ 31 + field u 5 6 * 2 ^ 25 + field u 1 4 * 2 ^ 8 + field u 11 1 * 2 ^ 7

abbrev pub bits_j : ℕ → ℕ
bits_j u = field u 20 1 * 2 ^ 31 + field u 1 10 * 2 ^ 21 + field u 11 1 * 2 ^ 20 + field u 12 8 * 2 ^ 12

abbrev pub number_bits : Number → ℤ → ℕ
number_bits Absent z = 0
number_bits (Unsigned low count) z = reduced count z * 2 ^ low
number_bits (Signed low count) z = reduced count z * 2 ^ low
number_bits FormatS z = bits_s (reduced 12 z)
number_bits FormatB z = bits_b (reduced 13 z)
number_bits FormatJ z = bits_j (reduced 21 z)

-- bit 25, where it isn't fixed
abbrev pub vm_bits : Vm → Bool → ℕ
vm_bits vm.Any b = if b then 2 ^ 25 else 0
vm_bits vm.Zero b = 0
vm_bits vm.One b = 0

-- the bits of an instruction's operands, those of nf too where it has a row each
abbrev pub operand_bits_of : Layout → Instr → ℕ
operand_bits_of layout i =
    i.rd * 2 ^ 7 + i.rs1 * 2 ^ 15 + i.rs2 * 2 ^ 20 + number_bits layout.number i.imm + vm_bits layout.vm i.vm + i.nf * 2 ^ 29

-- the word of an instruction
abbrev pub word_of : Instr → ℕ
word_of i = bits_of i.op + operand_bits_of (layout_of (shape_of i.op)) i
