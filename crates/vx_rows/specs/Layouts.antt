-- Where the operands of each shape stand in a word: RISC-V Unprivileged ISA 20191213, sections 2.2, 2.3, 2.7 and 9.1, and
-- RISC-V "V" 1.0, sections 5.1, 6, 7.2 and 10.1.
use Rattle.std.specs.Prelude.{◌≡◌, ◌⊎◌, ℕ, ◌<◌, ◌+◌, ◌-◌, ◌*◌, ◌^◌, Bool, true, false, if◌then◌else◌, List, [], ◌∷◌}
use Rattle.vx_rows.specs.declared.row.First.{First}
use Rattle.vx_rows.specs.declared.row.First.TheVariants as first
use Rattle.vx_rows.specs.declared.row.Layout.{Layout}
use Rattle.vx_rows.specs.declared.row.Nf.{Nf}
use Rattle.vx_rows.specs.declared.row.Nf.TheVariants as nf
use Rattle.vx_rows.specs.declared.row.Number.{Number}
use Rattle.vx_rows.specs.declared.row.Number.TheVariants.{Absent, Unsigned, Signed, FormatS, FormatB, FormatJ}
use Rattle.vx_rows.specs.declared.row.Second.{Second}
use Rattle.vx_rows.specs.declared.row.Second.TheVariants as second
use Rattle.vx_rows.specs.declared.row.Shape.{Shape}
use Rattle.vx_rows.specs.declared.row.Shape.TheVariants as shape
use Rattle.vx_rows.specs.declared.row.Vm.{Vm}
use Rattle.vx_rows.specs.declared.row.Vm.TheVariants as vm

-- a scalar row or a vset: which registers it has, and its number
abbrev pub scalar : (rd rs1 rs2 : Bool) → Number → Layout
scalar rd rs1 rs2 number = record { rd = rd; rs1 = rs1; rs2 = rs2; number = number; vm = vm.One; nf = nf.Absent }

-- vector arithmetic: what stands in the places of vs1 and vs2, and the mask
abbrev first_register : First → Bool
first_register first.Vector = true
first_register first.Integer = true
first_register first.Signed = false
first_register first.Unsigned = false
first_register first.Fixed = false

abbrev first_number : First → Number
first_number first.Vector = Absent
first_number first.Integer = Absent
first_number first.Signed = Signed 15 5
first_number first.Unsigned = Unsigned 15 5
first_number first.Fixed = Absent

abbrev second_register : Second → Bool
second_register second.Vector = true
second_register second.Fixed = false

abbrev pub vector : First → Second → Vm → Layout
vector first second vm =
    record { rd = true; rs1 = first_register first; rs2 = second_register second; number = first_number first; vm = vm; nf = nf.Absent }

-- a vector load or store: whether it has an rs2 or vs2, the mask, and the number of fields or registers
abbrev pub memory : (rs2 : Bool) → Vm → Nf → Layout
memory rs2 vm nf = record { rd = true; rs1 = true; rs2 = rs2; number = Absent; vm = vm; nf = nf }

abbrev pub layout_of : Shape → Layout
layout_of shape.Registers = scalar true true true Absent
layout_of shape.Immediate = scalar true true false (Signed 20 12)
layout_of shape.Shift = scalar true true false (Unsigned 20 6)
layout_of shape.ShiftWord = scalar true true false (Unsigned 20 5)
layout_of shape.Load = scalar true true false (Signed 20 12)
layout_of shape.Store = scalar false true true FormatS
layout_of shape.Branch = scalar false true true FormatB
layout_of shape.Upper = scalar true false false (Unsigned 12 20)
layout_of shape.Jump = scalar true false false FormatJ
layout_of shape.Fence = scalar true true false (Unsigned 20 12)
layout_of shape.Csr = scalar true true false (Unsigned 20 12)
layout_of shape.CsrNumber = scalar true true false (Unsigned 20 12)
layout_of shape.Fixed = scalar false false false Absent
layout_of shape.SetType = scalar true true false (Unsigned 20 11)
layout_of shape.SetNumber = scalar true true false (Unsigned 20 10)
layout_of shape.SetRegister = scalar true true true Absent
layout_of (shape.Vector first second vm) = vector first second vm
layout_of shape.UnitMemory = memory false vm.Any nf.Any
layout_of shape.WholeMemory = memory false vm.One nf.Registers
layout_of shape.MaskMemory = memory false vm.One nf.Absent
layout_of shape.StridedMemory = memory true vm.Any nf.Any
layout_of shape.IndexedMemory = memory true vm.Any nf.Any

-- ---- the bits in which the operands stand

-- `count` bits from bit `low` on
abbrev pub bits_at : (low count : ℕ) → ℕ
bits_at low count = (2 ^ count - 1) * 2 ^ low

abbrev pub rd_mask : Layout → ℕ
rd_mask layout = if layout.rd then bits_at 7 5 else 0

abbrev pub rs1_mask : Layout → ℕ
rs1_mask layout = if layout.rs1 then bits_at 15 5 else 0

abbrev pub rs2_mask : Layout → ℕ
rs2_mask layout = if layout.rs2 then bits_at 20 5 else 0

abbrev pub number_mask : Number → ℕ
number_mask Absent = 0
number_mask (Unsigned low count) = bits_at low count
number_mask (Signed low count) = bits_at low count
number_mask FormatS = bits_at 25 7 + bits_at 7 5
number_mask FormatB = bits_at 25 7 + bits_at 7 5
number_mask FormatJ = bits_at 12 20

abbrev pub vm_mask : Vm → ℕ
vm_mask vm.Any = bits_at 25 1
vm_mask vm.Zero = 0
vm_mask vm.One = 0

abbrev pub nf_mask : Nf → ℕ
nf_mask nf.Absent = 0
nf_mask nf.Any = bits_at 29 3
nf_mask nf.Registers = 0

abbrev pub operands_mask : Layout → ℕ
operands_mask layout =
    rd_mask layout + rs1_mask layout + rs2_mask layout + number_mask layout.number + vm_mask layout.vm + nf_mask layout.nf

-- the bits of a word in which no operand of this shape stands
abbrev pub mask_of : Shape → ℕ
mask_of shape = bits_at 0 32 - operands_mask (layout_of shape)

-- ---- the number of fields or registers

-- the fields nf for which there is a row each
abbrev pub row_nfs : Nf → List ℕ
row_nfs nf.Absent = 0 ∷ []
row_nfs nf.Any = 0 ∷ []
row_nfs nf.Registers = 0 ∷ 1 ∷ 3 ∷ 7 ∷ []

-- a row has this field nf, which plays no part where there is none
abbrev pub HasFields : Nf → ℕ → Type 0
HasFields nf.Absent n = Unit {0}
HasFields nf.Any n = n < 8
HasFields nf.Registers n = (n ≡ 0) ⊎ (n ≡ 1) ⊎ (n ≡ 3) ⊎ (n ≡ 7)
