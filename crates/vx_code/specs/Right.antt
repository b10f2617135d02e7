-- Forms whose slots fit what the statement does: what the table of forms has, row by row, so that a statement without a fault
-- gives valid instructions. This project's own.
use Rattle.std.specs.Prelude.{ℕ, ◌-◌, ◌^◌, Bool, true, false, ◌==◌, ◌&&◌, ◌||◌, nat_lt, nat_le, ℤ, pos, neg_ℤ, int_le, List, is_none}
use Rattle.std.specs.List.{list_all, list_any}
use Rattle.vx_decode.specs.declared.instr.Instr.{Instr}
use Rattle.vx_language.specs.Code.{Expansion, Alone, LoadsNumber, LoadsAddress}
use Rattle.vx_language.specs.Forms.{Form, Action, PutsNumbers, PutsZeros, Aligns, Puts}
use Rattle.vx_language.specs.Slots.{Slot, Rd, Rs1, Rs2, Vd, Vs1, Vs2, Masked, Carry, VtypeWord, Immediate, SourceField, Offset, Label, ControlRegister, Datum, Range, unsigned_range}
use Rattle.vx_rows.specs.Layouts.{layout_of}
use Rattle.vx_rows.specs.Table.{shape_of}
use Rattle.vx_rows.specs.declared.row.Layout.{Layout}
use Rattle.vx_rows.specs.declared.row.Nf.{Nf}
use Rattle.vx_rows.specs.declared.row.Nf.TheVariants as nf
use Rattle.vx_rows.specs.declared.row.Number.{Number}
use Rattle.vx_rows.specs.declared.row.Number.TheVariants.{Absent, Unsigned, Signed, FormatS, FormatB, FormatJ}
use Rattle.vx_rows.specs.declared.row.Vm.{Vm}
use Rattle.vx_rows.specs.declared.row.Vm.TheVariants as vm

abbrev pub is_inside : ℤ → ℤ → Range → Bool
is_inside least greatest range = int_le least range.least && int_le range.greatest greatest

abbrev pub is_inside_signed : ℕ → Range → Bool
is_inside_signed width range = is_inside (neg_ℤ (pos (2 ^ (width - 1)))) (pos (2 ^ (width - 1) - 1)) range

-- the numbers of a range are ones that a layout's number may be
abbrev pub covers : Number → Range → Bool
covers Absent range = false
covers (Unsigned low count) range = is_inside (pos 0) (pos (2 ^ count - 1)) range
covers (Signed low count) range = is_inside_signed count range
covers FormatS range = is_inside_signed 12 range
covers FormatB range = false
covers FormatJ range = false

-- so are the offsets of a width
abbrev pub covers_offsets : Number → ℕ → Bool
covers_offsets FormatB width = width == 13
covers_offsets FormatJ width = width == 21
covers_offsets other width = false

-- so are the 8 bits of vtype that have words
abbrev pub covers_words : Number → Bool
covers_words (Unsigned low count) = nat_le 8 count
covers_words other = false

-- vm may be 0
abbrev pub may_be_masked : Vm → Bool
may_be_masked vm.Any = true
may_be_masked vm.Zero = true
may_be_masked vm.One = false

-- a slot fills in what an instruction of this layout has
abbrev pub is_right_slot : Layout → Slot → Bool
is_right_slot layout Rd = layout.rd
is_right_slot layout Rs1 = layout.rs1
is_right_slot layout Rs2 = layout.rs2
is_right_slot layout Vd = layout.rd
is_right_slot layout Vs1 = layout.rs1
is_right_slot layout Vs2 = layout.rs2
is_right_slot layout Masked = may_be_masked layout.vm
is_right_slot layout Carry = may_be_masked layout.vm
is_right_slot layout (VtypeWord f) = covers_words layout.number
is_right_slot layout (Immediate range) = covers layout.number range
is_right_slot layout (SourceField range) = layout.rs1 && is_inside (pos 0) (pos 31) range
is_right_slot layout (Offset width) = covers_offsets layout.number width
is_right_slot layout Label = false
is_right_slot layout ControlRegister = covers layout.number (unsigned_range 12)
is_right_slot layout slot = true

-- a slot that isn't for a label
abbrev pub has_no_target : Slot → Bool
has_no_target (Offset width) = false
has_no_target Label = false
has_no_target slot = true

abbrev pub is_register : Bool → ℕ → Bool
is_register true n = nat_lt n 32
is_register false n = n == 0

abbrev pub is_number : Number → ℤ → Bool
is_number Absent z = int_le (pos 0) z && int_le z (pos 0)
is_number (Unsigned low count) z = int_le (pos 0) z && int_le z (pos (2 ^ count - 1))
is_number (Signed low count) z = int_le (pos 0) z && int_le z (pos (2 ^ (count - 1) - 1))
is_number FormatS z = int_le (pos 0) z && int_le z (pos 0)
is_number FormatB z = int_le (pos 0) z && int_le z (pos 0)
is_number FormatJ z = int_le (pos 0) z && int_le z (pos 0)

-- a slot that makes vm 0
abbrev pub is_masking : Slot → Bool
is_masking Masked = true
is_masking Carry = true
is_masking slot = false

-- vm is 1 before any slot is filled; where a row has it 0, a slot makes it so
abbrev pub is_right_mask : Vm → Bool → List Slot → Bool
is_right_mask vm.Any b slots = true
is_right_mask vm.Zero b slots = list_any is_masking slots
is_right_mask vm.One b slots = b

abbrev pub has_fields : Nf → ℕ → Bool
has_fields nf.Absent n = n == 0
has_fields nf.Any n = nat_lt n 8
has_fields nf.Registers n = n == 0 || (n == 1 || (n == 3 || n == 7))

-- an instruction is one of its row before any slot is filled, but for vm
abbrev pub is_begun : Layout → Instr → Bool
is_begun layout i =
    is_register layout.rd i.rd && (is_register layout.rs1 i.rs1 && (is_register layout.rs2 i.rs2
    && (is_number layout.number i.imm && has_fields layout.nf i.nf)))

abbrev pub is_right_code : List Slot → Expansion → Instr → Bool
is_right_code slots Alone i =
    is_begun (layout_of (shape_of i.op)) i
    && (is_right_mask (layout_of (shape_of i.op)).vm i.vm slots && list_all (is_right_slot (layout_of (shape_of i.op))) slots)
is_right_code slots LoadsNumber i = nat_lt i.rd 32 && list_all has_no_target slots
is_right_code slots LoadsAddress i = nat_lt i.rd 32

-- a directive's number from 0 to this one
abbrev pub is_count : ℕ → Slot → Bool
is_count greatest (Datum range) = is_inside (pos 0) (pos greatest) range
is_count greatest slot = false

abbrev pub is_right_action : List Slot → Action → Bool
is_right_action slots PutsZeros = list_all (is_count 18446744073709551615) slots
is_right_action slots Aligns = list_all (is_count 12) slots
is_right_action slots (PutsNumbers count) = count == 1 || (count == 2 || (count == 4 || count == 8))
is_right_action slots (Puts code) = is_none code.target && is_right_code slots code.expansion code.instr
is_right_action slots action = true

abbrev pub is_right : Form → Bool
is_right form = is_right_action form.slots form.action
