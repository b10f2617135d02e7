-- The vector operands of an instruction as groups of registers: RISC-V "V" 1.0, sections 3.4.2, 5.2, 5.3, 7.3 and 7.8. A
-- mask is one register, with elements of width 1.
use Rattle.std.specs.Prelude.{◌≡◌, ℕ, ◌+◌, ◌*◌, ◌/◌, Bool, true, false, ◌&&◌, nat_lt, List, [], ◌∷◌, ◌++◌, option_to_list}
use Rattle.vx_rows.specs.Families.{operands_of}
use Rattle.vx_rows.specs.Table.{class_of, shape_of}
use Rattle.vx_rows.specs.declared.family.Operand.{Operand}
use Rattle.vx_rows.specs.declared.family.Operand.TheVariants.{Absent, Single, Double, Half, Quarter, Eighth, Sixteen, Mask, Element, WideElement, Whole1, Whole2, Whole4, Whole8}
use Rattle.vx_rows.specs.declared.row.Addressing.{Addressing}
use Rattle.vx_rows.specs.declared.row.Addressing.TheVariants as addressing
use Rattle.vx_rows.specs.declared.row.Class.{Class}
use Rattle.vx_rows.specs.declared.row.Class.TheVariants as class
use Rattle.vx_rows.specs.declared.row.Eew.{Eew}
use Rattle.vx_rows.specs.declared.row.Eew.TheVariants.{E8, E16, E32, E64}
use Rattle.vx_rows.specs.declared.row.First.{First}
use Rattle.vx_rows.specs.declared.row.First.TheVariants as first
use Rattle.vx_rows.specs.declared.row.Second.{Second}
use Rattle.vx_rows.specs.declared.row.Second.TheVariants as second
use Rattle.vx_rows.specs.declared.row.Shape.{Shape}
use Rattle.vx_rows.specs.declared.row.Shape.TheVariants as shape
use Rattle.vx_vstate.specs.Groups.{emul_eighths, registers_of_group}
use Rattle.vx_vstate.specs.Vtype.{sew}
use Rattle.vx_vstate.specs.State.{SettingView}
use Rattle.vx_decode.specs.declared.group.Group.{Group}
use Rattle.vx_decode.specs.declared.group.Groups.{Groups}
use Rattle.vx_decode.specs.declared.instr.Instr.{Instr}

-- the registers that a group takes, with all fields
abbrev pub extent : Group → ℕ
extent g = g.fields * registers_of_group g.emul_eighths

-- two groups have a register in common
abbrev pub meet : Group → Group → Bool
meet g h = nat_lt g.register (h.register + extent h) && nat_lt h.register (g.register + extent g)

-- EEW of an operand. While vill is set the field SEW reads as 8, so that whole-register moves copy bytes: this project's own
abbrev pub width_of : Operand → (sew : ℕ) → ℕ
width_of Absent S = 0
width_of Single S = S
width_of Double S = 2 * S
width_of Half S = S / 2
width_of Quarter S = S / 4
width_of Eighth S = S / 8
width_of Sixteen S = 16
width_of Mask S = 1
width_of Element S = S
width_of WideElement S = 2 * S
width_of Whole1 S = S
width_of Whole2 S = S
width_of Whole4 S = S
width_of Whole8 S = S

-- EMUL of an operand in eighths; masks and single elements take one register, and whole registers are so many
abbrev pub eighths_of : Operand → (vtype : ℕ) → ℕ
eighths_of Absent vtype = 0
eighths_of Mask vtype = 8
eighths_of Element vtype = 8
eighths_of WideElement vtype = 8
eighths_of Whole1 vtype = 8
eighths_of Whole2 vtype = 16
eighths_of Whole4 vtype = 32
eighths_of Whole8 vtype = 64
eighths_of operand vtype = emul_eighths vtype (width_of operand (sew vtype))

-- the mask that begins at a register
abbrev pub mask_at : (register : ℕ) → Group
mask_at register = record { register = register; eew = 1; is_mask = true; emul_eighths = 8; fields = 1 }

-- a register as an operand, where it is one
abbrev pub group_of : Operand → SettingView → (register : ℕ) → List Group
group_of Absent at register = []
group_of Mask at register = mask_at register ∷ []
group_of operand at register = record {
  register = register;
  eew = width_of operand (sew at.vtype);
  is_mask = false;
  emul_eighths = eighths_of operand at.vtype;
  fields = 1;
} ∷ []

-- the width that a vector load or store encodes
abbrev pub bits_of_eew : Eew → ℕ
bits_of_eew E8 = 8
bits_of_eew E16 = 16
bits_of_eew E32 = 32
bits_of_eew E64 = 64

-- a register as a group of elements of a width, of so many fields
abbrev pub group_at : SettingView → (register width fields : ℕ) → Group
group_at at register width fields =
    record { register = register; eew = width; is_mask = false; emul_eighths = emul_eighths at.vtype width; fields = fields }

-- what a vector load or store moves: elements of the encoded width; at indices of that width, elements of SEW; whole
-- registers; or a mask
abbrev pub moved : Addressing → Eew → Instr → SettingView → Group
moved addressing.Unit width i at = group_at at i.rd (bits_of_eew width) (i.nf + 1)
moved addressing.FaultOnlyFirst width i at = group_at at i.rd (bits_of_eew width) (i.nf + 1)
moved addressing.Strided width i at = group_at at i.rd (bits_of_eew width) (i.nf + 1)
moved addressing.Unordered width i at = group_at at i.rd (sew at.vtype) (i.nf + 1)
moved addressing.Ordered width i at = group_at at i.rd (sew at.vtype) (i.nf + 1)
moved addressing.Whole width i at = record { register = i.rd; eew = bits_of_eew width; is_mask = false; emul_eighths = 8 * (i.nf + 1); fields = 1 }
moved addressing.MaskBits width i at = mask_at i.rd

-- the indices of a vector load or store that has them
abbrev pub indices : Addressing → Eew → Instr → SettingView → List Group
indices addressing.Unordered width i at = group_at at i.rs2 (bits_of_eew width) 1 ∷ []
indices addressing.Ordered width i at = group_at at i.rs2 (bits_of_eew width) 1 ∷ []
indices addressing.Unit width i at = []
indices addressing.FaultOnlyFirst width i at = []
indices addressing.Strided width i at = []
indices addressing.Whole width i at = []
indices addressing.MaskBits width i at = []

-- the sources in the places of vs1 and vs2 of a row of vector arithmetic, where registers stand there
abbrev pub first_source : First → Operand → Instr → SettingView → List Group
first_source first.Vector operand i at = group_of operand at i.rs1
first_source first.Integer operand i at = []
first_source first.Signed operand i at = []
first_source first.Unsigned operand i at = []
first_source first.Fixed operand i at = []

abbrev pub second_source : Second → Operand → Instr → SettingView → List Group
second_source second.Vector operand i at = group_of operand at i.rs2
second_source second.Fixed operand i at = []

-- the groups that an instruction of a class writes
abbrev pub destinations_as : Class → Instr → SettingView → List Group
destinations_as (class.VectorArithmetic family) i at = group_of (operands_of family).destination at i.rd
destinations_as (class.VectorLoad addressing width) i at = moved addressing width i at ∷ []
destinations_as other i at = []

-- the groups that an instruction of a class and a shape reads, but for the mask in v0
abbrev pub sources_as : Class → Shape → Instr → SettingView → List Group
sources_as (class.VectorArithmetic family) (shape.Vector first second vm) i at =
    second_source second (operands_of family).vs2 i at ++ first_source first (operands_of family).vs1 i at
sources_as (class.VectorLoad addressing width) shape i at = indices addressing width i at
sources_as (class.VectorStore addressing width) shape i at = moved addressing width i at ∷ indices addressing width i at
sources_as other shape i at = []

abbrev pub destinations : Instr → SettingView → List Group
destinations i at = destinations_as (class_of i.op) i at

abbrev pub sources : Instr → SettingView → List Group
sources i at = sources_as (class_of i.op) (shape_of i.op) i at

-- the class of an instruction, its destination and its sources
pub record AreGroupsOf (groups : Groups) (i : Instr) (at : SettingView) : Type 0 where
  pub class : groups.class ≡ class_of i.op
  pub destination : option_to_list groups.destination ≡ destinations i at
  pub sources : option_to_list groups.second ++ option_to_list groups.first ≡ sources i at
