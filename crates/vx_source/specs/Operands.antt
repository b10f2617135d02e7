-- The operands of a line: which, in what order, and how each is written. The order is that of the assembly syntax of the
-- RISC-V Unprivileged ISA 20191213, chapters 2 and 9, but for `jalr` and `fence`, whose lines have the operands of any
-- row with such fields, and of RISC-V "V" 1.0, sections 5.3, 6, 7 and 10 to 16. That numbers are decimal is this project's own.
use Rattle.std.specs.Prelude.{ℕ, Bool, true, not, List, [], ◌∷◌, ◌++◌, codes, decimal, unwrap_or, unsigned_abs}
use Rattle.std.specs.Fmt.{signed_decimal}
use Rattle.vx_rows.specs.Table.{class_of, shape_of}
use Rattle.vx_rows.specs.declared.family.Family.{Family}
use Rattle.vx_rows.specs.declared.family.Family.TheVariants.{Vmadd, Vnmsub, Vmacc, Vnmsac, Vwmaccu, Vwmacc, Vwmaccus, Vwmaccsu, VmvXS, Vcpop, Vfirst}
use Rattle.vx_rows.specs.declared.op.Op.{Op}
use Rattle.vx_rows.specs.declared.row.Class.{Class}
use Rattle.vx_rows.specs.declared.row.Class.TheVariants.{VectorArithmetic}
use Rattle.vx_rows.specs.declared.row.First.{First}
use Rattle.vx_rows.specs.declared.row.First.TheVariants as first
use Rattle.vx_rows.specs.declared.row.Second.{Second}
use Rattle.vx_rows.specs.declared.row.Second.TheVariants as second
use Rattle.vx_rows.specs.declared.row.Shape.{Shape}
use Rattle.vx_rows.specs.declared.row.Shape.TheVariants as shape
use Rattle.vx_rows.specs.declared.row.Vm.{Vm}
use Rattle.vx_rows.specs.declared.row.Vm.TheVariants as vm
use Rattle.vx_decode.specs.declared.instr.Instr.{Instr}
use Rattle.vx_source.specs.declared.operand.OperandKind.{OperandKind}
use Rattle.vx_source.specs.declared.operand.OperandKind.TheVariants.{Destination, FirstSource, SecondSource, Signed, Unsigned, Target, Address, Control, SourceNumber, VectorDestination, FirstVector, SecondVector, Base, Vtype, Masked, Carry}
use Rattle.vx_source.specs.declared.operand.Order.{Order}
use Rattle.vx_source.specs.declared.operand.Order.TheVariants.{Usual, MultiplyAdd, ToInteger}
use Rattle.vx_source.specs.Names.{register_name, vector_name, control_name}
use Rattle.vx_source.specs.Vtypes.{vtype_text}

-- Vector arithmetic. The order of the operands: a multiply-add has the factor in vs1 or rs1 before that in vs2, and some rows
-- answer in an integer register.
abbrev pub family_order : Family → Order
family_order Vmadd = MultiplyAdd
family_order Vnmsub = MultiplyAdd
family_order Vmacc = MultiplyAdd
family_order Vnmsac = MultiplyAdd
family_order Vwmaccu = MultiplyAdd
family_order Vwmacc = MultiplyAdd
family_order Vwmaccus = MultiplyAdd
family_order Vwmaccsu = MultiplyAdd
family_order VmvXS = ToInteger
family_order Vcpop = ToInteger
family_order Vfirst = ToInteger
family_order other = Usual

abbrev pub order_of : Class → Order
order_of (VectorArithmetic family) = family_order family
order_of other = Usual

-- what stands in the places of vs1 and vs2
abbrev pub first_kinds : First → List OperandKind
first_kinds first.Vector = FirstVector ∷ []
first_kinds first.Integer = FirstSource ∷ []
first_kinds first.Signed = Signed 5 ∷ []
first_kinds first.Unsigned = Unsigned 5 ∷ []
first_kinds first.Fixed = []

abbrev pub second_kinds : Second → List OperandKind
second_kinds second.Vector = SecondVector ∷ []
second_kinds second.Fixed = []

-- the mask comes last
abbrev pub mask_kinds : Vm → List OperandKind
mask_kinds vm.Any = Masked ∷ []
mask_kinds vm.Zero = Carry ∷ []
mask_kinds vm.One = []

abbrev pub vector_kinds : Order → First → Second → Vm → List OperandKind
vector_kinds Usual first second vm = VectorDestination ∷ second_kinds second ++ first_kinds first ++ mask_kinds vm
vector_kinds MultiplyAdd first second vm = VectorDestination ∷ first_kinds first ++ second_kinds second ++ mask_kinds vm
vector_kinds ToInteger first second vm = Destination ∷ second_kinds second ++ first_kinds first ++ mask_kinds vm

-- the operands of a row of each shape, in order
abbrev pub shape_kinds : Shape → Order → List OperandKind
shape_kinds shape.Registers order = Destination ∷ FirstSource ∷ SecondSource ∷ []
shape_kinds shape.Immediate order = Destination ∷ FirstSource ∷ Signed 12 ∷ []
shape_kinds shape.Shift order = Destination ∷ FirstSource ∷ Unsigned 6 ∷ []
shape_kinds shape.ShiftWord order = Destination ∷ FirstSource ∷ Unsigned 5 ∷ []
shape_kinds shape.Load order = Destination ∷ Address ∷ []
shape_kinds shape.Store order = SecondSource ∷ Address ∷ []
shape_kinds shape.Branch order = FirstSource ∷ SecondSource ∷ Target 13 ∷ []
shape_kinds shape.Upper order = Destination ∷ Unsigned 20 ∷ []
shape_kinds shape.Jump order = Destination ∷ Target 21 ∷ []
shape_kinds shape.Fence order = Destination ∷ FirstSource ∷ Unsigned 12 ∷ []
shape_kinds shape.Csr order = Destination ∷ Control ∷ FirstSource ∷ []
shape_kinds shape.CsrNumber order = Destination ∷ Control ∷ SourceNumber ∷ []
shape_kinds shape.Fixed order = []
shape_kinds shape.SetType order = Destination ∷ FirstSource ∷ Vtype 11 ∷ []
shape_kinds shape.SetNumber order = Destination ∷ SourceNumber ∷ Vtype 10 ∷ []
shape_kinds shape.SetRegister order = Destination ∷ FirstSource ∷ SecondSource ∷ []
shape_kinds (shape.Vector first second vm) order = vector_kinds order first second vm
shape_kinds shape.UnitMemory order = VectorDestination ∷ Base ∷ Masked ∷ []
shape_kinds shape.WholeMemory order = VectorDestination ∷ Base ∷ []
shape_kinds shape.MaskMemory order = VectorDestination ∷ Base ∷ []
shape_kinds shape.StridedMemory order = VectorDestination ∷ Base ∷ SecondSource ∷ Masked ∷ []
shape_kinds shape.IndexedMemory order = VectorDestination ∷ Base ∷ SecondVector ∷ Masked ∷ []

-- the operands of an operation's rows, in order
abbrev pub operand_kinds : Op → List OperandKind
operand_kinds op = shape_kinds (shape_of op) (order_of (class_of op))

-- the text of the control register of that number: its name, or else the number
abbrev pub control_text : ℕ → List ℕ
control_text n = unwrap_or (control_name n) (decimal n)

-- an instruction has an operand of each kind, but the mask where it isn't masked
abbrev pub is_written : Instr → OperandKind → Bool
is_written i Masked = not i.vm
is_written i kind = true

-- the text of an instruction's operand of each kind. The numbers of a control register and of vtype aren't negative
abbrev pub operand_text : Instr → OperandKind → List ℕ
operand_text i Destination = register_name i.rd
operand_text i FirstSource = register_name i.rs1
operand_text i SecondSource = register_name i.rs2
operand_text i (Signed width) = signed_decimal i.imm
operand_text i (Unsigned width) = signed_decimal i.imm
operand_text i (Target width) = signed_decimal i.imm
operand_text i Address = signed_decimal i.imm ++ codes "(" ++ register_name i.rs1 ++ codes ")"
operand_text i Control = control_text (unsigned_abs i.imm)
operand_text i SourceNumber = decimal i.rs1
operand_text i VectorDestination = vector_name i.rd
operand_text i FirstVector = vector_name i.rs1
operand_text i SecondVector = vector_name i.rs2
operand_text i Base = codes "(" ++ register_name i.rs1 ++ codes ")"
operand_text i (Vtype width) = vtype_text (unsigned_abs i.imm)
operand_text i Masked = codes "v0.t"
operand_text i Carry = codes "v0"
