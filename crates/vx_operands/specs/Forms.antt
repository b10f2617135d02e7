-- What the table of rows says of an operation of vector arithmetic, and the reading of an instruction with it.
use Rattle.std.specs.Prelude.{ℕ, Bool, true, false, List}
use Rattle.vx_rows.specs.Table.{class_of, shape_of}
use Rattle.vx_rows.specs.declared.family.Family.{Family}
use Rattle.vx_rows.specs.declared.family.Family.TheVariants.{Vadd}
use Rattle.vx_rows.specs.declared.op.Op.{Op}
use Rattle.vx_rows.specs.declared.row.Class.{Class}
use Rattle.vx_rows.specs.declared.row.Class.TheVariants.{VectorArithmetic}
use Rattle.vx_rows.specs.declared.row.First.{First}
use Rattle.vx_rows.specs.declared.row.First.TheVariants as first
use Rattle.vx_rows.specs.declared.row.Shape.{Shape}
use Rattle.vx_rows.specs.declared.row.Shape.TheVariants.{Vector}
use Rattle.vx_rows.specs.declared.row.Vm.{Vm}
use Rattle.vx_rows.specs.declared.row.Vm.TheVariants as vm
use Rattle.vx_vstate.specs.State.{SettingView}
use Rattle.vx_vector.specs.Reading.{Reading, is_unmasked_by, second_by}
use Rattle.vx_vector.specs.declared.places.Places.{Places}
use Rattle.vx_operands.specs.declared.form.Form.{Form}

-- the family of a row of vector arithmetic; of any other row nothing is asked
abbrev pub family_in : Class → Family
family_in (VectorArithmetic family) = family
family_in other = Vadd

-- what stands in the place of vs1, and what bit 25 is for
abbrev pub first_in : Shape → First
first_in (Vector first second vm) = first
first_in other = first.Fixed

-- a register stands in the place of vs1
abbrev pub is_vector : First → Bool
is_vector first.Vector = true
is_vector other = false

abbrev pub vm_in : Shape → Vm
vm_in (Vector first second vm) = vm
vm_in other = vm.Any

abbrev pub form_of : Op → Form
form_of op = record { family = family_in (class_of op); first = first_in (shape_of op); vm = vm_in (shape_of op) }

-- an instruction of a form reads this
abbrev pub reading : Form → SettingView → Places → (words : List ℕ) → Reading
reading form at places words = record { family = form.family; first = form.first; vm = form.vm; at = at; places = places; words = words }

-- the instruction's elements aren't masked, and operand b of element i
abbrev pub is_unmasked : Reading → Bool
is_unmasked r = is_unmasked_by r r.vm

abbrev pub second_operand : Reading → (i : ℕ) → ℕ
second_operand r i = second_by r r.first i
