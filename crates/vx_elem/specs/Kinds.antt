-- The families of this crate by their kinds.
use Rattle.std.specs.Prelude.{Bool, true, false, ◌||◌, ◌&&◌}
use Rattle.vx_rows.specs.declared.family.Family.{Family}
use Rattle.vx_rows.specs.declared.family.Family.TheVariants.{Vadd, Vsub, Vrsub, Vminu, Vmin, Vmaxu, Vmax, Vand, Vor, Vxor, Vmerge, Vsll, Vsrl, Vsra, Vmul, Vmulh, Vmulhu, Vmulhsu, Vmadd, Vnmsub, Vmacc, Vnmsac, Vdivu, Vdiv, Vremu, Vrem, VmvV, Vmv1r, Vmv2r, Vmv4r, Vmv8r, VzextVf8, VsextVf8, VzextVf4, VsextVf4, VzextVf2, VsextVf2}
use Rattle.vx_rows.specs.declared.op.Op.{Op}
use Rattle.vx_rows.specs.declared.op.Op.TheVariants.{Elem}
use Rattle.vx_rows.specs.declared.row.First.{First}
use Rattle.vx_rows.specs.declared.row.First.TheVariants.{Fixed}
use Rattle.vx_rows.specs.declared.row.Vm.{Vm}
use Rattle.vx_rows.specs.declared.row.Vm.TheVariants.{One}
use Rattle.vx_operands.specs.declared.form.Form.{Form}

-- an operation of this crate
abbrev pub is_elem : Op → Bool
is_elem (Elem op) = true
is_elem other = false

abbrev pub is_sum : Family → Bool
is_sum Vadd = true
is_sum Vsub = true
is_sum Vrsub = true
is_sum Vminu = true
is_sum Vmin = true
is_sum Vmaxu = true
is_sum Vmax = true
is_sum other = false

abbrev pub is_bitwise : Family → Bool
is_bitwise Vand = true
is_bitwise Vor = true
is_bitwise Vxor = true
is_bitwise Vmerge = true
is_bitwise Vsll = true
is_bitwise Vsrl = true
is_bitwise Vsra = true
is_bitwise other = false

abbrev pub is_product : Family → Bool
is_product Vmul = true
is_product Vmulh = true
is_product Vmulhu = true
is_product Vmulhsu = true
is_product Vmadd = true
is_product Vnmsub = true
is_product Vmacc = true
is_product Vnmsac = true
is_product other = false

abbrev pub is_quotient : Family → Bool
is_quotient Vdivu = true
is_quotient Vdiv = true
is_quotient Vremu = true
is_quotient Vrem = true
is_quotient other = false

abbrev pub is_move : Family → Bool
is_move VmvV = true
is_move other = false

abbrev pub is_copy : Family → Bool
is_copy Vmv1r = true
is_copy Vmv2r = true
is_copy Vmv4r = true
is_copy Vmv8r = true
is_copy other = false

abbrev pub is_extension : Family → Bool
is_extension VzextVf8 = true
is_extension VsextVf8 = true
is_extension VzextVf4 = true
is_extension VsextVf4 = true
is_extension VzextVf2 = true
is_extension VsextVf2 = true
is_extension other = false

-- all operands have elements of SEW
abbrev pub is_plain : Family → Bool
is_plain f = is_sum f || is_bitwise f || is_product f || is_quotient f

abbrev pub is_one : Vm → Bool
is_one One = true
is_one other = false

abbrev pub is_fixed : First → Bool
is_fixed Fixed = true
is_fixed other = false

-- a form that a row of this crate has where not all operands have elements of SEW: vmv.v, whole registers, extensions
abbrev pub is_other : Family → First → Vm → Bool
is_other f first vm = is_move f || (is_copy f && is_one vm) || (is_extension f && is_fixed first)

-- a form that a row of this crate has
abbrev pub is_elem_form : Form → Bool
is_elem_form form = is_plain form.family || is_other form.family form.first form.vm
