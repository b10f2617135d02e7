-- The families of this crate by their kinds.
use Rattle.std.specs.Prelude.{Bool, true, false, ◌||◌}
use Rattle.vx_rows.specs.declared.family.Family.{Family}
use Rattle.vx_rows.specs.declared.family.Family.TheVariants.{Vsaddu, Vsadd, Vssubu, Vssub, Vaaddu, Vaadd, Vasubu, Vasub, Vsmul, Vssrl, Vssra, Vnclipu, Vnclip}
use Rattle.vx_rows.specs.declared.op.Op.{Op}
use Rattle.vx_rows.specs.declared.op.Op.TheVariants.{Fixed}

-- an operation of this crate
abbrev pub is_fixed_point : Op → Bool
is_fixed_point (Fixed op) = true
is_fixed_point other = false

-- all operands have elements of SEW
abbrev pub is_even_family : Family → Bool
is_even_family Vsaddu = true
is_even_family Vsadd = true
is_even_family Vssubu = true
is_even_family Vssub = true
is_even_family Vaaddu = true
is_even_family Vaadd = true
is_even_family Vasubu = true
is_even_family Vasub = true
is_even_family Vsmul = true
is_even_family Vssrl = true
is_even_family Vssra = true
is_even_family other = false

-- clips of elements of twice SEW
abbrev pub clips : Family → Bool
clips Vnclipu = true
clips Vnclip = true
clips other = false

-- a family of this crate
abbrev pub is_fixed_family : Family → Bool
is_fixed_family f = clips f || is_even_family f
