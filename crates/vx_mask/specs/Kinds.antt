-- The families of this crate by their kinds.
use Rattle.std.specs.Prelude.{◌≡◌, ℕ, ◌+◌, Bool, true, false, ◌||◌, ◌&&◌}
use Rattle.vx_rows.specs.declared.family.Family.{Family}
use Rattle.vx_rows.specs.declared.family.Family.TheVariants.{Vredsum, Vredand, Vredor, Vredxor, Vredminu, Vredmin, Vredmaxu, Vredmax, Vwredsumu, Vwredsum, VmvXS, Vcpop, Vfirst, Vmsbf, Vmsof, Vmsif, Viota, Vid, Vmandn, Vmand, Vmor, Vmxor, Vmorn, Vmnand, Vmnor, Vmxnor}
use Rattle.vx_rows.specs.declared.family.Operand.{Operand}
use Rattle.vx_rows.specs.declared.family.Operand.TheVariants.{Single, Element, WideElement}
use Rattle.vx_rows.specs.declared.family.Operands.{Operands}
use Rattle.vx_rows.specs.declared.op.Op.{Op}
use Rattle.vx_rows.specs.declared.op.Op.TheVariants.{Mask}
use Rattle.vx_operands.specs.Forms.{is_vector}
use Rattle.vx_operands.specs.declared.form.Form.{Form}

-- an operation of this crate
abbrev pub is_mask : Op → Bool
is_mask (Mask op) = true
is_mask other = false

-- mask logic
abbrev pub is_logic : Family → Bool
is_logic Vmandn = true
is_logic Vmand = true
is_logic Vmor = true
is_logic Vmxor = true
is_logic Vmorn = true
is_logic Vmnand = true
is_logic Vmnor = true
is_logic Vmxnor = true
is_logic other = false

-- a mask of the bits before, up to or at the first mark
abbrev pub is_span : Family → Bool
is_span Vmsbf = true
is_span Vmsof = true
is_span Vmsif = true
is_span other = false

-- reductions at SEW, and at twice SEW
abbrev pub is_even_reduction : Family → Bool
is_even_reduction Vredsum = true
is_even_reduction Vredand = true
is_even_reduction Vredor = true
is_even_reduction Vredxor = true
is_even_reduction Vredminu = true
is_even_reduction Vredmin = true
is_even_reduction Vredmaxu = true
is_even_reduction Vredmax = true
is_even_reduction other = false

abbrev pub is_wide_reduction : Family → Bool
is_wide_reduction Vwredsumu = true
is_wide_reduction Vwredsum = true
is_wide_reduction other = false

-- counts of marks, and indices, as elements
abbrev pub is_index : Family → Bool
is_index Viota = true
is_index Vid = true
is_index other = false

-- an integer register is told something
abbrev pub is_telling : Family → Bool
is_telling VmvXS = true
is_telling Vcpop = true
is_telling Vfirst = true
is_telling other = false

-- a register stands in the place of vs1
abbrev pub has_two : Family → Bool
has_two f = is_logic f || is_even_reduction f || is_wide_reduction f

-- a form that a row of this crate has
abbrev pub is_mask_form : Form → Bool
is_mask_form form =
    (is_span form.family || is_index form.family || is_telling form.family) || (has_two form.family && is_vector form.first)

-- from which element on and below which the bits are set, by the index of the first mark
abbrev pub spans_from : Family → (first : ℕ) → ℕ
spans_from Vmsof first = first
spans_from other first = 0

abbrev pub spans_to : Family → (first : ℕ) → ℕ
spans_to Vmsbf first = first
spans_to other first = first + 1

-- element 0 of the destination is one of as many bits as that of vs1, and those of vs2 have SEW
abbrev pub is_element : Operand → Bool
is_element Element = true
is_element WideElement = true
is_element other = false

pub record AreReduced (o : Operands) : Type 0 where
  pub destination : is_element o.destination ≡ true
  pub vs2 : o.vs2 ≡ Single
  pub vs1 : o.vs1 ≡ o.destination
