-- What an instruction of vector arithmetic reads: the operands of an element, which elements are active, and the operands as
-- lists. RISC-V "V" 1.0, sections 5 and 10. All is read as it stood when the instruction began.
use Rattle.std.specs.Prelude.{ℕ, ◌*◌, ◌/◌, ◌%◌, ◌^◌, Bool, true, not, ◌==◌, ◌&&◌, ◌||◌, nat_lt, nat_le, List, [], map, if◌then◌else◌}
use Rattle.std.specs.List.{range_with_len}
use Rattle.vx_base.specs.Numbers.{reduced}
use Rattle.vx_rows.specs.Families.{operands_of}
use Rattle.vx_rows.specs.declared.family.Family.{Family}
use Rattle.vx_rows.specs.declared.family.Operand.{Operand}
use Rattle.vx_rows.specs.declared.family.Operand.TheVariants.{Absent, Element, WideElement, Whole1, Whole2, Whole4, Whole8}
use Rattle.vx_rows.specs.declared.row.First.{First}
use Rattle.vx_rows.specs.declared.row.First.TheVariants as first
use Rattle.vx_rows.specs.declared.row.Vm.{Vm}
use Rattle.vx_rows.specs.declared.row.Vm.TheVariants as vm
use Rattle.vx_decode.specs.Groups.{width_of}
use Rattle.vx_vstate.specs.Registers.{element}
use Rattle.vx_vstate.specs.Vtype.{sew, vlmax}
use Rattle.vx_vstate.specs.State.{SettingView}
use Rattle.vx_vector.specs.Lists.{Lists}
use Rattle.vx_vector.specs.Numbers.{Numbers, is_set}
use Rattle.vx_vector.specs.declared.places.Places.{Places}

-- an instruction, with the configuration, the integer register and the vector registers that it reads
pub record Reading : Type 0 where
  pub family : Family
  -- what stands in the place of vs1
  pub first : First
  -- what its row says of bit 25
  pub vm : Vm
  pub at : SettingView
  pub places : Places
  pub words : List ℕ

-- how many whole registers an operand is, where it is so many
abbrev pub whole_registers : Operand → ℕ
whole_registers Whole1 = 1
whole_registers Whole2 = 2
whole_registers Whole4 = 4
whole_registers Whole8 = 8
whole_registers other = 0

module _ (r : Reading) where
  abbrev pub sew_of : ℕ
  sew_of = sew r.at.vtype

  -- the widths of the elements of vd, vs2 and vs1
  abbrev pub destination_width : ℕ
  destination_width = width_of (operands_of r.family).destination sew_of

  abbrev pub vs2_width : ℕ
  vs2_width = width_of (operands_of r.family).vs2 sew_of

  abbrev pub vs1_width : ℕ
  vs1_width = width_of (operands_of r.family).vs1 sew_of

  -- an element of a register
  abbrev pub element_of : (register width index : ℕ) → ℕ
  element_of register width index = element r.at.vlen r.words register width index

  -- bit i of the mask in v0 is set
  abbrev pub mask_bit : ℕ → Bool
  mask_bit i = is_set (element_of 0 1 i)

  -- how many elements an operand has: none, one, as many as whole registers hold, or VLMAX
  abbrev pub count_in : Operand → ℕ
  count_in Absent = 0
  count_in Element = 1
  count_in WideElement = 1
  count_in operand =
      let whole = whole_registers operand in
      if whole == 0 then vlmax r.at.vlen r.at.vtype else whole * r.at.vlen / width_of operand sew_of

  -- how many elements the instruction has: vl, or as many as whole registers hold
  abbrev pub count_of : ℕ
  count_of =
      let destination = (operands_of r.family).destination in
      if whole_registers destination == 0 then r.at.vl else count_in destination

  -- the row's elements aren't masked: bit 25 is 1, or the row reads v0 as an operand
  abbrev pub is_unmasked_by : Vm → Bool
  is_unmasked_by vm.Any = r.places.vm
  is_unmasked_by vm.Zero = true
  is_unmasked_by vm.One = true

  -- element i takes part
  abbrev pub is_active : ℕ → Bool
  is_active i = nat_le r.at.vstart i && nat_lt i count_of && (is_unmasked_by r.vm || mask_bit i)

  -- what stands in the place of vs1 where that is no register of elements, in 64 bits
  abbrev pub number_by : First → ℕ
  number_by first.Vector = 0
  number_by first.Integer = r.at.scalar
  number_by first.Signed = reduced 64 r.places.imm
  number_by first.Unsigned = reduced 64 r.places.imm
  number_by first.Fixed = 0

  -- operand b of element i
  abbrev pub second_by : First → (i : ℕ) → ℕ
  second_by first.Vector i = element_of r.places.vs1 vs1_width i
  second_by other i = number_by other % 2 ^ sew_of

  -- the numbers at element i
  abbrev pub numbers_at : ℕ → Numbers
  numbers_at i = record {
    sew = sew_of;
    mode = r.at.vxrm;
    a = element_of r.places.vs2 vs2_width i;
    b = second_by r.first i;
    d = element_of r.places.vd destination_width i;
    m = not r.places.vm && mask_bit i;
  }

  -- the elements of an operand that begins at a register
  abbrev pub elements_of : Operand → (register : ℕ) → List ℕ
  elements_of operand register = map (element_of register (width_of operand sew_of)) (range_with_len 0 (count_in operand))

  -- those in the place of vs1
  abbrev pub elements_by : First → List ℕ
  elements_by first.Vector = elements_of (operands_of r.family).vs1 r.places.vs1
  elements_by other = []

  -- the operands as lists
  abbrev pub lists_of : Lists
  lists_of = record {
    sew = sew_of;
    vl = r.at.vl;
    vs2 = elements_of (operands_of r.family).vs2 r.places.vs2;
    vs1 = elements_by r.first;
    x = number_by r.first;
    active = map is_active (range_with_len 0 r.at.vl);
  }
