-- The vector control registers, one line each: number, name, what is read, and which bits are kept of what is written.
-- RISC-V "V" 1.0, sections 3 to 3.10; vstart keeps the low bits that number the bits of a register, log2 of VLEN of them.
use Rattle.std.specs.Prelude.{ℕ, ◌+◌, ◌*◌, ◌/◌, ◌%◌, ◌==◌, Option, Some, None, option_map, option_and_then, if◌then◌else◌}
use Rattle.vx_base.specs.Numbers.{truth}
use Rattle.vx_vstate.specs.State.{VectorState}

pub data Control : Type 0 where
  Vstart : Control
  Vxsat : Control
  Vxrm : Control
  Vcsr : Control
  Vl : Control
  Vtype : Control
  Vlenb : Control

-- the control register of a number
abbrev pub control_of : (number : ℕ) → Option Control
control_of number =
    if number == 0x008 then Some Vstart else
    if number == 0x009 then Some Vxsat else
    if number == 0x00a then Some Vxrm else
    if number == 0x00f then Some Vcsr else
    if number == 0xc20 then Some Vl else
    if number == 0xc21 then Some Vtype else
    if number == 0xc22 then Some Vlenb else
    None

abbrev pub value_of : Control → VectorState → ℕ
value_of Vstart s = s.vstart
value_of Vxsat s = truth s.vxsat
value_of Vxrm s = s.vxrm
value_of Vcsr s = 2 * s.vxrm + truth s.vxsat
value_of Vl s = s.vl
value_of Vtype s = s.vtype
-- the bytes of a register
value_of Vlenb s = s.vlen / 8

-- the state with a value written to a control register, where it may be written
abbrev pub written_to : Control → VectorState → (value : ℕ) → Option VectorState
written_to Vstart s value = Some (record s { vstart = value % s.vlen })
written_to Vxsat s value = Some (record s { vxsat = value % 2 == 1 })
written_to Vxrm s value = Some (record s { vxrm = value % 4 })
written_to Vcsr s value = Some (record s { vxsat = value % 2 == 1; vxrm = value / 2 % 4 })
written_to Vl s value = None
written_to Vtype s value = None
written_to Vlenb s value = None

-- what the control register of a number reads, and the state with it written, where there is one that may be
abbrev pub control_read : VectorState → (number : ℕ) → Option ℕ
control_read s number = option_map (λ (c : Control). value_of c s) (control_of number)

abbrev pub control_written : VectorState → (number value : ℕ) → Option VectorState
control_written s number value = option_and_then (λ (c : Control). written_to c s value) (control_of number)
