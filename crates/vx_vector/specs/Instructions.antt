-- What an instruction of vector arithmetic reads, and when it is legal, of its operation and its operands' places.
use Rattle.std.specs.Prelude.{◌≡◌, ℕ, ◌<◌, false, List, Option, Some, None}
use Rattle.vx_decode.specs.Legal.{is_illegal}
use Rattle.vx_decode.specs.declared.instr.Instr.{Instr}
use Rattle.vx_rows.specs.Table.{class_of, shape_of}
use Rattle.vx_rows.specs.declared.op.Op.{Op}
use Rattle.vx_rows.specs.declared.row.Class.{Class}
use Rattle.vx_rows.specs.declared.row.Class.TheVariants.{VectorArithmetic}
use Rattle.vx_rows.specs.declared.row.Shape.{Shape}
use Rattle.vx_rows.specs.declared.row.Shape.TheVariants.{Vector}
use Rattle.vx_vstate.specs.State.{SettingView, IsSetting}
use Rattle.vx_vector.specs.Reading.{Reading}
use Rattle.vx_vector.specs.declared.places.Places.{Places}

-- what a row of a class and a shape reads, where it is one of vector arithmetic
abbrev pub reading_as : Class → Shape → SettingView → Places → (words : List ℕ) → Option Reading
reading_as (VectorArithmetic family) (Vector first second vm) at places words =
    Some (record { family = family; first = first; vm = vm; at = at; places = places; words = words })
reading_as class shape at places words = None

abbrev pub reading_of : Op → SettingView → Places → (words : List ℕ) → Option Reading
reading_of op at places words = reading_as (class_of op) (shape_of op) at places words

-- where an instruction has its operands
abbrev pub places_of : Instr → Places
places_of i = record { vd = i.rd; vs1 = i.rs1; vs2 = i.rs2; vm = i.vm; imm = i.imm }

-- the instruction of an operation with its operands at these places
abbrev pub instr_at : Op → Places → Instr
instr_at op places = record { op = op; rd = places.vd; rs1 = places.vs1; rs2 = places.vs2; imm = places.imm; vm = places.vm; nf = 0 }

-- the instruction is legal under a setting
pub record IsLegal (op : Op) (at : SettingView) (places : Places) : Type 0 where
  pub setting : IsSetting at
  pub vd : places.vd < 32
  pub vs1 : places.vs1 < 32
  pub vs2 : places.vs2 < 32
  pub legal : is_illegal (instr_at op places) at ≡ false
