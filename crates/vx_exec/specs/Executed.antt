-- The instructions of vector arithmetic, as they are executed: RISC-V "V" 1.0, sections 10 to 16.
use Rattle.std.specs.Prelude.{◌≡◌, ℕ, Bool, true, false, IsTrue, List}
use Rattle.vx_decode.specs.Encoded.{IsValid}
use Rattle.vx_decode.specs.Legal.{is_illegal}
use Rattle.vx_decode.specs.declared.instr.Instr.{Instr}
use Rattle.vx_operands.specs.Forms.{form_of, reading}
use Rattle.vx_rows.specs.declared.op.Op.{Op}
use Rattle.vx_rows.specs.declared.op.Op.TheVariants.{Scalar, Set, Elem, Widen, Fixed, Mask, Perm, Memory}
use Rattle.vx_vector.specs.Instructions.{places_of}
use Rattle.vx_vector.specs.Reading.{Reading}
use Rattle.vx_vstate.specs.State.{SettingView}

-- an operation of vector arithmetic
abbrev pub is_arithmetic : Op → Bool
is_arithmetic (Scalar op) = false
is_arithmetic (Set op) = false
is_arithmetic (Elem op) = true
is_arithmetic (Widen op) = true
is_arithmetic (Fixed op) = true
is_arithmetic (Mask op) = true
is_arithmetic (Perm op) = true
is_arithmetic (Memory op) = false

-- an instruction of vector arithmetic, legal under a setting
pub record IsExecutable (i : Instr) (at : SettingView) : Type 0 where
  pub valid : IsValid i
  pub arithmetic : IsTrue (is_arithmetic i.op)
  pub legal : is_illegal i at ≡ false

-- what it reads
abbrev pub reads : Instr → SettingView → (words : List ℕ) → Reading
reads i at words = reading (form_of i.op) at (places_of i) words
