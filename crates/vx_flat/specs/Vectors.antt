-- An instruction of vector arithmetic, done: RISC-V "V" 1.0, sections 3.7, 3.9, 5.4 and 10 to 16. What it computes, the crate
-- vx_vector defines; here is which operands it is given, and what it leaves.
use Rattle.std.specs.Prelude.{ℕ, List, Option, Some, None}
use Rattle.vx_decode.specs.declared.instr.Instr.{Instr}
use Rattle.vx_vector.specs.Arithmetic.{words_after, saturates, told}
use Rattle.vx_vector.specs.Instructions.{places_of, reading_of}
use Rattle.vx_vector.specs.Reading.{Reading}
use Rattle.vx_vstate.specs.State.{SettingView, setting_of, finished}
use Rattle.vx_flat.specs.State.{Flat, register, with_register, following}

-- the vector state as an instruction sees it, with the number in rs1
abbrev pub setting_at : Flat → Instr → SettingView
setting_at s i = setting_of s.v (register s i.rs1)

-- what an instruction reads, where it is one of vector arithmetic
abbrev pub reading_at : Flat → Instr → Option Reading
reading_at s i = reading_of i.op (setting_at s i) (places_of i) s.v.words

-- the registers with what is put into rd, where something is
abbrev pub with_told : List ℕ → (rd : ℕ) → Option ℕ → List ℕ
with_told x rd None = x
with_told x rd (Some value) = with_register x rd value

-- the state after an instruction that reads this: its words and rd are written, vxsat is joined, and vstart is 0
abbrev pub calculated : Flat → (rd : ℕ) → Reading → Flat
calculated s rd r = record s {
  pc = following s;
  x = with_told s.x rd (told r);
  v = finished (record s.v { words = words_after r }) 0 (saturates r);
}
