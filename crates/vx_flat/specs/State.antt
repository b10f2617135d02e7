-- The state of the flat machine: RISC-V Unprivileged ISA 20191213, section 2.1 (registers and pc), and RISC-V "V" 1.0, section
-- 3 (the vector state). What a process has written is this project's own.
use Rattle.std.specs.Prelude.{ℕ, ◌==◌, List, if◌then◌else◌, slice_index, slice_set}
use Rattle.vx_image.specs.Pages.{Memory}
use Rattle.vx_vstate.specs.State.{VectorState}
use Rattle.vx_flat.specs.Scalar.{next_pc}

pub record Flat : Type 0 where
  pub pc : ℕ
  -- x0 to x31, of which x0 is 0
  pub x : List ℕ
  pub v : VectorState
  pub memory : Memory
  -- what was written so far
  pub output : List ℕ

abbrev pub register : Flat → ℕ → ℕ
register s r = slice_index s.x r

-- the registers with rd set; x0 stays 0
abbrev pub with_register : List ℕ → ℕ → ℕ → List ℕ
with_register x rd value = if rd == 0 then x else slice_set x rd value

-- the pc of the instruction that follows
abbrev pub following : Flat → ℕ
following s = next_pc s.pc

-- the state with vstart set
abbrev pub at_element : (k : ℕ) → Flat → Flat
at_element k s = record s { v = record s.v { vstart = k } }

-- a vector instruction has completed: vstart is 0, and the pc moves on
abbrev pub completed : Flat → Flat
completed s = record s { pc = following s; v = record s.v { vstart = 0 } }
