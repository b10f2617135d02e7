-- Vector loads and stores, done: RISC-V "V" 1.0, sections 3.7 and 7. Their accesses, the crate vx_vector defines; here are the
-- first that fails, and the fold over those below it.
use Rattle.std.specs.Prelude.{ℕ, Bool, true, false, ◌&&◌, nat_lt, List, [], ◌∷◌, Option, Some, None, if◌then◌else◌}
use Rattle.vx_base.specs.declared.machine.Want.{Want}
use Rattle.vx_base.specs.declared.machine.Want.TheVariants.{Load, Store}
use Rattle.vx_decode.specs.declared.instr.Instr.{Instr}
use Rattle.vx_image.specs.Pages.{Memory}
use Rattle.vx_rows.specs.declared.row.Addressing.{Addressing}
use Rattle.vx_rows.specs.declared.row.Addressing.TheVariants.{Unit, FaultOnlyFirst, Whole, MaskBits, Strided, Unordered, Ordered}
use Rattle.vx_rows.specs.declared.row.Eew.{Eew}
use Rattle.vx_vector.specs.Accesses.{Access, Movement, access_list, accesses_between, movement, movement_count, with_loaded, value_stored}
use Rattle.vx_flat.specs.Checks.{cause_of}
use Rattle.vx_flat.specs.Memory.{number_at, put_number}
use Rattle.vx_flat.specs.Outcome.{Outcome, faulted}
use Rattle.vx_flat.specs.Outcome.Outcome.{Next}
use Rattle.vx_flat.specs.State.{Flat, register, at_element, completed}
use Rattle.vx_flat.specs.Vectors.{setting_at}

-- whether registers are loaded from memory, or stored there
pub data Direction : Type 0 where
  Loading : Direction
  Storing : Direction

-- a vector load or store, with what it reads of registers
pub record Transfer : Type 0 where
  pub direction : Direction
  pub movement : Movement

-- the instruction, with this addressing and this encoded width, in a state
abbrev pub transfer : Direction → Addressing → Eew → Flat → Instr → Transfer
transfer direction addressing encoded s i = record {
  direction = direction;
  movement = movement addressing encoded i (setting_at s i) (register s i.rs1) (register s i.rs2) s.v.words;
}

-- ---- an access done

abbrev pub access_done : Direction → Access → Flat → Flat
access_done Loading a s = record s { v = record s.v { words = with_loaded s.v.vlen s.v.words a (number_at s.memory a.address a.width) } }
access_done Storing a s = record s { memory = put_number s.memory a.address a.width (value_stored s.v.vlen s.v.words a) }

-- accesses done, one behind another
abbrev pub accesses_done : Direction → List Access → Flat → Flat
accesses_done direction [] s = s
accesses_done direction (a ∷ accesses) s = accesses_done direction accesses (access_done direction a s)

-- ---- the first access that fails

abbrev pub want_of : Direction → Want
want_of Loading = Load
want_of Storing = Store

-- the cause for which an access fails, where it does
abbrev pub failure_of : Direction → Memory → Access → Option ℕ
failure_of direction memory a = cause_of memory (want_of direction) a.address a.width

pub record Failure : Type 0 where
  pub access : Access
  pub cause : ℕ

-- an access's failure, where it fails, or else a later one's
abbrev pub failure_or : Access → (cause : Option ℕ) → Option Failure → Option Failure
failure_or a (Some cause) later = Some (record { access = a; cause = cause })
failure_or a None later = later

abbrev pub first_failure : Direction → Memory → List Access → Option Failure
first_failure direction memory [] = None
first_failure direction memory (a ∷ accesses) = failure_or a (failure_of direction memory a) (first_failure direction memory accesses)

-- ---- the instruction

-- the elements below k done, and vstart k
abbrev pub below_done : Transfer → (k : ℕ) → Flat → Flat
below_done t k s = at_element k (accesses_done t.direction (accesses_between t.movement 0 k) s)

-- the state with vl cut off at element k
abbrev pub trimmed : (k : ℕ) → Flat → Flat
trimmed k s = record s { v = record s.v { vl = k } }

abbrev pub is_fault_only_first : Addressing → Bool
is_fault_only_first Unit = false
is_fault_only_first FaultOnlyFirst = true
is_fault_only_first Whole = false
is_fault_only_first MaskBits = false
is_fault_only_first Strided = false
is_fault_only_first Unordered = false
is_fault_only_first Ordered = false

-- at an access of element k that fails: the elements below are done, and the instruction faults with vstart k; a
-- fault-only-first load whose k is above 0 completes with vl k
abbrev pub fails_at : Transfer → Flat → (k cause address : ℕ) → Outcome
fails_at t s k cause address =
    if is_fault_only_first t.movement.addressing && nat_lt 0 k then Next (completed (trimmed k (below_done t k s)))
    else faulted (below_done t k s) cause address

-- by the first failure, where there is one
abbrev pub transferred_by : Transfer → Flat → Option Failure → Outcome
transferred_by t s None = Next (completed (below_done t (movement_count t.movement) s))
transferred_by t s (Some f) = fails_at t s f.access.element f.cause f.access.address

abbrev pub transferred : Transfer → Flat → Outcome
transferred t s = transferred_by t s (first_failure t.direction s.memory (access_list t.movement))
