-- What a step of the flat machine leads to. This project's own.
use Rattle.std.specs.Prelude.{ℕ, ℤ}
use Rattle.vx_base.specs.declared.machine.Fault.{Fault}
use Rattle.vx_flat.specs.State.{Flat}

-- the next state, or the end of the process
pub data Outcome : Type 0 where
  Next : (s : Flat) → Outcome
  Exited : (code : ℤ) → Outcome
  -- the instruction faulted, and left this state
  Faulted : (fault : Fault) (s : Flat) → Outcome

-- the instruction faulted, and left the state; a fault tells its vstart
abbrev pub faulted : Flat → (cause tval : ℕ) → Outcome
faulted s cause tval = Faulted (record { cause = cause; tval = tval; vstart = s.v.vstart }) s
