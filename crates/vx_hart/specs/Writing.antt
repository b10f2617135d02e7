-- What a service sees of a state, and what it leads to. This project's own.
use Rattle.std.specs.Prelude.{ℕ, ℤ, List, [], Option, Some, None}
use Rattle.vx_image.specs.Pages.{Memory}
use Rattle.vx_vstate.specs.State.{first_state}
use Rattle.vx_flat.specs.Outcome.{Outcome}
use Rattle.vx_flat.specs.Outcome.Outcome.{Next, Exited}
use Rattle.vx_flat.specs.State.{Flat}

-- a state with this memory, in which this was written so far; a write sees no more of it
abbrev pub state_with : Memory → List ℕ → Flat
state_with memory output = record { pc = 0; x = []; v = first_state 0; memory = memory; output = output }

-- what a service that left a state led to: it exited with a code, or the process goes on
abbrev pub served : Option ℤ → Flat → Outcome
served None s = Next s
served (Some code) s = Exited code
