-- What vector loads and stores leave that go from element to element, and where they stop. This project's own.
use Rattle.std.specs.Prelude.{◌≡◌, ℕ, ◌<◌, ◌&&◌, nat_lt, List, Option, Some, None, IfSome, fold, option_map, if◌then◌else◌}
use Rattle.vx_image.specs.Pages.{Memory}
use Rattle.vx_flat.specs.Memory.{number_at, put_number}
use Rattle.vx_flat.specs.Outcome.{Outcome, faulted}
use Rattle.vx_flat.specs.Outcome.Outcome.{Next}
use Rattle.vx_flat.specs.State.{Flat, at_element, completed}
use Rattle.vx_flat.specs.Transfers.{Direction, Failure, Transfer, accesses_done, first_failure, is_fault_only_first, trimmed}
use Rattle.vx_rows.specs.declared.row.Addressing.{Addressing}
use Rattle.vx_vaddr.specs.Items.{access_of_item}
use Rattle.vx_vaddr.specs.Views.{movement_with}
use Rattle.vx_vaddr.specs.declared.pattern.AccessPattern.{AccessPattern}
use Rattle.vx_vector.specs.Accesses.{Access, Movement, accesses_between, value_stored}
use Rattle.vx_vector.specs.Movements.{IsSoundMovement, after_loads}
use Rattle.vx_vstate.specs.State.{VectorState, setting_of}
use Rattle.vx_vstate.specs.Views.{view_of}
use Rattle.vx_vstate.specs.declared.setting.Setting.{Setting}
use Rattle.vx_hart.specs.declared.failures.Failed.{Failed}

-- an access that fails, as the definitions have it
abbrev pub failure_from : Failed → Failure
failure_from f = record { access = access_of_item f.item; cause = f.cause }

-- where it stops: at the element of the access that fails, or behind the last
abbrev pub stop_of : (count : ℕ) → Option Failed → ℕ
stop_of count None = count
stop_of count (Some f) = f.item.element

-- what an access loads
abbrev pub number_loaded : Memory → Access → ℕ
number_loaded memory a = number_at memory a.address a.width

-- the vector state after accesses, one behind another, that loaded what the memory holds
abbrev pub after_loading : Memory → VectorState → List Access → VectorState
after_loading memory v accesses = record v { words = after_loads v.vlen (number_loaded memory) v.words accesses }

-- the memory after accesses, one behind another, that stored what the words of the registers hold
abbrev pub after_stores : (vlen : ℕ) → (words : List ℕ) → Memory → List Access → Memory
after_stores vlen words memory accesses = fold (λ (m : Memory) (a : Access). put_number m a.address a.width (value_stored vlen words a)) memory accesses

-- ---- the end of the instruction

-- what it leads to from the state with the elements below its stop done
abbrev pub stopped : Addressing → Flat → Option Failed → Outcome
stopped addressing s None = Next (completed s)
stopped addressing s (Some f) =
    if is_fault_only_first addressing && nat_lt 0 f.item.element then Next (completed (trimmed f.item.element s))
    else faulted (at_element f.item.element s) f.cause f.item.address

-- the transfer of a pattern of accesses in a state of the vectors
abbrev pub transfer_with : Direction → AccessPattern → VectorState → Transfer
transfer_with direction pattern v = record { direction = direction; movement = movement_with pattern v.words }

-- a pattern of accesses and a setting are those of a sound movement in a state of the vectors
pub record Moves (v : VectorState) (pattern : AccessPattern) (at : Setting) : Type 0 where
  pub here : view_of at ≡ setting_of v at.scalar
  pub setting : (movement_with pattern v.words).at ≡ view_of at
  pub sound : IsSoundMovement (movement_with pattern v.words)

-- a state has done the elements of a movement that are below an end and below its stop
pub record HasMoved (direction : Direction) (m : Movement) (end : ℕ) (old new : Flat) (failed : Option Failed) : Type 0 where
  pub failure : option_map failure_from failed ≡ first_failure direction old.memory (accesses_between m 0 end)
  pub among : IfSome failed (λ (f : Failed). f.item.element < end)
  pub done : new ≡ accesses_done direction (accesses_between m 0 (stop_of end failed)) old
