-- What the run of a process alone does. This project's own.
use Rattle.std.specs.Prelude.{◌≡◌, ℕ, ◌<◌, ◌≤◌, None}
use Rattle.vx_flat.specs.Process.{Process, stepped_on}
use Rattle.vx_machine.specs.Alone.{StopsAfter}
use Rattle.vx_machine.specs.declared.stop.Stop.{Stop}

-- the process took steps, no more of them than its budget, and stopped so
pub record RunsAlone (budget : ℕ) (before after : Process) (stop : Stop) : Type 0 where
  pub steps : ℕ
  pub bounded : steps ≤ budget
  pub reached : after ≡ stepped_on steps before
  pub stops : StopsAfter budget before steps stop

-- the process took steps, some but no more than so many, and wasn't over before any of them
pub record GoesOn (most : ℕ) (before after : Process) : Type 0 where
  pub steps : ℕ
  pub some : 0 < steps
  pub bounded : steps ≤ most
  pub reached : after ≡ stepped_on steps before
  pub running : (k : ℕ) → k < steps → (stepped_on k before).over ≡ None
