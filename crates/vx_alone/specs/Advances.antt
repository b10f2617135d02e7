-- A process that takes steps as long as it goes on and asks for no service. This project's own.
use Rattle.std.specs.Prelude.{◌≡◌, ℕ, ◌<◌, ◌≤◌, Bool, true, false, None}
use Rattle.vx_flat.specs.Process.{Process, stepped_on}
use Rattle.vx_flat.specs.Step.{upcoming}
use Rattle.vx_hart.specs.Asking.{is_service}

-- it isn't over, and what comes next asks for a service, or doesn't
pub record IsBefore (p : Process) (asks : Bool) : Type 0 where
  pub running : p.over ≡ None
  pub service : is_service (upcoming p.state) ≡ asks

-- it took steps, up to most, and before each went on and asked for no service; at the end it asks, or it doesn't take steps
-- any more: it is over, or has taken most
pub record Advances (most : ℕ) (before now : Process) (asks : Bool) : Type 0 where
  pub steps : ℕ
  pub bounded : steps ≤ most
  pub reached : now ≡ stepped_on steps before
  pub going : (k : ℕ) → k < steps → IsBefore (stepped_on k before) false
  pub early : asks ≡ true → steps < most
  pub asking : asks ≡ true → IsBefore now true
  pub stopped : asks ≡ false → now.over ≡ None → steps ≡ most
