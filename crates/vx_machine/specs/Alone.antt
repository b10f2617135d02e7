-- An image alone, an instruction at a time, under a budget of instructions. This project's own.
use Rattle.std.specs.Prelude.{◌≡◌, ℕ, ◌<◌, Option, Some, None}
use Rattle.vx_flat.specs.Process.{Process, stepped_on}
use Rattle.vx_machine.specs.Machine.{stop_at}
use Rattle.vx_machine.specs.declared.stop.Stop.{Stop}

-- how a process alone stops, by the instructions that it has completed
abbrev pub stop_alone : (budget : ℕ) → Process → Option Stop
stop_alone budget p = stop_at budget p.count p.over

-- a process that is tested before each step stops so after this many, and not before
pub record StopsAfter (budget : ℕ) (start : Process) (steps : ℕ) (stop : Stop) : Type 0 where
  pub stops : stop_alone budget (stepped_on steps start) ≡ Some stop
  pub first : (k : ℕ) → k < steps → stop_alone budget (stepped_on k start) ≡ None
