-- What has been looked at can be read.
use Rattle.std.proofs.Common.{◌≡◌, ℕ, ◌-◌, ◌≤◌, List, true}
use Rattle.vx_base.specs.declared.machine.Want.TheVariants.{Load}
use Rattle.vx_flat.specs.Memory.{all_permit}
use Rattle.vx_paged.specs.Framed.{shown}
use Rattle.vx_paged.proofs.paged.all_readable.Given as goal

abbrev pub invariant-loop-done : goal.invariant-loop-done
invariant-loop-done l = record { within : l.done ≤ l.count; readable : (contents : List ℕ) → all_permit (shown l.pages contents) l.address l.done Load ≡ true }

abbrev pub decreases-loop-done : goal.decreases-loop-done
decreases-loop-done l = l.count - l.done
