-- The check of an access to memory: the causes of RISC-V Privileged 1.12, section 4.1.8; that a misaligned access fails,
-- whatever its page grants, is this project's own choice.
use Rattle.std.specs.Prelude.{ℕ, ◌%◌, not, ◌==◌, Option, Some, None, if◌then◌else◌}
use Rattle.vx_base.specs.declared.machine.Want.{Want}
use Rattle.vx_base.specs.declared.machine.Want.TheVariants.{Fetch, Load, Store}
use Rattle.vx_image.specs.Pages.{Memory, permits}
use Rattle.vx_flat.specs.Outcome.{Outcome, faulted}
use Rattle.vx_flat.specs.Outcome.Outcome.{Next}
use Rattle.vx_flat.specs.State.{Flat}

abbrev pub misaligned : Want → ℕ
misaligned Fetch = 0
misaligned Load = 4
misaligned Store = 6

abbrev pub page_fault : Want → ℕ
page_fault Fetch = 12
page_fault Load = 13
page_fault Store = 15

-- the cause for which an access fails, where it does: its address is no multiple of its width; or else its page doesn't let it
-- through
abbrev pub cause_of : Memory → Want → (address width : ℕ) → Option ℕ
cause_of memory want address width =
    if not (address % width == 0) then Some (misaligned want)
    else if not (permits memory address want) then Some (page_fault want)
    else None

-- what an access to an address leads to, where it fails for a cause, and where it leaves a state
abbrev pub checked : Option ℕ → Flat → (address : ℕ) → (done : Flat) → Outcome
checked None s address done = Next done
checked (Some cause) s address done = faulted s cause address
