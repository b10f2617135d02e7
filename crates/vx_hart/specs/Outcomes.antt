-- The state that registers and memory are, and what an instruction led to. This project's own.
use Rattle.std.specs.Prelude.{ℕ, List, Option, Some, None, if◌then◌else◌}
use Rattle.vx_base.specs.declared.machine.Fault.{Fault}
use Rattle.vx_decode.specs.declared.instr.Instr.{Instr}
use Rattle.vx_image.specs.Pages.{Memory}
use Rattle.vx_flat.specs.Outcome.{Outcome}
use Rattle.vx_flat.specs.Outcome.Outcome.{Next, Faulted}
use Rattle.vx_flat.specs.State.{Flat}
use Rattle.vx_flat.specs.Step.{performed, performed_as}
use Rattle.vx_flat.specs.declared.upcoming.Upcoming.{Upcoming}
use Rattle.vx_rows.specs.declared.row.Class.{Class}
use Rattle.vx_hart.specs.Asking.{is_service, is_service_class}
use Rattle.vx_hart.specs.declared.arch.Arch.{Arch}
use Rattle.vx_hart.specs.declared.progress.Progress.{Progress}
use Rattle.vx_hart.specs.declared.progress.Progress.TheVariants as progress

-- the state of a hart's registers and a memory, in which this was written so far
abbrev pub flat_of : Arch → Memory → (output : List ℕ) → Flat
flat_of arch memory output = record { pc = arch.pc; x = arch.regs.x; v = arch.v; memory = memory; output = output }

-- what an instruction that left a state and this fault led to, unless it asks for a service
abbrev pub outcome_of : Progress → Fault → Flat → Option Outcome
outcome_of progress.Completed fault s = Some (Next s)
outcome_of progress.Asks fault s = None
outcome_of progress.Faulted fault s = Some (Faulted fault s)

-- what comes next, done, unless it asks for a service
abbrev pub outcome_next : Flat → Upcoming → Option Outcome
outcome_next s next = if is_service next then None else Some (performed s next)

-- an instruction of a class done, unless it asks for a service
abbrev pub outcome_as : Class → Flat → Instr → Option Outcome
outcome_as c s i = if is_service_class c then None else Some (performed_as c s i)
