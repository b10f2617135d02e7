-- A process by its parts, and after its service. This project's own.
use Rattle.std.specs.Prelude.{ℕ, ℤ, Option, Some, None}
use Rattle.vx_base.specs.Faults.{one_more}
use Rattle.vx_flat.specs.Process.{Process}
use Rattle.vx_flat.specs.State.{Flat}
use Rattle.vx_flat.specs.declared.end.End.{End}
use Rattle.vx_flat.specs.declared.end.End.TheVariants as end

-- the process in a state that has completed so many instructions, and how it ended
abbrev pub process_of : Flat → (count : ℕ) → Option End → Process
process_of s count over = record { state = s; count = count; over = over }

-- the process whose service left this state, with its count, and its end where it exited with a code
abbrev pub settled_service : Option ℤ → Process → Process
settled_service None p = record p { count = one_more p.count }
settled_service (Some code) p = record p { count = one_more p.count; over = Some (end.Exited code) }
