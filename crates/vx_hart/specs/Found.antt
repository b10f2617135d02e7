-- What stands at the pc. This project's own.
use Rattle.std.specs.Prelude.{Some, None}
use Rattle.vx_decode.specs.Encoded.{IsValid}
use Rattle.vx_flat.specs.State.{Flat}
use Rattle.vx_flat.specs.Step.{meaning}
use Rattle.vx_flat.specs.declared.upcoming.Upcoming.{Upcoming}
use Rattle.vx_flat.specs.declared.upcoming.Upcoming.TheVariants as upcoming
use Rattle.vx_hart.specs.declared.finding.Found.{Found}
use Rattle.vx_hart.specs.declared.finding.Found.TheVariants.{Denied, Unknown, Known}

-- what comes next in a state at whose pc this stands
abbrev pub next_of : Flat → Found → Upcoming
next_of s Denied = upcoming.Denied
next_of s (Unknown word) = meaning s word None
next_of s (Known word known) = meaning s word (Some known.now.instr)

-- an instruction that stands there is valid
abbrev pub IsValidFound : Found → Type 0
IsValidFound Denied = Unit {0}
IsValidFound (Unknown word) = Unit {0}
IsValidFound (Known word known) = IsValid known.now.instr
