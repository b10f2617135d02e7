-- Look-ups that lead to a walk, and pages that are found in frames. This project's own.
use Rattle.std.specs.Prelude.{ℕ, ◌<◌, Bool, true, false}
use Rattle.vx_tables.specs.declared.look.Look.{Look}
use Rattle.vx_tables.specs.declared.look.Look.TheVariants.{Hit, Denied, Miss}

-- a look-up that leads to a walk
abbrev pub is_miss : Look → Bool
is_miss (Hit frame) = false
is_miss Denied = false
is_miss Miss = true

-- a page that is found is in one of so many frames
abbrev pub IsHitBelow : (frames : ℕ) → Look → Type 0
IsHitBelow frames (Hit frame) = frame < frames
IsHitBelow frames Denied = Unit {0}
IsHitBelow frames Miss = Unit {0}
