-- What the fates of a program mean. This project's own.
use Rattle.std.specs.Prelude.{ℕ, ◌≤◌, List, All}
use Rattle.vx_episode.specs.Batches.{Fate}
use Rattle.vx_episode.specs.Batches.Fate.{Good, Fails, Unknown}
use Rattle.vx_serve.specs.declared.fate.Fate.{Fate as Known}
use Rattle.vx_serve.specs.declared.fate.Fate.TheVariants as known

-- a fate, as the equations have it
abbrev pub told : Known → Fate
told (known.Good cycle word) = Good cycle word
told (known.Fails cycle is_away) = Fails cycle is_away
told known.Unknown = Unknown

-- what is known of an access is known by a cycle
abbrev pub IsKnownBy : (last : ℕ) → Known → Type 0
IsKnownBy last (known.Good cycle word) = cycle ≤ last
IsKnownBy last (known.Fails cycle is_away) = cycle ≤ last
IsKnownBy last known.Unknown = Unit {0}

abbrev pub AreKnownBy : (last : ℕ) → List Known → Type 0
AreKnownBy last fates = All (IsKnownBy last) fates
