-- What a batch of accesses comes to. This project's own.
use Rattle.std.specs.Prelude.{◌≡◌, ℕ, ◌+◌, false, List, [], ◌∷◌, ◌++◌, length, map, Option, Some, None, if◌then◌else◌}
use Rattle.vx_episode.specs.Batches.{Fate, is_failing, fails_away, judged, queue_of, served_in_turn, never_queued}
use Rattle.vx_episode.specs.Episode.{greatest}
use Rattle.vx_episode.specs.Footprint.{Access}
use Rattle.vx_episode.specs.History.{AccessTimes}
use Rattle.vx_episode.specs.Organisation.{Organisation}
use Rattle.vx_serve.specs.Stamps.{BankStamps, StandsFor}
use Rattle.vx_serve.specs.declared.served.Failing.{Failing}
use Rattle.vx_serve.specs.declared.served.Served.{Served}

-- the accesses of a batch that are served, behind those that were served before it; the last first
abbrev pub served_of : Organisation → (earlier : List AccessTimes) → (Access → Fate) → List Access → List AccessTimes
served_of machine earlier fate accesses = served_in_turn machine earlier [] (queue_of (judged fate [] accesses))

abbrev pub done_by : List AccessTimes → ℕ
done_by accesses = greatest (map (λ (a : AccessTimes). a.done) accesses)

-- the first of these that fails, numbered from a number on
abbrev pub failing_from : (number : ℕ) → List Fate → Option Failing
failing_from number [] = None
failing_from number (f ∷ fates) = if is_failing f then Some (record { number = number; is_away = fails_away f }) else failing_from (number + 1) fates

-- a batch was served, its accesses of these fates, and told what it comes to
pub record Serves (now : BankStamps) (machine : Organisation) (earlier : List AccessTimes) (fate : Access → Fate) (accesses : List Access) (served : Served) : Type 0 where
  pub stands : StandsFor now machine (served_of machine earlier fate accesses ++ earlier)
  pub done : served.done ≡ done_by (served_of machine earlier fate accesses)
  pub missing : served.missing ≡ length (never_queued false (judged fate [] accesses))
  pub failing : served.failing ≡ failing_from 0 (map fate accesses)
