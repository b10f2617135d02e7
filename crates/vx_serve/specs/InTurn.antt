-- What is true of every access of a batch that is served, and which accesses are. This project's own.
use Rattle.std.specs.Prelude.{◌≡◌, ℕ, ◌+◌, ◌<◌, ◌≤◌, Bool, true, false, List, Option, Some, None, option_map, slice_get}
use Rattle.std.specs.List.{AllPass}
use Rattle.vx_episode.specs.Batches.{Fate}
use Rattle.vx_episode.specs.Batches.Fate.{Good, Fails, Unknown}
use Rattle.vx_episode.specs.Footprint.{Access}
use Rattle.vx_episode.specs.History.{AccessTimes, Failure}
use Rattle.vx_episode.specs.Organisation.{Organisation}
use Rattle.vx_serve.specs.declared.served.Failing.{Failing}

-- an access is queued once its word is known, served behind that, and done the bank time behind its serve
pub record IsInTurn (machine : Organisation) (fate : Access → Fate) (t : AccessTimes) : Type 0 where
  pub known : ℕ
  pub is_known : fate t.access ≡ Good known t.word
  pub queued : known ≤ t.queued
  pub served : t.queued < t.served
  pub done : t.done ≡ t.served + machine.bank_time

abbrev pub is_good : Fate → Bool
is_good (Good cycle word) = true
is_good (Fails cycle is_away) = false
is_good Unknown = false

-- the words of all are known
abbrev pub AreGood : (Access → Fate) → List Access → Type 0
AreGood fate accesses = AllPass (λ (a : Access). is_good (fate a)) accesses

-- the access of that number fails
abbrev pub failure_at : List Access → Option Failing → Option Failure
failure_at accesses None = None
failure_at accesses (Some f) =
    option_map (λ (a : Access). let failure : Failure = record { element = a.element; address = a.address; is_away = f.is_away } in failure) (slice_get accesses f.number)
