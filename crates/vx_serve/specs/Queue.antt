-- The queue of a batch in numbers: each definition of the equations once more, without the accesses. This project's own.
use Rattle.std.specs.Prelude.{ℕ, ◌+◌, ◌==◌, max, min, Bool, false, nat_le, List, [], ◌∷◌, ◌++◌, insert, Option, Some, None, if◌then◌else◌}
use Rattle.std.specs.List.{prefix_len}
use Rattle.vx_serve.specs.declared.fate.Fate.{Fate}
use Rattle.vx_serve.specs.declared.fate.Fate.TheVariants.{Good, Fails, Unknown}
use Rattle.vx_serve.specs.declared.queue.Lower.{Lower}
use Rattle.vx_serve.specs.declared.queue.Waiting.{Waiting}
use Rattle.vx_serve.specs.declared.served.Failing.{Failing}

pub record QueueView : Type 0 where
  -- the accesses whose words are known, in the order of their numbers
  pub lower : List Lower
  -- those that are queued, in the order in which they are served
  pub order : List Waiting
  -- from which cycle on one of them is known to fail
  pub failed : Option ℕ
  -- how many they are, and how many of them are never queued
  pub count : ℕ
  pub missing : ℕ
  -- the lowest that fails
  pub failing : Option Failing

abbrev pub later_known : Option ℕ → Option ℕ → Option ℕ
later_known (Some a) (Some b) = Some (max a b)
later_known (Some a) None = None
later_known None b = None

abbrev pub latest_with : (word : ℕ) → Option ℕ → Lower → Option ℕ
latest_with word latest l = if l.word == word then later_known latest l.queued else latest

abbrev pub latest_of : (word : ℕ) → Option ℕ → List Lower → Option ℕ
latest_of word latest [] = latest
latest_of word latest (l ∷ lower) = latest_of word (latest_with word latest l) lower

abbrev pub sooner : Option ℕ → ℕ → ℕ
sooner (Some a) b = min a b
sooner None b = b

abbrev pub is_failed : Option ℕ → (cycle : ℕ) → Bool
is_failed (Some failed) cycle = nat_le failed cycle
is_failed None cycle = false

abbrev pub unless_failed_by : (failed cycle : Option ℕ) → Option ℕ
unless_failed_by failed (Some cycle) = if is_failed failed cycle then None else Some cycle
unless_failed_by failed None = None

abbrev pub queue_at : QueueView → (cycle word : ℕ) → Option ℕ
queue_at view cycle word = unless_failed_by view.failed (latest_of word (Some cycle) view.lower)

abbrev pub is_queued_by : (last : ℕ) → Waiting → Bool
is_queued_by last w = nat_le w.queued last

-- behind those that are queued no later
abbrev pub placed_behind : Waiting → List Waiting → List Waiting
placed_behind w order = insert order (prefix_len (is_queued_by w.queued) order) w

abbrev pub first_failing : Option Failing → Failing → Failing
first_failing (Some failing) other = failing
first_failing None other = other

-- an access whose word is known, by its queue cycle
abbrev pub queued_on : QueueView → (word : ℕ) → (queued : Option ℕ) → QueueView
queued_on view word (Some queued) =
    record view { lower = view.lower ++ record { word = word; queued = Some queued } ∷ []; order = placed_behind (record { word = word; queued = queued }) view.order; count = view.count + 1 }
queued_on view word None =
    record view { lower = view.lower ++ record { word = word; queued = None } ∷ []; missing = view.missing + 1; count = view.count + 1 }

-- the next access of a batch
abbrev pub judged_on : QueueView → Fate → QueueView
judged_on view (Good cycle word) = queued_on view word (queue_at view cycle word)
judged_on view (Fails cycle is_away) =
    record view {
      failed = Some (sooner view.failed cycle);
      count = view.count + 1;
      missing = view.missing + 1;
      failing = Some (first_failing view.failing (record { number = view.count; is_away = is_away }));
    }
judged_on view Unknown = record view { count = view.count + 1; missing = view.missing + 1 }

abbrev pub judged_all : QueueView → List Fate → QueueView
judged_all view [] = view
judged_all view (fate ∷ fates) = judged_all (judged_on view fate) fates
