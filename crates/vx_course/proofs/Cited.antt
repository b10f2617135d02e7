-- The laws of quiet histories and of episodes that are cited here.
use Rattle.std.proofs.Common.{◌≡◌, ℕ, ◌+◌, ◌≤◌, true, false, List, [], ◌∷◌, ◌++◌}
use Rattle.std.specs.Prelude.{◌||◌, ◌&&◌, Some}
use Rattle.std.specs.List.{list_any}
use Rattle.vx_flat.specs.Continued.{continued}
use Rattle.vx_flat.specs.Process.{Process}
use Rattle.vx_flat.specs.State.{Flat}
use Rattle.vx_episode.specs.Commits.{Happening, timed, entry_of, ends, happenings, happenings_of}
use Rattle.vx_episode.specs.Cycles.{Cycle, is_by}
use Rattle.vx_episode.specs.Cycles.Cycle.{At, Never}
use Rattle.vx_episode.specs.Episode.{end_by, episode, fetched_by, clock_behind, residency_by, commits_by}
use Rattle.vx_episode.specs.Footprint.{Footprint}
use Rattle.vx_episode.specs.History.{Entry, History, last_retire, fetch_walks, data_walks, after_walks}
use Rattle.vx_episode.specs.Instructions.{fetch_begin}
use Rattle.vx_episode.specs.Organisation.{Start}
use Rattle.vx_episode.specs.declared.ended.Ended.{Ended}
use Rattle.vx_quiet.specs.Quiet.{IsQuiet, ended_by}
use Rattle.vx_ending.specs.Counts.{changes_in, commits_in}
use Rattle.vx_ending.specs.Ends.{end_behind}
use Rattle.vx_ending.specs.UnderWay.{IsUnderWay}

pub record QuietLaws : Type 0 where
  pub goes_on : (start : Start) (history : History) (s : Flat) (f : Footprint) (retired completed : ℕ) → IsQuiet start history retired → start.machine.window ≡ 1 → (timed start history s f).completed ≡ At completed → IsQuiet start (timed start history s f ∷ history) (completed + 1)
  pub never : (start : Start) (history : History) (s : Flat) (f : Footprint) (why : Ended) → f.stop ≡ Some why → (timed start history s f).completed ≡ Never

pub record OverLaws : Type 0 where
  pub residency : (start : Start) (newer history : History) (retired last : ℕ) → IsQuiet start history retired → retired ≤ last
      → residency_by start last (newer ++ history) ≡ after_walks start.residency ((ended_by last (fetch_walks newer) ++ fetch_walks history) ++ (ended_by last (data_walks newer) ++ data_walks history))
  pub clock : (start : Start) (newer history : History) (retired last : ℕ) → IsQuiet start history retired → retired ≤ last → clock_behind last (newer ++ history) ≡ clock_behind last newer

pub record CountLaws : Type 0 where
  pub commits : (some others : List Happening) → commits_in (some ++ others) ≡ commits_in some + commits_in others
  pub changes : (some others : List Happening) → changes_in (some ++ others) ≡ (changes_in some || changes_in others)
  pub of_one : (e : Entry) (before : Cycle) (some others : List Happening) → happenings_of before e ≡ some ++ others → changes_in some ≡ (list_any (λ (h : Happening). commits_by h.what) some && e.footprint.changes_vectors)

pub record FlightLaws : Type 0 where
  pub one : (start : Start) (until : ℕ) (from : Process) (n : ℕ) (history : History) (now : Process) (e : Entry) (last : ℕ) → IsUnderWay start until from n history now
      → e ≡ entry_of start history now.state
      → is_by last (fetch_begin start history) ≡ true → is_by last (fetch_begin start (e ∷ history)) ≡ false
      → fetched_by start last from.state ≡ e ∷ history
  pub two : (start : Start) (until : ℕ) (from : Process) (n : ℕ) (history : History) (now : Process) (e later : Entry) (last : ℕ) → IsUnderWay start until from n history now
      → e ≡ entry_of start history now.state → later ≡ entry_of start (e ∷ history) (continued now.state)
      → is_by last (fetch_begin start (e ∷ history)) ≡ true → is_by last (fetch_begin start (later ∷ e ∷ history)) ≡ false
      → fetched_by start last from.state ≡ later ∷ e ∷ history

pub record EndLaws : Type 0 where
  pub ends_so : (start : Start) (until : ℕ) (from : Process) (n : ℕ) (history : History) (now : Process) (e : Entry) (before after : List Happening) (last : Happening) → IsUnderWay start until from n history now
      → e ≡ entry_of start history now.state
      → happenings_of (last_retire start.cycle history) e ≡ before ++ last ∷ after → list_any (ends until) before ≡ false → ends until last ≡ true
      → episode start until from ≡ Some (end_by start from (happenings start.cycle history ++ before ++ last ∷ []) last (fetched_by start last.cycle from.state))
  pub whole : (start : Start) (until : ℕ) (from : Process) (n : ℕ) (history : History) (now : Process) (e : Entry) (before after : List Happening) (last : Happening) (fetched : History) → IsUnderWay start until from n history now
      → e ≡ entry_of start history now.state → happenings_of (last_retire start.cycle history) e ≡ before ++ last ∷ after
      → end_by start from (happenings start.cycle history ++ before ++ last ∷ []) last fetched ≡ end_behind start n (commits_in (happenings start.cycle history)) (changes_in (happenings start.cycle history)) now before last fetched
