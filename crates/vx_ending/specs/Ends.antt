-- What an episode comes to that ends at something of the instruction behind those that completed. This project's own.
use Rattle.std.specs.Prelude.{ℕ, ◌+◌, Bool, ◌||◌, List, [], ◌∷◌, ◌++◌, if◌then◌else◌}
use Rattle.vx_flat.specs.Process.{Process, stepped}
use Rattle.vx_episode.specs.Commits.{What, Happening}
use Rattle.vx_episode.specs.Commits.What.{Completes, Reaches, Stops}
use Rattle.vx_episode.specs.Episode.{EpisodeEnd, clock_behind, residency_by, completes, ended_at, within, stopped_at}
use Rattle.vx_episode.specs.History.{History}
use Rattle.vx_episode.specs.Log.{log_up_to}
use Rattle.vx_episode.specs.Organisation.{Start}
use Rattle.vx_ending.specs.Counts.{commits_in, changes_in}

-- the process then, of that before the instruction
abbrev pub process_behind : What → Process → Process
process_behind Completes p = stepped p
process_behind (Reaches element) p = within element p
process_behind (Stops why from element) p = stopped_at why element p

-- n instructions completed, with so many commits, and behind them stands this process; of the next one these happened, and the last
-- ends the episode
abbrev pub end_behind : Start → (n commits : ℕ) → (changed : Bool) → Process → (before : List Happening) → (last : Happening) → (fetched : History) → EpisodeEnd
end_behind start n commits changed now before last fetched = record {
  ended = ended_at last.what;
  last = last.cycle;
  clock = clock_behind last.cycle fetched;
  process = process_behind last.what now;
  residency = residency_by start last.cycle fetched;
  commits = commits + commits_in (before ++ last ∷ []);
  completed = n + (if completes last.what then 1 else 0);
  changed_vectors = changed || changes_in (before ++ last ∷ []);
  log = log_up_to start last.cycle fetched;
}
