-- An episode: the instructions of a process from a cycle on, up to the first stop, or the first commit at or after the end of its
-- slice. This project's own. The instructions are those of the run that goes on past loads and stores that fault.
use Rattle.std.specs.Prelude.{ℕ, zero, suc, ◌+◌, ◌-◌, max, Bool, true, false, ◌&&◌, nat_le, nat_lt, List, [], ◌∷◌, ◌++◌, length, map, filter, find, Option, Some, None, unwrap_or, if◌then◌else◌}
use Rattle.std.specs.List.{list_any}
use Rattle.vx_cells.specs.declared.access.Access.{Access}
use Rattle.vx_flat.specs.Continued.{continued}
use Rattle.vx_flat.specs.Prefix.{prefix_at}
use Rattle.vx_flat.specs.Process.{Process, stepped, stepped_on}
use Rattle.vx_flat.specs.State.{Flat}
use Rattle.vx_tables.specs.Residency.{Residency}
use Rattle.vx_episode.specs.Commits.{What, Happening, entry_of, happenings_of, happenings, ends}
use Rattle.vx_episode.specs.Commits.What.{Completes, Reaches, Stops}
use Rattle.vx_episode.specs.Cycles.{is_by}
use Rattle.vx_episode.specs.History.{History, Walk, AccessTimes, last_retire, accesses_of, queued_by, batches_of, fetch_walks, data_walks, after_walks}
use Rattle.vx_episode.specs.Organisation.{Start}
use Rattle.vx_episode.specs.Instructions.{fetch_begin}
use Rattle.vx_episode.specs.Log.{log_up_to}
use Rattle.vx_episode.specs.declared.ended.Ended.{Ended}
use Rattle.vx_episode.specs.declared.ended.Ended.TheVariants.{Slice, Faulted}

-- ---- the instructions up to the end

-- the episode ends at the newest instruction
abbrev pub has_end : (start until : ℕ) → History → Bool
has_end start until [] = false
has_end start until (e ∷ history) = list_any (ends until) (happenings_of (last_retire start history) e)

-- the instructions up to that at which the episode ends, the newest first. Each retires later than the one before, so the cycles
-- up to `until` bound those that retire before it, and the bound is never met
unfoldable pub run_on : Start → (until bound : ℕ) → History → Flat → History
run_on start until zero history s = history
run_on start until (suc bound) history s =
    elim (has_end start.cycle until history) [
      | true ↦ history
      | false ↦ run_on start until bound (entry_of start history s ∷ history) (continued s)
    ]

abbrev pub instructions : Start → (until : ℕ) → Flat → History
instructions start until s = run_on start until (until - start.cycle + 2) [] s

-- ---- the instructions in flight at a cycle

-- those whose fetch began by a cycle, the newest first. Each begins later than the one before
unfoldable pub fetched_on : Start → (last bound : ℕ) → History → Flat → History
fetched_on start last zero history s = history
fetched_on start last (suc bound) history s =
    elim (is_by last (fetch_begin start history)) [
      | false ↦ history
      | true ↦ fetched_on start last bound (entry_of start history s ∷ history) (continued s)
    ]

abbrev pub fetched_by : Start → (last : ℕ) → Flat → History
fetched_by start last s = fetched_on start last (last - start.cycle) [] s

-- the cycles from the end of an episode to the system
abbrev pub trap_cycles : ℕ
trap_cycles = 20

abbrev pub greatest : List ℕ → ℕ
greatest [] = 0
greatest (cycle ∷ cycles) = max cycle (greatest cycles)

-- the cycle at which the system takes over from an episode that ends at a cycle: once the accesses are done that were queued by
-- then
abbrev pub clock_behind : (last : ℕ) → History → ℕ
clock_behind last history = greatest (last ∷ map (λ (a : AccessTimes). a.done) (queued_by last (accesses_of (batches_of history)))) + trap_cycles

-- the residency at a cycle: the walks that have ended have set A and D
abbrev pub residency_by : Start → (last : ℕ) → History → Residency
residency_by start last history =
    after_walks start.residency (filter (λ (w : Walk). nat_le w.ended last) (fetch_walks history ++ data_walks history))

-- ---- what an episode comes to

pub record EpisodeEnd : Type 0 where
  pub ended : Ended
  -- the cycle of its last commit or its stop, and that at which the system takes over
  pub last : ℕ
  pub clock : ℕ
  -- the process then, which may stand within an instruction; and the residency of its pages
  pub process : Process
  pub residency : Residency
  -- how often it committed, and how many instructions it completed
  pub commits : ℕ
  pub completed : ℕ
  -- it committed something that changes the vector state
  pub changed_vectors : Bool
  -- its accesses to physical memory, in the order of the log
  pub log : List Access

-- what happened up to the first that ends the episode
abbrev pub up_to_end : (until : ℕ) → List Happening → List Happening
up_to_end until [] = []
up_to_end until (h ∷ happenings) = if ends until h then h ∷ [] else h ∷ up_to_end until happenings

-- an instruction, or elements of one, are committed: by a stop, where vstart rises
abbrev pub commits_by : What → Bool
commits_by Completes = true
commits_by (Reaches element) = true
commits_by (Stops why from element) = nat_lt from element

abbrev pub completes : What → Bool
completes Completes = true
completes (Reaches element) = false
completes (Stops why from element) = false

abbrev pub ended_at : What → Ended
ended_at Completes = Slice
ended_at (Reaches element) = Slice
ended_at (Stops why from element) = why

-- the process with the elements below k of its next instruction done; of one that isn't a vector load or store there are none
abbrev pub within : (k : ℕ) → Process → Process
within k p = record p { state = unwrap_or (prefix_at k p.state) p.state }

-- the process that stopped at an element: one that faulted is over, and any other one goes on there
abbrev pub stopped_at : Ended → (element : ℕ) → Process → Process
stopped_at (Faulted fault) element p = stepped p
stopped_at why element p = within element p

-- the process at the end, of that behind the completed instructions
abbrev pub process_at : What → Process → Process
process_at Completes p = p
process_at (Reaches element) p = within element p
process_at (Stops why from element) p = stopped_at why element p

abbrev pub end_by : Start → Process → (happened : List Happening) → Happening → (fetched : History) → EpisodeEnd
end_by start p happened last fetched =
    let completed = length (filter (λ (h : Happening). completes h.what) happened) in
    record {
      ended = ended_at last.what;
      last = last.cycle;
      clock = clock_behind last.cycle fetched;
      process = process_at last.what (stepped_on completed p);
      residency = residency_by start last.cycle fetched;
      commits = length (filter (λ (h : Happening). commits_by h.what) happened);
      completed = completed;
      changed_vectors = list_any (λ (h : Happening). commits_by h.what && h.entry.footprint.changes_vectors) happened;
      log = log_up_to start last.cycle fetched;
    }

-- an episode, of what happens in it: there always is an end
abbrev pub episode_of : Start → (until : ℕ) → Process → List Happening → Option EpisodeEnd
episode_of start until p happenings = elim (find (ends until) happenings) [
  | Some last ↦ Some (end_by start p (up_to_end until happenings) last (fetched_by start last.cycle p.state))
  | None ↦ None
]

-- an episode of a process
unfoldable pub episode : Start → (until : ℕ) → Process → Option EpisodeEnd
episode start until p = episode_of start until p (happenings start.cycle (instructions start until p.state))
