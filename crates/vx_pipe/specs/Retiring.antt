-- What is known of an instruction that completes once its values are done, in front of its retire. This project's own.
use Rattle.std.specs.Prelude.{◌≡◌, ℕ, ◌+◌, ◌*◌, ◌≤◌, Bool, false, ◌||◌, List, [], ◌∷◌, ◌++◌, if◌then◌else◌}
use Rattle.std.specs.List.{list_any}
use Rattle.vx_cells.specs.Cells.{CellsState}
use Rattle.vx_flat.specs.Outcome.Outcome.{Next}
use Rattle.vx_flat.specs.Process.{Process}
use Rattle.vx_flat.specs.Splits.{IsWellFormed}
use Rattle.vx_flat.specs.State.{Flat}
use Rattle.vx_flat.specs.Step.{step}
use Rattle.vx_tlb.specs.Kept as tlb
use Rattle.vx_episode.specs.Commits.{Happening, entry_of, ends, happening, happenings_of}
use Rattle.vx_episode.specs.Commits.What.{Completes}
use Rattle.vx_episode.specs.Cycles.Cycle.{At}
use Rattle.vx_episode.specs.Episode.{trap_cycles}
use Rattle.vx_episode.specs.History.{History, accesses_of, batches_of, data_walks, fetch_walks, fills_of, last_retire, walks_of_batches}
use Rattle.vx_episode.specs.Instructions.{residency_now}
use Rattle.vx_episode.specs.Organisation.{Start}
use Rattle.vx_quiet.specs.Quiet.{ended_by}
use Rattle.vx_ending.specs.Counts.{commits_in}
use Rattle.vx_course.specs.Course.{Course, IsOnCourse, clock_by}
use Rattle.vx_pending.specs.Alike as alike
use Rattle.vx_serve.specs.Stamps.{AreBy}
use Rattle.vx_serve.specs.Stamps as banks
use Rattle.vx_pipe.specs.Going.{AreKept, Caches}

-- the instruction completes at a cycle, so many commits of it are behind, none of which ends the episode, and it leaves this
pub record IsRetiring (start : Start) (until : ℕ) (from : Process) (first : CellsState) (course : Course) (issued completed commits : ℕ) (jumps changes : Bool) (caches : Caches) (cells : CellsState) (u : Flat) : Type 0 where
  pub history : History
  pub now : Process
  pub after : Flat
  pub on : IsOnCourse start until from course history now
  pub steps : step now.state ≡ Next after
  pub issued_is : (entry_of start history now.state).issued ≡ At issued
  pub completed_is : (entry_of start history now.state).completed ≡ At completed
  pub before : List Happening
  pub happens : happenings_of (last_retire start.cycle history) (entry_of start history now.state) ≡ before ++ happening (entry_of start history now.state) Completes (completed + 1) ∷ []
  pub none_ends : list_any (ends until) before ≡ false
  pub commits_are : commits_in before ≡ commits
  pub jumps_is : (entry_of start history now.state).footprint.jumps ≡ jumps
  pub changes_is : (entry_of start history now.state).footprint.changes_vectors ≡ changes
  pub loads : tlb.StandsFor caches.loads (fills_of (data_walks (entry_of start history now.state ∷ history)))
  pub fetches : tlb.StandsFor caches.fetches (fills_of (fetch_walks (entry_of start history now.state ∷ history)))
  pub banks : banks.StandsFor caches.stamps start.machine (accesses_of (batches_of (entry_of start history now.state ∷ history)))
  pub stamps : AreBy (completed + 1) caches.stamps.stamps
  pub walked : ended_by (completed + 1) (walks_of_batches (entry_of start history now.state).batches) ≡ walks_of_batches (entry_of start history now.state).batches
  pub clock : clock_by (completed + 1) (accesses_of (entry_of start history now.state).batches) ≡ completed + 1 + trap_cycles
  pub cells_are : AreKept start (residency_now start (entry_of start history now.state ∷ history)) first cells
  pub stands : alike.StandsFor u after
  pub formed : IsWellFormed after
  pub few : course.commits + commits + 1 ≤ 65536 * (course.completed + 1)

-- the course behind an instruction that retires
abbrev pub retired_course : Course → (issued completed commits : ℕ) → (jumps changes : Bool) → Course
retired_course course issued completed commits jumps changes = record {
  retired = completed + 1;
  begun = issued + (if jumps then 2 else 1);
  commits = course.commits + commits + 1;
  completed = course.completed + 1;
  changed = course.changed || changes;
}
