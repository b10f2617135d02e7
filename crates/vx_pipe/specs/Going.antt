-- What an engine with one instruction in flight keeps of an episode under way, and what it leaves of one that is over. This
-- project's own.
use Rattle.std.specs.Prelude.{◌≡◌, ℕ, ◌+◌, ◌*◌, ◌/◌, ◌≤◌, true, List, ◌++◌, slice_index, Option, option_to_list}
use Rattle.vx_cells.specs.Cells.{CellsState}
use Rattle.vx_flat.specs.Process.{Process}
use Rattle.vx_flat.specs.Splits.{IsWellFormed}
use Rattle.vx_flat.specs.State.{Flat}
use Rattle.vx_tables.specs.Residency.{Residency}
use Rattle.vx_tables.specs.Tables.{AreHeld}
use Rattle.vx_tlb.specs.Kept as tlb
use Rattle.vx_tlb.specs.declared.tlb.Kept.{Kept}
use Rattle.vx_episode.specs.Commits.{entry_of}
use Rattle.vx_episode.specs.Cycles.Cycle.{At}
use Rattle.vx_episode.specs.History.{History, Entry, Walk, accesses_of, batches_of, data_walks, fetch_walks, fills_of, after_walks}
use Rattle.vx_episode.specs.Instructions.{residency_now, walk_time}
use Rattle.vx_episode.specs.Organisation.{Organisation, Start}
use Rattle.vx_episode.specs.Played.{IsElsewhere}
use Rattle.vx_episode.specs.declared.ended.Ended.{Ended}
use Rattle.vx_course.specs.Course.{Course, Ending, IsOnCourse, EndsAs}
use Rattle.vx_paged.specs.Placed.{AreAlone, IsPlacedAs}
use Rattle.vx_paged.specs.declared.placement.FramedPage.{FramedPage}
use Rattle.vx_pending.specs.Alike as alike
use Rattle.vx_pipe.specs.Left.{HasCome}
use Rattle.vx_serve.specs.Stamps.{BankStamps, AreBy}
use Rattle.vx_serve.specs.Stamps as banks

-- the caches of translations, of data and of fetches, and the cycles from which the banks are free
pub record Caches : Type 0 where
  pub loads : List (Option Kept)
  pub fetches : List (Option Kept)
  pub stamps : BankStamps

-- words of physical memory that are in no table and on no page of the process are as they were
abbrev pub AreLeft : Start → (before after : CellsState) → Type 0
AreLeft start before after =
    (word : ℕ) → IsElsewhere start.root start.residency (word / 512) → slice_index after.contents word ≡ slice_index before.contents word

-- physical memory holds the tables of a residency, and has kept from the episode's start what isn't the process's
pub record AreKept (start : Start) (residency : Residency) (first cells : CellsState) : Type 0 where
  pub held : AreHeld cells start.root residency
  pub frames : cells.frames ≡ first.frames
  pub cycle : cells.cycle ≡ first.cycle
  pub others : AreLeft start first cells

-- the episode is at an instruction: those before it are over, and have left this
pub record IsGoing (start : Start) (until : ℕ) (from : Process) (first : CellsState) (course : Course) (caches : Caches) (cells : CellsState) (u : Flat) : Type 0 where
  pub history : History
  pub now : Process
  pub on : IsOnCourse start until from course history now
  pub loads : tlb.StandsFor caches.loads (fills_of (data_walks history))
  pub fetches : tlb.StandsFor caches.fetches (fills_of (fetch_walks history))
  pub banks : banks.StandsFor caches.stamps start.machine (accesses_of (batches_of history))
  pub stamps : AreBy course.retired caches.stamps.stamps
  pub cells_are : AreKept start (residency_now start history) first cells
  pub stands : alike.StandsFor u now.state
  pub formed : IsWellFormed now.state
  pub few : course.commits ≤ 65536 * course.completed

-- the walks of fetches, with that of an instruction behind a history
abbrev pub fetches_with : Entry → History → List Walk
fetches_with e history = option_to_list e.fetch.walk ++ fetch_walks history

-- the same once the instruction's fetch has ended at a cycle
pub record IsIssuing (start : Start) (until : ℕ) (from : Process) (first : CellsState) (course : Course) (fetched : ℕ) (caches : Caches) (cells : CellsState) (u : Flat) : Type 0 where
  pub history : History
  pub now : Process
  pub on : IsOnCourse start until from course history now
  pub ended : (entry_of start history now.state).fetch.ended ≡ At fetched
  pub loads : tlb.StandsFor caches.loads (fills_of (data_walks history))
  pub fetches : tlb.StandsFor caches.fetches (fills_of (fetches_with (entry_of start history now.state) history))
  pub banks : banks.StandsFor caches.stamps start.machine (accesses_of (batches_of history))
  pub stamps : AreBy course.retired caches.stamps.stamps
  pub cells_are : AreKept start (after_walks start.residency (fetches_with (entry_of start history now.state) history ++ data_walks history)) first cells
  pub stands : alike.StandsFor u now.state
  pub formed : IsWellFormed now.state
  pub few : course.commits ≤ 65536 * course.completed
  pub near : fetched ≤ course.begun + walk_time start.machine

-- the episode is over, and this is left
pub record IsOver (start : Start) (until : ℕ) (from : Process) (first : CellsState) (ended : Ended) (clock : ℕ) (course : Course) (cells : CellsState) (u : Flat) : Type 0 where
  pub ending : Ending
  pub ends : EndsAs start until from ending
  pub ended_is : ended ≡ ending.ended
  pub clock_is : clock ≡ ending.clock
  pub commits_are : course.commits ≡ ending.commits
  pub completed_are : course.completed ≡ ending.completed
  pub changed_is : course.changed ≡ ending.changed_vectors
  pub walks : List Walk
  pub walked : ending.residency ≡ after_walks start.residency walks
  pub cells_are : AreKept start ending.residency first cells
  pub stands : alike.StandsFor u ending.process.state
  pub come : HasCome from ending.process ended course.completed

-- an episode on this machine, with the vectors there and all pages present: in the frames of a placement, none of which has a table
pub record IsEpisodeOn (machine : Organisation) (root : ℕ) (placement : List FramedPage) (start : Start) : Type 0 where
  pub machine_is : start.machine ≡ machine
  pub window : machine.window ≡ 1
  pub limit : machine.batch_limit ≡ 1
  pub root_is : start.root ≡ root
  pub vectors : start.has_vectors ≡ true
  pub placed : IsPlacedAs placement start.residency
  pub alone : AreAlone root start.residency
