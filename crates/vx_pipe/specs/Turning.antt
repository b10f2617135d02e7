-- An engine in an episode, from instruction to instruction. This project's own.
use Rattle.std.specs.Prelude.{◌≡◌, ℕ, ◌+◌, ◌<◌, ◌≤◌, ◌^◌, Bool, true, false, List, Some}
use Rattle.vx_base.specs.declared.machine.Fault.{Fault}
use Rattle.vx_cells.specs.Cells.{CellsState}
use Rattle.vx_course.specs.Course.{Course}
use Rattle.vx_decode.specs.declared.instr.Instr.{Instr}
use Rattle.vx_episode.specs.Organisation.{Organisation, Start}
use Rattle.vx_episode.specs.Show.{Registers}
use Rattle.vx_episode.specs.declared.ended.Ended.TheVariants as ended
use Rattle.vx_flat.specs.Process.{Process}
use Rattle.vx_flat.specs.State.{Flat}
use Rattle.vx_flat.specs.Step.{meaning, upcoming}
use Rattle.vx_flat.specs.declared.upcoming.Upcoming.{Upcoming}
use Rattle.vx_flat.specs.declared.upcoming.Upcoming.TheVariants.{Denied, Illegal, Instruction}
use Rattle.vx_paged.specs.Framed.{IsPlacement, IsWithin}
use Rattle.vx_paged.specs.declared.placement.FramedPage.{FramedPage}
use Rattle.vx_pipe.specs.Going.{Caches, IsEpisodeOn, IsGoing, IsIssuing, IsOver}
use Rattle.vx_pipe.specs.Playing.{shown_state}
use Rattle.vx_pipe.specs.declared.course.Course as code
use Rattle.vx_pipe.specs.declared.engine.Engine.{Engine}
use Rattle.vx_pipe.specs.declared.turn.Turn.{Turn}
use Rattle.vx_pipe.specs.declared.turn.Turn.TheVariants.{Goes, Slice, Service, Faulted}

-- ---- what an engine holds

-- each instruction that completed was committed, and so was what some reached before
abbrev pub course_of : code.Course → Course
course_of c = record { retired = c.retired; begun = c.begun; commits = c.completed + c.reached; completed = c.completed; changed = c.changed }

abbrev pub caches_of : Engine → Caches
caches_of engine = record { loads = engine.loads; fetches = engine.fetches; stamps = engine.banks }

abbrev pub machine_of : Engine → Organisation
machine_of engine = record { lanes = engine.lanes; banks = engine.banks.banks; bank_time = engine.bank_time; window = 1; batch_limit = 1 }

-- ---- what it is asked, for some episode of a process that registers and physical memory show

-- the cycles of an episode that is played are below this
abbrev pub cycle_limit : ℕ
cycle_limit = 2 ^ 42

-- an episode is at an instruction
pub record IsTurning (machine : Organisation) (root until : ℕ) (placement : List FramedPage) (course : Course) (caches : Caches) (cells : CellsState) (registers : Registers) : Type 0 where
  pub start : Start
  pub from : Process
  pub first : CellsState
  pub output : List ℕ
  pub on : IsEpisodeOn machine root placement start
  pub kept : IsPlacement placement
  pub within : IsWithin first.frames placement
  pub cycle : start.cycle ≤ cycle_limit
  pub going : IsGoing start until from first course caches cells (shown_state registers placement cells output)

-- an episode is at this instruction, whose fetch has ended at a cycle
pub record IsIssued (machine : Organisation) (root until : ℕ) (placement : List FramedPage) (course : Course) (fetched : ℕ) (caches : Caches) (cells : CellsState) (registers : Registers) (word : ℕ) (i : Instr) : Type 0 where
  pub start : Start
  pub from : Process
  pub first : CellsState
  pub output : List ℕ
  pub on : IsEpisodeOn machine root placement start
  pub kept : IsPlacement placement
  pub within : IsWithin first.frames placement
  pub cycle : start.cycle ≤ cycle_limit
  pub issuing : IsIssuing start until from first course fetched caches cells (shown_state registers placement cells output)
  pub next : upcoming (shown_state registers placement cells output) ≡ meaning (shown_state registers placement cells output) word (Some i)

-- ---- what it answers, for each such episode

-- the episode goes on, or it is over
abbrev pub HasTurned : Turn → Fault → Start → (until : ℕ) → Process → (first : CellsState) → Course → Caches → CellsState → Flat → Type 0
HasTurned Goes fault start until from first course caches cells u = IsGoing start until from first course caches cells u
HasTurned (Slice clock) fault start until from first course caches cells u = IsOver start until from first ended.Slice clock course cells u
HasTurned (Service clock) fault start until from first course caches cells u = IsOver start until from first ended.Service clock course cells u
HasTurned (Faulted clock) fault start until from first course caches cells u = IsOver start until from first (ended.Faulted fault) clock course cells u

-- what comes next can't be fetched, or means nothing
abbrev pub is_refused : Upcoming → Bool
is_refused Denied = true
is_refused (Illegal word) = true
is_refused (Instruction i) = false

-- ---- when

-- the system takes over behind what completed, and soon
pub record IsTakenOver (clock : ℕ) (before after : Course) : Type 0 where
  pub one : after.completed ≤ before.completed + 1
  pub later : before.retired + 1 < clock
  pub soon : clock ≤ before.retired + 2 ^ 24

-- where it does; where the episode goes on, an instruction has completed
abbrev pub IsTimely : Turn → (before after : Course) → Type 0
IsTimely Goes before after = after.completed ≡ before.completed + 1
IsTimely (Slice clock) before after = IsTakenOver clock before after
IsTimely (Service clock) before after = IsTakenOver clock before after
IsTimely (Faulted clock) before after = IsTakenOver clock before after
