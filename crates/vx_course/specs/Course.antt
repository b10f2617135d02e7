-- The course of an episode in numbers, as an engine with one instruction in flight keeps it, and what the episode comes to at its
-- end. This project's own.
use Rattle.std.specs.Prelude.{ℕ, ◌+◌, ◌≡◌, ◌≤◌, max, Bool, false, ◌||◌, List, ◌∷◌, ◌++◌, map, Some, option_to_list, if◌then◌else◌}
use Rattle.vx_flat.specs.Process.{Process}
use Rattle.vx_tables.specs.Residency.{Residency}
use Rattle.vx_episode.specs.Commits.{happenings}
use Rattle.vx_episode.specs.Cycles.Cycle.{At}
use Rattle.vx_episode.specs.Episode.{EpisodeEnd, episode, fetched_by, greatest, trap_cycles}
use Rattle.vx_episode.specs.Footprint.{Footprint}
use Rattle.vx_episode.specs.History.{History, Entry, Walk, AccessTimes, accesses_of, queued_by, walks_of_batches, data_walks, fetch_walks, after_walks}
use Rattle.vx_episode.specs.Instructions.{fetch_begin, fetch_times}
use Rattle.vx_episode.specs.Log.{log_up_to}
use Rattle.vx_episode.specs.Organisation.{Start}
use Rattle.vx_episode.specs.declared.ended.Ended.{Ended}
use Rattle.vx_quiet.specs.Quiet.{IsQuiet, ended_by}
use Rattle.vx_ending.specs.Counts.{commits_in, changes_in}
use Rattle.vx_ending.specs.UnderWay.{IsUnderWay}

-- ---- under way

pub record Course : Type 0 where
  -- the cycle of the last retire, or of the episode's start, and that at which the next fetch begins
  pub retired : ℕ
  pub begun : ℕ
  -- how often something was committed, and how many instructions completed
  pub commits : ℕ
  pub completed : ℕ
  -- something was committed that changes the vector state
  pub changed : Bool

-- an episode under way has this course: all that its instructions did is over, and the next fetch begins soon
pub record IsOnCourse (start : Start) (until : ℕ) (from : Process) (course : Course) (history : History) (now : Process) : Type 0 where
  pub under_way : IsUnderWay start until from course.completed history now
  pub quiet : IsQuiet start history course.retired
  pub fetch : fetch_begin start history ≡ At course.begun
  pub soon : course.begun ≤ course.retired + 1
  pub commits_are : commits_in (happenings start.cycle history) ≡ course.commits
  pub changed_is : changes_in (happenings start.cycle history) ≡ course.changed

abbrev pub begun_course : Start → Course
begun_course start = record { retired = start.cycle; begun = start.cycle + 1; commits = 0; completed = 0; changed = false }

-- the cycle at which the fetch behind an instruction begins, which was issued at a cycle
abbrev pub fetch_behind : Footprint → (issued : ℕ) → ℕ
fetch_behind f issued = issued + (if f.jumps then 2 else 1)

-- the course behind an instruction that was issued and completed at these cycles, and committed so often
abbrev pub course_behind : Course → Footprint → (issued completed commits : ℕ) → Course
course_behind course f issued completed commits = record {
  retired = completed + 1;
  begun = fetch_behind f issued;
  commits = course.commits + commits;
  completed = course.completed + 1;
  changed = course.changed || f.changes_vectors;
}

-- ---- at the end

-- what an episode comes to, but for its log, which is that of the instructions fetched by then
pub record Ending : Type 0 where
  pub ended : Ended
  pub last : ℕ
  pub clock : ℕ
  pub process : Process
  pub residency : Residency
  pub commits : ℕ
  pub completed : ℕ
  pub changed_vectors : Bool

-- an episode comes to that
pub record EndsAs (start : Start) (until : ℕ) (from : Process) (ending : Ending) : Type 0 where
  pub result : EpisodeEnd
  pub is : episode start until from ≡ Some result
  pub ended : result.ended ≡ ending.ended
  pub last : result.last ≡ ending.last
  pub clock : result.clock ≡ ending.clock
  pub process : result.process ≡ ending.process
  pub residency : result.residency ≡ ending.residency
  pub commits : result.commits ≡ ending.commits
  pub completed : result.completed ≡ ending.completed
  pub changed_vectors : result.changed_vectors ≡ ending.changed_vectors
  pub log : result.log ≡ log_up_to start ending.last (fetched_by start ending.last from.state)

-- the cycle at which the system takes over, where the instruction at the end has these accesses
abbrev pub clock_by : (last : ℕ) → List AccessTimes → ℕ
clock_by last accesses = max last (greatest (map (λ (a : AccessTimes). a.done) (queued_by last accesses))) + trap_cycles

-- the residency at the end: the walks of the fetch behind the instruction, of its own fetch and of its batches come to those of the
-- history
abbrev pub residency_at : Start → History → Entry → (behind : List Walk) → (last : ℕ) → Residency
residency_at start history e behind last = after_walks start.residency (
    (ended_by last behind ++ option_to_list e.fetch.walk ++ fetch_walks history)
    ++ (ended_by last (walks_of_batches e.batches) ++ data_walks history))

-- the walk of the fetch behind an instruction, where there is one, of the pc and the cycle at which it begins
abbrev pub walk_behind : Start → History → Entry → (pc begun : ℕ) → List Walk
walk_behind start history e pc begun = option_to_list (fetch_times start (e ∷ history) pc (At begun)).walk

-- what comes of an episode that ends so with its next instruction
abbrev pub ending_of : Start → History → Entry → (behind : List Walk) → (last : ℕ) → Ended → Process → (commits completed : ℕ) → (changed : Bool) → Ending
ending_of start history e behind last ended process commits completed changed = record {
  ended = ended;
  last = last;
  clock = clock_by last (accesses_of e.batches);
  process = process;
  residency = residency_at start history e behind last;
  commits = commits;
  completed = completed;
  changed_vectors = changed;
}
