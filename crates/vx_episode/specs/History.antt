-- What the instructions of an episode did, the newest first, and what is looked up there. This project's own. A term that speaks
-- of an instruction, a batch or an access before the first is none: these look-ups are lists of cycles, with one at the most.
use Rattle.std.specs.Prelude.{ℕ, zero, suc, ◌%◌, ◌==◌, Bool, false, is_some, nat_le, List, [], ◌∷◌, ◌++◌, map, flat_map, filter, find, Option, Some, None, option_map, if◌then◌else◌}
use Rattle.std.specs.List.{list_any}
use Rattle.std.specs.Option.{option_to_list}
use Rattle.vx_base.specs.declared.machine.Want.{Want}
use Rattle.vx_flat.specs.State.{Flat}
use Rattle.vx_rows.specs.declared.family.Unit.{Unit}
use Rattle.vx_rows.specs.declared.family.Unit.TheVariants.{Arithmetic, Multiply, Divide, Permute}
use Rattle.vx_tables.specs.Caches.{Fill, filled_by}
use Rattle.vx_image.specs.Pages.{page_of}
use Rattle.vx_tables.specs.Residency.{Residency, after_walk}
use Rattle.vx_tables.specs.declared.walked.Walked.{Walked}
use Rattle.vx_episode.specs.Cycles.{Cycle, later}
use Rattle.vx_episode.specs.Cycles.Cycle.{At, Never}
use Rattle.vx_episode.specs.Footprint.{Access, Footprint}
use Rattle.vx_episode.specs.Organisation.{Organisation}

-- ---- what happened

-- a walk of the page tables: for which address and what, the cycles at which it began and ended, and its answer
pub record Walk : Type 0 where
  pub address : ℕ
  pub want : Want
  pub begun : ℕ
  pub ended : ℕ
  pub answer : Walked

-- a fetch: the cycles at which it began and at which it ended, and its walk, where there was one
pub record FetchTimes : Type 0 where
  pub begun : Cycle
  pub ended : Cycle
  pub walk : Option Walk

-- a beat: its unit, its cycle, and the words that it made
pub record BeatTimes : Type 0 where
  pub unit : Unit
  pub cycle : Cycle
  pub made : List ℕ

-- an access that was queued: its word of physical memory, and the cycles at which it was queued, served and done
pub record AccessTimes : Type 0 where
  pub access : Access
  pub word : ℕ
  pub queued : ℕ
  pub served : ℕ
  pub done : ℕ

-- the lowest access of a batch that fails: its element, its address, and whether its page is away
pub record Failure : Type 0 where
  pub element : ℕ
  pub address : ℕ
  pub is_away : Bool

pub record BatchTimes : Type 0 where
  -- the first element of the batch, and the one after it
  pub from : ℕ
  pub after : ℕ
  -- the cycles at which it started, at which its look-ups and walks ended, and at which it committed
  pub started : Cycle
  pub looked_up : Cycle
  pub committed : Cycle
  -- its walks and its accesses that were queued, the newest first of the one, the last served first of the other
  pub walks : List Walk
  pub accesses : List AccessTimes
  -- those that are waited for and are never queued
  pub missing : List Access
  -- the lowest that fails; and whether that shortens vl
  pub failure : Option Failure
  pub is_trimmed : Bool

-- a word of the vector registers that was written, and the cycle from which it can be read
pub record Ready : Type 0 where
  pub place : ℕ
  pub cycle : Cycle

-- an instruction
pub record Entry : Type 0 where
  -- the state before it
  pub state : Flat
  pub footprint : Footprint
  pub fetch : FetchTimes
  pub issued : Cycle
  -- its beats and its batches, the newest first
  pub beats : List BeatTimes
  pub batches : List BatchTimes
  -- the cycles at which its accesses were all generated, at which it completed, and at which it retired
  pub generated : Cycle
  pub completed : Cycle
  pub retired : Cycle
  pub ready : List Ready

abbrev pub History : Type 0
History = List Entry

-- ---- instructions

-- the issue and the retire of the instruction before, or the episode's start
abbrev pub last_issue : (start : ℕ) → History → Cycle
last_issue start [] = At start
last_issue start (e ∷ history) = e.issued

abbrev pub last_retire : (start : ℕ) → History → Cycle
last_retire start [] = At start
last_retire start (e ∷ history) = e.retired

-- the retire of the instruction so many before the next one, from 1
abbrev pub retire_before : ℕ → History → List Cycle
retire_before back [] = []
retire_before zero (e ∷ history) = []
retire_before (suc zero) (e ∷ history) = e.retired ∷ []
retire_before (suc (suc back)) (e ∷ history) = retire_before (suc back) history

-- the generation of the instruction before, where that may shorten vl
abbrev pub trimming_before : History → List Cycle
trimming_before [] = []
trimming_before (e ∷ history) = if e.footprint.is_fault_only_first then e.generated ∷ [] else []

-- ---- registers

-- the cycle from which an x register can be read: x0 and one that no instruction has written yet, from the start
abbrev pub register_ready : (start : ℕ) → History → (r : ℕ) → Cycle
register_ready start [] r = At start
register_ready start (e ∷ history) r =
    if r == 0 then At start
    else if list_any (λ w. w == r) e.footprint.writes then e.completed
    else register_ready start history r

-- the cycle from which a word of the vector registers can be read
abbrev pub ready_or : (other : Cycle) → Option Ready → Cycle
ready_or other None = other
ready_or other (Some r) = r.cycle

abbrev pub word_ready : (start : ℕ) → History → (place : ℕ) → Cycle
word_ready start [] place = At start
word_ready start (e ∷ history) place = ready_or (word_ready start history place) (find (λ (r : Ready). r.place == place) e.ready)

-- ---- units

-- the units: multiplications and divisions share one
abbrev pub unit_number : Unit → ℕ
unit_number Arithmetic = 0
unit_number Multiply = 1
unit_number Divide = 1
unit_number Permute = 2

-- from one beat to the next, on the unit
abbrev pub step_of : Unit → ℕ
step_of Arithmetic = 1
step_of Multiply = 1
step_of Divide = 8
step_of Permute = 1

-- from a beat until what it makes can be read
abbrev pub latency_of : Unit → ℕ
latency_of Arithmetic = 2
latency_of Multiply = 4
latency_of Divide = 16
latency_of Permute = 4

abbrev pub beats_of : History → List BeatTimes
beats_of history = flat_map (λ (e : Entry). e.beats) history

-- the last beat on a unit, plus its step
abbrev pub free_unit : Unit → List BeatTimes → List Cycle
free_unit u beats =
    option_to_list (option_map (λ (b : BeatTimes). later (step_of b.unit) b.cycle) (find (λ (b : BeatTimes). unit_number b.unit == unit_number u) beats))

-- ---- batches and accesses

abbrev pub batches_of : History → List BatchTimes
batches_of history = flat_map (λ (e : Entry). e.batches) history

-- an access of the batch fails, and that doesn't shorten vl
abbrev pub stops : BatchTimes → Bool
stops b = if b.is_trimmed then false else is_some b.failure

-- the end of its look-ups and walks, of a batch that doesn't stop: behind one that does, none starts
abbrev pub passed : BatchTimes → Cycle
passed b = if stops b then Never else b.looked_up

-- that of the batch before, and the commit of the one before that
abbrev pub last_passed : List BatchTimes → List Cycle
last_passed [] = []
last_passed (b ∷ batches) = passed b ∷ []

abbrev pub commit_before_last : List BatchTimes → List Cycle
commit_before_last [] = []
commit_before_last (b ∷ []) = []
commit_before_last (b ∷ c ∷ batches) = c.committed ∷ []

abbrev pub accesses_of : List BatchTimes → List AccessTimes
accesses_of batches = flat_map (λ (b : BatchTimes). b.accesses) batches

-- those that were queued by a cycle
abbrev pub queued_by : (last : ℕ) → List AccessTimes → List AccessTimes
queued_by last accesses = filter (λ (a : AccessTimes). nat_le a.queued last) accesses

abbrev pub missing_of : List BatchTimes → List Access
missing_of batches = flat_map (λ (b : BatchTimes). b.missing) batches

-- the bank of a word of physical memory
abbrev pub bank_of : Organisation → (word : ℕ) → ℕ
bank_of machine word = word % machine.banks

-- the serve before on a bank
abbrev pub last_serve : Organisation → (bank : ℕ) → List AccessTimes → Option ℕ
last_serve machine bank accesses = option_map (λ (a : AccessTimes). a.served) (find (λ (a : AccessTimes). bank_of machine a.word == bank) accesses)

-- the cycles at which accesses are done: those that are never queued, never
abbrev pub done_cycles : List AccessTimes → List Access → List Cycle
done_cycles accesses missing = map (λ (a : AccessTimes). At a.done) accesses ++ map (λ (a : Access). Never) missing

abbrev pub batch_done : List BatchTimes → List Cycle
batch_done batches = done_cycles (accesses_of batches) (missing_of batches)

-- ---- walks

abbrev pub walks_of_batches : List BatchTimes → List Walk
walks_of_batches batches = flat_map (λ (b : BatchTimes). b.walks) batches

-- the walks for data, and those for fetches, the newest first
abbrev pub data_walks : History → List Walk
data_walks history = walks_of_batches (batches_of history)

abbrev pub fetch_walks : History → List Walk
fetch_walks history = flat_map (λ (e : Entry). option_to_list e.fetch.walk) history

-- what walks have filled a cache with that was empty before the first
abbrev pub fills_of : List Walk → List Fill
fills_of [] = []
fills_of (w ∷ walks) = filled_by (page_of w.address) w.answer (fills_of walks)

-- the residency once walks have set A, and D where they walked for a store
abbrev pub after_walks : Residency → List Walk → Residency
after_walks residency [] = residency
after_walks residency (w ∷ walks) = after_walk (after_walks residency walks) w.address w.want
