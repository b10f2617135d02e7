-- How far a vector load or store has come that goes from element to element, with what the flat machine makes of it. This project's own.
use Rattle.std.specs.Prelude.{◌≡◌, ℕ, ◌+◌, ◌-◌, ◌≤◌, max, true, false, not, nat_lt, List, [], ◌∷◌, ◌++◌, length, All, Option, Some, None}
use Rattle.std.specs.List.{list_all}
use Rattle.vx_base.specs.declared.machine.Fault.{Fault}
use Rattle.vx_base.specs.declared.machine.Want.{Want}
use Rattle.vx_cells.specs.Cells.{CellsState}
use Rattle.vx_flat.specs.Outcome.Outcome.{Next, Faulted}
use Rattle.vx_flat.specs.State.{Flat}
use Rattle.vx_flat.specs.Transfers.{Transfer, first_failure, is_fault_only_first, transferred, want_of}
use Rattle.vx_image.specs.Pages.{Memory}
use Rattle.vx_tables.specs.Residency.{IsOf, Residency, page_map, pages_of}
use Rattle.vx_tables.specs.Tables.{AreHeld, SameBut, table_count}
use Rattle.vx_tlb.specs.declared.tlb.Kept.{Kept}
use Rattle.vx_vector.specs.Accesses.{Movement, accesses_between, movement_count}
use Rattle.vx_episode.specs.Batches.{batch_started}
use Rattle.vx_episode.specs.Cycles.Cycle.{At}
use Rattle.vx_episode.specs.Footprint.{Batch, Footprint}
use Rattle.vx_episode.specs.History.{History, Entry, Failure, Walk, BatchTimes, AccessTimes, accesses_of, after_walks, batches_of, data_walks, fetch_walks, queued_by, walks_of_batches}
use Rattle.vx_episode.specs.Organisation.{Start}
use Rattle.vx_quiet.specs.Quiet.{ended_by}
use Rattle.vx_batching.specs.Batching.{IsReached, all_done, next_times, reached}
use Rattle.vx_ending.specs.Counts.{changes_in, commits_in}
use Rattle.vx_look.specs.LookUps.{AreReady}
use Rattle.vx_serve.specs.Stamps.{BankStamps}
use Rattle.vx_pipe.specs.Present.{ArePresent}
use Rattle.vx_pipe.specs.Transfers.{IsFetchWalk, IsTransferring, element_batch, element_batches}
use Rattle.vx_pipe.specs.declared.passing.Passed.{Passed}
use Rattle.vx_pipe.specs.declared.passing.Passed.TheVariants as passed
use Rattle.vx_pipe.specs.declared.passing.Passing.{Passing}
use Rattle.vx_pipe.specs.declared.passing.Way.{Way}
use Rattle.vx_pipe.specs.declared.passing.Way.TheVariants as way

-- the cycles of a vector load or store are no later than that
pub record IsSoon (last : ℕ) (n : Passing) : Type 0 where
  pub looked : n.looked ≤ last
  pub committed : n.committed ≤ last
  pub done : n.done ≤ last

-- a walk answered what the residency says, as some walks have left it
abbrev pub AreTrue : Residency → List Walk → Type 0
AreTrue residency walks = All (λ (w : Walk). (done : List Walk) × (w.answer ≡ page_map (after_walks residency done) w.address w.want)) walks

-- an instruction's footprint is that of a transfer with these accesses, in an episode all of whose pages are present
pub record IsSet (start : Start) (history : History) (e : Entry) (f : Footprint) (t : Transfer) (bank_time : ℕ) (want : Want) (m : Movement) : Type 0 where
  pub bank : start.machine.bank_time ≡ bank_time
  pub wants : f.want ≡ want
  pub wanted : want_of t.direction ≡ want
  pub trims : f.is_fault_only_first ≡ is_fault_only_first m.addressing
  pub moved : t.movement ≡ m
  pub fetched : IsFetchWalk e.fetch.walk
  pub present : ArePresent start.residency
  pub memory : Memory
  pub of : IsOf start.residency memory
  pub answered : AreTrue start.residency (data_walks history)

-- the batches of an instruction commit once each, and change the vector state
pub record AreCounted (own : List BatchTimes) : Type 0 where
  pub commits : (e : Entry) → commits_in (reached e own) ≡ length own
  pub changes : (e : Entry) → e.footprint.changes_vectors ≡ true → changes_in (reached e own) ≡ nat_lt 0 (length own)

abbrev pub AreBelow : (i : ℕ) → List AccessTimes → Type 0
AreBelow i accesses = list_all (λ (a : AccessTimes). nat_lt a.access.element i) accesses ≡ true

abbrev pub AreFrom : (i : ℕ) → List AccessTimes → Type 0
AreFrom i accesses = list_all (λ (a : AccessTimes). not (nat_lt a.access.element i)) accesses ≡ true

-- the last batch that was gone through, where there is one, ends in front of an element
abbrev pub EndsBefore : (i : ℕ) → List BatchTimes → Type 0
EndsBefore i [] = Unit {0}
EndsBefore i (b ∷ own) = b.after ≡ i

-- all elements below one were gone through, and none of their accesses fails
pub record IsPassing (start : Start) (history : History) (e : Entry) (retired issued : ℕ) (f : Footprint) (t : Transfer) (i : ℕ) (rest : List Batch) (n : Passing) (root : ℕ) (places : List (Option Kept)) (stamps : BankStamps) (first cells : CellsState) : Type 0 where
  pub own : List BatchTimes
  pub transferring : IsTransferring start history e retired issued f own rest n.looked n.committed n.before n.done root places stamps first cells
  pub count : t.movement.at.vstart + length own ≡ i
  pub ends : EndsBefore i own
  pub counted : AreCounted own
  pub answered : AreTrue start.residency (walks_of_batches own)
  pub below : AreBelow i (accesses_of own)
  pub free : (memory : Memory) → IsOf start.residency memory → first_failure t.direction memory (accesses_between t.movement 0 i) ≡ None

-- all elements up to one were gone through, and the instruction completes
pub record IsThrough (start : Start) (history : History) (e : Entry) (retired issued : ℕ) (f : Footprint) (t : Transfer) (i : ℕ) (n : Passing) (root : ℕ) (places : List (Option Kept)) (stamps : BankStamps) (first cells : CellsState) : Type 0 where
  pub own : List BatchTimes
  pub last : BatchTimes
  pub transferring : IsTransferring start history e retired issued f (last ∷ own) [] n.looked n.committed n.before n.done root places stamps first cells
  pub count : t.movement.at.vstart + length own ≡ i
  pub commits : (other : Entry) → commits_in (reached other own) ≡ length own
  pub completes : (s : Flat) → IsOf start.residency s.memory → (u : Flat) × (transferred t s ≡ Next u)

-- all elements below one were gone through, and the instruction stops at that one
pub record IsStopped (start : Start) (history : History) (e : Entry) (retired issued : ℕ) (f : Footprint) (t : Transfer) (i : ℕ) (n : Passing) (root : ℕ) (places : List (Option Kept)) (first cells : CellsState) : Type 0 where
  pub own : List BatchTimes
  pub b : Batch
  pub rest : List Batch
  pub looked : ℕ
  pub done : ℕ
  pub failing : Failure
  pub reached : IsReached start history retired issued f own (b ∷ rest) looked n.committed n.before done
  pub fails : (next_times start history issued f own b).failure ≡ Some failing
  pub trims_not : (next_times start history issued f own b).is_trimmed ≡ false
  pub looked_up : (next_times start history issued f own b).looked_up ≡ At n.looked
  pub all_done : max done (all_done (next_times start history issued f own b).accesses) ≡ n.done
  pub from : b.from ≡ i
  pub element : failing.element ≡ i
  pub there : failing.is_away ≡ false
  pub below : AreBelow i (accesses_of own)
  pub above : AreFrom i (next_times start history issued f own b).accesses
  pub count : t.movement.at.vstart + length own ≡ i
  pub counted : AreCounted own
  pub ready : AreReady start (e ∷ history) (next_times start history issued f own b ∷ own ++ batches_of history) root places cells
  pub frames : cells.frames ≡ first.frames
  pub cycle : cells.cycle ≡ first.cycle
  pub others : SameBut root (table_count (pages_of start.residency)) first.contents cells.contents
  pub faults : (s : Flat) → IsOf start.residency s.memory → (fault : Fault) × (u : Flat) × (transferred t s ≡ Faulted fault u)

-- an element behind the last one that commits in the episode: what of its accesses is queued by a cycle is done by another one, and its
-- walks that end by that cycle were made
pub record IsAhead (start : Start) (history : History) (e : Entry) (earlier : List BatchTimes) (f : Footprint) (started : ℕ) (b : Batch) (last root : ℕ) (before after : CellsState) (done : ℕ) : Type 0 where
  pub done_is : done ≡ all_done (queued_by last (batch_started start history earlier f b (At started)).accesses)
  pub held : AreHeld after root (after_walks start.residency (fetch_walks (e ∷ history) ++ (ended_by last (batch_started start history earlier f b (At started)).walks ++ walks_of_batches earlier)))
  pub frames : after.frames ≡ before.frames
  pub cycle : after.cycle ≡ before.cycle
  pub others : SameBut root (table_count (pages_of start.residency)) before.contents after.contents

-- what an element came to
abbrev pub HasPassed : Passed → Start → History → Entry → (retired issued : ℕ) → Footprint → Transfer → (i : ℕ) → (rest : List Batch) → Passing → (root : ℕ) → List (Option Kept) → BankStamps → (first cells : CellsState) → Type 0
HasPassed passed.Goes start history e retired issued f t i rest n root places stamps first cells = IsPassing start history e retired issued f t (i + 1) rest n root places stamps first cells
HasPassed passed.Completes start history e retired issued f t i rest n root places stamps first cells = IsThrough start history e retired issued f t i n root places stamps first cells
HasPassed passed.Stops start history e retired issued f t i rest n root places stamps first cells = IsStopped start history e retired issued f t i n root places first cells

-- what all elements came to: each was gone through, or those below one were
abbrev pub HasGoneTo : Way → Start → History → Entry → (retired issued : ℕ) → Footprint → Transfer → (i : ℕ) → Passing → (root : ℕ) → List (Option Kept) → BankStamps → (first cells : CellsState) → Type 0
HasGoneTo way.Completes start history e retired issued f t i n root places stamps first cells = IsThrough start history e retired issued f t i n root places stamps first cells
HasGoneTo way.Reaches start history e retired issued f t i n root places stamps first cells =
    IsPassing start history e retired issued f t i (element_batch t i ∷ element_batches t (movement_count t.movement - (i + 1)) (i + 1)) n root places stamps first cells
HasGoneTo way.Stops start history e retired issued f t i n root places stamps first cells = IsStopped start history e retired issued f t i n root places first cells
