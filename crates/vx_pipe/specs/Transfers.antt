-- A vector load or store in time: its batches, which have one element each, one behind another. This project's own.
use Rattle.std.specs.Prelude.{◌≡◌, ℕ, zero, suc, ◌+◌, false, List, [], ◌∷◌, ◌++◌, map, Option, None, IfSome}
use Rattle.vx_base.specs.declared.machine.Want.{Want}
use Rattle.vx_cells.specs.Cells.{CellsState}
use Rattle.vx_flat.specs.Transfers.{Transfer}
use Rattle.vx_tables.specs.Residency.{pages_of, is_store}
use Rattle.vx_tables.specs.Tables.{SameBut, table_count}
use Rattle.vx_tlb.specs.declared.tlb.Kept.{Kept}
use Rattle.vx_episode.specs.Batches.{Fate, fate_of, trims, walks_of}
use Rattle.vx_episode.specs.Cycles.Cycle.{At}
use Rattle.vx_episode.specs.Footprint.{Access, Batch, Footprint, moved_batch}
use Rattle.vx_episode.specs.History.{History, Entry, Walk, BatchTimes, accesses_of, batches_of}
use Rattle.vx_episode.specs.Organisation.{Start}
use Rattle.vx_batching.specs.Batching.{IsReached}
use Rattle.vx_look.specs.LookUps.{AreReady}
use Rattle.vx_serve.specs.InTurn.{failure_at}
use Rattle.vx_serve.specs.Serving.{done_by, failing_from, served_of}
use Rattle.vx_serve.specs.Stamps.{BankStamps}
use Rattle.vx_serve.specs.Stamps as banks
use Rattle.vx_pipe.specs.declared.transfers.Gone.{Gone}

-- the batch of an element
abbrev pub element_batch : Transfer → (i : ℕ) → Batch
element_batch t i = moved_batch t (record { from = i; after = i + 1 })

-- those of n elements, from one on
abbrev pub element_batches : Transfer → (n i : ℕ) → List Batch
element_batches t zero i = []
element_batches t (suc n) i = element_batch t i ∷ element_batches t n (i + 1)

-- ---- one batch

-- what was fetched was walked for no store
abbrev pub IsFetchWalk : Option Walk → Type 0
IsFetchWalk walk = IfSome walk (λ (w : Walk). is_store w.want ≡ false)

-- the walks of a batch that starts at a cycle, and with them the fate of an access
abbrev pub own_walks : Start → History → (earlier : List BatchTimes) → Want → (started : ℕ) → List Access → List Walk
own_walks start history earlier want started accesses = walks_of start history earlier want started [] accesses

abbrev pub own_fate : Start → History → (earlier : List BatchTimes) → Want → (started : ℕ) → List Access → Access → Fate
own_fate start history earlier want started accesses = fate_of start history earlier want started (own_walks start history earlier want started accesses)

-- the batch with these times, of an instruction whose fetch is over, was gone through, and this is left; `earlier` are the batches
-- of the episode before it
pub record HasGone (start : Start) (history : History) (e : Entry) (earlier : List BatchTimes) (f : Footprint) (started : ℕ) (b : Batch) (times : BatchTimes) (root : ℕ) (places : List (Option Kept)) (stamps : BankStamps) (before after : CellsState) (gone : Gone) : Type 0 where
  pub looked_up : times.looked_up ≡ At gone.looked
  pub failure : times.failure ≡ failure_at b.accesses gone.failing
  pub missing : gone.failing ≡ None → times.missing ≡ []
  pub done : done_by times.accesses ≡ gone.done
  pub fates : gone.failing ≡ failing_from 0 (map (own_fate start history earlier f.want started b.accesses) b.accesses)
  pub after_is : times.after ≡ b.after
  pub is_trimmed : times.is_trimmed ≡ trims f.is_fault_only_first times.failure
  pub walks_are : times.walks ≡ own_walks start history earlier f.want started b.accesses
  pub accesses_are : times.accesses ≡ served_of start.machine (accesses_of earlier) (own_fate start history earlier f.want started b.accesses) b.accesses
  pub ready : AreReady start (e ∷ history) (times ∷ earlier) root places after
  pub stands : banks.StandsFor stamps start.machine (accesses_of (times ∷ earlier))
  pub frames : after.frames ≡ before.frames
  pub cycle : after.cycle ≡ before.cycle
  pub others : SameBut root (table_count (pages_of start.residency)) before.contents after.contents

-- ---- the batches of one instruction

-- the batches `own` of an instruction, the newest first, were gone through, and `rest` is still to come; this is left by then of what
-- was there at the first. The four cycles are those of IsReached
pub record IsTransferring (start : Start) (history : History) (e : Entry) (retired issued : ℕ) (f : Footprint) (own : List BatchTimes) (rest : List Batch) (looked committed before done root : ℕ) (places : List (Option Kept)) (stamps : BankStamps) (first cells : CellsState) : Type 0 where
  pub reached : IsReached start history retired issued f own rest looked committed before done
  pub ready : AreReady start (e ∷ history) (own ++ batches_of history) root places cells
  pub stands : banks.StandsFor stamps start.machine (accesses_of (own ++ batches_of history))
  pub frames : cells.frames ≡ first.frames
  pub cycle : cells.cycle ≡ first.cycle
  pub others : SameBut root (table_count (pages_of start.residency)) first.contents cells.contents
