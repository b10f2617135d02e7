-- The batches of one instruction, one behind another, with what they leave.
use Rattle.std.proofs.Common.{◌≡◌, ℕ, ◌+◌, ◌<◌, max, true, List, [], ◌∷◌, ◌++◌, refl, sym, ap, subst, ◌∙◌}
use Rattle.std.specs.Prelude.{Option, None}
use Rattle.vx_cells.specs.Cells.{CellsState}
use Rattle.vx_episode.specs.Batches.{batch_started, with_commit}
use Rattle.vx_episode.specs.Cycles.Cycle.{At}
use Rattle.vx_episode.specs.Footprint.{Batch, Footprint}
use Rattle.vx_episode.specs.History.{History, Entry, BatchTimes, accesses_of, batches_of}
use Rattle.vx_episode.specs.Organisation.{Start}
use Rattle.vx_batching.specs.Batching.{IsReached, next_times, all_done}
use Rattle.vx_look.specs.LookUps.{AreReady}
use Rattle.vx_quiet.specs.Quiet.{IsQuiet}
use Rattle.vx_serve.specs.InTurn.{failure_at}
use Rattle.vx_serve.specs.Stamps.{BankStamps}
use Rattle.vx_serve.specs.Stamps as banks
use Rattle.vx_tlb.specs.declared.tlb.Kept.{Kept}
use Rattle.vx_pipe.specs.Transfers.{HasGone, IsTransferring}
use Rattle.vx_pipe.specs.declared.transfers.Gone.{Gone}

-- laws of the batches
abbrev pub BatchesBegin : Type 0
BatchesBegin = (start : Start) (history : History) (retired issued : ℕ) (f : Footprint) → IsQuiet start history retired → retired < issued
    → IsReached start history retired issued f [] f.batches issued (retired + 1) 0 0

abbrev pub BatchStarts : Type 0
BatchStarts = (start : Start) (history : History) (retired issued : ℕ) (f : Footprint) (own : List BatchTimes) (b : Batch) (rest : List Batch) (looked committed before done : ℕ)
    → IsReached start history retired issued f own (b ∷ rest) looked committed before done
    → next_times start history issued f own b ≡ batch_started start history (own ++ batches_of history) f b (At (max looked before + 1))

abbrev pub BatchPasses : Type 0
BatchPasses = (start : Start) (history : History) (retired issued : ℕ) (f : Footprint) (own : List BatchTimes) (b : Batch) (rest : List Batch) (looked committed before done next : ℕ)
    → IsReached start history retired issued f own (b ∷ rest) looked committed before done
    → (next_times start history issued f own b).failure ≡ None → (next_times start history issued f own b).missing ≡ []
    → (next_times start history issued f own b).looked_up ≡ At next
    → IsReached start history retired issued f (with_commit start history own (next_times start history issued f own b)) rest next
    (max committed (max next (all_done (next_times start history issued f own b).accesses))) committed
    (max done (all_done (next_times start history issued f own b).accesses))

abbrev pub BatchIsCutOff : Type 0
BatchIsCutOff = (start : Start) (history : History) (retired issued : ℕ) (f : Footprint) (own : List BatchTimes) (b : Batch) (rest : List Batch) (looked committed before done next : ℕ)
    → IsReached start history retired issued f own (b ∷ rest) looked committed before done
    → (next_times start history issued f own b).is_trimmed ≡ true
    → (next_times start history issued f own b).looked_up ≡ At next
    → IsReached start history retired issued f (with_commit start history own (next_times start history issued f own b)) [] next
    (max committed (max next (all_done (next_times start history issued f own b).accesses))) committed
    (max done (all_done (next_times start history issued f own b).accesses))

-- none was gone through yet
pub begins : BatchesBegin → (start : Start) (history : History) (e : Entry) (retired issued : ℕ) (f : Footprint) (root : ℕ) (places : List (Option Kept)) (stamps : BankStamps) (cells : CellsState) → IsQuiet start history retired → retired < issued
    → AreReady start (e ∷ history) (batches_of history) root places cells → banks.StandsFor stamps start.machine (accesses_of (batches_of history))
    → IsTransferring start history e retired issued f [] f.batches issued (retired + 1) 0 0 root places stamps cells cells
begins begin start history e retired issued f root places stamps cells quiet after ready stands = record {
  reached = begin start history retired issued f quiet after;
  ready = ready;
  stands = stands;
  frames = refl;
  cycle = refl;
  others = λ word out. refl;
}

module _ (start : Start) (history : History) (e : Entry) (retired issued : ℕ) (f : Footprint) (own : List BatchTimes) (b : Batch) (rest : List Batch) (looked committed before done root : ℕ) (places now : List (Option Kept)) (stamps banked : BankStamps) (first cells after : CellsState)
    (at : IsTransferring start history e retired issued f own (b ∷ rest) looked committed before done root places stamps first cells) where
  abbrev pub times : BatchTimes
  times = next_times start history issued f own b

  -- a batch that was gone through has the times of the next one
  pub gone-next : BatchStarts → (gone : Gone) → HasGone start history e (own ++ batches_of history) f (max looked before + 1) b (batch_started start history (own ++ batches_of history) f b (At (max looked before + 1))) root now banked cells after gone
      → HasGone start history e (own ++ batches_of history) f (max looked before + 1) b times root now banked cells after gone
  gone-next starts gone has =
      subst (λ (t : BatchTimes). HasGone start history e (own ++ batches_of history) f (max looked before + 1) b t root now banked cells after gone)
      (sym (starts start history retired issued f own b rest looked committed before done at.reached)) has

  -- what is left, whatever comes behind it
  left-by : (behind : List Batch) (gone : Gone) → HasGone start history e (own ++ batches_of history) f (max looked before + 1) b times root now banked cells after gone
      → IsReached start history retired issued f (with_commit start history own times) behind gone.looked (max committed (max gone.looked (all_done times.accesses))) committed (max done (all_done times.accesses))
      → IsTransferring start history e retired issued f (with_commit start history own times) behind gone.looked (max committed (max gone.looked gone.done)) committed (max done gone.done) root now banked first after
  left-by behind gone has reached = record {
    reached = subst (λ (n : ℕ). IsReached start history retired issued f (with_commit start history own times) behind gone.looked (max committed (max gone.looked n)) committed (max done n)) has.done reached;
    ready = record { kept = has.ready.kept; held = has.ready.held };
    stands = has.stands;
    frames = has.frames ∙ at.frames;
    cycle = has.cycle ∙ at.cycle;
    others = λ word out. has.others word out ∙ at.others word out;
  }

  -- one of which no access fails
  pub passes : BatchPasses → (gone : Gone) → HasGone start history e (own ++ batches_of history) f (max looked before + 1) b times root now banked cells after gone → gone.failing ≡ None
      → IsTransferring start history e retired issued f (with_commit start history own times) rest gone.looked (max committed (max gone.looked gone.done)) committed (max done gone.done) root now banked first after
  passes pass gone has none =
      left-by rest gone has
      (pass start history retired issued f own b rest looked committed before done gone.looked at.reached (has.failure ∙ ap (failure_at b.accesses) none) (has.missing none) has.looked_up)

  -- one that is cut off: none is behind it
  pub cut-off : BatchIsCutOff → (gone : Gone) → HasGone start history e (own ++ batches_of history) f (max looked before + 1) b times root now banked cells after gone → times.is_trimmed ≡ true
      → IsTransferring start history e retired issued f (with_commit start history own times) [] gone.looked (max committed (max gone.looked gone.done)) committed (max done gone.done) root now banked first after
  cut-off cut gone has trimmed =
      left-by [] gone has
      (cut start history retired issued f own b rest looked committed before done gone.looked at.reached trimmed has.looked_up)
