-- Serves in numbers: those of the equations once more, without the accesses. This project's own.
use Rattle.std.specs.Prelude.{ℕ, ◌+◌, ◌%◌, ◌≤◌, max, List, [], ◌∷◌, All, slice_index, slice_set}
use Rattle.vx_serve.specs.Stamps.{BankStamps}
use Rattle.vx_serve.specs.declared.queue.Waiting.{Waiting}

-- the cycle at which an access is done that was queued at a cycle
abbrev pub done_at : BankStamps → (queued word : ℕ) → ℕ
done_at view queued word = max (queued + 1) (slice_index view.stamps (word % view.banks)) + view.bank_time

-- and the stamps then
abbrev pub served_on : BankStamps → (queued word : ℕ) → BankStamps
served_on view queued word = record view { stamps = slice_set view.stamps (word % view.banks) (done_at view queued word) }

-- the accesses of a queue in turn: the stamps then, and the greatest cycle at which one is done, or one of before
abbrev pub served_all : BankStamps → List Waiting → BankStamps
served_all view [] = view
served_all view (w ∷ queue) = served_all (served_on view w.queued w.word) queue

abbrev pub done_all : BankStamps → (done : ℕ) → List Waiting → ℕ
done_all view done [] = done
done_all view done (w ∷ queue) = done_all (served_on view w.queued w.word) (max (done_at view w.queued w.word) done) queue

-- all are queued by a cycle
abbrev pub AreQueuedBy : (last : ℕ) → List Waiting → Type 0
AreQueuedBy last queue = All (λ (w : Waiting). w.queued ≤ last) queue
