-- Banks of memory in front of the cells, each with a queue that is served first in, first out. This project's own.
use Rattle.std.specs.Prelude.{◌≡◌, ◌≢◌, ℕ, ◌+◌, ◌*◌, ◌%◌, ◌<◌, Bool, ◌==◌, List, [], ◌∷◌, ◌++◌, length, filter, All, slice_index, slice_index_or, slice_set, Option, Some, None, ◌≤◌, if◌then◌else◌}
use Rattle.vx_cells.specs.Cells.{CellsState, Makes, read_at, write_at}
use Rattle.vx_cells.specs.declared.access.Access.{Access}
use Rattle.vx_cells.specs.declared.access.Port.TheVariants.{Data}
use Rattle.vx_cells.specs.declared.banks.Queued.{Queued}
use Rattle.vx_cells.specs.declared.banks.Served.{Served}

pub record BanksView : Type 0 where
  -- how many banks there are, and for how many cycles an access holds its bank
  pub banks : ℕ
  pub bank_time : ℕ
  -- the accesses that wait, in the order in which they were offered
  pub queued : List Queued
  -- the cycle of each bank's last serve: a list of 16 places, for any number of banks
  pub served : List (Option ℕ)

-- a word lies in the bank of that number: words go round the banks
abbrev pub is_on_bank : (banks bank : ℕ) → Queued → Bool
is_on_bank banks bank q = q.word % banks == bank

-- the queue of a bank
abbrev pub queue_of : BanksView → ℕ → List Queued
queue_of view bank = filter (is_on_bank view.banks bank) view.queued

-- the access to the cells that a queued one becomes, and its value: the word read, or the one that was stored
abbrev pub access_of : CellsState → Queued → Access
access_of cells q = if q.store then write_at cells Data q.word q.value q.bytes else read_at cells Data q.word

abbrev pub value_of : CellsState → Queued → ℕ
value_of cells q = if q.store then q.value else slice_index cells.contents q.word

-- every word that waits is one of so many frames
abbrev pub AreWithin : List Queued → (frames : ℕ) → Type 0
AreWithin queued frames = All (λ (q : Queued). q.word < 512 * frames) queued

-- the first access of a bank's queue was made, and every other one waits as before
pub record Serves (before after : BanksView) (bank : ℕ) (cells now : CellsState) (served : Served) : Type 0 where
  pub first : Queued
  pub queue : queue_of before bank ≡ first ∷ queue_of after bank
  pub others : (other : ℕ) → other ≢ bank → queue_of after other ≡ queue_of before other
  pub count : length before.queued ≡ length after.queued + 1
  pub last : after.served ≡ slice_set before.served bank (Some cells.cycle)
  pub banks : after.banks ≡ before.banks
  pub bank_time : after.bank_time ≡ before.bank_time
  pub makes : Makes cells now (access_of cells first ∷ [])
  pub answer : served ≡ record { tag = first.tag; value = value_of cells first }

-- so many cycles have passed since a serve, if there was one
abbrev pub IsFree : Option ℕ → (bank_time now : ℕ) → Type 0
IsFree None bank_time now = Unit {0}
IsFree (Some last) bank_time now = last + bank_time ≤ now

-- a bank can serve: an access waits for it, and the bank time since its last serve is over
pub record IsReady (view : BanksView) (bank now : ℕ) : Type 0 where
  pub waits : 0 < length (queue_of view bank)
  pub is_free : IsFree (slice_index_or view.served bank None) view.bank_time now
