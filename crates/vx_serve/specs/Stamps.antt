-- From which cycle each bank of memory is free. This project's own.
use Rattle.std.specs.Prelude.{◌≡◌, ℕ, ◌+◌, ◌<◌, ◌≤◌, List, length, slice_index}
use Rattle.std.specs.Option.{option_map_or}
use Rattle.vx_episode.specs.History.{AccessTimes, last_serve}
use Rattle.vx_episode.specs.Organisation.{Organisation}

pub record BankStamps : Type 0 where
  pub banks : ℕ
  -- the cycles for which an access holds its bank
  pub bank_time : ℕ
  -- for each bank the cycle from which it is free
  pub stamps : List ℕ

-- the cycle from which a bank is free: the bank time behind the last serve on it, or 0
abbrev pub free_from : Organisation → (bank : ℕ) → (earlier : List AccessTimes) → ℕ
free_from machine bank earlier = option_map_or (λ served. served + machine.bank_time) (last_serve machine bank earlier) 0

abbrev pub AreFreeFrom : Organisation → (stamps : List ℕ) → (earlier : List AccessTimes) → Type 0
AreFreeFrom machine stamps earlier = (bank : ℕ) → bank < machine.banks → slice_index stamps bank ≡ free_from machine bank earlier

-- stamps stand for the accesses of a machine that were served so far, the last served first
pub record StandsFor (view : BankStamps) (machine : Organisation) (earlier : List AccessTimes) : Type 0 where
  pub banks : machine.banks ≡ view.banks
  pub bank_time : machine.bank_time ≡ view.bank_time
  pub some : 0 < view.banks
  pub places : view.banks ≤ length view.stamps
  pub are_free_from : AreFreeFrom machine view.stamps earlier

-- no stamp is later than that
abbrev pub AreBy : (last : ℕ) → (stamps : List ℕ) → Type 0
AreBy last stamps = (bank : ℕ) → slice_index stamps bank ≤ last

-- they are of the same banks
abbrev pub AreOfSame : (before after : BankStamps) → Type 0
AreOfSame before after = (after.banks ≡ before.banks) × (after.bank_time ≡ before.bank_time)
