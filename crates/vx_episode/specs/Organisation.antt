-- The machine that is timed, and what an episode begins with. This project's own.
use Rattle.std.specs.Prelude.{ℕ, Bool}
use Rattle.vx_tables.specs.Residency.{Residency}

pub record Organisation : Type 0 where
  -- how many words a unit handles in a beat, and how many accesses are looked up together
  pub lanes : ℕ
  -- the banks of memory, and the cycles for which an access holds its bank
  pub banks : ℕ
  pub bank_time : ℕ
  -- how many instructions may be in flight
  pub window : ℕ
  -- the most elements that a batch of accesses may have: one, or as many as any instruction has
  pub batch_limit : ℕ

-- how many entries the caches of translations have, of data and of fetches
abbrev pub data_entries : ℕ
data_entries = 32

abbrev pub fetch_entries : ℕ
fetch_entries = 8

-- what an episode begins with: the machine, the cycle, the residency of the process's pages and the frame of the root of their
-- tables, and whether the process has got the vectors
pub record Start : Type 0 where
  pub machine : Organisation
  pub cycle : ℕ
  pub residency : Residency
  pub root : ℕ
  pub has_vectors : Bool
