-- Histories in which all that the instructions did is over by the last retire, as it is where one instruction is in flight at a
-- time. This project's own.
use Rattle.std.specs.Prelude.{◌≡◌, ℕ, ◌+◌, ◌*◌, ◌≤◌, max, true, nat_le, List, [], ◌∷◌, length, filter}
use Rattle.std.specs.List.{list_all}
use Rattle.std.specs.Option.{option_map_or}
use Rattle.vx_rows.specs.declared.family.Unit.{Unit}
use Rattle.vx_episode.specs.Cycles.{is_by}
use Rattle.vx_episode.specs.Cycles.Cycle.{At}
use Rattle.vx_episode.specs.Footprint.{Footprint, Group}
use Rattle.vx_episode.specs.History.{History, Walk, BatchTimes, AccessTimes, last_issue, last_retire, retire_before, trimming_before, register_ready, word_ready, step_of, latency_of, beats_of, free_unit, batches_of, passed, accesses_of, missing_of, last_serve, data_walks, fetch_walks}
use Rattle.vx_episode.specs.Organisation.{Start}

-- the last instruction retired at a cycle, or the episode started then; and all that the instructions did is over by then
pub record IsQuiet (start : Start) (history : History) (retired : ℕ) : Type 0 where
  pub last : last_retire start.cycle history ≡ At retired
  pub from : start.cycle ≤ retired
  pub issue : is_by retired (last_issue start.cycle history) ≡ true
  pub window : list_all (is_by retired) (retire_before 1 history) ≡ true
  pub trimming : list_all (is_by retired) (trimming_before history) ≡ true
  -- each x register and each word of the vector registers can be read, and each unit is free
  pub registers : (register : ℕ) → is_by retired (register_ready start.cycle history register) ≡ true
  pub words : (place : ℕ) → is_by retired (word_ready start.cycle history place) ≡ true
  pub units : (u : Unit) → list_all (is_by retired) (free_unit u (beats_of history)) ≡ true
  -- the look-ups of each batch have ended and none stopped there, and each has committed
  pub looked_up : list_all (λ (b : BatchTimes). is_by retired (passed b)) (batches_of history) ≡ true
  pub committed : list_all (λ (b : BatchTimes). is_by retired b.committed) (batches_of history) ≡ true
  -- each access was queued and is done, none is waited for, and each bank is free
  pub queued : list_all (λ (a : AccessTimes). nat_le a.queued retired) (accesses_of (batches_of history)) ≡ true
  pub done : list_all (λ (a : AccessTimes). nat_le a.done retired) (accesses_of (batches_of history)) ≡ true
  pub missing : missing_of (batches_of history) ≡ []
  pub banks : (bank : ℕ) → option_map_or (λ served. served + start.machine.bank_time) (last_serve start.machine bank (accesses_of (batches_of history))) 0 ≤ retired
  -- all walks have ended
  pub data_ended : list_all (λ (w : Walk). nat_le w.ended retired) (data_walks history) ≡ true
  pub fetches_ended : list_all (λ (w : Walk). nat_le w.ended retired) (fetch_walks history) ≡ true

-- the cycle from which what the last of an instruction's beats makes can be read, where each is one step behind the one before;
-- of one without beats, the cycle behind its issue
abbrev pub made_by : (issued : ℕ) → Unit → List Group → ℕ
made_by issued u [] = issued + 1
made_by issued u (g ∷ groups) = issued + 1 + length groups * step_of u + latency_of u

-- the cycle at which an instruction completes that was issued at a cycle, and makes no access
abbrev pub completed_at : (issued : ℕ) → Footprint → ℕ
completed_at issued f = max (issued + f.latency) (made_by issued f.unit f.groups)

-- the walks that have ended by a cycle
abbrev pub ended_by : (last : ℕ) → List Walk → List Walk
ended_by last walks = filter (λ (w : Walk). nat_le w.ended last) walks
