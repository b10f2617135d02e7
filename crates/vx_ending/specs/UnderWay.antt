-- An episode under way: what is known where an engine has gone from instruction to instruction, and none of them has ended the
-- episode. This project's own.
use Rattle.std.specs.Prelude.{ℕ, zero, suc, ◌+◌, ◌≡◌, ◌<◌, ◌≤◌, false, [], ◌∷◌, None}
use Rattle.std.specs.List.{list_any}
use Rattle.vx_flat.specs.Continued.{continued_by}
use Rattle.vx_flat.specs.Process.{Process, stepped_on}
use Rattle.vx_flat.specs.State.{Flat}
use Rattle.vx_episode.specs.Commits.{entry_of, happenings, ends}
use Rattle.vx_episode.specs.Cycles.{Cycle}
use Rattle.vx_episode.specs.Cycles.Cycle.{At}
use Rattle.vx_episode.specs.History.{History, last_retire}
use Rattle.vx_episode.specs.Organisation.{Start}
use Rattle.vx_ending.specs.Counts.{completed_in}

-- the first n instructions from a state on, the newest first
unfoldable pub first_instructions : Start → (n : ℕ) → Flat → History
first_instructions start zero s = []
first_instructions start (suc n) s = entry_of start (first_instructions start n s) (continued_by n s) ∷ first_instructions start n s

-- the cycle at which the last of n instructions retires: each retires later than the one before, and none at `until` or later
pub record IsRetired (start until n : ℕ) (last : Cycle) : Type 0 where
  pub cycle : ℕ
  pub is : last ≡ At cycle
  pub late : start + n ≤ cycle
  pub early : 0 < n → cycle < until

-- the first n instructions of a process are these, they have completed, and the process is on its way behind them
pub record IsUnderWay (start : Start) (until : ℕ) (from : Process) (n : ℕ) (history : History) (now : Process) : Type 0 where
  pub instructions : history ≡ first_instructions start n from.state
  pub process : now ≡ stepped_on n from
  pub state : now.state ≡ continued_by n from.state
  pub is_not_over : now.over ≡ None
  pub none_ends : list_any (ends until) (happenings start.cycle history) ≡ false
  pub completed : completed_in (happenings start.cycle history) ≡ n
  pub retired : IsRetired start.cycle until n (last_retire start.cycle history)
