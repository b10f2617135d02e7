-- The batches of one instruction behind a quiet history: they go one behind another, and four cycles tell of those that were gone
-- through. This project's own.
use Rattle.std.specs.Prelude.{◌≡◌, ℕ, ◌+◌, ◌<◌, ◌≤◌, max, true, nat_le, nat_lt, List, [], ◌∷◌, ◌++◌, map, flat_map, filter, reverse}
use Rattle.std.specs.List.{list_all}
use Rattle.vx_episode.specs.Batches.{commit_cycle, batch_times, all_batches}
use Rattle.vx_episode.specs.Commits.{Happening, batch_commit, not_last}
use Rattle.vx_episode.specs.Cycles.{Cycle, is_by}
use Rattle.vx_episode.specs.Cycles.Cycle.{At}
use Rattle.vx_episode.specs.Episode.{greatest}
use Rattle.vx_episode.specs.Footprint.{Batch, Footprint}
use Rattle.vx_episode.specs.History.{History, Entry, Walk, BatchTimes, AccessTimes, batches_of, accesses_of, missing_of, batch_done, walks_of_batches, stops}
use Rattle.vx_episode.specs.Organisation.{Start}
use Rattle.vx_quiet.specs.Quiet.{IsQuiet}

-- the times of an instruction's next batch, behind those of it that were gone through
abbrev pub next_times : Start → History → (issued : ℕ) → Footprint → (own : List BatchTimes) → Batch → BatchTimes
next_times start history issued f own b = batch_times start history (own ++ batches_of history) (At issued) f b

-- the end of the look-ups of the last batch; of none, the issue
abbrev pub last_looked_up : (issued : ℕ) → List BatchTimes → Cycle
last_looked_up issued [] = At issued
last_looked_up issued (b ∷ own) = b.looked_up

-- the commit of the last batch, if it weren't the instruction's last; of none, the cycle behind the last retire
abbrev pub last_commit : (retired : ℕ) → List BatchTimes → Cycle
last_commit retired [] = At (retired + 1)
last_commit retired (b ∷ own) = b.committed

-- the same of the batches before the last one
abbrev pub commit_before : (retired : ℕ) → List BatchTimes → Cycle
commit_before retired [] = At 0
commit_before retired (b ∷ own) = last_commit retired own

-- the cycle by which accesses are done
abbrev pub all_done : List AccessTimes → ℕ
all_done accesses = greatest (map (λ (a : AccessTimes). a.done) accesses)

-- the batches `own` of an instruction, the newest first, were gone through, and `rest` is still to come. The look-ups of the last
-- ended at `looked`; it commits at `committed`, if it isn't the instruction's last, and the one before it at `before`; and all
-- accesses so far are done by `done`
pub record IsReached (start : Start) (history : History) (retired issued : ℕ) (f : Footprint) (own : List BatchTimes) (rest : List Batch) (looked committed before done : ℕ) : Type 0 where
  pub quiet : IsQuiet start history retired
  pub behind_retire : retired < issued
  pub whole : all_batches start history [] (At issued) f f.batches ≡ all_batches start history own (At issued) f rest
  -- none stopped, and nothing is waited for that is never queued
  pub none_stops : filter stops own ≡ []
  pub none_missing : missing_of own ≡ []
  -- what the four cycles are
  pub looked_is : last_looked_up issued own ≡ At looked
  pub committed_is : last_commit retired own ≡ At committed
  pub before_is : commit_before retired own ≡ At before
  pub done_is : all_done (accesses_of own) ≡ done
  -- what they bound
  pub commit_is : commit_cycle start history (map (λ (b : BatchTimes). b.looked_up) own) (batch_done own) ≡ At committed
  pub looked_from : issued ≤ looked
  pub committed_from : retired < committed
  pub done_by : done ≤ committed
  pub before_by : before ≤ committed
  pub committed_by : committed ≤ max (retired + 1) (max looked done)
  pub all_looked_up : list_all (λ (b : BatchTimes). is_by committed b.looked_up) own ≡ true
  pub all_committed : list_all (λ (b : BatchTimes). is_by committed b.committed) own ≡ true
  pub committed_before : list_all (λ (b : BatchTimes). is_by before b.committed) (not_last own) ≡ true
  pub queued : list_all (λ (a : AccessTimes). nat_le a.queued looked) (accesses_of own) ≡ true
  pub walked : list_all (λ (w : Walk). nat_le w.ended looked) (walks_of_batches own) ≡ true

-- the commits of batches that aren't the last, the newest of which stands first, in their order
abbrev pub reached : Entry → List BatchTimes → List Happening
reached e own = flat_map (batch_commit e) (reverse own)

-- the cycle at which an instruction completes whose batches were all gone through
abbrev pub completed_behind : (issued : ℕ) → Footprint → (looked done : ℕ) → ℕ
completed_behind issued f looked done = max (issued + f.latency) (max looked done)

-- the cycle at which an instruction stops at an element, in a batch whose look-ups end at a cycle: the accesses for the elements
-- below it are done
abbrev pub stopped_behind : (retired looked element : ℕ) → List AccessTimes → ℕ
stopped_behind retired looked element accesses =
    max looked (max (retired + 1) (all_done (filter (λ (a : AccessTimes). nat_lt a.access.element element) accesses)))
