-- The pages before `low` lie below the region, and those from `high` on don't.
use Rattle.std.proofs.Common.{ℕ, ◌-◌, ◌/◌, ◌<◌, ◌≤◌, length, get_or}
use Rattle.vx_base.specs.declared.perm.PageEntry.{PageEntry}
use Rattle.vx_walk.proofs.building.first_from.Given as goal

abbrev pub invariant-loop-low : goal.invariant-loop-low
invariant-loop-low l = record {
  ordered : l.low ≤ l.high;
  within : l.high ≤ length l.pages;
  before : (k : ℕ) (d : PageEntry) → k < l.low → (get_or l.pages k d).page / l.size < l.region;
  behind : (k : ℕ) (d : PageEntry) → l.high ≤ k → k < length l.pages → l.region ≤ (get_or l.pages k d).page / l.size;
}

abbrev pub decreases-loop-low : goal.decreases-loop-low
decreases-loop-low l = l.high - l.low
