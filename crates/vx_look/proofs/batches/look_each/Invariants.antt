-- The accesses so far are looked up.
use Rattle.std.proofs.Common.{◌≡◌, ℕ, ◌<◌, [], List, length, get_or}
use Rattle.vx_episode.specs.Batches.{fate_of}
use Rattle.vx_episode.specs.Footprint.{Access}
use Rattle.vx_episode.specs.History.{History, BatchTimes, walks_of_batches, fills_of}
use Rattle.vx_episode.specs.Organisation.{Start}
use Rattle.vx_look.proofs.batches.look_each.Given as goal
use Rattle.vx_serve.specs.Fates.{told, IsKnownBy}
use Rattle.vx_serve.specs.declared.fate.Fate.{Fate}
use Rattle.vx_tlb.specs.Kept.{StandsFor}
use Rattle.vx_vaddr.specs.declared.item.Item.{Item}

abbrev pub invariant-loop-k : goal.invariant-loop-k
invariant-loop-k l = record {
  same : l.tlb ≡ l.fn.tlb;
  count : length l.fates ≡ length l.fn.fates;
  known : (j : ℕ) (d : Fate) → j < l.k → IsKnownBy l.started (get_or l.fates j d);
  done : (j : ℕ) (d : Fate) (e : Item) (a : Access) (start : Start) (history : History) (earlier : List BatchTimes) → j < l.k → a.address ≡ (get_or l.items j e).address → a.width ≡ (get_or l.items j e).width
      → StandsFor l.fn.tlb (fills_of (walks_of_batches earlier)) → told (get_or l.fates j d) ≡ fate_of start history earlier l.want l.started [] a;
}
