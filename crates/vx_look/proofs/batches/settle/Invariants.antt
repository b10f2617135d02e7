-- The accesses so far are settled, and the others are as they were.
use Rattle.std.proofs.Common.{◌≡◌, ℕ, ◌<◌, ◌≤◌, length, get_or}
use Rattle.vx_episode.specs.Footprint.{Access}
use Rattle.vx_look.proofs.batches.settle.Given as goal
use Rattle.vx_serve.specs.Fates.{told, IsKnownBy, AreKnownBy}
use Rattle.vx_look.specs.LookUps.{updated}
use Rattle.vx_serve.specs.declared.fate.Fate.{Fate}
use Rattle.vx_vaddr.specs.declared.item.Item.{Item}

abbrev pub invariant-loop-k : goal.invariant-loop-k
invariant-loop-k l = record {
  count : length l.fates ≡ length l.fn.fates;
  done : (j : ℕ) (d : Fate) (e : Item) (a : Access) → j < l.k → a.address ≡ (get_or l.items j e).address → told (get_or l.fates j d) ≡ updated l.page l.ended l.walked a (told (get_or l.fn.fates j d));
  known : (before : ℕ) → before ≤ l.ended → AreKnownBy before l.fn.fates → (j : ℕ) (d : Fate) → j < l.k → IsKnownBy l.ended (get_or l.fates j d);
  rest : (j : ℕ) (d : Fate) → l.k ≤ j → get_or l.fates j d ≡ get_or l.fn.fates j d;
}
