-- What the look-ups and walks of a batch leave by a cycle, behind which nothing counts. This project's own.
use Rattle.std.specs.Prelude.{◌≡◌, ℕ, ◌⊎◌, Bool, false, nat_le, List, [], filter, Option}
use Rattle.vx_base.specs.declared.machine.Want.{Want}
use Rattle.vx_cells.specs.Cells.{CellsState}
use Rattle.vx_episode.specs.Batches.{Fate as Meant, fate_of, walks_of}
use Rattle.vx_episode.specs.Batches.Fate.{Good, Fails, Unknown}
use Rattle.vx_episode.specs.Footprint.{Access}
use Rattle.vx_episode.specs.History.{History, Walk, BatchTimes}
use Rattle.vx_episode.specs.Organisation.{Start}
use Rattle.vx_look.specs.LookUps.{AreLookedUpBy}
use Rattle.vx_serve.specs.declared.fate.Fate.{Fate}
use Rattle.vx_tlb.specs.declared.tlb.Kept.{Kept}

-- something is known of an access by a cycle
abbrev pub is_known_by : (last : ℕ) → Meant → Bool
is_known_by last (Good cycle word) = nat_le cycle last
is_known_by last (Fails cycle is_away) = nat_le cycle last
is_known_by last Unknown = false

-- the same is known of an access, or nothing is by a cycle
abbrev pub AgreeAt : (last : ℕ) → (fate other : Meant) → Type 0
AgreeAt last fate other = (fate ≡ other) ⊎ ((is_known_by last fate ≡ false) × (is_known_by last other ≡ false))

-- the walks that end by a cycle
abbrev pub ended_by : (last : ℕ) → List Walk → List Walk
ended_by last walks = filter (λ (w : Walk). nat_le w.ended last) walks

-- the look-ups and those of the walks that end by a cycle: what is known by them, the cache and the tables; and what is known by
-- that cycle is what all the walks tell
pub record AreLookedAheadBy (start : Start) (history : History) (earlier : List BatchTimes) (want : Want) (started : ℕ) (accesses : List Access) (last : ℕ) (walks : List Walk) (root : ℕ) (places : List (Option Kept)) (before after : CellsState) (known : List Fate) (ended : ℕ) : Type 0 where
  pub looked : AreLookedUpBy start history earlier want started accesses (ended_by last walks) root places before after known ended
  pub agree : (a : Access) → AgreeAt last (fate_of start history earlier want started (ended_by last walks) a) (fate_of start history earlier want started walks a)

abbrev pub AreLookedAhead : (start : Start) (history : History) (earlier : List BatchTimes) (want : Want) (started : ℕ) (accesses : List Access) (last root : ℕ) (places : List (Option Kept)) (before after : CellsState) (known : List Fate) (ended : ℕ) → Type 0
AreLookedAhead start history earlier want started accesses last root places before after known ended =
    AreLookedAheadBy start history earlier want started accesses last (walks_of start history earlier want started [] accesses) root places before after known ended
