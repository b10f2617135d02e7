-- What a fetch's look-up and walk leave. This project's own.
use Rattle.std.specs.Prelude.{◌≡◌, ℕ, ◌+◌, Bool, true, false, List, ◌++◌, Option}
use Rattle.std.specs.Option.{option_to_list, option_map_or}
use Rattle.vx_cells.specs.Cells.{CellsState}
use Rattle.vx_episode.specs.Cycles.Cycle.{At}
use Rattle.vx_episode.specs.History.{History, Walk, FetchTimes, data_walks, fetch_walks, fills_of, after_walks}
use Rattle.vx_episode.specs.Instructions.{fetch_times}
use Rattle.vx_episode.specs.Organisation.{Start}
use Rattle.vx_look.specs.declared.fetching.Fetched.{Fetched}
use Rattle.vx_tables.specs.Residency.{pages_of}
use Rattle.vx_tables.specs.Tables.{AreHeld, SameBut, table_count}
use Rattle.vx_tables.specs.declared.walked.Walked.{Walked}
use Rattle.vx_tables.specs.declared.walked.Walked.TheVariants as walked
use Rattle.vx_tlb.specs.Kept.{StandsFor}
use Rattle.vx_tlb.specs.declared.tlb.Kept.{Kept}

-- a walk's page is away
abbrev pub is_away : Walked → Bool
is_away (walked.Leaf frame perm dirty) = false
is_away walked.Away = true
is_away walked.Denied = false

-- a fetch has the times of the equations, the cache stands for the walks of fetches with its own, and the tables for the residency
-- after it
pub record IsFetchedAs (start : Start) (history : History) (t : FetchTimes) (root : ℕ) (places : List (Option Kept)) (before after : CellsState) (f : Fetched) : Type 0 where
  pub ended : t.ended ≡ At f.ended
  pub away : f.is_away ≡ option_map_or (λ (w : Walk). is_away w.answer) t.walk false
  pub kept : StandsFor places (fills_of (option_to_list t.walk ++ fetch_walks history))
  pub held : AreHeld after root (after_walks start.residency (option_to_list t.walk ++ fetch_walks history ++ data_walks history))
  pub frames : after.frames ≡ before.frames
  pub cycle : after.cycle ≡ before.cycle
  pub others : SameBut root (table_count (pages_of start.residency)) before.contents after.contents

abbrev pub IsFetched : (start : Start) (history : History) (pc begun root : ℕ) (places : List (Option Kept)) (before after : CellsState) → Fetched → Type 0
IsFetched start history pc begun root places before after f = IsFetchedAs start history (fetch_times start history pc (At begun)) root places before after f
