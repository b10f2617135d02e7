-- What the fetch behind an instruction that ends an episode leaves. This project's own.
use Rattle.std.specs.Prelude.{◌≡◌, ℕ, List, Option, ◌++◌, option_to_list}
use Rattle.vx_cells.specs.Cells.{CellsState}
use Rattle.vx_tables.specs.Residency.{pages_of}
use Rattle.vx_tables.specs.Tables.{AreHeld, SameBut, table_count}
use Rattle.vx_tlb.specs.Kept.{StandsFor}
use Rattle.vx_tlb.specs.declared.tlb.Kept.{Kept}
use Rattle.vx_episode.specs.Cycles.Cycle.{At}
use Rattle.vx_episode.specs.History.{History, after_walks, data_walks, fetch_walks, fills_of}
use Rattle.vx_episode.specs.Instructions.{fetch_times, residency_now}
use Rattle.vx_episode.specs.Organisation.{Start}
use Rattle.vx_quiet.specs.Quiet.{ended_by}
use Rattle.vx_pipe.specs.Going.{AreKept}

-- physical memory is kept, with the walk of the fetch as far as it ends by the last cycle
abbrev pub KeptBehind : (root bank_time pc begun last : ℕ) → (fetches : List (Option Kept)) → (before after : CellsState) → Type 0
KeptBehind root bank_time pc begun last fetches before after =
    (start : Start) (history : History) (first : CellsState) → start.root ≡ root → start.machine.bank_time ≡ bank_time → StandsFor fetches (fills_of (fetch_walks history))
    → AreKept start (residency_now start history) first before
    → AreKept start (after_walks start.residency ((ended_by last (option_to_list (fetch_times start history pc (At begun)).walk) ++ fetch_walks history) ++ data_walks history)) first after

-- only words of the process's tables differ
abbrev pub OthersBehind : (root bank_time : ℕ) → (fetches : List (Option Kept)) → (before after : CellsState) → Type 0
OthersBehind root bank_time fetches before after =
    (start : Start) (history : History) → start.machine.bank_time ≡ bank_time → StandsFor fetches (fills_of (fetch_walks history)) → AreHeld before root (residency_now start history)
    → SameBut root (table_count (pages_of start.residency)) before.contents after.contents
