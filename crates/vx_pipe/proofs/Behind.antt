-- The fetch behind an instruction that ends the episode.
use Rattle.std.proofs.Common.{◌≡◌, ℕ, ◌+◌, ◌<◌, ◌≤◌, Bool, true, false, List, [], ◌++◌, None, refl, sym, subst}
use Rattle.std.specs.Prelude.{Option, if◌then◌else◌, option_to_list}
use Rattle.std.proofs.lemmas.Bool.{le-leb, lt-leb}
use Rattle.vx_base.specs.declared.machine.Want.TheVariants.{Fetch}
use Rattle.vx_cells.specs.Cells.{CellsState}
use Rattle.vx_image.specs.Pages.{is_canonical, page_of}
use Rattle.vx_tables.specs.Caches.{look_up}
use Rattle.vx_tables.specs.declared.look.Look.{Look}
use Rattle.vx_tables.specs.declared.look.Look.TheVariants.{Hit, Denied, Miss}
use Rattle.vx_tlb.specs.declared.tlb.Kept.{Kept}
use Rattle.vx_episode.specs.Cycles.Cycle.{At}
use Rattle.vx_episode.specs.History.{FetchTimes, History, Walk, after_walks, data_walks, fetch_walks, fills_of}
use Rattle.vx_episode.specs.Instructions.{fetch_by, fetch_times, residency_now, walk_time}
use Rattle.vx_episode.specs.Organisation.{Start, fetch_entries}
use Rattle.vx_look.specs.Fetches.{IsFetched}
use Rattle.vx_look.specs.declared.fetching.Fetched.{Fetched}
use Rattle.vx_quiet.specs.Quiet.{ended_by}
use Rattle.vx_pipe.specs.Going.{AreKept}
use Rattle.vx_pipe.proofs.Fetched.{kept-by}

module _ (start : Start) (history : History) (pc begun last : ℕ) where
  whole-look : (look : Look) → begun + walk_time start.machine ≤ last → ended_by last (option_to_list (fetch_by start history pc begun look).walk) ≡ option_to_list (fetch_by start history pc begun look).walk
  whole-look (Hit frame) by = refl
  whole-look Denied by = refl
  whole-look Miss by = rw (le-leb (begun + walk_time start.machine) last by) refl

  none-look : (look : Look) → last < begun + walk_time start.machine → ended_by last (option_to_list (fetch_by start history pc begun look).walk) ≡ []
  none-look (Hit frame) late = refl
  none-look Denied late = refl
  none-look Miss late = rw (lt-leb (begun + walk_time start.machine) last late) refl

  abbrev times : Bool → Look → FetchTimes
  times b look = if b then fetch_by start history pc begun look else record { begun = At begun; ended = At begun; walk = None }

  whole-by : (b : Bool) (look : Look) → begun + walk_time start.machine ≤ last → ended_by last (option_to_list (times b look).walk) ≡ option_to_list (times b look).walk
  whole-by true look by = whole-look look by
  whole-by false look by = refl

  none-by : (b : Bool) (look : Look) → last < begun + walk_time start.machine → ended_by last (option_to_list (times b look).walk) ≡ []
  none-by true look late = none-look look late
  none-by false look late = refl

  pub whole : begun + walk_time start.machine ≤ last → ended_by last (option_to_list (fetch_times start history pc (At begun)).walk) ≡ option_to_list (fetch_times start history pc (At begun)).walk
  whole by = whole-by (is_canonical pc) (look_up fetch_entries (fills_of (fetch_walks history)) (page_of pc) Fetch) by

  pub none : last < begun + walk_time start.machine → ended_by last (option_to_list (fetch_times start history pc (At begun)).walk) ≡ []
  none late = none-by (is_canonical pc) (look_up fetch_entries (fills_of (fetch_walks history)) (page_of pc) Fetch) late

  pub kept-without : (first cells : CellsState) → last < begun + walk_time start.machine → AreKept start (residency_now start history) first cells
      → AreKept start (after_walks start.residency ((ended_by last (option_to_list (fetch_times start history pc (At begun)).walk) ++ fetch_walks history) ++ data_walks history)) first cells
  kept-without first cells late kept = subst (λ (ws : List Walk). AreKept start (after_walks start.residency ((ws ++ fetch_walks history) ++ data_walks history)) first cells) (sym (none late)) kept

  pub kept-with : (first before after : CellsState) (places : List (Option Kept)) (f : Fetched) → begun + walk_time start.machine ≤ last → IsFetched start history pc begun start.root places before after f → AreKept start (residency_now start history) first before
      → AreKept start (after_walks start.residency ((ended_by last (option_to_list (fetch_times start history pc (At begun)).walk) ++ fetch_walks history) ++ data_walks history)) first after
  kept-with first before after places f by fetched kept =
      subst (λ (ws : List Walk). AreKept start (after_walks start.residency ((ws ++ fetch_walks history) ++ data_walks history)) first after) (sym (whole by))
      (kept-by start (residency_now start history) (after_walks start.residency ((option_to_list (fetch_times start history pc (At begun)).walk ++ fetch_walks history) ++ data_walks history)) first before after kept fetched.held fetched.frames fetched.cycle fetched.others)
