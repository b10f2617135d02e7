-- The walk of an instruction's own fetch is for no store.
use Rattle.std.proofs.Common.{ℕ, Bool, true, false, refl}
use Rattle.std.specs.Prelude.{if◌then◌else◌}
use Rattle.vx_flat.specs.State.{Flat}
use Rattle.vx_image.specs.Pages.{is_canonical, page_of}
use Rattle.vx_base.specs.declared.machine.Want.TheVariants.{Fetch}
use Rattle.vx_tables.specs.Caches.{look_up}
use Rattle.vx_tables.specs.declared.look.Look.{Look}
use Rattle.vx_tables.specs.declared.look.Look.TheVariants.{Hit, Denied, Miss}
use Rattle.vx_episode.specs.Commits.{timed}
use Rattle.vx_episode.specs.Cycles.{Cycle}
use Rattle.vx_episode.specs.Cycles.Cycle.{At, Never}
use Rattle.vx_episode.specs.Footprint.{Footprint}
use Rattle.vx_episode.specs.History.{History, fetch_walks, fills_of}
use Rattle.vx_episode.specs.Instructions.{fetch_at, fetch_begin, fetch_by, fetch_times}
use Rattle.vx_episode.specs.Organisation.{Start, fetch_entries}
use Rattle.vx_pipe.specs.Transfers.{IsFetchWalk}

by-look : (start : Start) (history : History) (pc begun : ℕ) (l : Look) → IsFetchWalk (fetch_by start history pc begun l).walk
by-look start history pc begun (Hit frame) = tt
by-look start history pc begun Denied = tt
by-look start history pc begun Miss = refl

by-address : (start : Start) (history : History) (pc begun : ℕ) (b : Bool) (l : Look) → IsFetchWalk (if b then fetch_by start history pc begun l else fetch_at start begun).walk
by-address start history pc begun true l = by-look start history pc begun l
by-address start history pc begun false l = tt

of-times : (start : Start) (history : History) (pc : ℕ) (c : Cycle) → IsFetchWalk (fetch_times start history pc c).walk
of-times start history pc Never = tt
of-times start history pc (At begun) = by-address start history pc begun (is_canonical pc) (look_up fetch_entries (fills_of (fetch_walks history)) (page_of pc) Fetch)

pub fetched-for-no-store : (start : Start) (history : History) (s : Flat) (f : Footprint) → IsFetchWalk (timed start history s f).fetch.walk
fetched-for-no-store start history s f = of-times start history s.pc (fetch_begin start history)
