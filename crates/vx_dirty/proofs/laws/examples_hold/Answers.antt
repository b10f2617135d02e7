-- The definitions give what the examples say.
use Rattle.std.proofs.Common.{refl}
use Rattle.vx_rows.specs.Table.{operations}
use Rattle.vx_flat.specs.Step.{upcoming, performed}
use Rattle.vx_tables.specs.Residency.{page_map, after_walk}
use Rattle.vx_tables.specs.Walks.{walk, table_walk}
use Rattle.vx_tables.specs.Tables.{entry_in}
use Rattle.vx_cells.specs.Merging.{merged}
use Rattle.vx_episode.specs.Footprint.{footprint}
use Rattle.vx_episode.specs.Episode.{run_on, fetched_on, episode}
use Rattle.vx_dirty.specs.Examples.{ExamplesHold}
use Rattle.vx_dirty.proofs.laws.examples_hold.Goals as goal

all : ExamplesHold
unfolding operations upcoming performed page_map after_walk walk table_walk entry_in merged footprint run_on fetched_on episode
all = record { stores = refl; changes = refl; code = refl; away = refl; unmapped = refl; loads = refl }

pub returns : goal.returns
returns c = all
