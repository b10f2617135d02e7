use Rattle.std.proofs.Common.{refl}
use Rattle.vx_tables.specs.Residency.{after_walk, page_map}
use Rattle.vx_tables.specs.Tables.{entry_in}
use Rattle.vx_tables.specs.Walks.{table_walk, walk}
use Rattle.vx_tables.proofs.laws.examples_hold.Goals as goal

pub returns : goal.returns
unfolding after_walk entry_in page_map table_walk walk
returns c = record {
  entries = refl;
  are_written = refl;
  are_left = refl;
  code_is_kept = refl;
  code_is_granted = refl;
  away_or_denied = refl;
  canonical = refl;
  words = refl;
  is_stored = refl;
  is_touched = refl;
  no_region = refl;
  no_address = refl;
  found = refl;
  not_found = refl;
  looks = refl;
  replaced = refl;
}
