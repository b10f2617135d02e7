-- The entries so far are those of the pages below a number, and the pages so far are below it.
use Rattle.std.proofs.Common.{◌≡◌, ℕ, ◌<◌, ◌≤◌, [], map, get_or}
use Rattle.vx_image.specs.Building.{is_among, numbers_below, entry_of_segments}
use Rattle.vx_image.specs.Mapping.{stack_page}
use Rattle.vx_image.proofs.build.blank_entries.Given as goal

abbrev pub invariant-loop-page : goal.invariant-loop-page
invariant-loop-page l = record {
  within : l.from ≤ stack_page;
  below : (k d : ℕ) → k < l.page-index → get_or l.pages k d < l.from;
  entries : l.entries.items ≡ map (entry_of_segments []) (numbers_below (is_among l.pages) l.from);
}
