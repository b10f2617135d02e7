-- The regions so far and those that the rest adds are those of all pages, and no more than the pages so far.
use Rattle.std.proofs.Common.{◌≡◌, ◌+◌, ◌≤◌, ◌/◌, None, drop, map}
use Rattle.vx_base.specs.declared.perm.PageEntry.{PageEntry}
use Rattle.vx_image.specs.Building.{change_count}
use Rattle.vx_image.proofs.frames.region_count.Given as goal

abbrev pub invariant-loop-entry : goal.invariant-loop-entry
invariant-loop-entry l = record {
  counted : l.count + change_count l.last (map (λ (entry : PageEntry). entry.page / l.size) (drop l.entry-index l.entries)) ≡ change_count None (map (λ (entry : PageEntry). entry.page / l.size) l.entries);
  few : l.count ≤ l.entry-index;
}
