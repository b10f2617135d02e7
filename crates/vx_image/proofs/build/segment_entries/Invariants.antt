-- The entries have the permissions of the segments so far.
use Rattle.std.proofs.Common.{◌≡◌, map, take}
use Rattle.vx_image.specs.Building.{is_met, numbers_below, entry_of_segments}
use Rattle.vx_image.specs.Mapping.{stack_page}
use Rattle.vx_image.proofs.build.segment_entries.Given as goal

abbrev pub invariant-loop-segment : goal.invariant-loop-segment
invariant-loop-segment l =
    l.entries.items ≡ map (entry_of_segments (take l.segment-index l.segments)) (numbers_below (is_met l.segments) stack_page)
