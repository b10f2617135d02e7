-- The pages of the segments so far.
use Rattle.std.proofs.Common.{◌≡◌, ℕ, take}
use Rattle.vx_image.specs.Building.{is_among, is_met}
use Rattle.vx_image.proofs.met.met_pages.Given as goal

abbrev pub invariant-loop-segment : goal.invariant-loop-segment
invariant-loop-segment l = (number : ℕ) → is_among l.pages.items number ≡ is_met (take l.segment-index l.segments) number
