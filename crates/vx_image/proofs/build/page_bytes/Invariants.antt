-- The pages hold the bytes of the segments so far.
use Rattle.vx_image.proofs.Filling.{IsFilled}
use Rattle.vx_image.proofs.build.page_bytes.Given as goal

abbrev pub invariant-loop-segment : goal.invariant-loop-segment
invariant-loop-segment l = IsFilled l.bytes.items l.entries l.segments l.segment-index
