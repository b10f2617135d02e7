-- None of the segments so far is met.
use Rattle.std.proofs.Common.{◌≡◌, drop, find}
use Rattle.vx_elf.specs.Reading.{meets}
use Rattle.vx_elf.proofs.read.first_met_of.Given as goal

abbrev pub invariant-loop-segment : goal.invariant-loop-segment
invariant-loop-segment l = find (meets l.header) (drop l.segment-index l.segments) ≡ find (meets l.header) l.segments
