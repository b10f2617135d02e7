-- A bit is chosen by its bit.
use Rattle.vx_packed.proofs.Lanes.{merged_bits}
use Rattle.vx_packed.proofs.merging.merge_bits.Goals as goal

pub returns : goal.returns
returns c = merged_bits c.args.lanes c.args.new c.args.old c.ranges.lanes.fits c.ranges.new.fits c.ranges.old.fits
