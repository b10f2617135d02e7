use Rattle.vx_bits.proofs.Readings.{ones_of}
use Rattle.vx_bits.proofs.reading.mask.Goals as goal

pub returns : goal.returns
returns c = ones_of c.args.width c.requires.fits
