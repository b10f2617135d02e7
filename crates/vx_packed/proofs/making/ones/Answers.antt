-- Ones shifted right.
use Rattle.vx_packed.proofs.Masks.{ones_of}
use Rattle.vx_packed.proofs.making.ones.Goals as goal

pub returns : goal.returns
returns c = ones_of c.args.width c.requires.fits
