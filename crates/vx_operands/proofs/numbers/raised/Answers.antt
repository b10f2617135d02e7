-- What goes beyond the word is lost.
use Rattle.vx_operands.proofs.Signs.{raised_is}
use Rattle.vx_operands.proofs.numbers.raised.Goals as goal

pub returns : goal.returns
returns c = raised_is c.args.width c.args.a c.requires
