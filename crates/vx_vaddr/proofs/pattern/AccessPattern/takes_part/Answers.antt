-- The bit of the mask lies in its register.
use Rattle.std.proofs.Common.{arith}
use Rattle.vx_vaddr.proofs.pattern.AccessPattern.takes_part.Goals as goal

pub read_element-requires-clause-within : goal.read_element-requires-clause-within
read_element-requires-clause-within g c = let l = c.requires.sound.masked c.args.i c.requires.among in omega arith
