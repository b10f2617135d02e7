use Rattle.std.proofs.Common.{ap}
use Rattle.vx_flat.specs.Continued.{behind}
use Rattle.vx_flat.proofs.laws.continued_is_the_step.Goals as goal

pub returns : goal.returns
returns c s t e = ap (behind s) e
