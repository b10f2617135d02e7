use Rattle.vx_flat.proofs.Classes.{does}
use Rattle.vx_flat.proofs.laws.operations_do_as_their_class.Goals as goal

pub returns : goal.returns
returns c = does
