use Rattle.vx_vstate.proofs.Elements.{apart-index}
use Rattle.vx_vstate.proofs.laws.other_indices_are_apart.Goals as goal

pub returns : goal.returns
returns c = apart-index
