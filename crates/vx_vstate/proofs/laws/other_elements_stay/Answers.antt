use Rattle.vx_vstate.proofs.Elements.{element-with_other}
use Rattle.vx_vstate.proofs.laws.other_elements_stay.Goals as goal

pub returns : goal.returns
returns c = element-with_other
