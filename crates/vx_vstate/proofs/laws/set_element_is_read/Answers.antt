use Rattle.vx_vstate.proofs.Elements.{element-with_same}
use Rattle.vx_vstate.proofs.laws.set_element_is_read.Goals as goal

pub returns : goal.returns
returns c = element-with_same
