use Rattle.vx_vstate.proofs.Groups.{element-in_group, mask-in_register}
use Rattle.vx_vstate.proofs.laws.elements_lie_in_their_group.Goals as goal

pub returns : goal.returns
returns c = record { group = element-in_group; mask = mask-in_register }
