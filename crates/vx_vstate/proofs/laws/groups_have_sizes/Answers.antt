use Rattle.vx_vstate.proofs.Groups.{sew-width, group-size}
use Rattle.vx_vstate.proofs.laws.groups_have_sizes.Goals as goal

pub returns : goal.returns
returns c = record { width = sew-width; registers = group-size }
