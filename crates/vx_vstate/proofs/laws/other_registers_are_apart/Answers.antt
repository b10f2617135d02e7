use Rattle.vx_vstate.proofs.Elements.{apart-register}
use Rattle.vx_vstate.proofs.laws.other_registers_are_apart.Goals as goal

pub returns : goal.returns
returns c = apart-register
