use Rattle.vx_vstate.proofs.Bytes.{element-bytes}
use Rattle.vx_vstate.proofs.laws.element_is_its_bytes.Goals as goal

pub returns : goal.returns
returns c = element-bytes
