use Rattle.vx_vstate.proofs.Bytes.{mask-bit}
use Rattle.vx_vstate.proofs.laws.mask_bit_is_of_its_byte.Goals as goal

pub returns : goal.returns
returns c = mask-bit
