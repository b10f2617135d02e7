use Rattle.vx_decode.proofs.Encoding.{decoded-valid}
use Rattle.vx_decode.proofs.decoder.decoded_is_valid.Goals as goal

pub returns : goal.returns
returns c = decoded-valid
