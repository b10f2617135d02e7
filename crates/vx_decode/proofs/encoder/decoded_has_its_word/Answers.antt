use Rattle.std.proofs.Common.{sym}
use Rattle.vx_decode.proofs.Encoding.{encoded-only}
use Rattle.vx_decode.proofs.encoder.decoded_has_its_word.Goals as goal

pub returns : goal.returns
returns c = λ word i below e. sym (encoded-only word i below e)
