-- The words are read of the bytes.
use Rattle.std.proofs.Common.{arith}
use Rattle.vx_image.proofs.Loading.{words_hold}
use Rattle.vx_image.proofs.image.read_page.Goals as goal

pub returns : goal.returns
returns c =
    words_hold c.read_u64_into.new.dst c.args.bytes.now (omega arith) (λ i. omega (arith, c.type_inv.bytes i)) c.read_u64_into.ensures
