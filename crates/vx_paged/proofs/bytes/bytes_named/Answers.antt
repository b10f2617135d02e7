-- The mask is as many ones, moved up.
use Rattle.vx_paged.proofs.Masks.{mask_names}
use Rattle.vx_paged.proofs.bytes.bytes_named.Goals as goal

pub returns : goal.returns
returns c = rw c.ones.ensures (mask_names c.args.width c.args.address c.requires.width c.requires.aligned)
