use Rattle.std.proofs.Common.{◌%◌, ◌^◌, bit_and, ap, ◌∙◌, mod-lt, pow_pos}
use Rattle.std.proofs.lemmas.Nat.{and_mask}
use Rattle.vx_bits.proofs.Readings.{signed-small, signed-large}
use Rattle.vx_bits.proofs.reading.signed_reading.Goals as goal

pub returns-then-bits-mask : goal.returns-then-bits-mask
returns-then-bits-mask c =
    let width = c.args.width in
    let bits = ap (bit_and c.args.a) c.mask-mask.ensures ∙ and_mask c.args.a width in
    rw (c.mask-mask.ensures, and_mask) (signed-small width (c.args.a % 2 ^ width) c.requires.positive c.requires.fits (rw (c.mask-mask.ensures, and_mask) at c.if-bits-mask.true))

pub returns-else-bits-mask : goal.returns-else-bits-mask
returns-else-bits-mask c =
    let width = c.args.width in
    rw (c.mask-mask.ensures, and_mask) (signed-large width (c.args.a % 2 ^ width) c.requires.positive c.requires.fits (rw (c.mask-mask.ensures, and_mask) at c.if-bits-mask.false) (mod-lt c.args.a (pow_pos width)))
