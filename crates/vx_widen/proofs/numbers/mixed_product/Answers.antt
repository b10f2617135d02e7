-- No product is too large for 128 bits.
use Rattle.std.proofs.Common.{FitsSigned, w64, pos, ◌*ℤ◌, ap, ◌∙◌}
use Rattle.vx_base.specs.Numbers.{reduced}
use Rattle.vx_widen.proofs.Products.{read_mixed}
use Rattle.vx_widen.proofs.numbers.mixed_product.Goals as goal

pub returns : goal.returns
returns c =
    let x = c.signed_reading.result in
    let f : FitsSigned w64 x = record { sfits = c.signed_reading.type_inv } in
    c.reduce.ensures.value
    ∙ ap (reduced c.args.width) (read_mixed x c.args.b f c.ranges.b.fits)
    ∙ ap (λ z. reduced c.args.width (z *ℤ pos c.args.b)) c.signed_reading.ensures
