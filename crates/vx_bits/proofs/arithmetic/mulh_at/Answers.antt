use Rattle.std.proofs.Common.{FitsSigned, w64, ◌*ℤ◌, ap, ◌∙◌}
use Rattle.vx_base.specs.Numbers.{reduced}
use Rattle.vx_bits.specs.Arithmetic.{high_half}
use Rattle.vx_bits.proofs.Wide.{read_signed_high}
use Rattle.vx_bits.proofs.arithmetic.mulh_at.Goals as goal

pub returns-clause-value : goal.returns-clause-value
returns-clause-value c =
    let width = c.args.width in
    let x = c.signed_reading.result in
    let y = c.signed_reading-2.result in
    let f : FitsSigned w64 x = record { sfits = c.signed_reading.type_inv } in
    let g : FitsSigned w64 y = record { sfits = c.signed_reading-2.type_inv } in
    c.reduce.ensures.value
    ∙ ap (reduced width) (read_signed_high x y width f g)
    ∙ (λ i. high_half width (c.signed_reading.ensures i *ℤ c.signed_reading-2.ensures i))
