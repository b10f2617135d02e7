use Rattle.std.proofs.Common.{FitsSigned, w64, pos, ◌*ℤ◌, ap, ◌∙◌}
use Rattle.vx_base.specs.Numbers.{reduced}
use Rattle.vx_bits.specs.Arithmetic.{high_half}
use Rattle.vx_bits.proofs.Wide.{read_mixed_high}
use Rattle.vx_bits.proofs.arithmetic.mulhsu_at.Goals as goal

pub returns-clause-value : goal.returns-clause-value
returns-clause-value c =
    let width = c.args.width in
    let x = c.signed_reading.result in
    let f : FitsSigned w64 x = record { sfits = c.signed_reading.type_inv } in
    c.reduce.ensures.value
    ∙ ap (reduced width) (read_mixed_high x c.low.result width f c.low.type_inv)
    ∙ (λ i. high_half width (c.signed_reading.ensures i *ℤ pos (c.low.ensures.value i)))
