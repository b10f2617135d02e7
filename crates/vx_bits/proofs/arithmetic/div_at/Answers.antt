use Rattle.std.proofs.Common.{FitsSigned, w64, ◌∙◌}
use Rattle.vx_base.specs.Numbers.{reduced}
use Rattle.vx_bits.specs.Arithmetic.{quotient}
use Rattle.vx_bits.proofs.Readings.{width_bounds}
use Rattle.vx_bits.proofs.Wide.{read_quotient}
use Rattle.vx_bits.proofs.arithmetic.div_at.Goals as goal

pub returns-clause-value : goal.returns-clause-value
returns-clause-value c =
    let width = c.args.width in
    let x = c.signed_reading.result in
    let y = c.signed_reading-divisor.result in
    let q = c.wrapping_div-quotient.result in
    let f : FitsSigned w64 x = record { sfits = c.signed_reading.type_inv } in
    let g : FitsSigned w64 y = record { sfits = c.signed_reading-divisor.type_inv } in
    let k : FitsSigned w64 q = record { sfits = c.wrapping_div-quotient.type_inv } in
    c.reduce.ensures.value
    ∙ read_quotient width x y q (width_bounds width c.requires).1 f g k c.if-divisor-eq0.false c.wrapping_div-quotient.ensures
    ∙ (λ i. reduced width (quotient (c.signed_reading.ensures i) (c.signed_reading-divisor.ensures i)))
