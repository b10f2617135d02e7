use Rattle.std.proofs.Common.{FitsSigned, w64, ◌∙◌}
use Rattle.vx_base.specs.Numbers.{reduced}
use Rattle.vx_bits.specs.Arithmetic.{remainder}
use Rattle.vx_bits.proofs.Wide.{read_remainder}
use Rattle.vx_bits.proofs.arithmetic.rem_at.Goals as goal

pub returns-clause-value : goal.returns-clause-value
returns-clause-value c =
    let width = c.args.width in
    let x = c.signed_reading.result in
    let y = c.signed_reading-divisor.result in
    let r = c.wrapping_rem-remainder.result in
    let f : FitsSigned w64 x = record { sfits = c.signed_reading.type_inv } in
    let g : FitsSigned w64 y = record { sfits = c.signed_reading-divisor.type_inv } in
    let k : FitsSigned w64 r = record { sfits = c.wrapping_rem-remainder.type_inv } in
    c.reduce.ensures.value
    ∙ read_remainder width x y r f g k c.if-divisor-eq0.false c.wrapping_rem-remainder.ensures
    ∙ (λ i. reduced width (remainder (c.signed_reading.ensures i) (c.signed_reading-divisor.ensures i)))
