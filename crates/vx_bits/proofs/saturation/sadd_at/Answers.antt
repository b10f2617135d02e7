use Rattle.std.proofs.Common.{FitsSigned, w64, true, ◌+ℤ◌, ap, ◌∙◌}
use Rattle.vx_bits.specs.Saturation.{fitted_at}
use Rattle.vx_bits.proofs.Wide.{read_sum}
use Rattle.vx_bits.proofs.saturation.sadd_at.Goals as goal

pub returns-clause-fitted : goal.returns-clause-fitted
returns-clause-fitted c =
    let width = c.args.width in
    let x = c.signed_reading.result in
    let y = c.signed_reading-2.result in
    let f : FitsSigned w64 x = record { sfits = c.signed_reading.type_inv } in
    let g : FitsSigned w64 y = record { sfits = c.signed_reading-2.type_inv } in
    c.fit_at.ensures.fitted
    ∙ ap (fitted_at width true) (read_sum x y f g)
    ∙ (λ i. fitted_at width true (c.signed_reading.ensures i +ℤ c.signed_reading-2.ensures i))
