-- Numbers of 64 bits are computed with at 128 bits.
use Rattle.std.proofs.Common.{FitsSigned, w64, ◌-ℤ◌, ◌∙◌}
use Rattle.vx_bits.proofs.Wide.{read_difference}
use Rattle.vx_fixed.proofs.numbers.signed_difference.Goals as goal

pub returns : goal.returns
returns c =
    let x = c.signed_reading.result in
    let y = c.signed_reading-2.result in
    let f : FitsSigned w64 x = record { sfits = c.signed_reading.type_inv } in
    let g : FitsSigned w64 y = record { sfits = c.signed_reading-2.type_inv } in
    read_difference x y f g ∙ (λ i. c.signed_reading.ensures i -ℤ c.signed_reading-2.ensures i)
