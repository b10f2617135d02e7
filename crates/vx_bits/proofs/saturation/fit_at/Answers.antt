use Rattle.std.proofs.Common.{◌≡◌, FitsSigned, not, ap, ◌∙◌}
use Rattle.std.specs.Int.{w128, int_min, int_max}
use Rattle.std.specs.Ordering.{int_eq}
use Rattle.std.proofs.lemmas.Int.{to_z-of_z}
use Rattle.vx_base.specs.Numbers.{reduced}
use Rattle.vx_bits.specs.Saturation.{clipped_at}
use Rattle.vx_bits.proofs.Bounds.{same_bits}
use Rattle.vx_bits.proofs.saturation.fit_at.Goals as goal

pub returns-clause-fitted : goal.returns-clause-fitted
returns-clause-fitted c =
    let v = c.args.v in
    let top = c.greatest.result in
    let capped = c.min.result in
    let bottom = c.least.result in
    let clipped = c.max-clipped.result in
    let top_fits : FitsSigned w128 top = record { sfits = c.greatest.type_inv } in
    let capped_fits : FitsSigned w128 capped = record { sfits = c.min.type_inv } in
    let bottom_fits : FitsSigned w128 bottom = record { sfits = c.least.type_inv } in
    let clipped_fits : FitsSigned w128 clipped = record { sfits = c.max-clipped.type_inv } in
    let capped_is : capped ≡ int_min v top = c.min.ensures.value ∙ (λ i. int_min (to_z-of_z w128 v c.ranges.v i) (to_z-of_z w128 top top_fits i)) in
    let clipped_is : clipped ≡ int_max capped bottom = c.max-clipped.ensures.value ∙ (λ i. int_max (to_z-of_z w128 capped capped_fits i) (to_z-of_z w128 bottom bottom_fits i)) in
    let is : clipped ≡ clipped_at c.args.width c.args.signed v = clipped_is ∙ (λ i. int_max (capped_is i) bottom) ∙ (λ i. int_max (int_min v (c.greatest.ensures i)) (c.least.ensures i)) in
    let value = c.reduce.ensures.value ∙ ap (reduced c.args.width) (to_z-of_z w128 clipped clipped_fits ∙ is) in
    let sat = ap not (same_bits clipped v clipped_fits c.ranges.v) ∙ ap (λ z. not (int_eq z v)) is in
    λ i. record { value = value i; sat = sat i }
