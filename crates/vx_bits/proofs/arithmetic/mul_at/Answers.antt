use Rattle.std.proofs.Common.{◌*◌, ◌^◌, ◌∙◌}
use Rattle.std.proofs.lemmas.Nat.{mul-mod}
use Rattle.vx_bits.proofs.Readings.{mod-narrow, width_bounds}
use Rattle.vx_bits.proofs.arithmetic.mul_at.Goals as goal

pub returns-clause-value : goal.returns-clause-value
returns-clause-value c =
    let width = c.args.width in
    let bounds = width_bounds width c.requires in
    c.low.ensures.value ∙ mod-narrow (c.args.a * c.args.b) 64 width bounds.1 ∙ mul-mod c.args.a c.args.b (2 ^ width)
