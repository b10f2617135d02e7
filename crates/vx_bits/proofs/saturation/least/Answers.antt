use Rattle.std.proofs.Common.{◌/◌, ◌-ℤ◌, negsuc, to_z, of_z, ap, sym, ◌∙◌}
use Rattle.std.specs.Int.{w128}
use Rattle.vx_bits.specs.Saturation.{least_at}
use Rattle.vx_bits.proofs.Bounds.{least-is}
use Rattle.vx_bits.proofs.saturation.least.Goals as goal

pub returns-then-signed : goal.returns-then-signed
returns-then-signed c =
    let width = c.args.width in
    ap (λ m. to_z w128 (of_z w128 (negsuc 0 -ℤ to_z w128 (m / 2)))) c.mask.ensures
    ∙ least-is width c.requires.positive c.requires.fits
    ∙ ap (least_at width) (sym c.if-signed.true)
