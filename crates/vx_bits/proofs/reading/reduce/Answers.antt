use Rattle.std.proofs.Common.{bit_and, nat_abs, to_z, of_z, ap, ◌∙◌}
use Rattle.std.specs.Int.{w128}
use Rattle.vx_bits.proofs.Readings.{reduced-masked}
use Rattle.vx_bits.proofs.reading.reduce.Goals as goal

pub returns-clause-value : goal.returns-clause-value
returns-clause-value c = ap (λ m. nat_abs (to_z w128 (bit_and (of_z w128 c.args.v) m))) c.mask.ensures ∙ reduced-masked c.args.width c.args.v c.requires.fits c.ranges.v
