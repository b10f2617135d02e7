use Rattle.std.proofs.Common.{bit_and, ap, ◌∙◌}
use Rattle.std.proofs.lemmas.Nat.{and_mask}
use Rattle.vx_bits.proofs.reading.low.Goals as goal

pub returns-clause-value : goal.returns-clause-value
returns-clause-value c = ap (bit_and c.args.a) c.mask.ensures ∙ and_mask c.args.a c.args.width
