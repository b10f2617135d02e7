-- Lane by lane, the family's rule.
use Rattle.std.proofs.Common.{rules}
use Rattle.vx_rows.specs.declared.family.Family.TheVariants.{Vmsbc}
use Rattle.vx_operands.specs.Lanes.{answer, numbers_of}
use Rattle.vx_widen.proofs.comparisons.borrowed.Goals as goal

pub returns : goal.returns
returns c = c.make_bits.ensures (λ l. answer Vmsbc (numbers_of c.args.sew 0 l)) (λ l s w p. search rules)
