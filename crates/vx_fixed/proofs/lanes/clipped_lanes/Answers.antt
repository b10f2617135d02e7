-- Lane by lane, the family's rule.
use Rattle.std.proofs.Common.{rules}
use Rattle.vx_rows.specs.declared.family.Family.TheVariants.{Vnclipu}
use Rattle.vx_operands.specs.Lanes.{answer, numbers_of}
use Rattle.vx_fixed.proofs.lanes.clipped_lanes.Goals as goal

pub returns : goal.returns
returns c = c.make_narrow.ensures (λ l. answer Vnclipu (numbers_of c.args.sew c.args.vxrm l)) (λ l s w p. search rules)
