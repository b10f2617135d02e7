-- The bits that both words have are no number 0.
use Rattle.std.proofs.Common.{not, nat_eq, ap, ◌∙◌, bit_and}
use Rattle.vx_packed.proofs.Lanes.{any_bit}
use Rattle.vx_packed.proofs.merging.any_lane.Goals as goal

pub returns : goal.returns
returns c = ap (λ n. not (nat_eq (bit_and (bit_and c.args.a c.args.b) n) 0)) c.first_ones.ensures ∙ any_bit c.args.count c.args.a c.args.b c.requires
