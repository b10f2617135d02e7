use Rattle.std.proofs.Common.{ap, ◌∙◌}
use Rattle.std.specs.Int.{w128}
use Rattle.std.proofs.lemmas.Int.{to_z-of_z}
use Rattle.vx_bits.specs.Rounding.{rounds_up}
use Rattle.vx_bits.proofs.Ties.{read_rounded}
use Rattle.vx_bits.proofs.rounding.round.Goals as goal

pub returns : goal.returns
returns c =
    let up = c.is_rounded_up.ensures ∙ ap (λ z. rounds_up z c.args.by c.args.vxrm) (to_z-of_z w128 c.args.v c.ranges.v) in
    read_rounded c.args.v c.args.by c.args.vxrm c.is_rounded_up.result c.ranges.v up
