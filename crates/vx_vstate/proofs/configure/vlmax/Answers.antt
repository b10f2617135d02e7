use Rattle.std.proofs.Common.{◌+◌, ◌*◌, ◌/◌, ◌^◌, ap, ◌∙◌}
use Rattle.vx_vstate.specs.Vtype.{vsew, lmul_eighths}
use Rattle.vx_vstate.proofs.Lengths.{width_power}
use Rattle.vx_vstate.proofs.configure.vlmax.Goals as goal

pub returns : goal.returns
returns c =
    (λ i. c.lmul_eighths.ensures i * c.args.vlen / 2 ^ (c.vsew.ensures i + 6))
    ∙ ap (λ n. lmul_eighths c.args.vtype * c.args.vlen / n) (width_power (vsew c.args.vtype))
