-- Bit by bit.
use Rattle.std.proofs.Common.{nat_eq, arith}
use Rattle.vx_packed.specs.Joined.{lane}
use Rattle.vx_operands.proofs.Counts.{ones_lanes, count_most}
use Rattle.vx_operands.proofs.active.ones.Goals as goal

pub returns-clause-value : goal.returns-clause-value
returns-clause-value c = ones_lanes 64 c.args.word c.ranges.word.fits

pub returns-clause-few : goal.returns-clause-few
returns-clause-few c =
    let e = ones_lanes 64 c.args.word c.ranges.word.fits in
    let most = count_most (λ k. nat_eq (lane 1 c.args.word k) 1) 64 in
    omega (arith, e, most)
