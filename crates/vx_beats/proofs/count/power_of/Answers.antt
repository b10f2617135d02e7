-- By the four numbers.
use Rattle.std.proofs.Common.{◌≡◌, ◌≤◌, ◌^◌, refl, arith}
use Rattle.std.specs.Int.Count.{count_trailing_zeros}
use Rattle.vx_beats.proofs.Groups.{by_lanes}
use Rattle.vx_beats.proofs.count.power_of.Goals as goal

pub returns-clause-is : goal.returns-clause-is
unfolding count_trailing_zeros
returns-clause-is c = by_lanes (λ n. 2 ^ count_trailing_zeros 32 n ≡ n) c.args.lanes c.requires refl refl refl refl

pub returns-clause-few : goal.returns-clause-few
unfolding count_trailing_zeros
returns-clause-few c = by_lanes (λ n. count_trailing_zeros 32 n ≤ 3) c.args.lanes c.requires (omega arith) (omega arith) (omega arith) (omega arith)
