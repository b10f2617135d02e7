-- The lower bits of the next word stand above.
use Rattle.std.proofs.Common.{◌≡◌, ◌+◌, ◌-◌, arith}
use Rattle.vx_perm.proofs.Joining.{across_is}
use Rattle.vx_perm.proofs.runs.across.Goals as goal

pub returns : goal.returns
returns c = let e : c.args.shift + (64 - c.args.shift) ≡ 64 = omega arith in across_is c.args.low c.args.high c.args.shift (64 - c.args.shift) e (omega arith)
