use Rattle.std.proofs.Common.{arith}
use Rattle.vx_vstate.proofs.Groups.{lmul-range}
use Rattle.vx_vstate.proofs.setting.Setting.lmul_eighths.Goals as goal

pub returns-clause-in_range : goal.returns-clause-in_range
returns-clause-in_range c = let range = lmul-range c.args.self.now.vtype in omega (arith, range.1, c.lmul_eighths.ensures)
