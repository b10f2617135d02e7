use Rattle.std.proofs.Common.{arith}
use Rattle.vx_vstate.proofs.Groups.{vlmax-le}
use Rattle.vx_vstate.proofs.setting.Setting.vlmax.Goals as goal

pub returns-clause-in_range : goal.returns-clause-in_range
returns-clause-in_range c = let most = vlmax-le c.args.self.now.vlen c.args.self.now.vtype in omega (arith, c.vlmax.ensures)
