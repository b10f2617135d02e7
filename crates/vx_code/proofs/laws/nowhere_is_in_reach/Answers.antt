use Rattle.vx_code.proofs.Nowhere.{nowhere-reaches}
use Rattle.vx_code.proofs.laws.nowhere_is_in_reach.Goals as goal

pub returns : goal.returns
returns c = nowhere-reaches
