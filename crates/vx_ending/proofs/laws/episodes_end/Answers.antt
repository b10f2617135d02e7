use Rattle.vx_ending.proofs.GoesOn.{ends-with}
use Rattle.vx_ending.proofs.laws.episodes_end.Goals as goal

pub returns : goal.returns
returns c start until from n history now e before after last way is parts none ended =
    ends-with start until from n history now e way is before after last parts none ended
