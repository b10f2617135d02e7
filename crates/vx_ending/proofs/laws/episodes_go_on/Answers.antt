use Rattle.vx_ending.proofs.GoesOn.{begins, goes-on-to, stepped-state}
use Rattle.vx_ending.proofs.laws.episodes_go_on.Goals as goal

pub returns-clause-begins : goal.returns-clause-begins
returns-clause-begins c start until from running = begins start until from running

pub returns-clause-next : goal.returns-clause-next
returns-clause-next c start until from n history now e t retired way is goes retires none =
    goes-on-to start until from n history now e way is t retired goes retires none

pub returns-clause-state : goal.returns-clause-state
returns-clause-state c start until from n history now t way goes = stepped-state now t way.is_not_over goes
