use Rattle.std.proofs.Common.{◌+◌, add-one}
use Rattle.vx_ending.proofs.Fetches.{fetched-at, fetched-one, fetched-two}
use Rattle.vx_ending.proofs.laws.instructions_in_flight.Goals as goal

pub returns-clause-any : goal.returns-clause-any
returns-clause-any c start s last m by stops = fetched-at start s last m (m + 1) (add-one m) by stops

pub returns-clause-one : goal.returns-clause-one
returns-clause-one c start until from n history now e last way is by stops =
    fetched-one start n last from.state now.state history e way.instructions way.state is by stops

pub returns-clause-two : goal.returns-clause-two
returns-clause-two c start until from n history now e later last way is next by stops =
    fetched-two start n last from.state now.state history e later way.instructions way.state is next by stops
