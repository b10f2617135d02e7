use Rattle.vx_tables.proofs.Agreeing.{Agree-same, Agree-join, Agree-other}
use Rattle.vx_tables.proofs.laws.walks_go_side_by_side.Goals as goal

pub returns-clause-same : goal.returns-clause-same
returns-clause-same c address want residency = Agree-same address want residency

pub returns-clause-joined : goal.returns-clause-joined
returns-clause-joined c address want seen between now first second = Agree-join address want seen between now first second

pub returns-clause-other : goal.returns-clause-other
returns-clause-other c residency address other_address want other listed apart = Agree-other residency address other_address want other listed apart
