use Rattle.vx_serve.proofs.Known.{all-queued, below-queued, failure-is}
use Rattle.vx_serve.proofs.laws.known_accesses_are_queued.Goals as goal

pub returns-clause-all : goal.returns-clause-all
returns-clause-all c fate accesses is_trimmed good = all-queued fate accesses is_trimmed good

pub returns-clause-below : goal.returns-clause-below
returns-clause-below c fate below rest good = below-queued fate below rest good

pub returns-clause-failure : goal.returns-clause-failure
returns-clause-failure c fate accesses = failure-is fate accesses
