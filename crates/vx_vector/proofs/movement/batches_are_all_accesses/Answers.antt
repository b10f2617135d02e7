-- The batches, one behind another.
use Rattle.vx_vector.proofs.Batches.{all-joined, rest-joined}
use Rattle.vx_vector.proofs.movement.batches_are_all_accesses.Goals as goal

pub returns-clause-all : goal.returns-clause-all
returns-clause-all c = all-joined

pub returns-clause-rest : goal.returns-clause-rest
returns-clause-rest c = rest-joined
