-- What a batch depends on.
use Rattle.vx_vector.proofs.Needed.{accesses-same, values-same, batch-same}
use Rattle.vx_vector.proofs.movement.batches_need_their_words.Goals as goal

pub returns-clause-accesses : goal.returns-clause-accesses
returns-clause-accesses c = accesses-same

pub returns-clause-values : goal.returns-clause-values
returns-clause-values c = values-same

pub returns-clause-ends : goal.returns-clause-ends
returns-clause-ends c = batch-same
