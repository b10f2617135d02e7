-- What the longest run is.
use Rattle.vx_vector.proofs.Batches as batches
use Rattle.vx_vector.proofs.movement.batches_are_longest_runs.Goals as goal

pub returns-clause-some : goal.returns-clause-some
returns-clause-some c = batches.some

pub returns-clause-within : goal.returns-clause-within
returns-clause-within c = batches.within

pub returns-clause-elements : goal.returns-clause-elements
returns-clause-elements c = batches.elements

pub returns-clause-accesses : goal.returns-clause-accesses
returns-clause-accesses c = batches.few

pub returns-clause-longest : goal.returns-clause-longest
returns-clause-longest c = batches.longest
