-- The fold over the accesses, a word at a time.
use Rattle.vx_vector.proofs.Loads.{word-loaded, outside-loads, count-stays, bits-stay}
use Rattle.vx_vector.proofs.movement.loads_make_words.Goals as goal

pub returns-clause-word : goal.returns-clause-word
returns-clause-word c = word-loaded

pub returns-clause-outside : goal.returns-clause-outside
returns-clause-outside c = outside-loads

pub returns-clause-count : goal.returns-clause-count
returns-clause-count c = count-stays

pub returns-clause-bits : goal.returns-clause-bits
returns-clause-bits c = bits-stay c.set_element_leaves_words.ensures.width
