use Rattle.vx_vstate.proofs.Bytes.{word-from_elements}
use Rattle.vx_vstate.proofs.laws.word_is_its_elements.Goals as goal

pub returns : goal.returns
returns c = word-from_elements
