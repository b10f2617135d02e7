use Rattle.vx_vstate.proofs.Elements.{word-with_other, length-with_element}
use Rattle.vx_vstate.proofs.Bytes.{word-with_element-lt}
use Rattle.vx_vstate.proofs.laws.set_element_leaves_words.Goals as goal

pub returns : goal.returns
returns c = record { other = word-with_other; count = length-with_element; width = word-with_element-lt }
