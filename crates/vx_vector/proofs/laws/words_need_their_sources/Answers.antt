-- The laws of elements, for the fold over them.
use Rattle.vx_vector.proofs.Elements.{ElementLaws}
use Rattle.vx_vector.proofs.Sources.{word-same, saturation-same, what-is-told-same}
use Rattle.vx_vector.proofs.laws.words_need_their_sources.Goals as goal

laws : goal.After-other_indices_are_apart → ElementLaws
laws c = record {
  same = c.set_element_is_read.ensures;
  other = λ vlen words register width index value other ne. c.other_elements_stay.ensures vlen words register width index value register width other (c.other_indices_are_apart.ensures vlen register width index other ne);
  place = c.set_element_leaves_words.ensures.other;
  count = c.set_element_leaves_words.ensures.count;
  bits = c.set_element_leaves_words.ensures.width;
  mask = c.elements_lie_in_their_group.ensures.mask;
  whole = c.joined_by_elements.ensures.whole;
  alike = c.joined_by_elements.ensures.same;
}

pub returns-clause-value : goal.returns-clause-value
returns-clause-value c r others w = word-same r others (laws c) w

pub returns-clause-sat : goal.returns-clause-sat
returns-clause-sat c r others w = saturation-same r others (laws c) w

pub returns-clause-told : goal.returns-clause-told
returns-clause-told c r others w = what-is-told-same r others (laws c) w
