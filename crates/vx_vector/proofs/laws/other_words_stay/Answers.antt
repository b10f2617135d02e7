-- The laws of elements, for the fold over them.
use Rattle.vx_vector.specs.Reading.{count_of}
use Rattle.vx_vector.proofs.Elements.{ElementLaws, after-count}
use Rattle.vx_vector.proofs.Made.{outside-stays, unmade-stays, telling-stays}
use Rattle.vx_vector.proofs.laws.other_words_stay.Goals as goal

laws : goal.After-other_indices_are_apart → ElementLaws
laws c = record {
  same = c.set_element_is_read.ensures;
  other = λ vlen words register width index value other ne. c.other_elements_stay.ensures vlen words register width index value register width other (c.other_indices_are_apart.ensures vlen register width index other ne);
  place = c.set_element_leaves_words.ensures.other;
  count = c.set_element_leaves_words.ensures.count;
  bits = c.set_element_leaves_words.ensures.width;
  mask = c.elements_lie_in_their_group.ensures.mask;
  whole = c.joined_by_elements.ensures.whole;
  alike = c.joined_by_elements.ensures.same;
}

pub returns-clause-count : goal.returns-clause-count
returns-clause-count c r = after-count (laws c) r (count_of r)

pub returns-clause-outside : goal.returns-clause-outside
returns-clause-outside c = outside-stays (laws c)

pub returns-clause-unmade : goal.returns-clause-unmade
returns-clause-unmade c = unmade-stays (laws c)

pub returns-clause-telling : goal.returns-clause-telling
returns-clause-telling c = telling-stays
