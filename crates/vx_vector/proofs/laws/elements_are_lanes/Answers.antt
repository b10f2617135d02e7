-- Elements as lanes, and lanes of what is made of elements.
use Rattle.vx_vector.proofs.Made.{lane-is, value-by-element, saturation-by-element}
use Rattle.vx_vector.proofs.laws.elements_are_lanes.Goals as goal

pub returns-clause-lane : goal.returns-clause-lane
returns-clause-lane c = lane-is

pub returns-clause-value : goal.returns-clause-value
returns-clause-value c = value-by-element c.joined_by_elements.ensures.same

pub returns-clause-sat : goal.returns-clause-sat
returns-clause-sat c = saturation-by-element
