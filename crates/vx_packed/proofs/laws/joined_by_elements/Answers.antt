-- Each clause is a lemma.
use Rattle.vx_packed.proofs.Joined.{lane_joined, joined-lt, joined_lanes, joined_same, joined_append}
use Rattle.vx_packed.proofs.laws.joined_by_elements.Goals as goal

pub returns-clause-element : goal.returns-clause-element
returns-clause-element c = lane_joined

pub returns-clause-below : goal.returns-clause-below
returns-clause-below c = joined-lt

pub returns-clause-whole : goal.returns-clause-whole
returns-clause-whole c = joined_lanes

pub returns-clause-same : goal.returns-clause-same
returns-clause-same c = joined_same

pub returns-clause-beside : goal.returns-clause-beside
returns-clause-beside c = joined_append
