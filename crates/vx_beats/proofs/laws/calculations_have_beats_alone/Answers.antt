-- By groups, and by computing.
use Rattle.vx_beats.proofs.Groups.{beats-all}
use Rattle.vx_beats.proofs.laws.calculations_have_beats_alone.Goals as goal

pub returns-clause-count : goal.returns-clause-count
returns-clause-count c = beats-all
