-- The tables stand for the residency after the walk.
use Rattle.vx_tables.specs.Residency.{after_walk}
use Rattle.vx_walk.proofs.tests.walked.Goals as goal

pub returns : goal.returns
returns c = record {
  residency = after_walk c.requires.residency c.args.address c.args.want;
  held = (c.walk.ensures c.requires.residency c.requires.held).held;
}
