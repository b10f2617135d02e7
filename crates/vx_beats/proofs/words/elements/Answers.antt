-- By the setting.
use Rattle.vx_beats.proofs.Elements.{few}
use Rattle.vx_beats.proofs.words.elements.Goals as goal

pub returns-clause-few : goal.returns-clause-few
returns-clause-few c = few c.args.at.now.vlen c.args.at.now.vtype c.args.at.now.vl c.args.at.now.vlen_in_range c.args.at.now.vl_in_range
