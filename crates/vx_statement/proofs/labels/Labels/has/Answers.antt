use Rattle.std.proofs.Common.{ap, ◌∙◌}
use Rattle.vx_statement.specs.Labels.{has_name}
use Rattle.vx_statement.proofs.Labelled.{has-entries}
use Rattle.vx_statement.proofs.labels.Labels.has.Goals as goal

pub returns : goal.returns
returns c = c.contains_key.ensures ∙ has-entries c.args.name.now c.self.inside.places.entries ∙ ap (has_name c.args.name.now) c.self.view_is
