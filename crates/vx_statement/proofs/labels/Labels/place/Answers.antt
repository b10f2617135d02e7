use Rattle.std.proofs.Common.{ap, ◌∙◌, option_map}
use Rattle.vx_statement.specs.Labels.{place_of, place_in}
use Rattle.vx_statement.proofs.Labelled.{place-entries}
use Rattle.vx_statement.proofs.labels.Labels.place.Goals as goal

pub returns : goal.returns
returns c = ap (option_map place_of) (c.copied.ensures ∙ c.get.ensures.value) ∙ place-entries c.args.name.now c.self.inside.places.entries ∙ ap (place_in c.args.name.now) c.self.view_is
