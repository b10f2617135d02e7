use Rattle.std.proofs.Common.{not, List, map, ap, sym, ◌∙◌, ◌++◌, ◌∷◌, []}
use Rattle.vx_statement.specs.Labels.{Label, has_name, label_of}
use Rattle.vx_statement.proofs.Labelled.{has-entries, insert-entries}
use Rattle.vx_statement.proofs.labels.Labels.add.Goals as goal

pub returns-then-contains_key-clause-added : goal.returns-then-contains_key-clause-added
returns-then-contains_key-clause-added c =
    let known = has-entries c.args.name.now c.self.inside.places.entries ∙ ap (has_name c.args.name.now) c.self.view_is in
    ap not (sym c.if-contains_key.true ∙ c.contains_key.ensures ∙ known)

pub returns-clause-added : goal.returns-clause-added
returns-clause-added c =
    let known = has-entries c.args.name.now c.self.inside.places.entries ∙ ap (has_name c.args.name.now) c.self.view_is in
    ap not (sym c.if-contains_key.false ∙ c.contains_key.ensures ∙ known)

pub returns-clause-labels : goal.returns-clause-labels
returns-clause-labels c =
    let absent = sym (has-entries c.args.name.now c.self.inside.places.entries) ∙ sym c.contains_key.ensures ∙ c.if-contains_key.false in
    ap (map label_of) c.in_ok-insert.ensures.entries
    ∙ insert-entries c.args.name c.args.place c.self.inside.places.entries absent
    ∙ ap (λ (l : List Label). l ++ label_of (c.args.name, c.args.place) ∷ []) c.self.view_is
