-- What it joins, at each width.
use Rattle.std.proofs.Common.{◌≡◌, if◌then◌else◌, sym, ap, ◌∙◌, rules}
use Rattle.vx_rows.specs.declared.family.Family.{Family}
use Rattle.vx_vector.specs.Numbers.{is_less_at}
use Rattle.vx_vector.specs.Rules.{rule_of}
use Rattle.vx_operands.specs.Rising.{reduced_by}
use Rattle.vx_mask.proofs.reduced.greatest.Goals as goal

pub at_sew-requires-clause-makes : goal.at_sew-requires-clause-makes
at_sew-requires-clause-makes g c t v p =
    let is : v ≡ (if is_less_at 8 t.sum t.x then t.x else t.sum) = search rules in
    is ∙ sym (ap (λ (f : Family). reduced_by (rule_of f) 8 t.sum t.x) c.requires.family)

pub at_sew-requires-in-16-clause-makes : goal.at_sew-requires-in-16-clause-makes
at_sew-requires-in-16-clause-makes g c t v p =
    let is : v ≡ (if is_less_at 16 t.sum t.x then t.x else t.sum) = search rules in
    is ∙ sym (ap (λ (f : Family). reduced_by (rule_of f) 16 t.sum t.x) c.requires.family)

pub at_sew-requires-in-32-clause-makes : goal.at_sew-requires-in-32-clause-makes
at_sew-requires-in-32-clause-makes g c t v p =
    let is : v ≡ (if is_less_at 32 t.sum t.x then t.x else t.sum) = search rules in
    is ∙ sym (ap (λ (f : Family). reduced_by (rule_of f) 32 t.sum t.x) c.requires.family)

pub at_sew-requires-in_default-clause-makes : goal.at_sew-requires-in_default-clause-makes
at_sew-requires-in_default-clause-makes g c t v p =
    let is : v ≡ (if is_less_at 64 t.sum t.x then t.x else t.sum) = search rules in
    is ∙ sym (ap (λ (f : Family). reduced_by (rule_of f) 64 t.sum t.x) c.requires.family)
