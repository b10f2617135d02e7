-- What each joins.
use Rattle.std.proofs.Common.{◌≡◌, bit_and, bit_or, min, max, sym, ap, ◌∙◌, rules}
use Rattle.std.specs.Prelude.{bit_xor}
use Rattle.vx_bits.specs.Arithmetic.{sum_at}
use Rattle.vx_rows.specs.declared.family.Family.{Family}
use Rattle.vx_vector.specs.Rules.{rule_of}
use Rattle.vx_operands.specs.Rising.{reduced_by}
use Rattle.vx_mask.proofs.reduced.even_by_family.Goals as goal

pub at_sew-requires-clause-makes : goal.at_sew-requires-clause-makes
at_sew-requires-clause-makes g c t v p =
    let is : v ≡ sum_at c.args.sew t.sum t.x = search rules in
    is ∙ sym (ap (λ (f : Family). reduced_by (rule_of f) c.args.sew t.sum t.x) c.in-Vredsum.is)

pub at_sew-requires-in-Vredand-clause-makes : goal.at_sew-requires-in-Vredand-clause-makes
at_sew-requires-in-Vredand-clause-makes g c t v p =
    let is : v ≡ bit_and t.sum t.x = search rules in
    is ∙ sym (ap (λ (f : Family). reduced_by (rule_of f) c.args.sew t.sum t.x) c.in-Vredand.is)

pub at_sew-requires-in-Vredor-clause-makes : goal.at_sew-requires-in-Vredor-clause-makes
at_sew-requires-in-Vredor-clause-makes g c t v p =
    let is : v ≡ bit_or t.sum t.x = search rules in
    is ∙ sym (ap (λ (f : Family). reduced_by (rule_of f) c.args.sew t.sum t.x) c.in-Vredor.is)

pub at_sew-requires-in-Vredxor-clause-makes : goal.at_sew-requires-in-Vredxor-clause-makes
at_sew-requires-in-Vredxor-clause-makes g c t v p =
    let is : v ≡ bit_xor t.sum t.x = search rules in
    is ∙ sym (ap (λ (f : Family). reduced_by (rule_of f) c.args.sew t.sum t.x) c.in-Vredxor.is)

pub at_sew-requires-in-Vredminu-clause-makes : goal.at_sew-requires-in-Vredminu-clause-makes
at_sew-requires-in-Vredminu-clause-makes g c t v p =
    let is : v ≡ min t.sum t.x = search rules in
    is ∙ sym (ap (λ (f : Family). reduced_by (rule_of f) c.args.sew t.sum t.x) c.in-Vredminu.is)

pub at_sew-requires-in-Vredmaxu-clause-makes : goal.at_sew-requires-in-Vredmaxu-clause-makes
at_sew-requires-in-Vredmaxu-clause-makes g c t v p =
    let is : v ≡ max t.sum t.x = search rules in
    is ∙ sym (ap (λ (f : Family). reduced_by (rule_of f) c.args.sew t.sum t.x) c.in-Vredmaxu.is)
