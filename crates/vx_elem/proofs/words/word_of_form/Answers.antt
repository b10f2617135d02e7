-- Rows whose operands have elements of SEW, and others.
use Rattle.std.proofs.Common.{◌≡◌, ◌||◌, sym, ap, ◌∙◌, rules}
use Rattle.vx_packed.specs.Made.{even_packing, made}
use Rattle.vx_operands.specs.Lanes.{answer, numbers_of}
use Rattle.vx_elem.specs.Kinds.{is_other}
use Rattle.vx_elem.proofs.Unrounded.{unrounded}
use Rattle.vx_elem.proofs.Facts.{plain_each, plain_even}
use Rattle.vx_elem.proofs.words.word_of_form.Goals as goal

pub even_word-requires-clause-each : goal.even_word-requires-clause-each
even_word-requires-clause-each g c = plain_each c.args.form.family (sym c.is_plain.ensures ∙ c.if-is_plain.true)

pub even_word-requires-clause-even : goal.even_word-requires-clause-even
even_word-requires-clause-even g c = plain_even c.args.form.family c.args.form.first (sym c.is_plain.ensures ∙ c.if-is_plain.true)

pub other_word-requires-clause-kind : goal.other_word-requires-clause-kind
other_word-requires-clause-kind g c = sym (ap (λ b. b || is_other c.args.form.family c.args.form.first c.args.form.vm) (sym c.is_plain.ensures ∙ c.if-is_plain.false)) ∙ c.requires.kind

pub even_word-requires-clause-makes : goal.even_word-requires-clause-makes
even_word-requires-clause-makes g c from new p =
    let is : new ≡ made (even_packing c.sew-sew.result) from (λ l. answer c.args.form.family (numbers_of c.sew-sew.result 0 l)) = search rules in
    is ∙ (λ i. made (even_packing c.sew-sew.result) from (λ l. unrounded c.args.form.family (sym c.is_plain.ensures ∙ c.if-is_plain.true) c.sew-sew.result c.args.at.now.vxrm l i))
