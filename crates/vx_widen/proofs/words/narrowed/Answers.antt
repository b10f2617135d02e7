-- Each family by its own function.
use Rattle.std.proofs.Common.{◌≡◌, sym, ap, ◌∙◌, rules}
use Rattle.vx_packed.specs.Made.{made}
use Rattle.vx_rows.specs.declared.family.Family.{Family}
use Rattle.vx_rows.specs.declared.family.Family.TheVariants.{Vnsrl, Vnsra}
use Rattle.vx_operands.specs.Lanes.{answer, numbers_of}
use Rattle.vx_operands.specs.Parts.{narrow_packing}
use Rattle.vx_widen.proofs.Facts.{narrows_each, narrows_operands}
use Rattle.vx_widen.proofs.words.narrowed.Goals as goal

pub narrow_word-requires-clause-each : goal.narrow_word-requires-clause-each
narrow_word-requires-clause-each g c = narrows_each c.args.form.family c.requires.kind

pub narrow_word-requires-clause-narrows : goal.narrow_word-requires-clause-narrows
narrow_word-requires-clause-narrows g c = narrows_operands c.args.form.family c.args.form.first c.requires.kind

pub narrow_word-requires-clause-makes : goal.narrow_word-requires-clause-makes
narrow_word-requires-clause-makes g c from new p =
    let is : new ≡ made (narrow_packing c.args.sew) from (λ l. answer Vnsrl (numbers_of c.args.sew 0 l)) = search rules in
    is ∙ sym (ap (λ (f : Family). made (narrow_packing c.args.sew) from (λ l. answer f (numbers_of c.args.sew c.args.at.now.vxrm l))) c.in-Vnsrl.is)

pub narrow_word-requires-in-Vnsra-clause-each : goal.narrow_word-requires-in-Vnsra-clause-each
narrow_word-requires-in-Vnsra-clause-each g c = narrows_each c.args.form.family c.requires.kind

pub narrow_word-requires-in-Vnsra-clause-narrows : goal.narrow_word-requires-in-Vnsra-clause-narrows
narrow_word-requires-in-Vnsra-clause-narrows g c = narrows_operands c.args.form.family c.args.form.first c.requires.kind

pub narrow_word-requires-in-Vnsra-clause-makes : goal.narrow_word-requires-in-Vnsra-clause-makes
narrow_word-requires-in-Vnsra-clause-makes g c from new p =
    let is : new ≡ made (narrow_packing c.args.sew) from (λ l. answer Vnsra (numbers_of c.args.sew 0 l)) = search rules in
    is ∙ sym (ap (λ (f : Family). made (narrow_packing c.args.sew) from (λ l. answer f (numbers_of c.args.sew c.args.at.now.vxrm l))) c.in-Vnsra.is)
