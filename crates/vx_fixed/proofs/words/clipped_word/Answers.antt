-- Each family by its own function.
use Rattle.std.proofs.Common.{◌≡◌, sym, ap, ◌∙◌, rules}
use Rattle.vx_packed.specs.Made.{made}
use Rattle.vx_rows.specs.declared.family.Family.{Family}
use Rattle.vx_rows.specs.declared.family.Family.TheVariants.{Vnclipu, Vnclip}
use Rattle.vx_operands.specs.Lanes.{answer, numbers_of}
use Rattle.vx_operands.specs.Parts.{narrow_packing}
use Rattle.vx_fixed.proofs.Facts.{clips_each, clips_operands}
use Rattle.vx_fixed.proofs.words.clipped_word.Goals as goal

pub narrow_word-requires-clause-each : goal.narrow_word-requires-clause-each
narrow_word-requires-clause-each g c = clips_each c.args.form.family c.requires.kind

pub narrow_word-requires-clause-narrows : goal.narrow_word-requires-clause-narrows
narrow_word-requires-clause-narrows g c = clips_operands c.args.form.family c.args.form.first c.requires.kind

pub narrow_word-requires-clause-makes : goal.narrow_word-requires-clause-makes
narrow_word-requires-clause-makes g c from new p =
    let is : new ≡ made (narrow_packing c.args.sew) from (λ l. answer Vnclipu (numbers_of c.args.sew c.args.at.now.vxrm l)) = search rules in
    is ∙ sym (ap (λ (f : Family). made (narrow_packing c.args.sew) from (λ l. answer f (numbers_of c.args.sew c.args.at.now.vxrm l))) c.in-Vnclipu.is)

pub narrow_word-requires-in-Vnclip-clause-each : goal.narrow_word-requires-in-Vnclip-clause-each
narrow_word-requires-in-Vnclip-clause-each g c = clips_each c.args.form.family c.requires.kind

pub narrow_word-requires-in-Vnclip-clause-narrows : goal.narrow_word-requires-in-Vnclip-clause-narrows
narrow_word-requires-in-Vnclip-clause-narrows g c = clips_operands c.args.form.family c.args.form.first c.requires.kind

pub narrow_word-requires-in-Vnclip-clause-makes : goal.narrow_word-requires-in-Vnclip-clause-makes
narrow_word-requires-in-Vnclip-clause-makes g c from new p =
    let is : new ≡ made (narrow_packing c.args.sew) from (λ l. answer Vnclip (numbers_of c.args.sew c.args.at.now.vxrm l)) = search rules in
    is ∙ sym (ap (λ (f : Family). made (narrow_packing c.args.sew) from (λ l. answer f (numbers_of c.args.sew c.args.at.now.vxrm l))) c.in-Vnclip.is)
