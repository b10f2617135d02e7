-- The form is that of the operation.
use Rattle.vx_vstate.specs.Views.{view_of}
use Rattle.std.proofs.Common.{◌≡◌, IsTrue, Some, sym, ap, ◌∙◌, subst}
use Rattle.vx_operands.specs.Forms.{form_of, reading}
use Rattle.vx_operands.specs.declared.form.Form.{Form}
use Rattle.vx_vector.specs.Arithmetic.{told}
use Rattle.vx_vector.specs.Laws.{IsSound}
use Rattle.vx_mask.specs.Kinds.{is_telling}
use Rattle.vx_mask.proofs.told.count.Goals as goal

pub told_by_form-requires-clause-sound : goal.told_by_form-requires-clause-sound
told_by_form-requires-clause-sound g c = subst (λ (f : Form). IsSound (reading f (view_of c.args.at.now) c.args.regs.now (g.S.WordFile.words c.args.file.now))) (sym (c.form_of.ensures.is ∙ sym (ap form_of c.in-Mask.is))) c.requires.sound

pub told_by_form-requires-clause-kind : goal.told_by_form-requires-clause-kind
told_by_form-requires-clause-kind g c = subst (λ (f : Form). IsTrue (is_telling f.family)) (sym (c.form_of.ensures.is ∙ sym (ap form_of c.in-Mask.is))) c.requires.tells

pub returns : goal.returns
returns g c = ap (λ (f : Form). told (reading f (view_of c.args.at.now) c.args.regs.now (g.S.WordFile.words c.args.file.now))) (sym (c.form_of.ensures.is ∙ sym (ap form_of c.in-Mask.is))) ∙ c.told_by_form.ensures
