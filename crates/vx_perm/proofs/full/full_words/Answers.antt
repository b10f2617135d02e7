-- The form is that of the operation.
use Rattle.std.proofs.Common.{◌<◌, ℕ, length, sym, ap, ◌∙◌, subst}
use Rattle.vx_operands.specs.Forms.{form_of, reading}
use Rattle.vx_operands.specs.declared.form.Form.{Form}
use Rattle.vx_vector.specs.Words.{destination_words}
use Rattle.vx_vstate.specs.Views.{view_of}
use Rattle.vx_perm.proofs.full.full_words.Goals as goal

pub words_of_form-requires-clause-within : goal.words_of_form-requires-clause-within
words_of_form-requires-clause-within g c = subst (λ (f : Form). (k : ℕ) → k < c.args.most → k < length (destination_words (reading f (view_of c.args.at.now) c.args.regs.now (g.S.WordFile.words c.args.file.now)))) (sym (c.form_of.ensures.is ∙ sym (ap form_of c.in-Perm.is))) c.requires.within
