-- The form is that of the operation.
use Rattle.vx_vstate.specs.Views.{view_of}
use Rattle.std.proofs.Common.{◌<◌, length, sym, ap, ◌∙◌, subst}
use Rattle.vx_rows.specs.Families.{operands_of}
use Rattle.vx_operands.proofs.Even.{destination_place, is_there}
use Rattle.vx_operands.specs.Forms.{form_of, reading}
use Rattle.vx_operands.specs.declared.form.Form.{Form}
use Rattle.vx_vector.specs.Laws.{IsSound, made_word, word_saturates}
use Rattle.vx_vector.specs.Words.{destination_words}
use Rattle.vx_perm.proofs.words.word.Goals as goal

pub word_of_form-requires-clause-sound : goal.word_of_form-requires-clause-sound
word_of_form-requires-clause-sound g c = subst (λ (f : Form). IsSound (reading f (view_of c.args.at.now) c.args.regs.now (g.S.WordFile.words c.args.file.now))) (sym (c.form_of.ensures.is ∙ sym (ap form_of c.in-Perm.is))) c.requires.sound

pub word_of_form-requires-clause-within : goal.word_of_form-requires-clause-within
word_of_form-requires-clause-within g c = subst (λ (f : Form). c.args.w < length (destination_words (reading f (view_of c.args.at.now) c.args.regs.now (g.S.WordFile.words c.args.file.now)))) (sym (c.form_of.ensures.is ∙ sym (ap form_of c.in-Perm.is))) c.requires.within

pub has_a_word-requires-clause-within : goal.has_a_word-requires-clause-within
has_a_word-requires-clause-within g c =
    let r = reading (form_of c.args.op) (view_of c.args.at.now) c.args.regs.now (g.S.WordFile.words c.args.file.now) in
    destination_place r c.args.w (is_there r (operands_of r.family).destination r.places.vd c.args.w c.requires.within) c.requires.sound.destination c.requires.within

pub returns-clause-value : goal.returns-clause-value
returns-clause-value g c = c.word_of_form.ensures.value ∙ ap (λ (f : Form). made_word (reading f (view_of c.args.at.now) c.args.regs.now (g.S.WordFile.words c.args.file.now)) c.args.w) (c.form_of.ensures.is ∙ sym (ap form_of c.in-Perm.is)) ∙ sym (c.words_are_made.ensures.value (reading (form_of c.args.op) (view_of c.args.at.now) c.args.regs.now (g.S.WordFile.words c.args.file.now)) c.args.w c.requires.sound c.has_a_word.ensures c.requires.within)

pub returns-clause-sat : goal.returns-clause-sat
returns-clause-sat g c = c.word_of_form.ensures.sat ∙ ap (λ (f : Form). word_saturates (reading f (view_of c.args.at.now) c.args.regs.now (g.S.WordFile.words c.args.file.now)) c.args.w) (c.form_of.ensures.is ∙ sym (ap form_of c.in-Perm.is))
