-- Clips, and rows whose operands have elements of SEW.
use Rattle.vx_vstate.specs.Views.{view_of}
use Rattle.std.proofs.Common.{◌≤◌, IsTrue, sym, ◌∙◌, subst}
use Rattle.vx_bits.specs.Width.{is_width}
use Rattle.vx_rows.specs.Families.{operands_of}
use Rattle.vx_operands.specs.Forms.{reading}
use Rattle.vx_operands.proofs.Packings.{small_of, twice}
use Rattle.vx_operands.proofs.Halves.{narrowing_of}
use Rattle.vx_fixed.proofs.Facts.{clips_operands, even_each, even_operands, even_left}
use Rattle.vx_fixed.proofs.words.word_of_form.Goals as goal

pub clipped_word-requires-clause-small : goal.clipped_word-requires-clause-small
clipped_word-requires-clause-small g c =
    let r = reading c.args.form (view_of c.args.at.now) c.args.regs.now (g.S.WordFile.words c.args.file.now) in
    let kind = sym c.clips.ensures ∙ c.if-clips.true in
    let h = narrowing_of c.args.form.first (operands_of c.args.form.family) (clips_operands c.args.form.family c.args.form.first kind) in
    subst (λ n. n ≤ 32) (sym c.sew-sew.ensures.is) (small_of r (operands_of c.args.form.family).vs2 c.args.regs.now.vs2 h.vs2 c.requires.sound.vs2 (subst (λ n. IsTrue (is_width n)) c.sew-sew.ensures.is c.sew-sew.ensures.in_range))

pub clipped_word-requires-clause-wide : goal.clipped_word-requires-clause-wide
clipped_word-requires-clause-wide g c = twice c.sew-sew.result c.sew-sew.ensures.in_range (clipped_word-requires-clause-small g c)

pub even_word-requires-clause-each : goal.even_word-requires-clause-each
even_word-requires-clause-each g c = even_each c.args.form.family (even_left c.args.form.family c.requires.kind (sym c.clips.ensures ∙ c.if-clips.false))

pub even_word-requires-clause-even : goal.even_word-requires-clause-even
even_word-requires-clause-even g c = even_operands c.args.form.family c.args.form.first (even_left c.args.form.family c.requires.kind (sym c.clips.ensures ∙ c.if-clips.false))
