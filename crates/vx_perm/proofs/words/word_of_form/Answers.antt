-- Slides, gathers and others.
use Rattle.vx_vstate.specs.Views.{view_of}
use Rattle.std.proofs.Common.{sym, ◌∙◌}
use Rattle.vx_operands.specs.Forms.{reading}
use Rattle.vx_perm.proofs.Facts.{slide_moves, gather_moves, gather_indexed, moves_vs2}
use Rattle.vx_perm.proofs.words.word_of_form.Goals as goal

pub slid_word-requires-clause-kind : goal.slid_word-requires-clause-kind
slid_word-requires-clause-kind g c = sym c.is_slide.ensures ∙ c.if-is_slide.true

pub slid_word-requires-clause-vs2 : goal.slid_word-requires-clause-vs2
slid_word-requires-clause-vs2 g c = moves_vs2 c.args.form.family (slide_moves c.args.form.family (sym c.is_slide.ensures ∙ c.if-is_slide.true))

pub gathered_word-requires-clause-kind : goal.gathered_word-requires-clause-kind
gathered_word-requires-clause-kind g c = sym c.is_gather.ensures ∙ c.if-is_gather.true

pub gathered_word-requires-clause-group : goal.gathered_word-requires-clause-group
gathered_word-requires-clause-group g c =
    let r = reading c.args.form (view_of c.args.at.now) c.args.regs.now (g.S.WordFile.words c.args.file.now) in
    gather_indexed r (sym c.is_gather.ensures ∙ c.if-is_gather.true)

pub gathered_word-requires-clause-vs2 : goal.gathered_word-requires-clause-vs2
gathered_word-requires-clause-vs2 g c = moves_vs2 c.args.form.family (gather_moves c.args.form.family (sym c.is_gather.ensures ∙ c.if-is_gather.true))

pub other_word-requires-clause-no_slide : goal.other_word-requires-clause-no_slide
other_word-requires-clause-no_slide g c = sym c.is_slide.ensures ∙ c.if-is_slide.false

pub other_word-requires-clause-no_gather : goal.other_word-requires-clause-no_gather
other_word-requires-clause-no_gather g c = sym c.is_gather.ensures ∙ c.if-is_gather.false
