-- Each kind of family.
use Rattle.vx_vstate.specs.Views.{view_of}
use Rattle.std.proofs.Common.{◌≡◌, ◌*◌, ◌<◌, Bool, true, false, ◌||◌, ◌&&◌, IsTrue, length, inl, inr, sym, ap, ◌∙◌, subst}
use Rattle.vx_bits.specs.Width.{is_width}
use Rattle.vx_decode.specs.Groups.{width_of}
use Rattle.vx_rows.specs.Families.{operands_of}
use Rattle.vx_rows.specs.declared.family.Family.{Family}
use Rattle.vx_rows.specs.declared.family.Operands.{Operands}
use Rattle.vx_operands.specs.Forms.{reading}
use Rattle.vx_operands.proofs.Even.{is_there}
use Rattle.vx_vector.specs.Reading.{sew_of}
use Rattle.vx_mask.specs.Kinds.{is_logic, is_span, is_even_reduction, is_wide_reduction, is_index, is_telling}
use Rattle.vx_mask.proofs.Families.{two_registers, is_left, wide_operands, wide_width}
use Rattle.vx_mask.proofs.words.word_of_form.Goals as goal

pub logic_word-requires-clause-logic : goal.logic_word-requires-clause-logic
logic_word-requires-clause-logic g c = sym c.is_logic.ensures ∙ c.if-is_logic.true

pub logic_word-requires-clause-registers : goal.logic_word-requires-clause-registers
logic_word-requires-clause-registers g c = two_registers c.args.form c.requires.kind (inl (sym c.is_logic.ensures ∙ c.if-is_logic.true))

pub span_word-requires-clause-span : goal.span_word-requires-clause-span
span_word-requires-clause-span g c = sym c.is_span.ensures ∙ c.if-is_span.true

pub even_reduction-requires-clause-kind : goal.even_reduction-requires-clause-kind
even_reduction-requires-clause-kind g c = sym c.is_even_reduction.ensures ∙ c.if-is_even_reduction.true

pub even_reduction-requires-clause-registers : goal.even_reduction-requires-clause-registers
even_reduction-requires-clause-registers g c = two_registers c.args.form c.requires.kind (inr (inl (sym c.is_even_reduction.ensures ∙ c.if-is_even_reduction.true)))

pub wide_reduction-requires-clause-kind : goal.wide_reduction-requires-clause-kind
wide_reduction-requires-clause-kind g c = sym c.is_wide_reduction.ensures ∙ c.if-is_wide_reduction.true

pub wide_reduction-requires-clause-registers : goal.wide_reduction-requires-clause-registers
wide_reduction-requires-clause-registers g c = two_registers c.args.form c.requires.kind (inr (inr (sym c.is_wide_reduction.ensures ∙ c.if-is_wide_reduction.true)))

pub wide_reduction-requires-clause-wide : goal.wide_reduction-requires-clause-wide
wide_reduction-requires-clause-wide g c =
    let r = reading c.args.form (view_of c.args.at.now) c.args.regs.now (g.S.WordFile.words c.args.file.now) in
    wide_width r c.sew-then-is_wide_reduction.result (sym c.is_wide_reduction.ensures ∙ c.if-is_wide_reduction.true) c.sew-then-is_wide_reduction.ensures.is c.requires.sound.destination.width

pub indexed_word-requires-clause-kind : goal.indexed_word-requires-clause-kind
indexed_word-requires-clause-kind g c =
    let r = reading c.args.form (view_of c.args.at.now) c.args.regs.now (g.S.WordFile.words c.args.file.now) in
    is_left r c.args.w c.requires.kind (sym c.is_logic.ensures ∙ c.if-is_logic.false) (sym c.is_span.ensures ∙ c.if-is_span.false) (sym c.is_even_reduction.ensures ∙ c.if-is_even_reduction.false) (sym c.is_wide_reduction.ensures ∙ c.if-is_wide_reduction.false) (is_there r (operands_of c.args.form.family).destination c.args.regs.now.vd c.args.w c.requires.within)
