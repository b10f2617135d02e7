-- The operands of a word's elements are those of the row.
use Rattle.vx_vstate.specs.Views.{view_of}
use Rattle.std.proofs.Common.{IsTrue, ◌∙◌, sym, ap, subst}
use Rattle.vx_bits.specs.Width.{is_width}
use Rattle.vx_packed.specs.Made.{made}
use Rattle.vx_packed.specs.declared.elements.Packing.{Packing}
use Rattle.vx_rows.specs.Families.{operands_of}
use Rattle.vx_operands.specs.Forms.{reading}
use Rattle.vx_operands.specs.Lanes.{answer, numbers_of}
use Rattle.vx_operands.proofs.Packings.{doubling_of, doubled_is, doubled_fits, DoubledFits}
use Rattle.vx_operands.proofs.double.doubled_word.Goals as goal

pub wide_word-requires-clause-groups : goal.wide_word-requires-clause-groups
wide_word-requires-clause-groups g c =
    let h = doubling_of c.args.is_wide c.args.form.first (operands_of c.args.form.family) c.requires.doubles in
    h.groups

pub wide_word-requires-clause-widths : goal.wide_word-requires-clause-widths
wide_word-requires-clause-widths g c =
    let r = reading c.args.form (view_of c.args.at.now) c.args.regs.now (g.S.WordFile.words c.args.file.now) in
    let h = doubling_of c.args.is_wide c.args.form.first (operands_of c.args.form.family) c.requires.doubles in
    c.doubled.ensures.value ∙ doubled_is r c.args.is_wide c.args.sew h c.requires.sew

pub wide_word-requires-clause-width : goal.wide_word-requires-clause-width
wide_word-requires-clause-width g c =
    let fit = subst DoubledFits (sym c.doubled.ensures.value) (doubled_fits c.args.is_wide c.args.sew c.requires.width c.requires.small) in
    fit.width

pub wide_word-requires-clause-b_width : goal.wide_word-requires-clause-b_width
wide_word-requires-clause-b_width g c = subst (λ (p : Packing). IsTrue (is_width p.b)) (sym c.doubled.ensures.value) c.requires.width

pub wide_word-requires-clause-some_a : goal.wide_word-requires-clause-some_a
wide_word-requires-clause-some_a g c =
    let fit = subst DoubledFits (sym c.doubled.ensures.value) (doubled_fits c.args.is_wide c.args.sew c.requires.width c.requires.small) in
    fit.some_a

pub wide_word-requires-clause-some_b : goal.wide_word-requires-clause-some_b
wide_word-requires-clause-some_b g c =
    let fit = subst DoubledFits (sym c.doubled.ensures.value) (doubled_fits c.args.is_wide c.args.sew c.requires.width c.requires.small) in
    fit.some_b

pub wide_word-requires-clause-a_part : goal.wide_word-requires-clause-a_part
wide_word-requires-clause-a_part g c =
    let fit = subst DoubledFits (sym c.doubled.ensures.value) (doubled_fits c.args.is_wide c.args.sew c.requires.width c.requires.small) in
    fit.a_part

pub wide_word-requires-clause-b_part : goal.wide_word-requires-clause-b_part
wide_word-requires-clause-b_part g c =
    let fit = subst DoubledFits (sym c.doubled.ensures.value) (doubled_fits c.args.is_wide c.args.sew c.requires.width c.requires.small) in
    fit.b_part

pub wide_word-requires-clause-few : goal.wide_word-requires-clause-few
wide_word-requires-clause-few g c =
    let fit = subst DoubledFits (sym c.doubled.ensures.value) (doubled_fits c.args.is_wide c.args.sew c.requires.width c.requires.small) in
    fit.few

pub wide_word-requires-clause-makes : goal.wide_word-requires-clause-makes
wide_word-requires-clause-makes g c from new p =
    c.requires.makes from new p ∙ sym (ap (λ (w : Packing). made w from (λ l. answer c.args.form.family (numbers_of w.b c.args.at.now.vxrm l))) c.doubled.ensures.value)
