-- The widths fit, and each lane is extended.
use Rattle.vx_vstate.specs.Views.{view_of}
use Rattle.std.proofs.iter.Serving.{serving}
use Rattle.std.proofs.Common.{◌≤◌, ◌≡◌, ◌/◌, IsTrue, sym, ◌∙◌, subst, rules, if◌then◌else◌}
use Rattle.vx_vector.specs.Numbers.{extended_at, plain}
use Rattle.vx_packed.specs.Made.{made, IsPacking}
use Rattle.vx_packed.specs.declared.elements.Packing.{Packing}
use Rattle.vx_rows.specs.Families.{operands_of}
use Rattle.vx_vstate.specs.Registers.{is_element_width}
use Rattle.vx_operands.specs.Forms.{reading}
use Rattle.vx_vector.specs.Reading.{vs2_width}
use Rattle.vx_elem.proofs.Facts.{fits, group_width, vs2_group, even_some, packed, le_64}
use Rattle.vx_elem.proofs.words.extended_word.Goals as goal

pub wide_word-requires-clause-widths : goal.wide_word-requires-clause-widths
wide_word-requires-clause-widths g c =
    λ i. record { count = 64 / c.requires.width i; width = c.requires.width i; a = c.requires.narrow i; b = c.requires.sew i }

pub wide_word-requires-clause-some_a : goal.wide_word-requires-clause-some_a
wide_word-requires-clause-some_a g c =
    let r = reading c.args.form (view_of c.args.at.now) c.args.regs.now (g.S.WordFile.words c.args.file.now) in
    let fit = fits c.args.narrow c.args.sew (subst (λ n. IsTrue (is_element_width n)) (sym c.requires.narrow) (group_width (operands_of c.args.form.family).vs2 (vs2_width r) (vs2_group c.args.form.first (operands_of c.args.form.family) c.requires.groups) c.requires.sound.vs2.width)) c.requires.is_width c.requires.less in
    fit.product

pub wide_word-requires-clause-some_b : goal.wide_word-requires-clause-some_b
wide_word-requires-clause-some_b g c =
    let even = even_some c.args.sew c.requires.is_width in
    even.product

pub wide_word-requires-clause-a_part : goal.wide_word-requires-clause-a_part
wide_word-requires-clause-a_part g c =
    let r = reading c.args.form (view_of c.args.at.now) c.args.regs.now (g.S.WordFile.words c.args.file.now) in
    let fit = fits c.args.narrow c.args.sew (subst (λ n. IsTrue (is_element_width n)) (sym c.requires.narrow) (group_width (operands_of c.args.form.family).vs2 (vs2_width r) (vs2_group c.args.form.first (operands_of c.args.form.family) c.requires.groups) c.requires.sound.vs2.width)) c.requires.is_width c.requires.less in
    fit.part

pub wide_word-requires-clause-b_part : goal.wide_word-requires-clause-b_part
wide_word-requires-clause-b_part g c =
    let even = even_some c.args.sew c.requires.is_width in
    even.part

pub wide_word-requires-clause-makes : goal.wide_word-requires-clause-makes
wide_word-requires-clause-makes g c from new p =
    let widths : Packing = record { count = 64 / c.args.sew; width = c.args.sew; a = c.args.narrow; b = c.args.sew } in
    let is : new ≡ made widths from (λ l. plain (if c.args.is_signed then extended_at c.args.narrow c.args.sew l.a else l.a)) = search rules in
    is ∙ (λ i. made widths from (λ l. sym (c.requires.extends c.args.at.now.vxrm l) i))

pub wide_word-requires-clause-callable : goal.wide_word-requires-clause-callable
wide_word-requires-clause-callable g c =
    let r = reading c.args.form (view_of c.args.at.now) c.args.regs.now (g.S.WordFile.words c.args.file.now) in
    let fit = fits c.args.narrow c.args.sew (subst (λ n. IsTrue (is_element_width n)) (sym c.requires.narrow) (group_width (operands_of c.args.form.family).vs2 (vs2_width r) (vs2_group c.args.form.first (operands_of c.args.form.family) c.requires.groups) c.requires.sound.vs2.width)) c.requires.is_width c.requires.less in
    let even = even_some c.args.sew c.requires.is_width in
    let packing : IsPacking (record { count = 64 / c.args.sew; width = c.args.sew; a = c.args.narrow; b = c.args.sew }) = packed c.args.narrow c.args.sew fit c.requires.is_width in
    let small : c.args.narrow ≤ 64 = le_64 c.args.narrow c.args.sew c.requires.is_width c.requires.less in
    grind (serving, packing, small, c.requires.is_width)
