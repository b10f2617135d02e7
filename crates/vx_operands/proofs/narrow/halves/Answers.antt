-- Each half is made of a word of vs2.
use Rattle.vx_vstate.specs.Views.{view_of}
use Rattle.std.proofs.Common.{◌+◌, ◌*◌, ◌/◌, ◌^◌, ◌∙◌, sym, ap, subst}
use Rattle.vx_packed.specs.declared.elements.Packing.{Packing}
use Rattle.vx_rows.specs.Families.{operands_of}
use Rattle.vx_operands.specs.Forms.{reading}
use Rattle.vx_operands.specs.Lanes.{AreLanes}
use Rattle.vx_operands.specs.Parts.{ArePartOf, FillsWord}
use Rattle.vx_vector.specs.Reading.{destination_width, element_of}
use Rattle.vx_operands.proofs.Packings.{narrow_fills}
use Rattle.vx_operands.proofs.Halves.{narrowing_of, narrowing_width, narrowing_vs2, narrowing_count, old_low, old_high, halves_all}
use Rattle.vx_operands.proofs.narrow.halves.Goals as goal

pub part_sources-requires-clause-fills : goal.part_sources-requires-clause-fills
part_sources-requires-clause-fills g c = subst FillsWord (sym c.narrow-widths.ensures.value) (narrow_fills c.args.sew c.requires.width c.requires.few)

pub part_sources-requires-2-clause-fills : goal.part_sources-requires-2-clause-fills
part_sources-requires-2-clause-fills g c = subst FillsWord (sym c.narrow-widths.ensures.value) (narrow_fills c.args.sew c.requires.width c.requires.few)

pub part_sources-requires-2-clause-a : goal.part_sources-requires-2-clause-a
part_sources-requires-2-clause-a g c =
    let r = reading c.args.form (view_of c.args.at.now) c.args.regs.now (g.S.WordFile.words c.args.file.now) in
    let h = narrowing_of c.args.form.first (operands_of c.args.form.family) c.requires.narrows in
    ap (λ (p : Packing). p.a) c.narrow-widths.ensures.value ∙ ap (λ s. 2 * s) c.requires.sew ∙ sym (narrowing_vs2 r h)

pub part_sources-requires-clause-old : goal.part_sources-requires-clause-old
part_sources-requires-clause-old g c =
    let r = reading c.args.form (view_of c.args.at.now) c.args.regs.now (g.S.WordFile.words c.args.file.now) in
    let h = narrowing_of c.args.form.first (operands_of c.args.form.family) c.requires.narrows in
    let d = c.requires.sew ∙ sym (narrowing_width r h) in
    subst (λ (p : Packing). AreLanes p.width c.args.old p.count (λ k. element_of r c.args.regs.now.vd (destination_width r) (2 * c.args.w * p.count + k))) (sym c.narrow-widths.ensures.value) (old_low r c.args.w c.args.sew c.args.old c.requires.width c.requires.few d c.requires.old)

pub part_sources-requires-2-clause-old : goal.part_sources-requires-2-clause-old
part_sources-requires-2-clause-old g c =
    let r = reading c.args.form (view_of c.args.at.now) c.args.regs.now (g.S.WordFile.words c.args.file.now) in
    let h = narrowing_of c.args.form.first (operands_of c.args.form.family) c.requires.narrows in
    let d = c.requires.sew ∙ sym (narrowing_width r h) in
    subst (λ (p : Packing). AreLanes p.width (c.args.old / 2 ^ 32) p.count (λ k. element_of r c.args.regs.now.vd (destination_width r) ((2 * c.args.w + 1) * p.count + k))) (sym c.narrow-widths.ensures.value) (old_high r c.args.w c.args.sew c.args.old c.requires.width c.requires.few d c.requires.old)

pub returns : goal.returns
returns g c =
    let r = reading c.args.form (view_of c.args.at.now) c.args.regs.now (g.S.WordFile.words c.args.file.now) in
    let h = narrowing_of c.args.form.first (operands_of c.args.form.family) c.requires.narrows in
    let d = c.requires.sew ∙ sym (narrowing_width r h) in
    let e = c.narrow-widths.ensures.value in
    let first = subst (λ (p : Packing). ArePartOf r p (2 * c.args.w) c.part_sources.result) e c.part_sources.ensures in
    let second = subst (λ (p : Packing). ArePartOf r p (2 * c.args.w + 1) c.part_sources-2.result) e c.part_sources-2.ensures in
    let law = c.joined_by_elements.ensures in
    halves_all law.element law.whole law.same law.below r c.args.w c.args.sew _ _ c.f-low.result c.f-high.result c.part_sources.result c.part_sources-2.result c.requires.width c.requires.few d (narrowing_count r h) first second (c.requires.makes c.part_sources.result c.f-low.result c.f-low.ensures) (c.requires.makes c.part_sources-2.result c.f-high.result c.f-high.ensures) c.beside.ensures.value c.beside-2.ensures.value
