-- One word of vs2 more, and at the end all of them.
use Rattle.vx_vstate.specs.Views.{view_of}
use Rattle.std.proofs.Common.{◌≡◌, ◌+◌, ◌*◌, ◌/◌, ◌^◌, ◌<◌, sym, subst, arith}
use Rattle.vx_packed.specs.declared.elements.Packing.{Packing}
use Rattle.vx_rows.specs.Families.{operands_of}
use Rattle.vx_operands.specs.Forms.{reading}
use Rattle.vx_operands.specs.Lanes.{AreLanes}
use Rattle.vx_operands.specs.Parts.{ArePartOf}
use Rattle.vx_vector.specs.Reading.{destination_width, element_of}
use Rattle.vx_operands.proofs.Compared.{AreBitsBelow, comparing_of, comparing_width, old_bits, part_fits, bits_none, bits_step, bits_all}
use Rattle.vx_operands.proofs.bits.new_bits.Goals as goal

pub part_sources-from-requires-clause-old : goal.part_sources-from-requires-clause-old
part_sources-from-requires-clause-old g c =
    let r = reading c.args.form (view_of c.args.at.now) c.args.regs.now (g.S.WordFile.words c.args.file.now) in
    let h = comparing_of c.args.form.first (operands_of c.args.form.family) c.requires.compares in
    let before : c.loop-j.j < c.parts-j-end.result = omega arith in
    let fits = part_fits c.args.sew c.loop-j.j c.parts-j-end.result c.requires.width before c.parts-j-end.ensures.least in
    subst (λ (p : Packing). AreLanes p.width (c.args.old / 2 ^ (c.loop-j.j * (64 / c.args.sew))) p.count (λ k. element_of r c.args.regs.now.vd (destination_width r) ((c.args.w * c.args.sew + c.loop-j.j) * p.count + k))) (sym c.bits-widths.ensures.value) (old_bits r c.args.w c.args.sew c.loop-j.j c.args.old c.requires.width (comparing_width r h) fits c.requires.old)

pub loop-j-init : goal.loop-j-init
loop-j-init g c = bits_none (reading c.args.form (view_of c.args.at.now) c.args.regs.now (g.S.WordFile.words c.args.file.now)) c.args.w (0 * (64 / c.args.sew)) (omega arith)

pub loop-j-preserved : goal.loop-j-preserved
loop-j-preserved g c =
    let r = reading c.args.form (view_of c.args.at.now) c.args.regs.now (g.S.WordFile.words c.args.file.now) in
    let law = c.joined_by_elements.ensures in
    let from = c.part_sources-from.result in
    let sources = subst (λ (p : Packing). ArePartOf r p (c.args.w * c.args.sew + c.loop-j.j) from) c.bits-widths.ensures.value c.part_sources-from.ensures in
    bits_step law.element law.whole law.same law.below r c.args.w c.args.sew c.loop-j.j c.loop-j.new c.beside-new.result c.f.result from c.requires.width c.loop-j.invariant sources (c.requires.makes from c.f.result c.f.ensures) c.beside-new.ensures.value c.beside-new.ensures.below

pub returns : goal.returns
returns g c =
    let r = reading c.args.form (view_of c.args.at.now) c.args.regs.now (g.S.WordFile.words c.args.file.now) in
    let end : c.loop-j.j ≡ c.parts-j-end.result = omega arith in
    bits_all r c.args.w (c.parts-j-end.result * (64 / c.args.sew)) c.loop-j.new (subst (λ n. AreBitsBelow r c.args.w (n * (64 / c.args.sew)) c.loop-j.new) end c.loop-j.invariant) c.parts-j-end.ensures.all
