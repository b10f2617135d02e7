-- Word v of vs2, and as many elements of the other operands.
use Rattle.vx_vstate.specs.Views.{view_of}
use Rattle.std.proofs.Common.{◌*◌, ◌/◌, ◌<◌, ◌∙◌, sym, ap, IsTrue, refl, subst}
use Rattle.vx_bits.specs.Width.{is_width}
use Rattle.vx_rows.specs.Families.{operands_of}
use Rattle.vx_rows.specs.declared.family.Operand.{Operand}
use Rattle.vx_rows.specs.declared.family.Operand.TheVariants.{Single}
use Rattle.vx_operands.specs.Forms.{reading}
use Rattle.vx_vstate.specs.Registers.{place_of, words_of_all, element_word}
use Rattle.vx_vector.specs.Laws.{IsPlaced}
use Rattle.vx_operands.proofs.Even.{single_is, vs1_is}
use Rattle.vx_operands.proofs.Groups.{group_is, placed_part}
use Rattle.vx_operands.proofs.Packings.{part_word, part_of}
use Rattle.vx_operands.proofs.parts.part_sources.Goals as goal

pub group_word-requires-clause-within : goal.group_word-requires-clause-within
group_word-requires-clause-within g c =
    let r = reading c.args.form (view_of c.args.at.now) c.args.regs.now (g.S.WordFile.words c.args.file.now) in
    let early = subst (λ n. c.args.v * n < c.args.at.now.vl) (c.requires.fills.count ∙ ap (λ a. 64 / a) c.requires.a) c.if-at-v.false in
    part_word r c.requires.sound.setting (operands_of c.args.form.family).vs2 c.args.regs.now.vs2 c.args.v (group_is r (operands_of c.args.form.family).vs2 c.requires.group) c.requires.sound.vs2 (subst (λ n. IsTrue (is_width n)) c.requires.a c.requires.fills.a) early

pub second_part-requires-clause-within : goal.second_part-requires-clause-within
second_part-requires-clause-within g c e =
    let r = reading c.args.form (view_of c.args.at.now) c.args.regs.now (g.S.WordFile.words c.args.file.now) in
    let single = single_is (operands_of c.args.form.family).vs1 (c.requires.single e) in
    let placed = subst (λ (o : Operand). IsPlaced r o c.args.regs.now.vs1) (vs1_is r e ∙ single) c.requires.sound.vs1 in
    let there = placed_part r c.requires.sound.setting Single c.args.regs.now.vs1 (c.args.v * c.args.widths.count) (group_is r Single refl) placed c.if-at-v.false in
    subst (λ n. place_of c.args.at.now.vlen c.args.regs.now.vs1 (element_word n (c.args.v * c.args.widths.count)) < words_of_all c.args.at.now.vlen) (sym c.requires.b) there

pub returns : goal.returns
returns g c =
    let r = reading c.args.form (view_of c.args.at.now) c.args.regs.now (g.S.WordFile.words c.args.file.now) in
    part_of r c.args.widths c.args.v _ c.requires.fills c.requires.a c.requires.b c.group_word.ensures c.second_part.ensures c.requires.old c.mask_word.ensures.bits c.mask_word.ensures.none
