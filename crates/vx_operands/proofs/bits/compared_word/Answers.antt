-- The old word, the mask, and the new bits.
use Rattle.vx_vstate.specs.Views.{view_of}
use Rattle.std.proofs.Common.{◌≡◌, ◌*◌, ◌/◌, ◌<◌, sym, ap, not, arith, subst}
use Rattle.vx_rows.specs.Families.{operands_of}
use Rattle.vx_rows.specs.declared.family.Operand.{Operand}
use Rattle.vx_operands.specs.Forms.{reading}
use Rattle.vx_vstate.specs.Registers.{element_word}
use Rattle.vx_vector.specs.Laws.{is_absent}
use Rattle.vx_operands.proofs.Places.{registers_small}
use Rattle.vx_operands.proofs.Even.{destination_place, masked, mask_are}
use Rattle.vx_operands.proofs.Compared.{comparing_of, comparing_width, comparing_count, mask_place}
use Rattle.vx_operands.proofs.bits.compared_word.Goals as goal

pub group_word-old-requires-clause-within : goal.group_word-old-requires-clause-within
group_word-old-requires-clause-within g c =
    let r = reading c.args.form (view_of c.args.at.now) c.args.regs.now (g.S.WordFile.words c.args.file.now) in
    let h = comparing_of c.args.form.first (operands_of c.args.form.family) c.requires.compares in
    destination_place r c.args.w (ap (λ (o : Operand). not (is_absent o)) h.destination) c.requires.sound.destination c.requires.within

pub mask_word-mask-requires-clause-within : goal.mask_word-mask-requires-clause-within
mask_word-mask-requires-clause-within g c =
    let r = reading c.args.form (view_of c.args.at.now) c.args.regs.now (g.S.WordFile.words c.args.file.now) in
    let h = comparing_of c.args.form.first (operands_of c.args.form.family) c.requires.compares in
    let inside = mask_place r c.args.w h c.requires.within in
    let is : element_word 1 (c.args.w * 64) ≡ c.args.w = omega arith in
    subst (λ n. n < c.args.at.now.vlen / 64) (sym is) inside

pub all_bits-new-requires-clause-small : goal.all_bits-new-requires-clause-small
all_bits-new-requires-clause-small g c =
    let r = reading c.args.form (view_of c.args.at.now) c.args.regs.now (g.S.WordFile.words c.args.file.now) in
    let h = comparing_of c.args.form.first (operands_of c.args.form.family) c.requires.compares in
    let inside = mask_place r c.args.w h c.requires.within in
    let most = registers_small c.args.at.now.vlen c.args.at.now.vlen_in_range in
    omega arith

pub merged_bits-requires : goal.merged_bits-requires
merged_bits-requires g c =
    let r = reading c.args.form (view_of c.args.at.now) c.args.regs.now (g.S.WordFile.words c.args.file.now) in
    let h = comparing_of c.args.form.first (operands_of c.args.form.family) c.requires.compares in
    let inside = mask_place r c.args.w h c.requires.within in
    let most = registers_small c.args.at.now.vlen c.args.at.now.vlen_in_range in
    omega arith

pub returns-clause-value : goal.returns-clause-value
returns-clause-value g c =
    let r = reading c.args.form (view_of c.args.at.now) c.args.regs.now (g.S.WordFile.words c.args.file.now) in
    let h = comparing_of c.args.form.first (operands_of c.args.form.family) c.requires.compares in
    let d = comparing_width r h in
    c.merged_bits.ensures.value (g.S.WordFile.words c.args.file.now) c.requires.each d (comparing_count r h) (λ u. mask_are r c.args.w 64 c.mask_word-mask.result (ap (λ n. 64 / n) (sym d)) (c.mask_word-mask.ensures.bits (masked r u))) c.group_word-old.ensures c.all_bits-new.ensures

pub returns-clause-sat : goal.returns-clause-sat
returns-clause-sat g c = c.merged_bits.ensures.sat (g.S.WordFile.words c.args.file.now) c.requires.each c.requires.unsaturated
