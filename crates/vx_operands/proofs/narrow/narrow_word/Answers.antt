-- The word is kept, or its halves are made.
use Rattle.vx_vstate.specs.Views.{view_of}
use Rattle.std.proofs.Common.{◌*◌, ◌/◌, ◌≤◌, ◌∙◌, sym, ap, IsTrue, subst, not, arith}
use Rattle.vx_bits.specs.Width.{is_width}
use Rattle.vx_rows.specs.Families.{operands_of}
use Rattle.vx_rows.specs.declared.family.Operand.{Operand}
use Rattle.vx_operands.specs.Forms.{reading}
use Rattle.vx_vector.specs.Laws.{is_absent, per_word}
use Rattle.vx_operands.proofs.Places.{word_small, registers_small, per_word-le}
use Rattle.vx_operands.proofs.Even.{destination_place, masked, mask_are}
use Rattle.vx_operands.proofs.Halves.{narrowing_of, narrowing_width, narrowing_count}
use Rattle.vx_operands.proofs.narrow.narrow_word.Goals as goal

pub group_word-old-requires-clause-within : goal.group_word-old-requires-clause-within
group_word-old-requires-clause-within g c =
    let r = reading c.args.form (view_of c.args.at.now) c.args.regs.now (g.S.WordFile.words c.args.file.now) in
    let h = narrowing_of c.args.form.first (operands_of c.args.form.family) c.requires.narrows in
    destination_place r c.args.w (ap (λ (o : Operand). not (is_absent o)) h.destination) c.requires.sound.destination c.requires.within

pub overflow_mul-w : goal.overflow_mul-w
overflow_mul-w g c =
    let r = reading c.args.form (view_of c.args.at.now) c.args.regs.now (g.S.WordFile.words c.args.file.now) in
    let h = narrowing_of c.args.form.first (operands_of c.args.form.family) c.requires.narrows in
    let place = destination_place r c.args.w (ap (λ (o : Operand). not (is_absent o)) h.destination) c.requires.sound.destination c.requires.within in
    let small = word_small c.args.w (c.args.regs.now.vd * (c.args.at.now.vlen / 64)) (c.args.at.now.vlen / 64) (64 / c.args.sew) place (registers_small c.args.at.now.vlen c.args.at.now.vlen_in_range) (per_word-le c.args.sew c.requires.width) in
    omega arith

pub returns-then-at-w-clause-value : goal.returns-then-at-w-clause-value
returns-then-at-w-clause-value g c =
    let r = reading c.args.form (view_of c.args.at.now) c.args.regs.now (g.S.WordFile.words c.args.file.now) in
    let h = narrowing_of c.args.form.first (operands_of c.args.form.family) c.requires.narrows in
    let d = c.requires.sew ∙ sym (narrowing_width r h) in
    let late = subst (λ n. c.args.at.now.vl ≤ c.args.w * (64 / n)) d c.if-at-w.true in
    c.kept.ensures.value r c.args.w c.requires.each (subst (λ n. IsTrue (is_width n)) d c.requires.width) (subst (λ n. n ≤ c.args.w * per_word r) (sym (narrowing_count r h)) late) c.group_word-old.ensures

pub returns-then-at-w-clause-sat : goal.returns-then-at-w-clause-sat
returns-then-at-w-clause-sat g c =
    let r = reading c.args.form (view_of c.args.at.now) c.args.regs.now (g.S.WordFile.words c.args.file.now) in
    let h = narrowing_of c.args.form.first (operands_of c.args.form.family) c.requires.narrows in
    let d = c.requires.sew ∙ sym (narrowing_width r h) in
    let late = subst (λ n. c.args.at.now.vl ≤ c.args.w * (64 / n)) d c.if-at-w.true in
    c.kept.ensures.sat r c.args.w c.requires.each (subst (λ n. n ≤ c.args.w * per_word r) (sym (narrowing_count r h)) late)

pub halves-made-requires-clause-small : goal.halves-made-requires-clause-small
halves-made-requires-clause-small g c =
    let r = reading c.args.form (view_of c.args.at.now) c.args.regs.now (g.S.WordFile.words c.args.file.now) in
    let h = narrowing_of c.args.form.first (operands_of c.args.form.family) c.requires.narrows in
    let place = destination_place r c.args.w (ap (λ (o : Operand). not (is_absent o)) h.destination) c.requires.sound.destination c.requires.within in
    let small = registers_small c.args.at.now.vlen c.args.at.now.vlen_in_range in
    omega arith

pub returns-clause-value : goal.returns-clause-value
returns-clause-value g c =
    let r = reading c.args.form (view_of c.args.at.now) c.args.regs.now (g.S.WordFile.words c.args.file.now) in
    let h = narrowing_of c.args.form.first (operands_of c.args.form.family) c.requires.narrows in
    let d = c.requires.sew ∙ sym (narrowing_width r h) in
    c.merged_word.ensures.value (g.S.WordFile.words c.args.file.now) c.requires.each d (sym (narrowing_count r h)) (λ u. mask_are r c.args.w (64 / c.args.sew) c.mask_word-mask.result (ap (λ n. 64 / n) d) (c.mask_word-mask.ensures.bits (masked r u))) c.group_word-old.ensures c.halves-made.ensures

pub returns-clause-sat : goal.returns-clause-sat
returns-clause-sat g c =
    let r = reading c.args.form (view_of c.args.at.now) c.args.regs.now (g.S.WordFile.words c.args.file.now) in
    let h = narrowing_of c.args.form.first (operands_of c.args.form.family) c.requires.narrows in
    let d = c.requires.sew ∙ sym (narrowing_width r h) in
    c.merged_word.ensures.sat (g.S.WordFile.words c.args.file.now) c.requires.each d (sym (narrowing_count r h)) (λ u. mask_are r c.args.w (64 / c.args.sew) c.mask_word-mask.result (ap (λ n. 64 / n) d) (c.mask_word-mask.ensures.bits (masked r u))) c.halves-made.ensures
