-- The elements in the place of vs1 are the new ones.
use Rattle.vx_vstate.specs.Views.{view_of}
use Rattle.std.proofs.Common.{◌*◌, ◌/◌, ◌<◌, ◌≤◌, ◌∙◌, sym, ap, IsTrue, subst, arith}
use Rattle.vx_bits.specs.Width.{is_width}
use Rattle.vx_rows.specs.Families.{operands_of}
use Rattle.vx_rows.specs.declared.family.Operand.{Operand}
use Rattle.vx_operands.specs.Forms.{reading}
use Rattle.vx_vector.specs.Laws.{IsPlaced, per_word}
use Rattle.vx_operands.proofs.Places.{word_small, registers_small, per_word-le}
use Rattle.vx_operands.proofs.Even.{placed_word, destination_place, vs1_is, masked, mask_are}
use Rattle.vx_operands.proofs.Moves.{moves_width, moves_vs1, moves_single, moves_there, moves_count, moves_each, moves_made}
use Rattle.vx_operands.proofs.grouped.moved_word.Goals as goal

pub group_word-old-requires-clause-within : goal.group_word-old-requires-clause-within
group_word-old-requires-clause-within g c =
    let r = reading c.args.form (view_of c.args.at.now) c.args.regs.now (g.S.WordFile.words c.args.file.now) in
    destination_place r c.args.w (moves_there r c.requires.moves) c.requires.sound.destination c.requires.within

pub overflow_mul-w : goal.overflow_mul-w
overflow_mul-w g c =
    let r = reading c.args.form (view_of c.args.at.now) c.args.regs.now (g.S.WordFile.words c.args.file.now) in
    let place = destination_place r c.args.w (moves_there r c.requires.moves) c.requires.sound.destination c.requires.within in
    let small = word_small c.args.w (c.args.regs.now.vd * (c.args.at.now.vlen / 64)) (c.args.at.now.vlen / 64) (64 / c.args.sew) place (registers_small c.args.at.now.vlen c.args.at.now.vlen_in_range) (per_word-le c.args.sew c.requires.width) in
    omega arith

pub returns-then-at-w-clause-value : goal.returns-then-at-w-clause-value
returns-then-at-w-clause-value g c =
    let r = reading c.args.form (view_of c.args.at.now) c.args.regs.now (g.S.WordFile.words c.args.file.now) in
    let d = c.requires.sew ∙ sym (moves_width r c.requires.moves) in
    let late = subst (λ n. c.args.at.now.vl ≤ c.args.w * (64 / n)) d c.if-at-w.true in
    c.kept.ensures.value r c.args.w (moves_each r c.requires.moves) (subst (λ n. IsTrue (is_width n)) d c.requires.width) (subst (λ n. n ≤ c.args.w * per_word r) (sym (moves_count r c.requires.moves)) late) c.group_word-old.ensures

pub returns-then-at-w-clause-sat : goal.returns-then-at-w-clause-sat
returns-then-at-w-clause-sat g c =
    let r = reading c.args.form (view_of c.args.at.now) c.args.regs.now (g.S.WordFile.words c.args.file.now) in
    let d = c.requires.sew ∙ sym (moves_width r c.requires.moves) in
    let late = subst (λ n. c.args.at.now.vl ≤ c.args.w * (64 / n)) d c.if-at-w.true in
    c.kept.ensures.sat r c.args.w (moves_each r c.requires.moves) (subst (λ n. n ≤ c.args.w * per_word r) (sym (moves_count r c.requires.moves)) late)

pub second_word-requires-clause-equal : goal.second_word-requires-clause-equal
second_word-requires-clause-equal g c e =
    let r = reading c.args.form (view_of c.args.at.now) c.args.regs.now (g.S.WordFile.words c.args.file.now) in
    moves_vs1 r c.requires.moves ∙ sym c.requires.sew

pub second_word-requires-clause-within : goal.second_word-requires-clause-within
second_word-requires-clause-within g c e =
    let r = reading c.args.form (view_of c.args.at.now) c.args.regs.now (g.S.WordFile.words c.args.file.now) in
    let width = subst (λ n. IsTrue (is_width n)) c.requires.sew c.requires.width in
    let early = subst (λ n. c.args.w * (64 / n) < c.args.at.now.vl) c.requires.sew c.if-at-w.false in
    let placed = subst (λ (o : Operand). IsPlaced r o c.args.regs.now.vs1) (vs1_is r e) c.requires.sound.vs1 in
    placed_word r c.requires.sound.setting (operands_of c.args.form.family).vs1 c.args.regs.now.vs1 c.args.w (moves_single r c.requires.moves) placed width early

pub returns-clause-value : goal.returns-clause-value
returns-clause-value g c =
    let r = reading c.args.form (view_of c.args.at.now) c.args.regs.now (g.S.WordFile.words c.args.file.now) in
    let d = c.requires.sew ∙ sym (moves_width r c.requires.moves) in
    c.merged_word.ensures.value (g.S.WordFile.words c.args.file.now) (moves_each r c.requires.moves) d (sym (moves_count r c.requires.moves)) (λ u. mask_are r c.args.w (64 / c.args.sew) c.mask_word-mask.result (ap (λ n. 64 / n) d) (c.mask_word-mask.ensures.bits (masked r u))) c.group_word-old.ensures (moves_made r c.requires.moves c.args.w c.args.sew c.second_word.result d c.second_word.ensures)

pub returns-clause-sat : goal.returns-clause-sat
returns-clause-sat g c =
    let r = reading c.args.form (view_of c.args.at.now) c.args.regs.now (g.S.WordFile.words c.args.file.now) in
    let d = c.requires.sew ∙ sym (moves_width r c.requires.moves) in
    c.merged_word.ensures.sat (g.S.WordFile.words c.args.file.now) (moves_each r c.requires.moves) d (sym (moves_count r c.requires.moves)) (λ u. mask_are r c.args.w (64 / c.args.sew) c.mask_word-mask.result (ap (λ n. 64 / n) d) (c.mask_word-mask.ensures.bits (masked r u))) (moves_made r c.requires.moves c.args.w c.args.sew c.second_word.result d c.second_word.ensures)
