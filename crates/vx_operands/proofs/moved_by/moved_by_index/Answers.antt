-- Active elements become what they must, and the others stay.
use Rattle.vx_vstate.specs.Views.{view_of}
use Rattle.std.proofs.Common.{◌≡◌, ◌+◌, ◌*◌, ◌/◌, ◌<◌, ◌≤◌, ◌∙◌, sym, ap, IsTrue, subst, arith, not, refl}
use Rattle.vx_bits.specs.Width.{is_width}
use Rattle.vx_decode.specs.Groups.{width_of}
use Rattle.vx_rows.specs.Families.{operands_of}
use Rattle.vx_rows.specs.declared.family.Operand.{Operand}
use Rattle.vx_operands.specs.Forms.{reading}
use Rattle.vx_operands.specs.Rising.{moved_by}
use Rattle.vx_vector.specs.Laws.{is_absent, per_word}
use Rattle.vx_vector.specs.Reading.{destination_width, lists_of, sew_of, whole_registers}
use Rattle.vx_vector.specs.Rules.{rule_of}
use Rattle.vx_operands.proofs.Places.{word_small, registers_small, per_word-le}
use Rattle.vx_operands.proofs.Even.{destination_place}
use Rattle.vx_operands.proofs.ByIndex.{count_is, active_below, moved_late, moved_sat, moved_value, element_width}
use Rattle.vx_operands.proofs.moved_by.moved_by_index.Goals as goal

pub group_word-old-requires-clause-within : goal.group_word-old-requires-clause-within
group_word-old-requires-clause-within g c =
    let r = reading c.args.form (view_of c.args.at.now) c.args.regs.now (g.S.WordFile.words c.args.file.now) in
    destination_place r c.args.w (ap (λ (o : Operand). not (is_absent o)) c.requires.destination) c.requires.sound.destination c.requires.within

pub overflow_mul-w : goal.overflow_mul-w
overflow_mul-w g c =
    let r = reading c.args.form (view_of c.args.at.now) c.args.regs.now (g.S.WordFile.words c.args.file.now) in
    let place = destination_place r c.args.w (ap (λ (o : Operand). not (is_absent o)) c.requires.destination) c.requires.sound.destination c.requires.within in
    let small = word_small c.args.w (c.args.regs.now.vd * (c.args.at.now.vlen / 64)) (c.args.at.now.vlen / 64) (64 / c.args.sew) place (registers_small c.args.at.now.vlen c.args.at.now.vlen_in_range) (per_word-le c.args.sew c.requires.width) in
    omega arith

pub returns-then-at-w-clause-value : goal.returns-then-at-w-clause-value
returns-then-at-w-clause-value g c =
    let r = reading c.args.form (view_of c.args.at.now) c.args.regs.now (g.S.WordFile.words c.args.file.now) in
    let d = c.requires.sew ∙ sym (ap (λ (o : Operand). width_of o (sew_of r)) c.requires.destination) in
    let count = count_is r (ap whole_registers c.requires.destination) in
    let late = subst (λ n. c.args.at.now.vl ≤ c.args.w * (64 / n)) d c.if-at-w.true in
    c.unchanged.ensures.value r c.args.w (element_width (destination_width r) (subst (λ n. IsTrue (is_width n)) d c.requires.width)) (λ k l. moved_late r (c.args.w * per_word r + k) c.requires.by_index (omega (arith, count, late))) c.group_word-old.ensures

pub returns-then-at-w-clause-sat : goal.returns-then-at-w-clause-sat
returns-then-at-w-clause-sat g c =
    let r = reading c.args.form (view_of c.args.at.now) c.args.regs.now (g.S.WordFile.words c.args.file.now) in
    let d = c.requires.sew ∙ sym (ap (λ (o : Operand). width_of o (sew_of r)) c.requires.destination) in
    let count = count_is r (ap whole_registers c.requires.destination) in
    let late = subst (λ n. c.args.at.now.vl ≤ c.args.w * (64 / n)) d c.if-at-w.true in
    c.unchanged.ensures.sat r c.args.w (λ k l. moved_late r (c.args.w * per_word r + k) c.requires.by_index (omega (arith, count, late)))

pub active_word-active-requires-clause-elements : goal.active_word-active-requires-clause-elements
active_word-active-requires-clause-elements g c = ap whole_registers c.requires.destination

pub word_after-requires-clause-callable : goal.word_after-requires-clause-callable
word_after-requires-clause-callable g c k l a =
    let r = reading c.args.form (view_of c.args.at.now) c.args.regs.now (g.S.WordFile.words c.args.file.now) in
    let count = count_is r (ap whole_registers c.requires.destination) in
    let below = active_below r (c.args.w * (64 / c.args.sew) + k) (sym (c.active_word-active.ensures k l) ∙ a) in
    c.requires.callable k l (omega (arith, below, count))

pub returns-clause-value : goal.returns-clause-value
returns-clause-value g c =
    let r = reading c.args.form (view_of c.args.at.now) c.args.regs.now (g.S.WordFile.words c.args.file.now) in
    let d = c.requires.sew ∙ sym (ap (λ (o : Operand). width_of o (sew_of r)) c.requires.destination) in
    let count = count_is r (ap whole_registers c.requires.destination) in
    c.word_after.ensures (λ k. moved_by (rule_of c.args.form.family) (lists_of r) (c.args.w * (64 / c.args.sew) + k)) (λ k l a o p. let below = active_below r (c.args.w * (64 / c.args.sew) + k) (sym (c.active_word-active.ensures k l) ∙ a) in c.requires.moves k l (omega (arith, below, count)) o p)
    ∙ moved_value c.joined_by_elements.ensures.same c.elements_are_lanes.ensures.lane r c.args.w c.args.sew c.active_word-active.result c.group_word-old.result c.requires.by_index d (element_width c.args.sew c.requires.width) c.active_word-active.ensures c.group_word-old.ensures

pub returns-clause-sat : goal.returns-clause-sat
returns-clause-sat g c =
    let r = reading c.args.form (view_of c.args.at.now) c.args.regs.now (g.S.WordFile.words c.args.file.now) in
    sym (moved_sat r c.args.w c.requires.by_index)
