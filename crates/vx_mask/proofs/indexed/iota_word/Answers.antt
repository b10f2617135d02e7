-- Each element is how many marks there are before it.
use Rattle.vx_vstate.specs.Views.{view_of}
use Rattle.std.proofs.Common.{◌≡◌, ℕ, ◌+◌, ◌*◌, ◌/◌, ◌%◌, ◌^◌, ◌<◌, ◌≤◌, ◌∙◌, Bool, ◌&&◌, nat_eq, ltb, IsTrue, not, Option, Some, sym, ap, subst, arith, rules}
use Rattle.vx_bits.specs.Width.{is_width}
use Rattle.vx_decode.specs.Groups.{width_of}
use Rattle.vx_packed.specs.Joined.{lane}
use Rattle.vx_rows.specs.Families.{operands_of}
use Rattle.vx_rows.specs.declared.family.Family.{Family}
use Rattle.vx_operands.specs.Forms.{reading}
use Rattle.vx_operands.specs.Rising.{count_below, mark, is_by_index, moved_by}
use Rattle.vx_operands.proofs.Places.{word_small, registers_small, per_word-le}
use Rattle.vx_operands.proofs.Even.{destination_place}
use Rattle.vx_operands.proofs.ByIndex.{count_is, element_width, moved_late}
use Rattle.vx_vector.specs.Laws.{is_absent, per_word}
use Rattle.vx_vector.specs.Lists.{marks_below}
use Rattle.vx_vector.specs.Reading.{destination_width, lists_of, sew_of, whole_registers}
use Rattle.vx_vector.specs.Rules.{rule_of}
use Rattle.vx_mask.proofs.Marked.{below_are, marks_before}
use Rattle.vx_mask.proofs.indexed.iota_word.Goals as goal

pub overflow_mul-first : goal.overflow_mul-first
overflow_mul-first g c =
    let r = reading c.args.form (view_of c.args.at.now) c.args.regs.now (g.S.WordFile.words c.args.file.now) in
    let place = destination_place r c.args.w (ap (λ (f : Family). not (is_absent (operands_of f).destination)) c.requires.family) c.requires.sound.destination c.requires.within in
    let small = word_small c.args.w (c.args.regs.now.vd * (c.args.at.now.vlen / 64)) (c.args.at.now.vlen / 64) (64 / c.args.sew) place (registers_small c.args.at.now.vlen c.args.at.now.vlen_in_range) (per_word-le c.args.sew c.requires.width) in
    omega arith

pub group_word-requires-clause-within : goal.group_word-requires-clause-within
group_word-requires-clause-within g c =
    let r = reading c.args.form (view_of c.args.at.now) c.args.regs.now (g.S.WordFile.words c.args.file.now) in
    destination_place r c.args.w (ap (λ (f : Family). not (is_absent (operands_of f).destination)) c.requires.family) c.requires.sound.destination c.requires.within

pub returns-then-at-first-clause-value : goal.returns-then-at-first-clause-value
returns-then-at-first-clause-value g c =
    let r = reading c.args.form (view_of c.args.at.now) c.args.regs.now (g.S.WordFile.words c.args.file.now) in
    let d = c.requires.sew ∙ sym (ap (λ (f : Family). width_of (operands_of f).destination (sew_of r)) c.requires.family) in
    let count = count_is r (ap (λ (f : Family). whole_registers (operands_of f).destination) c.requires.family) in
    let late = subst (λ n. c.args.at.now.vl ≤ c.args.w * (64 / n)) d c.if-at-first.true in
    c.unchanged.ensures.value r c.args.w (element_width (destination_width r) (subst (λ n. IsTrue (is_width n)) d c.requires.width)) (λ k l. moved_late r (c.args.w * per_word r + k) (ap (λ (f : Family). is_by_index (rule_of f)) c.requires.family) (omega (arith, count, late))) c.group_word.ensures

pub returns-then-at-first-clause-sat : goal.returns-then-at-first-clause-sat
returns-then-at-first-clause-sat g c =
    let r = reading c.args.form (view_of c.args.at.now) c.args.regs.now (g.S.WordFile.words c.args.file.now) in
    let d = c.requires.sew ∙ sym (ap (λ (f : Family). width_of (operands_of f).destination (sew_of r)) c.requires.family) in
    let count = count_is r (ap (λ (f : Family). whole_registers (operands_of f).destination) c.requires.family) in
    let late = subst (λ n. c.args.at.now.vl ≤ c.args.w * (64 / n)) d c.if-at-first.true in
    c.unchanged.ensures.sat r c.args.w (λ k l. moved_late r (c.args.w * per_word r + k) (ap (λ (f : Family). is_by_index (rule_of f)) c.requires.family) (omega (arith, count, late)))

pub count_marks-before-requires-clause-elements : goal.count_marks-before-requires-clause-elements
count_marks-before-requires-clause-elements g c = ap (λ (f : Family). whole_registers (operands_of f).destination) c.requires.family

pub count_marks-before-requires-clause-mask : goal.count_marks-before-requires-clause-mask
count_marks-before-requires-clause-mask g c = ap (λ (f : Family). (operands_of f).vs2) c.requires.family

pub marks_word-marks-requires-clause-elements : goal.marks_word-marks-requires-clause-elements
marks_word-marks-requires-clause-elements g c = ap (λ (f : Family). whole_registers (operands_of f).destination) c.requires.family

pub marks_word-marks-requires-clause-mask : goal.marks_word-marks-requires-clause-mask
marks_word-marks-requires-clause-mask g c = ap (λ (f : Family). (operands_of f).vs2) c.requires.family

pub moved_by_index-requires-clause-by_index : goal.moved_by_index-requires-clause-by_index
moved_by_index-requires-clause-by_index g c = ap (λ (f : Family). is_by_index (rule_of f)) c.requires.family

pub moved_by_index-requires-clause-destination : goal.moved_by_index-requires-clause-destination
moved_by_index-requires-clause-destination g c = ap (λ (f : Family). (operands_of f).destination) c.requires.family

pub moved_by_index-requires-clause-moves : goal.moved_by_index-requires-clause-moves
moved_by_index-requires-clause-moves g c k l below o p =
    let r = reading c.args.form (view_of c.args.at.now) c.args.regs.now (g.S.WordFile.words c.args.file.now) in
    let first = c.args.w * (64 / c.args.sew) in
    let i = first + k in
    let is : o ≡ Some ((c.count_marks-before.result + count_below (λ j. ltb (first + j) i && nat_eq (lane 1 c.marks_word-marks.result j) 1) 64) % 2 ^ c.args.sew) = search rules in
    let vs2 = ap (λ (f : Family). (operands_of f).vs2) c.requires.family in
    let total = marks_before (mark r) first (64 / c.args.sew) k c.count_marks-before.result c.marks_word-marks.result l (per_word-le c.args.sew c.requires.width) c.count_marks-before.ensures.value c.marks_word-marks.ensures ∙ sym (below_are r c.requires.sound.setting vs2 i (omega (arith, below))) in
    is
    ∙ (λ j. Some (total j % 2 ^ c.requires.sew j))
    ∙ sym (ap (λ (f : Family). moved_by (rule_of f) (lists_of r) i) c.requires.family)
