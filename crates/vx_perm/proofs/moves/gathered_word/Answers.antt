-- A word whose indices are read at once.
use Rattle.vx_vstate.specs.Views.{view_of}
use Rattle.std.proofs.Common.{ℕ, ◌+◌, ◌*◌, ◌/◌, ◌&&◌, leb, not, sym, ap, ◌∙◌, arith}
use Rattle.std.proofs.lemmas.Bool.{and_parts}
use Rattle.vx_decode.specs.Groups.{width_of}
use Rattle.vx_rows.specs.declared.family.Operand.{Operand}
use Rattle.vx_vstate.specs.Registers.{word_at}
use Rattle.vx_operands.specs.Forms.{is_unmasked, reading}
use Rattle.vx_vector.specs.Laws.{is_absent}
use Rattle.vx_vector.specs.Lists.{element_or_zero, gather_index}
use Rattle.vx_vector.specs.Reading.{lists_of, sew_of, whole_registers}
use Rattle.vx_operands.proofs.Places.{word_small, registers_small, per_word-le}
use Rattle.vx_operands.proofs.Even.{destination_place}
use Rattle.vx_operands.proofs.ByIndex.{count_is, element_width, moved_sat}
use Rattle.vx_perm.proofs.Facts.{gather_moves, gather_takes, moves_by_index, moves_destination}
use Rattle.vx_perm.proofs.Joining.{all_active, leb_tells, moved_whole}
use Rattle.vx_perm.proofs.moves.gathered_word.Goals as goal

pub overflow_mul-w : goal.overflow_mul-w
overflow_mul-w g c =
    let r = reading c.args.form (view_of c.args.at.now) c.args.regs.now (g.S.WordFile.words c.args.file.now) in
    let single = moves_destination c.args.form.family (gather_moves c.args.form.family c.requires.kind) in
    let place = destination_place r c.args.w (ap (λ (o : Operand). not (is_absent o)) single) c.requires.sound.destination c.requires.within in
    let small = word_small c.args.w (c.args.regs.now.vd * (c.args.at.now.vlen / 64)) (c.args.at.now.vlen / 64) (64 / c.args.sew) place (registers_small c.args.at.now.vlen c.args.at.now.vlen_in_range) (per_word-le c.args.sew c.requires.width) in
    omega arith

pub are_active-requires : goal.are_active-requires
are_active-requires g c =
    let r = reading c.args.form (view_of c.args.at.now) c.args.regs.now (g.S.WordFile.words c.args.file.now) in
    let single = moves_destination c.args.form.family (gather_moves c.args.form.family c.requires.kind) in
    let place = destination_place r c.args.w (ap (λ (o : Operand). not (is_absent o)) single) c.requires.sound.destination c.requires.within in
    let few = per_word-le c.args.sew c.requires.width in
    let small = word_small c.args.w (c.args.regs.now.vd * (c.args.at.now.vlen / 64)) (c.args.at.now.vlen / 64) (64 / c.args.sew) place (registers_small c.args.at.now.vlen c.args.at.now.vlen_in_range) few in
    record { small = omega arith }

pub gathered_whole-requires-clause-below : goal.gathered_whole-requires-clause-below
gathered_whole-requires-clause-below g c =
    let words = g.S.WordFile.words c.args.file.now in
    let r = reading c.args.form (view_of c.args.at.now) c.args.regs.now words in
    let first : ℕ = c.args.w * (64 / c.args.sew) in
    let active = sym (c.are_active.ensures words) ∙ c.if-are_active.true in
    let two = and_parts (is_unmasked r && leb c.args.at.now.vstart first) (leb (first + 64 / c.args.sew) c.args.at.now.vl) active in
    leb_tells (first + 64 / c.args.sew) c.args.at.now.vl two.1

pub returns-then-are_active-clause-value : goal.returns-then-are_active-clause-value
returns-then-are_active-clause-value g c =
    let words = g.S.WordFile.words c.args.file.now in
    let r = reading c.args.form (view_of c.args.at.now) c.args.regs.now words in
    let s = lists_of r in
    let moves = gather_moves c.args.form.family c.requires.kind in
    let single = moves_destination c.args.form.family moves in
    let width = c.requires.sew ∙ sym (ap (λ (o : Operand). width_of o (sew_of r)) single) in
    let active = sym (c.are_active.ensures words) ∙ c.if-are_active.true in
    let old : ℕ = word_at c.args.at.now.vlen words c.args.regs.now.vd c.args.w in
    let f : ℕ → ℕ = λ k. element_or_zero s (gather_index s (c.args.w * (64 / c.args.sew) + k)) in
    c.gathered_whole.ensures
    ∙ moved_whole c.joined_by_elements.ensures.same c.elements_are_lanes.ensures.lane r c.args.w c.args.sew old f (moves_by_index c.args.form.family moves) width (element_width c.args.sew c.requires.width) (per_word-le c.args.sew c.requires.width)
    (λ k l. all_active r (c.args.w * (64 / c.args.sew)) (64 / c.args.sew) k (count_is r (ap whole_registers single)) active l)
    (λ i. old)
    (λ k l. gather_takes c.args.form.family s (c.args.w * (64 / c.args.sew) + k) c.requires.kind)

pub returns-then-are_active-clause-sat : goal.returns-then-are_active-clause-sat
returns-then-are_active-clause-sat g c =
    let r = reading c.args.form (view_of c.args.at.now) c.args.regs.now (g.S.WordFile.words c.args.file.now) in
    sym (moved_sat r c.args.w (moves_by_index c.args.form.family (gather_moves c.args.form.family c.requires.kind)))
