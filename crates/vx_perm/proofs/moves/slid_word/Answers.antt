-- A word that is taken from a row of elements.
use Rattle.vx_vstate.specs.Views.{view_of}
use Rattle.std.proofs.Common.{ℕ, ◌+◌, ◌*◌, ◌/◌, ◌<◌, ◌∙◌, not, Some, sym, ap, subst, arith}
use Rattle.vx_decode.specs.Groups.{width_of}
use Rattle.vx_rows.specs.declared.family.Operand.{Operand}
use Rattle.vx_vstate.specs.Registers.{element_word, place_of, word_at, words_of_all}
use Rattle.vx_operands.specs.Forms.{reading}
use Rattle.vx_vector.specs.Laws.{is_absent}
use Rattle.vx_vector.specs.Reading.{element_of, sew_of, whole_registers}
use Rattle.vx_operands.proofs.Places.{word_small, registers_small, per_word-le}
use Rattle.vx_operands.proofs.Even.{destination_place}
use Rattle.vx_operands.proofs.ByIndex.{count_is, element_width, moved_sat}
use Rattle.vx_perm.proofs.Facts.{moves_by_index, moves_destination, slide_moves, source_is, source_place}
use Rattle.vx_perm.proofs.Joining.{all_active, moved_whole}
use Rattle.vx_perm.proofs.moves.slid_word.Goals as goal

pub overflow_mul-w : goal.overflow_mul-w
overflow_mul-w g c =
    let r = reading c.args.form (view_of c.args.at.now) c.args.regs.now (g.S.WordFile.words c.args.file.now) in
    let single = moves_destination c.args.form.family (slide_moves c.args.form.family c.requires.kind) in
    let place = destination_place r c.args.w (ap (λ (o : Operand). not (is_absent o)) single) c.requires.sound.destination c.requires.within in
    let small = word_small c.args.w (c.args.regs.now.vd * (c.args.at.now.vlen / 64)) (c.args.at.now.vlen / 64) (64 / c.args.sew) place (registers_small c.args.at.now.vlen c.args.at.now.vlen_in_range) (per_word-le c.args.sew c.requires.width) in
    omega arith

pub whole_run-requires-clause-small : goal.whole_run-requires-clause-small
whole_run-requires-clause-small g c =
    let r = reading c.args.form (view_of c.args.at.now) c.args.regs.now (g.S.WordFile.words c.args.file.now) in
    let single = moves_destination c.args.form.family (slide_moves c.args.form.family c.requires.kind) in
    let place = destination_place r c.args.w (ap (λ (o : Operand). not (is_absent o)) single) c.requires.sound.destination c.requires.within in
    let few = per_word-le c.args.sew c.requires.width in
    let small = word_small c.args.w (c.args.regs.now.vd * (c.args.at.now.vlen / 64)) (c.args.at.now.vlen / 64) (64 / c.args.sew) place (registers_small c.args.at.now.vlen c.args.at.now.vlen_in_range) few in
    omega arith

pub elements_from-requires-clause-small : goal.elements_from-requires-clause-small
elements_from-requires-clause-small g c =
    let words = g.S.WordFile.words c.args.file.now in
    let run = c.whole_run.ensures.run words c.in-Some.from c.in-Some.is in
    let within = run.within in
    let most = c.vlmax.ensures.in_range in
    let is = c.vlmax.ensures.is in
    let registers = registers_small c.args.at.now.vlen c.args.at.now.vlen_in_range in
    omega (arith, within, most, is, registers)

pub elements_from-requires-clause-within : goal.elements_from-requires-clause-within
elements_from-requires-clause-within g c k l =
    let words = g.S.WordFile.words c.args.file.now in
    let r = reading c.args.form (view_of c.args.at.now) c.args.regs.now words in
    let run = c.whole_run.ensures.run words c.in-Some.from c.in-Some.is in
    let within = run.within in
    subst (λ s. place_of c.args.at.now.vlen c.args.regs.now.vs2 (element_word s (c.in-Some.from + k)) < words_of_all c.args.at.now.vlen) (sym c.requires.sew)
    (source_place r c.args.regs.now.vs2 (c.in-Some.from + k) c.requires.vs2 c.requires.sound.vs2 (omega (arith, within, l)))

pub returns-in-Some-clause-value : goal.returns-in-Some-clause-value
returns-in-Some-clause-value g c =
    let words = g.S.WordFile.words c.args.file.now in
    let r = reading c.args.form (view_of c.args.at.now) c.args.regs.now words in
    let moves = slide_moves c.args.form.family c.requires.kind in
    let single = moves_destination c.args.form.family moves in
    let width = c.requires.sew ∙ sym (ap (λ (o : Operand). width_of o (sew_of r)) single) in
    let run = c.whole_run.ensures.run words c.in-Some.from c.in-Some.is in
    let within = run.within in
    let active = c.whole_run.ensures.active words c.in-Some.from c.in-Some.is in
    let old : ℕ = word_at c.args.at.now.vlen words c.args.regs.now.vd c.args.w in
    let f : ℕ → ℕ = λ k. element_of r c.args.regs.now.vs2 c.args.sew (c.in-Some.from + k) in
    c.elements_from.ensures
    ∙ moved_whole c.joined_by_elements.ensures.same c.elements_are_lanes.ensures.lane r c.args.w c.args.sew old f (moves_by_index c.args.form.family moves) width (element_width c.args.sew c.requires.width) (per_word-le c.args.sew c.requires.width)
    (λ k l. all_active r (c.args.w * (64 / c.args.sew)) (64 / c.args.sew) k (count_is r (ap whole_registers single)) active l)
    (λ i. old)
    (λ k l.
    run.moves k l
    ∙ sym (ap (λ n. Some n) (
    ap (λ s. element_of r c.args.regs.now.vs2 s (c.in-Some.from + k)) c.requires.sew
    ∙ source_is r (c.in-Some.from + k) c.requires.vs2 (omega (arith, within, l)))))

pub returns-in-Some-clause-sat : goal.returns-in-Some-clause-sat
returns-in-Some-clause-sat g c =
    let r = reading c.args.form (view_of c.args.at.now) c.args.regs.now (g.S.WordFile.words c.args.file.now) in
    sym (moved_sat r c.args.w (moves_by_index c.args.form.family (slide_moves c.args.form.family c.requires.kind)))
