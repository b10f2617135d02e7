-- A word that is taken from a row of elements.
use Rattle.vx_vstate.specs.Views.{view_of}
use Rattle.std.proofs.Common.{◌≡◌, ℕ, ◌+◌, ◌*◌, ◌/◌, ◌<◌, ◌≤◌, ◌∙◌, IsTrue, List, Some, length, sym, ap, subst, arith}
use Rattle.vx_decode.specs.Groups.{width_of}
use Rattle.vx_rows.specs.declared.family.Operand.{Operand}
use Rattle.vx_rows.specs.declared.family.Family.{Family}
use Rattle.vx_vstate.specs.Registers.{element, element_word, place_of, word_at, words_of_all}
use Rattle.vx_operands.specs.Forms.{reading}
use Rattle.vx_vector.specs.Reading.{count_of, element_of, sew_of, whole_registers}
use Rattle.vx_operands.proofs.Places.{per_word-le}
use Rattle.vx_operands.proofs.ByIndex.{count_is, element_width}
use Rattle.vx_operands.proofs.Filled.{all_active}
use Rattle.vx_packed.specs.Joined.{joined}
use Rattle.vx_perm.specs.Kinds.{is_slide}
use Rattle.vx_perm.proofs.Facts.{moves_by_index, moves_destination, moves_vs2, slide_moves, source_is, source_place}
use Rattle.vx_perm.proofs.Joining.{moved_whole}
use Rattle.vx_perm.proofs.full.slid_full.Goals as goal

pub elements_in-requires-clause-small : goal.elements_in-requires-clause-small
elements_in-requires-clause-small g c =
    let run = c.run_of.ensures (g.S.WordFile.words c.args.file.now) c.in-Some.from c.in-Some.is in
    let within = run.within in
    omega (arith, within, c.requires.most, c.requires.few)

pub elements_in-requires-clause-within : goal.elements_in-requires-clause-within
elements_in-requires-clause-within g c k l =
    let words = g.S.WordFile.words c.args.file.now in
    let r = reading c.args.form (view_of c.args.at.now) c.args.regs.now words in
    let kind : IsTrue (is_slide c.args.form.family) = subst (λ (f : Family). IsTrue (is_slide f)) (sym c.requires.family) c.requires.kind in
    let run = c.run_of.ensures words c.in-Some.from c.in-Some.is in
    let within = run.within in
    subst (λ s. place_of c.args.at.now.vlen c.args.regs.now.vs2 (element_word s (c.in-Some.from + k)) < words_of_all c.args.at.now.vlen) (sym c.requires.sew)
    (source_place r c.args.regs.now.vs2 (c.in-Some.from + k) (moves_vs2 c.args.form.family (slide_moves c.args.form.family kind)) c.requires.sound.vs2 (omega (arith, within, l)))

pub returns-in-Some : goal.returns-in-Some
returns-in-Some g c =
    let words = g.S.WordFile.words c.args.file.now in
    let r = reading c.args.form (view_of c.args.at.now) c.args.regs.now words in
    let kind : IsTrue (is_slide c.args.form.family) = subst (λ (f : Family). IsTrue (is_slide f)) (sym c.requires.family) c.requires.kind in
    let moves = slide_moves c.args.form.family kind in
    let single = moves_destination c.args.form.family moves in
    let vs2 = moves_vs2 c.args.form.family moves in
    let width = c.requires.sew ∙ sym (ap (λ (o : Operand). width_of o (sew_of r)) single) in
    let run = c.run_of.ensures words c.in-Some.from c.in-Some.is in
    let within = run.within in
    let below = c.requires.below in
    let count : count_of r ≡ c.args.at.now.vl = count_is r (ap whole_registers single) in
    let old : ℕ = word_at c.args.at.now.vlen words c.args.regs.now.vd c.args.w in
    let f : ℕ → ℕ = λ k. element_of r c.args.regs.now.vs2 c.args.sew (c.in-Some.from + k) in
    c.elements_in.ensures
    ∙ ap (λ (ws : List ℕ). joined c.args.sew (64 / c.args.sew) (λ k. element c.args.at.now.vlen ws c.args.regs.now.vs2 c.args.sew (c.in-Some.from + k))) c.requires.slice
    ∙ moved_whole c.joined_by_elements.ensures.same c.elements_are_lanes.ensures.lane r c.args.w c.args.sew old f (moves_by_index c.args.form.family moves) width (element_width c.args.sew c.requires.width) (per_word-le c.args.sew c.requires.width)
    (λ k l. all_active r (c.args.w * (64 / c.args.sew) + k) c.requires.start (omega (arith, l, below, count)) c.requires.unmasked)
    (λ i. old)
    (λ k l.
    run.moves k l
    ∙ sym (ap (λ n. Some n) (
    ap (λ s. element_of r c.args.regs.now.vs2 s (c.in-Some.from + k)) c.requires.sew
    ∙ source_is r (c.in-Some.from + k) vs2 (omega (arith, within, l)))))
