-- One word more: its elements are all active.
use Rattle.std.proofs.Common.{◌≡◌, ◌≤◌, ◌+◌, ◌*◌, ◌/◌, ◌<◌, IsTrue, not, length, sym, ap, ◌∙◌, subst, arith, mul-le-mul_right}
use Rattle.vx_rows.specs.declared.family.Family.{Family}
use Rattle.vx_rows.specs.declared.family.Operand.{Operand}
use Rattle.vx_vector.specs.Laws.{is_absent}
use Rattle.vx_vstate.specs.Registers.{place_of, words_of_all}
use Rattle.vx_vstate.specs.Views.{view_of}
use Rattle.vx_operands.specs.Forms.{reading}
use Rattle.vx_operands.proofs.Even.{destination_place}
use Rattle.vx_operands.proofs.Filled.{filled_more}
use Rattle.vx_perm.specs.Kinds.{is_slide}
use Rattle.vx_perm.proofs.Facts.{moves_destination, slide_moves}
use Rattle.vx_perm.proofs.full.slid_words.Goals as goal

pub has_a_word-requires-clause-within : goal.has_a_word-requires-clause-within
has_a_word-requires-clause-within g c =
    let r = reading c.args.form (view_of c.args.at.now) c.args.regs.now (g.S.WordFile.words c.args.file.now) in
    let kind : IsTrue (is_slide c.args.form.family) = subst (λ (f : Family). IsTrue (is_slide f)) (sym c.requires.family) c.requires.kind in
    let single = moves_destination c.args.form.family (slide_moves c.args.form.family kind) in
    destination_place r c.loop-w.w (ap (λ (o : Operand). not (is_absent o)) single) c.requires.sound.destination (c.requires.within c.loop-w.w c.loop-w-test.true)

pub slid_full-requires-clause-below : goal.slid_full-requires-clause-below
slid_full-requires-clause-below g c =
    let next : c.loop-w.w + 1 ≤ c.args.count = omega (arith, c.loop-w-test.true) in
    let rows = mul-le-mul_right (64 / c.args.sew) next in
    omega (arith, rows, c.requires.below)

pub loop-w-preserved : goal.loop-w-preserved
loop-w-preserved g c =
    let r = reading c.args.form (view_of c.args.at.now) c.args.regs.now (g.S.WordFile.words c.args.file.now) in
    let inside = c.loop-w-test.true in
    let less : c.loop-w.w < length c.args.made.now = omega (arith, inside, c.requires.room) in
    filled_more _ (length c.args.made.now) c.loop-w.w c.slid_full.result c.loop-w.made c.loop-w.invariant less
    (c.slid_full.ensures ∙ sym (c.words_are_made.ensures.value r c.loop-w.w c.requires.sound c.has_a_word.ensures (c.requires.within c.loop-w.w inside)))

pub slid_full-requires-clause-within : goal.slid_full-requires-clause-within
slid_full-requires-clause-within g c = c.requires.within c.loop-w.w c.loop-w-test.true
