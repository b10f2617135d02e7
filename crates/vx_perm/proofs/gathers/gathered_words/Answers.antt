-- One word more: its elements are all active.
use Rattle.std.proofs.Common.{◌≡◌, ℕ, ◌≤◌, ◌+◌, ◌*◌, ◌/◌, ◌^◌, ◌<◌, IsTrue, not, length, slice_index, sym, ap, ◌∙◌, subst, arith, mul-le-mul_right}
use Rattle.vx_decode.specs.Groups.{width_of}
use Rattle.vx_rows.specs.declared.family.Family.{Family}
use Rattle.vx_rows.specs.declared.family.Operand.{Operand}
use Rattle.vx_vector.specs.Laws.{is_absent, made_word}
use Rattle.vx_vector.specs.Lists.{element_or_zero, gather_index}
use Rattle.vx_vector.specs.Reading.{count_of, lists_of, sew_of, whole_registers}
use Rattle.vx_vstate.specs.Registers.{place_of, word_at, words_of_all}
use Rattle.vx_vstate.specs.Views.{view_of}
use Rattle.vx_operands.specs.Forms.{reading}
use Rattle.vx_operands.proofs.ByIndex.{count_is, element_width}
use Rattle.vx_operands.proofs.Even.{destination_place}
use Rattle.vx_operands.proofs.Filled.{all_active, ends, filled_more}
use Rattle.vx_operands.proofs.Places.{per_word-le}
use Rattle.vx_perm.specs.Kinds.{is_gather}
use Rattle.vx_perm.proofs.Facts.{gather_moves, gather_takes, moves_by_index, moves_destination}
use Rattle.vx_perm.proofs.Joining.{moved_whole}
use Rattle.vx_perm.proofs.gathers.gathered_words.Goals as goal

pub word_in-old-requires : goal.word_in-old-requires
word_in-old-requires c =
    let r = reading c.args.form (view_of c.args.at.now) c.args.regs.now c.args.words.now in
    let kind : IsTrue (is_gather c.args.form.family) = subst (λ (f : Family). IsTrue (is_gather f)) (sym c.requires.family) c.requires.gathers in
    let single = moves_destination c.args.form.family (gather_moves c.args.form.family kind) in
    let there : place_of c.args.at.now.vlen c.args.regs.now.vd c.loop-w.w < words_of_all c.args.at.now.vlen = destination_place r c.loop-w.w (ap (λ (o : Operand). not (is_absent o)) single) c.requires.sound.destination (c.requires.within c.loop-w.w c.loop-w-test.true) in
    omega (arith, there, c.requires.sound.count, c.group_place-old.ensures.is)

pub gathered_lanes-requires-clause-below : goal.gathered_lanes-requires-clause-below
gathered_lanes-requires-clause-below c =
    let next : c.loop-w.w + 1 ≤ c.args.count = omega (arith, c.loop-w-test.true) in
    let rows = mul-le-mul_right (64 / c.args.sew) next in
    omega (arith, rows, c.requires.below)

pub loop-w-preserved : goal.loop-w-preserved
loop-w-preserved c =
    let r = reading c.args.form (view_of c.args.at.now) c.args.regs.now c.args.words.now in
    let s = lists_of r in
    let w = c.loop-w.w in
    let inside = c.loop-w-test.true in
    let some : 0 < c.args.count = omega (arith, inside) in
    let less : w < length c.args.made.now = omega (arith, inside, c.requires.room) in
    let kind : IsTrue (is_gather c.args.form.family) = subst (λ (f : Family). IsTrue (is_gather f)) (sym c.requires.family) c.requires.gathers in
    let moves = gather_moves c.args.form.family kind in
    let single = moves_destination c.args.form.family moves in
    let width = c.requires.sew ∙ sym (ap (λ (o : Operand). width_of o (sew_of r)) single) in
    let count : count_of r ≡ c.args.at.now.vl = count_is r (ap whole_registers single) in
    let most : c.args.count * (64 / c.args.sew) ≤ count_of r = omega (arith, count, c.requires.below) in
    let at : c.group_place-old.result + w ≡ place_of c.args.at.now.vlen c.args.regs.now.vd w = omega (arith, c.group_place-old.ensures.is) in
    let old_is = c.word_in-old.ensures.is ∙ ap (slice_index c.args.words.now) at in
    let small = subst (λ n. n < 2 ^ 64) old_is c.word_in-old.ensures.below in
    let f : ℕ → ℕ = λ k. element_or_zero s (gather_index s (w * (64 / c.args.sew) + k)) in
    let value : c.gathered_lanes.result ≡ made_word r w =
    c.gathered_lanes.ensures
    ∙ moved_whole c.joined_by_elements.ensures.same c.elements_are_lanes.ensures.lane r w c.args.sew c.word_in-old.result f (moves_by_index c.args.form.family moves) width (element_width c.args.sew c.requires.width) (per_word-le c.args.sew c.requires.width)
    (λ k l. all_active r (w * (64 / c.args.sew) + k) (c.requires.start some) (ends w c.args.count (64 / c.args.sew) k (count_of r) most inside l) (c.requires.unmasked some))
    old_is
    (λ k l. gather_takes c.args.form.family s (w * (64 / c.args.sew) + k) kind) in
    filled_more _ (length c.args.made.now) w c.gathered_lanes.result c.loop-w.made c.loop-w.invariant less
    (value ∙ sym (c.words_are_made.ensures.value r w c.requires.sound small (c.requires.within w inside)))
