-- One word more: its elements are all active.
use Rattle.std.proofs.Common.{◌≡◌, ℕ, ◌+◌, ◌*◌, ◌/◌, ◌<◌, ◌≤◌, true, not, IsTrue, length, slice_index, refl, sym, ap, ◌∙◌, subst, arith}
use Rattle.vx_bits.specs.Width.{is_width}
use Rattle.vx_packed.specs.declared.elements.Sources.{Sources}
use Rattle.vx_rows.specs.Families.{operands_of}
use Rattle.vx_rows.specs.declared.family.Operand.{Operand}
use Rattle.vx_rows.specs.declared.row.First.TheVariants.{Vector}
use Rattle.vx_vector.specs.Laws.{IsPlaced, is_absent}
use Rattle.vx_vstate.specs.Registers.{place_of, words_of_all}
use Rattle.vx_vstate.specs.Views.{view_of}
use Rattle.vx_operands.specs.Forms.{reading}
use Rattle.vx_operands.proofs.Even.{even_of, placed_word, destination_place, vs1_is}
use Rattle.vx_operands.proofs.Filled.{begins, some_lanes, second_lanes, full_word, filled_more}
use Rattle.vx_operands.proofs.full.full_words.Goals as goal

pub word_in-requires : goal.word_in-requires
word_in-requires g c =
    let r = reading c.args.form (view_of c.args.at.now) c.args.regs.now c.args.words.now in
    let even = even_of c.args.form.first (operands_of c.args.form.family) c.requires.even in
    let width = subst (λ n. IsTrue (is_width n)) c.requires.sew c.requires.width in
    let early = subst (λ n. c.loop-w.w * (64 / n) < c.args.at.now.vl) c.requires.sew (begins c.loop-w.w c.args.count (64 / c.args.sew) c.args.at.now.vl (some_lanes c.args.sew c.requires.width) c.requires.below c.loop-w-test.true) in
    let place : place_of c.args.at.now.vlen c.args.regs.now.vs2 c.loop-w.w < words_of_all c.args.at.now.vlen = placed_word r c.requires.sound.setting (operands_of c.args.form.family).vs2 c.args.regs.now.vs2 c.loop-w.w even.vs2 c.requires.sound.vs2 width early in
    omega (arith, place, c.requires.sound.count, c.group_place-a.ensures.is)

pub word_or-requires : goal.word_or-requires
word_or-requires g c t =
    let r = reading c.args.form (view_of c.args.at.now) c.args.regs.now c.args.words.now in
    let even = even_of c.args.form.first (operands_of c.args.form.family) c.requires.even in
    let width = subst (λ n. IsTrue (is_width n)) c.requires.sew c.requires.width in
    let early = subst (λ n. c.loop-w.w * (64 / n) < c.args.at.now.vl) c.requires.sew (begins c.loop-w.w c.args.count (64 / c.args.sew) c.args.at.now.vl (some_lanes c.args.sew c.requires.width) c.requires.below c.loop-w-test.true) in
    let v = c.is_group-is_group.ensures.group t in
    let placed = subst (λ (o : Operand). IsPlaced r o c.args.regs.now.vs1) (vs1_is r v) c.requires.sound.vs1 in
    let place : place_of c.args.at.now.vlen c.args.regs.now.vs1 c.loop-w.w < words_of_all c.args.at.now.vlen = placed_word r c.requires.sound.setting (operands_of c.args.form.family).vs1 c.args.regs.now.vs1 c.loop-w.w (even.vs1 v) placed width early in
    omega (arith, place, c.requires.sound.count, c.group_place-b.ensures.is)

pub word_in-requires-in-loop-w : goal.word_in-requires-in-loop-w
word_in-requires-in-loop-w g c =
    let r = reading c.args.form (view_of c.args.at.now) c.args.regs.now c.args.words.now in
    let even = even_of c.args.form.first (operands_of c.args.form.family) c.requires.even in
    let place : place_of c.args.at.now.vlen c.args.regs.now.vd c.loop-w.w < words_of_all c.args.at.now.vlen = destination_place r c.loop-w.w (ap (λ (o : Operand). not (is_absent o)) even.destination) c.requires.sound.destination (c.requires.within c.loop-w.w c.loop-w-test.true) in
    omega (arith, place, c.requires.sound.count, c.group_place-d.ensures.is)

pub loop-w-preserved : goal.loop-w-preserved
loop-w-preserved g c =
    let r = reading c.args.form (view_of c.args.at.now) c.args.regs.now c.args.words.now in
    let even = even_of c.args.form.first (operands_of c.args.form.family) c.requires.even in
    let w = c.loop-w.w in
    let inside = c.loop-w-test.true in
    let some : 0 < c.args.count = omega (arith, inside) in
    let less : w < length c.args.into.now = omega (arith, inside, c.requires.room) in
    let from : Sources = record { a = c.word_in.result; b = c.word_or.result; d = c.word_in-in-loop-w.result; m = 0 } in
    let a-is : c.group_place-a.result + w ≡ place_of c.args.at.now.vlen c.args.regs.now.vs2 w = omega (arith, c.group_place-a.ensures.is) in
    let b-is : c.group_place-b.result + w ≡ place_of c.args.at.now.vlen c.args.regs.now.vs1 w = omega (arith, c.group_place-b.ensures.is) in
    let d-is : c.group_place-d.result + w ≡ place_of c.args.at.now.vlen c.args.regs.now.vd w = omega (arith, c.group_place-d.ensures.is) in
    let second = second_lanes c.joined_by_elements.ensures.element r w c.args.sew c.word_or.result c.splat-fixed.result c.second_number.result c.is_group-is_group.result even c.requires.sew c.requires.width c.is_group-is_group.ensures.group c.is_group-is_group.ensures.other (λ t. c.word_or.ensures.group t ∙ ap (slice_index c.args.words.now) b-is) c.word_or.ensures.other c.splat-fixed.ensures (c.second_number.ensures c.args.words.now) in
    filled_more _ (length c.args.into.now) w c.f.result.value c.loop-w.into c.loop-w.invariant less (full_word c.joined_by_elements.ensures.same c.words_are_made.ensures.value r w c.args.count c.args.sew from c.f.result c.requires.sound c.requires.each even c.requires.sew c.requires.width c.requires.below inside (c.requires.start some) (c.requires.unmasked some) (c.requires.within w inside) (c.word_in.ensures.is ∙ ap (slice_index c.args.words.now) a-is) second (c.word_in-in-loop-w.ensures.is ∙ ap (slice_index c.args.words.now) d-is) refl c.word_in-in-loop-w.ensures.below (c.requires.makes from c.f.result c.f.ensures))
