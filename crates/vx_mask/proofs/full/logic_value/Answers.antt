-- All elements of the word are active.
use Rattle.std.proofs.Common.{◌≡◌, ◌+◌, ◌*◌, ◌-◌, ◌^◌, ◌<◌, ◌≤◌, slice_index, sym, ap, ◌∙◌, subst, arith}
use Rattle.vx_packed.specs.Joined.{lane}
use Rattle.vx_rows.specs.declared.family.Family.{Family}
use Rattle.vx_rows.specs.declared.family.Operands.{Operands}
use Rattle.vx_vector.specs.Laws.{made_word}
use Rattle.vx_vector.specs.Reading.{count_of, numbers_at}
use Rattle.vx_vstate.specs.Views.{view_of}
use Rattle.vx_operands.specs.Forms.{reading}
use Rattle.vx_operands.specs.Lanes.{answer}
use Rattle.vx_operands.proofs.ByIndex.{mask_value}
use Rattle.vx_operands.proofs.Filled.{all_active, ends}
use Rattle.vx_operands.proofs.Merging.{full_bit}
use Rattle.vx_mask.proofs.Bitwise.{first_bit, second_bit, logic_none, logic_some}
use Rattle.vx_mask.proofs.Blocks.{reads_vs2, reads_vs1, reads_vd}
use Rattle.vx_mask.proofs.Families.{logic_operands, mask_word}
use Rattle.vx_mask.proofs.full.logic_value.Goals as goal

pub overflow_add-groups : goal.overflow_add-groups
overflow_add-groups c = (reads_vs2 (reading c.args.form (view_of c.args.at.now) c.args.regs.now c.args.words.now) c.args.groups.vs2 c.args.w c.requires.sound c.requires.logic c.requires.within c.requires.vs2).small

pub word_in-x-requires : goal.word_in-x-requires
word_in-x-requires c = (reads_vs2 (reading c.args.form (view_of c.args.at.now) c.args.regs.now c.args.words.now) c.args.groups.vs2 c.args.w c.requires.sound c.requires.logic c.requires.within c.requires.vs2).inside

pub overflow_add-groups-2 : goal.overflow_add-groups-2
overflow_add-groups-2 c = (reads_vs1 (reading c.args.form (view_of c.args.at.now) c.args.regs.now c.args.words.now) c.args.groups.vs1 c.args.w c.requires.sound c.requires.logic c.requires.within c.requires.registers c.requires.vs1).small

pub word_in-y-requires : goal.word_in-y-requires
word_in-y-requires c = (reads_vs1 (reading c.args.form (view_of c.args.at.now) c.args.regs.now c.args.words.now) c.args.groups.vs1 c.args.w c.requires.sound c.requires.logic c.requires.within c.requires.registers c.requires.vs1).inside

pub overflow_add-groups-3 : goal.overflow_add-groups-3
overflow_add-groups-3 c = (reads_vd (reading c.args.form (view_of c.args.at.now) c.args.regs.now c.args.words.now) c.args.groups.vd c.args.w c.requires.sound c.requires.logic c.requires.within c.requires.vd).small

pub word_in-old-requires : goal.word_in-old-requires
word_in-old-requires c = (reads_vd (reading c.args.form (view_of c.args.at.now) c.args.regs.now c.args.words.now) c.args.groups.vd c.args.w c.requires.sound c.requires.logic c.requires.within c.requires.vd).inside

pub returns : goal.returns
returns c =
    let r = reading c.args.form (view_of c.args.at.now) c.args.regs.now c.args.words.now in
    let e = logic_operands c.args.form.family c.requires.logic in
    let w = c.args.w in
    let m = mask_word r w c.requires.sound (ap (λ (o : Operands). o.destination) e) c.requires.within in
    let x = c.word_in-x.result in
    let y = c.word_in-y.result in
    let old = c.word_in-old.result in
    let new = c.bits_of.result in
    let a-is = c.word_in-x.ensures.is ∙ ap (slice_index c.args.words.now) (reads_vs2 r c.args.groups.vs2 w c.requires.sound c.requires.logic c.requires.within c.requires.vs2).at in
    let b-is = c.word_in-y.ensures.is ∙ ap (slice_index c.args.words.now) (reads_vs1 r c.args.groups.vs1 w c.requires.sound c.requires.logic c.requires.within c.requires.registers c.requires.vs1).at in
    let d-is = c.word_in-old.ensures.is ∙ ap (slice_index c.args.words.now) (reads_vd r c.args.groups.vd w c.requires.sound c.requires.logic c.requires.within c.requires.vd).at in
    let lanes = c.elements_are_lanes.ensures.lane in
    let most : (w + 1) * 64 ≤ count_of r = omega (arith, m.count, c.requires.below) in
    let last : w < w + 1 = omega arith in
    let value : c.merge_bits.result ≡ made_word r w =
    c.merge_bits.ensures
    ∙ mask_value c.joined_by_elements.ensures.same lanes r w (2 ^ 64 - 1) new old m.width
    (λ k l. full_bit k l ∙ sym (all_active r (w * 64 + k) c.requires.start (ends w (w + 1) 64 k (count_of r) most last l) c.requires.unmasked))
    d-is (logic_none r c.requires.logic)
    (λ k l t. logic_some r c.requires.logic (w * 64 + k) (lane 1 new k) (c.bits_of.ensures (numbers_at r (w * 64 + k)) k l (first_bit lanes r c.requires.logic w x k l a-is) (second_bit lanes r c.requires.logic w y k l c.requires.registers b-is) ∙ ap (λ (f : Family). (answer f (numbers_at r (w * 64 + k))).value) c.requires.family) t) in
    value ∙ sym (c.words_are_made.ensures.value r w c.requires.sound (subst (λ n. n < 2 ^ 64) d-is c.word_in-old.ensures.below) c.requires.within)
