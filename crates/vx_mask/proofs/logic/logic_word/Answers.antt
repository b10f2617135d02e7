-- Active bits are what the operation makes of the two masks.
use Rattle.vx_vstate.specs.Views.{view_of}
use Rattle.std.proofs.Common.{◌≡◌, ◌+◌, ◌*◌, ◌/◌, ◌<◌, ◌≤◌, ◌∙◌, sym, ap, subst, arith, refl}
use Rattle.vx_rows.specs.declared.family.Operand.{Operand}
use Rattle.vx_rows.specs.declared.family.Operands.{Operands}
use Rattle.vx_rows.specs.Families.{operands_of}
use Rattle.vx_operands.specs.Forms.{reading}
use Rattle.vx_operands.proofs.Even.{vs1_is}
use Rattle.vx_operands.proofs.Merging.{behind}
use Rattle.vx_operands.proofs.ByIndex.{mask_value, quiet, mask_unchanged, mask_unchanged_sat}
use Rattle.vx_packed.specs.Joined.{lane}
use Rattle.vx_vector.specs.Laws.{IsPlaced, per_word}
use Rattle.vx_vector.specs.Reading.{numbers_at}
use Rattle.vx_mask.proofs.Families.{logic_operands, mask_word, mask_place}
use Rattle.vx_mask.proofs.Bitwise.{first_bit, second_bit, logic_none, logic_some, logic_quiet}
use Rattle.vx_mask.proofs.logic.logic_word.Goals as goal

pub group_word-old-requires-clause-within : goal.group_word-old-requires-clause-within
group_word-old-requires-clause-within g c =
    let r = reading c.args.form (view_of c.args.at.now) c.args.regs.now (g.S.WordFile.words c.args.file.now) in
    let m = mask_word r c.args.w c.requires.sound (ap (λ (o : Operands). o.destination) (logic_operands c.args.form.family c.requires.logic)) c.requires.within in
    m.place

pub overflow_mul-w : goal.overflow_mul-w
overflow_mul-w g c =
    let r = reading c.args.form (view_of c.args.at.now) c.args.regs.now (g.S.WordFile.words c.args.file.now) in
    let m = mask_word r c.args.w c.requires.sound (ap (λ (o : Operands). o.destination) (logic_operands c.args.form.family c.requires.logic)) c.requires.within in
    omega (arith, m.few)

pub returns-then-at-w-clause-value : goal.returns-then-at-w-clause-value
returns-then-at-w-clause-value g c =
    let r = reading c.args.form (view_of c.args.at.now) c.args.regs.now (g.S.WordFile.words c.args.file.now) in
    let m = mask_word r c.args.w c.requires.sound (ap (λ (o : Operands). o.destination) (logic_operands c.args.form.family c.requires.logic)) c.requires.within in
    mask_unchanged r c.args.w c.args.at.now.vl m.width c.unchanged.result.value c.group_word-old.result c.unchanged.ensures.value (λ i late. logic_none r c.requires.logic i (behind r i (omega (arith, m.count, late)))) c.if-at-w.true c.group_word-old.ensures

pub returns-then-at-w-clause-sat : goal.returns-then-at-w-clause-sat
returns-then-at-w-clause-sat g c =
    let r = reading c.args.form (view_of c.args.at.now) c.args.regs.now (g.S.WordFile.words c.args.file.now) in
    let m = mask_word r c.args.w c.requires.sound (ap (λ (o : Operands). o.destination) (logic_operands c.args.form.family c.requires.logic)) c.requires.within in
    mask_unchanged_sat r c.args.w c.args.at.now.vl m.width c.unchanged.result.sat c.unchanged.ensures.sat (λ i late. logic_none r c.requires.logic i (behind r i (omega (arith, m.count, late)))) c.if-at-w.true

pub active_word-active-requires-clause-elements : goal.active_word-active-requires-clause-elements
active_word-active-requires-clause-elements g c =
    let r = reading c.args.form (view_of c.args.at.now) c.args.regs.now (g.S.WordFile.words c.args.file.now) in
    let m = mask_word r c.args.w c.requires.sound (ap (λ (o : Operands). o.destination) (logic_operands c.args.form.family c.requires.logic)) c.requires.within in
    m.whole

pub group_word-a-requires-clause-within : goal.group_word-a-requires-clause-within
group_word-a-requires-clause-within g c =
    let r = reading c.args.form (view_of c.args.at.now) c.args.regs.now (g.S.WordFile.words c.args.file.now) in
    let e = logic_operands c.args.form.family c.requires.logic in
    let m = mask_word r c.args.w c.requires.sound (ap (λ (o : Operands). o.destination) e) c.requires.within in
    mask_place r (operands_of c.args.form.family).vs2 c.args.regs.now.vs2 c.args.w (ap (λ (o : Operands). o.vs2) e) c.requires.sound.vs2 m.below

pub group_word-b-requires-clause-within : goal.group_word-b-requires-clause-within
group_word-b-requires-clause-within g c =
    let r = reading c.args.form (view_of c.args.at.now) c.args.regs.now (g.S.WordFile.words c.args.file.now) in
    let e = logic_operands c.args.form.family c.requires.logic in
    let m = mask_word r c.args.w c.requires.sound (ap (λ (o : Operands). o.destination) e) c.requires.within in
    let placed = subst (λ (o : Operand). IsPlaced r o c.args.regs.now.vs1) (vs1_is r c.requires.registers) c.requires.sound.vs1 in
    mask_place r (operands_of c.args.form.family).vs1 c.args.regs.now.vs1 c.args.w (ap (λ (o : Operands). o.vs1) e) placed m.below

pub returns-clause-value : goal.returns-clause-value
returns-clause-value g c =
    let r = reading c.args.form (view_of c.args.at.now) c.args.regs.now (g.S.WordFile.words c.args.file.now) in
    let m = mask_word r c.args.w c.requires.sound (ap (λ (o : Operands). o.destination) (logic_operands c.args.form.family c.requires.logic)) c.requires.within in
    let lanes = c.elements_are_lanes.ensures.lane in
    c.merge_bits.ensures
    ∙ mask_value c.joined_by_elements.ensures.same lanes r c.args.w c.active_word-active.result c.bits_of.result c.group_word-old.result m.width c.active_word-active.ensures c.group_word-old.ensures (logic_none r c.requires.logic)
    (λ k l t. logic_some r c.requires.logic (c.args.w * 64 + k) (lane 1 c.bits_of.result k) (c.bits_of.ensures (numbers_at r (c.args.w * 64 + k)) k l (first_bit lanes r c.requires.logic c.args.w c.group_word-a.result k l c.group_word-a.ensures) (second_bit lanes r c.requires.logic c.args.w c.group_word-b.result k l c.requires.registers c.group_word-b.ensures)) t)

pub returns-clause-sat : goal.returns-clause-sat
returns-clause-sat g c =
    let r = reading c.args.form (view_of c.args.at.now) c.args.regs.now (g.S.WordFile.words c.args.file.now) in
    sym (quiet r c.args.w (λ k l. logic_quiet r c.requires.logic (c.args.w * per_word r + k)))
