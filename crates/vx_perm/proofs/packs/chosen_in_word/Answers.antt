-- The bits of a word of the mask, below vl.
use Rattle.vx_vstate.specs.Views.{view_of}
use Rattle.std.proofs.Common.{◌+◌, ◌*◌, ◌∙◌, ◌&&◌, nat_eq, leb, ltb, sym, ap, subst, refl}
use Rattle.vx_packed.specs.Joined.{lane}
use Rattle.vx_rows.specs.Families.{operands_of}
use Rattle.vx_rows.specs.declared.family.Family.{Family}
use Rattle.vx_rows.specs.declared.family.Operand.{Operand}
use Rattle.vx_operands.specs.Forms.{reading}
use Rattle.vx_operands.proofs.Even.{vs1_is}
use Rattle.vx_operands.proofs.Merging.{truth_one}
use Rattle.vx_operands.proofs.Counts.{count_alike}
use Rattle.vx_vector.specs.Laws.{IsPlaced}
use Rattle.vx_perm.specs.Kinds.{chooses}
use Rattle.vx_perm.proofs.Facts.{mask_word_place, le_zero}
use Rattle.vx_perm.proofs.packs.chosen_in_word.Goals as goal

pub group_word-mask-requires-clause-within : goal.group_word-mask-requires-clause-within
group_word-mask-requires-clause-within g c =
    let r = reading c.args.form (view_of c.args.at.now) c.args.regs.now (g.S.WordFile.words c.args.file.now) in
    let placed = subst (λ (o : Operand). IsPlaced r o c.args.regs.now.vs1) (vs1_is r c.requires.register) c.requires.sound.vs1 in
    mask_word_place r c.args.v c.requires.sound.setting (ap (λ (f : Family). (operands_of f).vs1) c.requires.family) placed c.requires.begins

pub returns-clause-value : goal.returns-clause-value
returns-clause-value g c =
    let r = reading c.args.form (view_of c.args.at.now) c.args.regs.now (g.S.WordFile.words c.args.file.now) in
    c.ones.ensures.value
    ∙ count_alike (λ k. nat_eq (lane 1 c.active_lanes.result k) 1) (λ k. ltb (c.args.v * 64 + k) c.args.at.now.vl && chooses r (c.args.v * 64 + k)) 64
    (λ k l.
    ap (λ x. nat_eq x 1) (c.active_lanes.ensures k l)
    ∙ truth_one ((leb 0 (c.args.v * 64 + k) && ltb (c.args.v * 64 + k) c.args.at.now.vl) && nat_eq (lane 1 c.group_word-mask.result k) 1)
    ∙ (λ i. (le_zero (c.args.v * 64 + k) i && ltb (c.args.v * 64 + k) c.args.at.now.vl) && nat_eq ((ap (λ x. lane 1 x k) c.group_word-mask.ensures ∙ sym (c.elements_are_lanes.ensures.lane c.args.at.now.vlen (g.S.WordFile.words c.args.file.now) c.args.regs.now.vs1 1 c.args.v k refl l)) i) 1))
