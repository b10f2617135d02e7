-- Bit i of the mask.
use Rattle.vx_vstate.specs.Views.{view_of}
use Rattle.std.proofs.Common.{nat_eq, ap, subst}
use Rattle.vx_rows.specs.Families.{operands_of}
use Rattle.vx_rows.specs.declared.family.Family.{Family}
use Rattle.vx_rows.specs.declared.family.Operand.{Operand}
use Rattle.vx_operands.specs.Forms.{reading}
use Rattle.vx_operands.proofs.Even.{vs1_is}
use Rattle.vx_vector.specs.Laws.{IsPlaced}
use Rattle.vx_perm.proofs.Facts.{mask_bit_place}
use Rattle.vx_perm.proofs.packs.is_chosen.Goals as goal

pub element_at-requires-clause-within : goal.element_at-requires-clause-within
element_at-requires-clause-within g c =
    let r = reading c.args.form (view_of c.args.at.now) c.args.regs.now (g.S.WordFile.words c.args.file.now) in
    let placed = subst (λ (o : Operand). IsPlaced r o c.args.regs.now.vs1) (vs1_is r c.requires.register) c.requires.sound.vs1 in
    mask_bit_place r c.args.i c.requires.sound.setting (ap (λ (f : Family). (operands_of f).vs1) c.requires.family) placed c.requires.below

pub returns : goal.returns
returns g c = ap (λ x. nat_eq x 1) c.element_at.ensures
