-- Both masks' bits of an element.
use Rattle.vx_vstate.specs.Views.{view_of}
use Rattle.std.proofs.Common.{◌≡◌, ◌+◌, ◌*◌, ◌/◌, ◌<◌, ◌≤◌, ◌∙◌, ◌&&◌, nat_eq, bit_and, sym, ap, subst, arith}
use Rattle.vx_rows.specs.Families.{operands_of}
use Rattle.vx_vstate.specs.Registers.{element_word}
use Rattle.vx_operands.specs.Forms.{reading}
use Rattle.vx_operands.proofs.Even.{vl-le}
use Rattle.vx_mask.proofs.Families.{mask_place}
use Rattle.vx_mask.proofs.Bitwise.{set, and_lane, set_of}
use Rattle.vx_mask.proofs.marks.marks_word.Goals as goal

pub part-requires-clause-divides : goal.part-requires-clause-divides
part-requires-clause-divides g c =
    let e : 1 * c.args.count ≡ c.args.count = omega arith in
    subst (λ n. 64 / n * n ≡ 64) (sym e) c.requires.divides

pub part-requires-clause-within : goal.part-requires-clause-within
part-requires-clause-within g c =
    let r = reading c.args.form (view_of c.args.at.now) c.args.regs.now (g.S.WordFile.words c.args.file.now) in
    let most = vl-le (view_of c.args.at.now) c.requires.sound.setting in
    mask_place r (operands_of c.args.form.family).vs2 c.args.regs.now.vs2 (element_word 1 (c.args.w * c.args.count)) c.requires.mask c.requires.sound.vs2
    (c.elements_lie_in_their_group.ensures.mask c.args.at.now.vlen c.args.at.now.vtype (c.args.w * c.args.count) c.args.at.now.vlen_in_range (omega (arith, most, c.requires.begins)))

pub returns : goal.returns
returns g c k l =
    set_of (bit_and c.part.result c.active_word-active.result) k (set c.part.result k && set c.active_word-active.result k) (and_lane c.part.result c.active_word-active.result k)
    ∙ (λ i. nat_eq (c.part.ensures k l i) 1 && c.active_word-active.ensures k l i)
