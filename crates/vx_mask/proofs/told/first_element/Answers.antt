-- Element 0.
use Rattle.vx_vstate.specs.Views.{view_of}
use Rattle.std.proofs.Common.{◌≡◌, ℕ, ◌+◌, ◌*◌, ◌/◌, ◌<◌, ◌∙◌, Some, get_or, sym, ap, rules}
use Rattle.vx_base.specs.Numbers.{reduced}
use Rattle.vx_bits.specs.Width.{signed_at}
use Rattle.vx_decode.specs.Groups.{width_of}
use Rattle.vx_packed.specs.Joined.{lane}
use Rattle.vx_rows.specs.Families.{operands_of}
use Rattle.vx_rows.specs.declared.family.Family.{Family}
use Rattle.vx_operands.specs.Forms.{reading}
use Rattle.vx_operands.proofs.Groups.{count_some}
use Rattle.vx_operands.proofs.ByIndex.{element_width}
use Rattle.vx_vector.specs.Arithmetic.{told_by}
use Rattle.vx_vector.specs.Numbers.{extended_at}
use Rattle.vx_vector.specs.Reading.{element_of, lists_of, sew_of}
use Rattle.vx_vector.specs.Rules.{rule_of}
use Rattle.vx_mask.specs.Kinds.{is_element}
use Rattle.vx_mask.proofs.Folds.{first_lane, first_of, first_place}
use Rattle.vx_mask.proofs.told.first_element.Goals as goal

pub group_word-requires-clause-within : goal.group_word-requires-clause-within
group_word-requires-clause-within g c =
    let r = reading c.args.form (view_of c.args.at.now) c.args.regs.now (g.S.WordFile.words c.args.file.now) in
    first_place r (operands_of c.args.form.family).vs2 c.args.regs.now.vs2 (ap (λ (f : Family). is_element (operands_of f).vs2) c.requires.family) c.requires.sound.vs2

pub returns : goal.returns
returns g c =
    let r = reading c.args.form (view_of c.args.at.now) c.args.regs.now (g.S.WordFile.words c.args.file.now) in
    let element : c.lane_at-element.result ≡ element_of r c.args.regs.now.vs2 c.args.sew 0 =
    c.lane_at-element.ensures
    ∙ ap (λ x. lane c.args.sew x 0) c.group_word.ensures
    ∙ sym (first_lane c.elements_are_lanes.ensures.lane r c.args.regs.now.vs2 c.args.sew (element_width c.args.sew c.requires.width) (count_some c.args.sew c.requires.width)) in
    let is : c.cast_unsigned.result ≡ extended_at c.args.sew 64 c.lane_at-element.result = search rules in
    let zero_is : get_or (lists_of r).vs2 0 0 ≡ c.lane_at-element.result =
    first_of r (operands_of c.args.form.family).vs2 c.args.regs.now.vs2 (ap (λ (f : Family). is_element (operands_of f).vs2) c.requires.family)
    ∙ ap (λ (f : Family). element_of r c.args.regs.now.vs2 (width_of (operands_of f).vs2 (sew_of r)) 0) c.requires.family
    ∙ ap (λ s. element_of r c.args.regs.now.vs2 s 0) (sym c.requires.sew)
    ∙ sym element in
    ap (λ (f : Family). told_by (rule_of f) r) c.requires.family
    ∙ ap Some ((λ i. extended_at (sym c.requires.sew i) 64 (zero_is i)) ∙ sym is)
