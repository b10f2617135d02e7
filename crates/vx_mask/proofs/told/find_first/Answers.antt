-- The first mark.
use Rattle.vx_vstate.specs.Views.{view_of}
use Rattle.std.proofs.Common.{◌≡◌, ◌∙◌, ◌-◌, ◌^◌, Some, unwrap_or, sym, ap}
use Rattle.vx_rows.specs.Families.{operands_of}
use Rattle.vx_rows.specs.declared.family.Family.{Family}
use Rattle.vx_operands.specs.Forms.{reading}
use Rattle.vx_operands.specs.Rising.{mark}
use Rattle.vx_vector.specs.Arithmetic.{told_by}
use Rattle.vx_vector.specs.Lists.{first_true}
use Rattle.vx_vector.specs.Reading.{whole_registers}
use Rattle.vx_vector.specs.Rules.{rule_of}
use Rattle.vx_mask.proofs.Marked.{marks_are, told_first}
use Rattle.vx_mask.proofs.told.find_first.Goals as goal

pub first_mark-first-requires-clause-elements : goal.first_mark-first-requires-clause-elements
first_mark-first-requires-clause-elements g c = ap (λ (f : Family). whole_registers (operands_of f).destination) c.requires.family

pub first_mark-first-requires-clause-mask : goal.first_mark-first-requires-clause-mask
first_mark-first-requires-clause-mask g c = ap (λ (f : Family). (operands_of f).vs2) c.requires.family

pub returns : goal.returns
returns g c =
    let r = reading c.args.form (view_of c.args.at.now) c.args.regs.now (g.S.WordFile.words c.args.file.now) in
    ap (λ (f : Family). told_by (rule_of f) r) c.requires.family
    ∙ ap Some (
    ap (λ flags. unwrap_or (first_true flags) (2 ^ 64 - 1)) (marks_are r c.requires.sound.setting (ap (λ (f : Family). (operands_of f).vs2) c.requires.family))
    ∙ told_first (mark r) c.args.at.now.vl c.first_mark-first.result (2 ^ 64 - 1) c.first_mark-first.ensures
    ∙ sym c.index_or_past.ensures)
