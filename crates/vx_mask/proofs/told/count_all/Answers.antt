-- All marks.
use Rattle.vx_vstate.specs.Views.{view_of}
use Rattle.std.proofs.Common.{◌≡◌, ◌∙◌, Some, sym, ap, rules}
use Rattle.vx_rows.specs.Families.{operands_of}
use Rattle.vx_rows.specs.declared.family.Family.{Family}
use Rattle.vx_operands.specs.Forms.{reading}
use Rattle.vx_vector.specs.Arithmetic.{told_by}
use Rattle.vx_vector.specs.Reading.{whole_registers}
use Rattle.vx_vector.specs.Rules.{rule_of}
use Rattle.vx_mask.proofs.Marked.{counted}
use Rattle.vx_mask.proofs.told.count_all.Goals as goal

pub count_marks-requires-clause-elements : goal.count_marks-requires-clause-elements
count_marks-requires-clause-elements g c = ap (λ (f : Family). whole_registers (operands_of f).destination) c.requires.family

pub count_marks-requires-clause-mask : goal.count_marks-requires-clause-mask
count_marks-requires-clause-mask g c = ap (λ (f : Family). (operands_of f).vs2) c.requires.family

pub returns : goal.returns
returns g c =
    let r = reading c.args.form (view_of c.args.at.now) c.args.regs.now (g.S.WordFile.words c.args.file.now) in
    let same : c.count_marks.result ≡ c.from.result = search rules in
    ap (λ (f : Family). told_by (rule_of f) r) c.requires.family
    ∙ ap Some (counted r c.requires.sound.setting (ap (λ (f : Family). (operands_of f).vs2) c.requires.family) ∙ sym c.count_marks.ensures.value ∙ same)
