-- Each family on its own.
use Rattle.vx_vstate.specs.Views.{view_of}
use Rattle.std.proofs.Common.{◌/◌, sym, ap, ◌∙◌}
use Rattle.vx_decode.specs.Groups.{width_of}
use Rattle.vx_rows.specs.Families.{operands_of}
use Rattle.vx_rows.specs.declared.family.Family.{Family}
use Rattle.vx_operands.specs.Forms.{reading}
use Rattle.vx_operands.specs.Lanes.{answer, is_each, numbers_of}
use Rattle.vx_vector.specs.Reading.{sew_of, whole_registers}
use Rattle.vx_vector.specs.Rules.{rule_of}
use Rattle.vx_elem.specs.Kinds.{is_copy, is_extension}
use Rattle.vx_elem.proofs.Facts.{copy_whole, extension_groups}
use Rattle.vx_elem.proofs.words.other_word.Goals as goal

pub whole_word-requires-clause-each : goal.whole_word-requires-clause-each
whole_word-requires-clause-each g c = ap (λ (f : Family). is_each (rule_of f)) c.in-Vmv1r.is

pub whole_word-requires-clause-whole : goal.whole_word-requires-clause-whole
whole_word-requires-clause-whole g c = copy_whole c.args.form.family c.args.form.first c.args.form.vm c.requires.kind (ap is_copy c.in-Vmv1r.is)

pub whole_word-requires-clause-copies : goal.whole_word-requires-clause-copies
whole_word-requires-clause-copies g c n = ap (λ (f : Family). answer f n) c.in-Vmv1r.is

pub whole_word-requires-clause-registers : goal.whole_word-requires-clause-registers
whole_word-requires-clause-registers g c = sym (ap (λ (f : Family). whole_registers (operands_of f).destination) c.in-Vmv1r.is)

pub whole_word-requires-in-Vmv2r-clause-each : goal.whole_word-requires-in-Vmv2r-clause-each
whole_word-requires-in-Vmv2r-clause-each g c = ap (λ (f : Family). is_each (rule_of f)) c.in-Vmv2r.is

pub whole_word-requires-in-Vmv2r-clause-whole : goal.whole_word-requires-in-Vmv2r-clause-whole
whole_word-requires-in-Vmv2r-clause-whole g c = copy_whole c.args.form.family c.args.form.first c.args.form.vm c.requires.kind (ap is_copy c.in-Vmv2r.is)

pub whole_word-requires-in-Vmv2r-clause-copies : goal.whole_word-requires-in-Vmv2r-clause-copies
whole_word-requires-in-Vmv2r-clause-copies g c n = ap (λ (f : Family). answer f n) c.in-Vmv2r.is

pub whole_word-requires-in-Vmv2r-clause-registers : goal.whole_word-requires-in-Vmv2r-clause-registers
whole_word-requires-in-Vmv2r-clause-registers g c = sym (ap (λ (f : Family). whole_registers (operands_of f).destination) c.in-Vmv2r.is)

pub whole_word-requires-in-Vmv4r-clause-each : goal.whole_word-requires-in-Vmv4r-clause-each
whole_word-requires-in-Vmv4r-clause-each g c = ap (λ (f : Family). is_each (rule_of f)) c.in-Vmv4r.is

pub whole_word-requires-in-Vmv4r-clause-whole : goal.whole_word-requires-in-Vmv4r-clause-whole
whole_word-requires-in-Vmv4r-clause-whole g c = copy_whole c.args.form.family c.args.form.first c.args.form.vm c.requires.kind (ap is_copy c.in-Vmv4r.is)

pub whole_word-requires-in-Vmv4r-clause-copies : goal.whole_word-requires-in-Vmv4r-clause-copies
whole_word-requires-in-Vmv4r-clause-copies g c n = ap (λ (f : Family). answer f n) c.in-Vmv4r.is

pub whole_word-requires-in-Vmv4r-clause-registers : goal.whole_word-requires-in-Vmv4r-clause-registers
whole_word-requires-in-Vmv4r-clause-registers g c = sym (ap (λ (f : Family). whole_registers (operands_of f).destination) c.in-Vmv4r.is)

pub whole_word-requires-in-Vmv8r-clause-each : goal.whole_word-requires-in-Vmv8r-clause-each
whole_word-requires-in-Vmv8r-clause-each g c = ap (λ (f : Family). is_each (rule_of f)) c.in-Vmv8r.is

pub whole_word-requires-in-Vmv8r-clause-whole : goal.whole_word-requires-in-Vmv8r-clause-whole
whole_word-requires-in-Vmv8r-clause-whole g c = copy_whole c.args.form.family c.args.form.first c.args.form.vm c.requires.kind (ap is_copy c.in-Vmv8r.is)

pub whole_word-requires-in-Vmv8r-clause-copies : goal.whole_word-requires-in-Vmv8r-clause-copies
whole_word-requires-in-Vmv8r-clause-copies g c n = ap (λ (f : Family). answer f n) c.in-Vmv8r.is

pub whole_word-requires-in-Vmv8r-clause-registers : goal.whole_word-requires-in-Vmv8r-clause-registers
whole_word-requires-in-Vmv8r-clause-registers g c = sym (ap (λ (f : Family). whole_registers (operands_of f).destination) c.in-Vmv8r.is)

pub extended_word-requires-clause-each : goal.extended_word-requires-clause-each
extended_word-requires-clause-each g c = ap (λ (f : Family). is_each (rule_of f)) c.in-VzextVf8.is

pub extended_word-requires-clause-groups : goal.extended_word-requires-clause-groups
extended_word-requires-clause-groups g c = extension_groups c.args.form.family c.args.form.first c.args.form.vm c.requires.kind (ap is_extension c.in-VzextVf8.is)

pub extended_word-requires-clause-width : goal.extended_word-requires-clause-width
extended_word-requires-clause-width g c = c.requires.sew ∙ sym (ap (λ (f : Family). width_of (operands_of f).destination (sew_of (reading c.args.form (view_of c.args.at.now) c.args.regs.now (g.S.WordFile.words c.args.file.now)))) c.in-VzextVf8.is)

pub extended_word-requires-clause-narrow : goal.extended_word-requires-clause-narrow
extended_word-requires-clause-narrow g c = ap (λ s. s / 8) c.requires.sew ∙ sym (ap (λ (f : Family). width_of (operands_of f).vs2 (sew_of (reading c.args.form (view_of c.args.at.now) c.args.regs.now (g.S.WordFile.words c.args.file.now)))) c.in-VzextVf8.is)

pub extended_word-requires-clause-extends : goal.extended_word-requires-clause-extends
extended_word-requires-clause-extends g c mode l = ap (λ (f : Family). answer f (numbers_of c.args.sew mode l)) c.in-VzextVf8.is

pub extended_word-requires-in-VsextVf8-clause-each : goal.extended_word-requires-in-VsextVf8-clause-each
extended_word-requires-in-VsextVf8-clause-each g c = ap (λ (f : Family). is_each (rule_of f)) c.in-VsextVf8.is

pub extended_word-requires-in-VsextVf8-clause-groups : goal.extended_word-requires-in-VsextVf8-clause-groups
extended_word-requires-in-VsextVf8-clause-groups g c = extension_groups c.args.form.family c.args.form.first c.args.form.vm c.requires.kind (ap is_extension c.in-VsextVf8.is)

pub extended_word-requires-in-VsextVf8-clause-width : goal.extended_word-requires-in-VsextVf8-clause-width
extended_word-requires-in-VsextVf8-clause-width g c = c.requires.sew ∙ sym (ap (λ (f : Family). width_of (operands_of f).destination (sew_of (reading c.args.form (view_of c.args.at.now) c.args.regs.now (g.S.WordFile.words c.args.file.now)))) c.in-VsextVf8.is)

pub extended_word-requires-in-VsextVf8-clause-narrow : goal.extended_word-requires-in-VsextVf8-clause-narrow
extended_word-requires-in-VsextVf8-clause-narrow g c = ap (λ s. s / 8) c.requires.sew ∙ sym (ap (λ (f : Family). width_of (operands_of f).vs2 (sew_of (reading c.args.form (view_of c.args.at.now) c.args.regs.now (g.S.WordFile.words c.args.file.now)))) c.in-VsextVf8.is)

pub extended_word-requires-in-VsextVf8-clause-extends : goal.extended_word-requires-in-VsextVf8-clause-extends
extended_word-requires-in-VsextVf8-clause-extends g c mode l = ap (λ (f : Family). answer f (numbers_of c.args.sew mode l)) c.in-VsextVf8.is

pub extended_word-requires-in-VzextVf4-clause-each : goal.extended_word-requires-in-VzextVf4-clause-each
extended_word-requires-in-VzextVf4-clause-each g c = ap (λ (f : Family). is_each (rule_of f)) c.in-VzextVf4.is

pub extended_word-requires-in-VzextVf4-clause-groups : goal.extended_word-requires-in-VzextVf4-clause-groups
extended_word-requires-in-VzextVf4-clause-groups g c = extension_groups c.args.form.family c.args.form.first c.args.form.vm c.requires.kind (ap is_extension c.in-VzextVf4.is)

pub extended_word-requires-in-VzextVf4-clause-width : goal.extended_word-requires-in-VzextVf4-clause-width
extended_word-requires-in-VzextVf4-clause-width g c = c.requires.sew ∙ sym (ap (λ (f : Family). width_of (operands_of f).destination (sew_of (reading c.args.form (view_of c.args.at.now) c.args.regs.now (g.S.WordFile.words c.args.file.now)))) c.in-VzextVf4.is)

pub extended_word-requires-in-VzextVf4-clause-narrow : goal.extended_word-requires-in-VzextVf4-clause-narrow
extended_word-requires-in-VzextVf4-clause-narrow g c = ap (λ s. s / 4) c.requires.sew ∙ sym (ap (λ (f : Family). width_of (operands_of f).vs2 (sew_of (reading c.args.form (view_of c.args.at.now) c.args.regs.now (g.S.WordFile.words c.args.file.now)))) c.in-VzextVf4.is)

pub extended_word-requires-in-VzextVf4-clause-extends : goal.extended_word-requires-in-VzextVf4-clause-extends
extended_word-requires-in-VzextVf4-clause-extends g c mode l = ap (λ (f : Family). answer f (numbers_of c.args.sew mode l)) c.in-VzextVf4.is

pub extended_word-requires-in-VsextVf4-clause-each : goal.extended_word-requires-in-VsextVf4-clause-each
extended_word-requires-in-VsextVf4-clause-each g c = ap (λ (f : Family). is_each (rule_of f)) c.in-VsextVf4.is

pub extended_word-requires-in-VsextVf4-clause-groups : goal.extended_word-requires-in-VsextVf4-clause-groups
extended_word-requires-in-VsextVf4-clause-groups g c = extension_groups c.args.form.family c.args.form.first c.args.form.vm c.requires.kind (ap is_extension c.in-VsextVf4.is)

pub extended_word-requires-in-VsextVf4-clause-width : goal.extended_word-requires-in-VsextVf4-clause-width
extended_word-requires-in-VsextVf4-clause-width g c = c.requires.sew ∙ sym (ap (λ (f : Family). width_of (operands_of f).destination (sew_of (reading c.args.form (view_of c.args.at.now) c.args.regs.now (g.S.WordFile.words c.args.file.now)))) c.in-VsextVf4.is)

pub extended_word-requires-in-VsextVf4-clause-narrow : goal.extended_word-requires-in-VsextVf4-clause-narrow
extended_word-requires-in-VsextVf4-clause-narrow g c = ap (λ s. s / 4) c.requires.sew ∙ sym (ap (λ (f : Family). width_of (operands_of f).vs2 (sew_of (reading c.args.form (view_of c.args.at.now) c.args.regs.now (g.S.WordFile.words c.args.file.now)))) c.in-VsextVf4.is)

pub extended_word-requires-in-VsextVf4-clause-extends : goal.extended_word-requires-in-VsextVf4-clause-extends
extended_word-requires-in-VsextVf4-clause-extends g c mode l = ap (λ (f : Family). answer f (numbers_of c.args.sew mode l)) c.in-VsextVf4.is

pub extended_word-requires-in-VzextVf2-clause-each : goal.extended_word-requires-in-VzextVf2-clause-each
extended_word-requires-in-VzextVf2-clause-each g c = ap (λ (f : Family). is_each (rule_of f)) c.in-VzextVf2.is

pub extended_word-requires-in-VzextVf2-clause-groups : goal.extended_word-requires-in-VzextVf2-clause-groups
extended_word-requires-in-VzextVf2-clause-groups g c = extension_groups c.args.form.family c.args.form.first c.args.form.vm c.requires.kind (ap is_extension c.in-VzextVf2.is)

pub extended_word-requires-in-VzextVf2-clause-width : goal.extended_word-requires-in-VzextVf2-clause-width
extended_word-requires-in-VzextVf2-clause-width g c = c.requires.sew ∙ sym (ap (λ (f : Family). width_of (operands_of f).destination (sew_of (reading c.args.form (view_of c.args.at.now) c.args.regs.now (g.S.WordFile.words c.args.file.now)))) c.in-VzextVf2.is)

pub extended_word-requires-in-VzextVf2-clause-narrow : goal.extended_word-requires-in-VzextVf2-clause-narrow
extended_word-requires-in-VzextVf2-clause-narrow g c = ap (λ s. s / 2) c.requires.sew ∙ sym (ap (λ (f : Family). width_of (operands_of f).vs2 (sew_of (reading c.args.form (view_of c.args.at.now) c.args.regs.now (g.S.WordFile.words c.args.file.now)))) c.in-VzextVf2.is)

pub extended_word-requires-in-VzextVf2-clause-extends : goal.extended_word-requires-in-VzextVf2-clause-extends
extended_word-requires-in-VzextVf2-clause-extends g c mode l = ap (λ (f : Family). answer f (numbers_of c.args.sew mode l)) c.in-VzextVf2.is

pub extended_word-requires-in-VsextVf2-clause-each : goal.extended_word-requires-in-VsextVf2-clause-each
extended_word-requires-in-VsextVf2-clause-each g c = ap (λ (f : Family). is_each (rule_of f)) c.in-VsextVf2.is

pub extended_word-requires-in-VsextVf2-clause-groups : goal.extended_word-requires-in-VsextVf2-clause-groups
extended_word-requires-in-VsextVf2-clause-groups g c = extension_groups c.args.form.family c.args.form.first c.args.form.vm c.requires.kind (ap is_extension c.in-VsextVf2.is)

pub extended_word-requires-in-VsextVf2-clause-width : goal.extended_word-requires-in-VsextVf2-clause-width
extended_word-requires-in-VsextVf2-clause-width g c = c.requires.sew ∙ sym (ap (λ (f : Family). width_of (operands_of f).destination (sew_of (reading c.args.form (view_of c.args.at.now) c.args.regs.now (g.S.WordFile.words c.args.file.now)))) c.in-VsextVf2.is)

pub extended_word-requires-in-VsextVf2-clause-narrow : goal.extended_word-requires-in-VsextVf2-clause-narrow
extended_word-requires-in-VsextVf2-clause-narrow g c = ap (λ s. s / 2) c.requires.sew ∙ sym (ap (λ (f : Family). width_of (operands_of f).vs2 (sew_of (reading c.args.form (view_of c.args.at.now) c.args.regs.now (g.S.WordFile.words c.args.file.now)))) c.in-VsextVf2.is)

pub extended_word-requires-in-VsextVf2-clause-extends : goal.extended_word-requires-in-VsextVf2-clause-extends
extended_word-requires-in-VsextVf2-clause-extends g c mode l = ap (λ (f : Family). answer f (numbers_of c.args.sew mode l)) c.in-VsextVf2.is
