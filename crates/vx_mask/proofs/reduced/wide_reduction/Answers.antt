-- What each joins, at twice SEW.
use Rattle.vx_vstate.specs.Views.{view_of}
use Rattle.std.proofs.Common.{◌≡◌, ◌+◌, ◌*◌, pos, ◌+ℤ◌, sym, ap, ◌∙◌, rules}
use Rattle.vx_base.specs.Numbers.{reduced}
use Rattle.vx_bits.specs.Width.{signed_at}
use Rattle.vx_decode.specs.Groups.{width_of}
use Rattle.vx_rows.specs.Families.{operands_of}
use Rattle.vx_rows.specs.declared.family.Family.{Family}
use Rattle.vx_rows.specs.declared.family.Operands.{Operands}
use Rattle.vx_operands.specs.Forms.{reading}
use Rattle.vx_vector.specs.Reading.{sew_of}
use Rattle.vx_vector.specs.Rules.{rule_of}
use Rattle.vx_operands.specs.Rising.{reduced_by}
use Rattle.vx_mask.proofs.Families.{wide_operands, wide_reduced, wide_reduces}
use Rattle.vx_mask.proofs.reduced.wide_reduction.Goals as goal

pub reduced_word-requires-clause-reduces : goal.reduced_word-requires-clause-reduces
reduced_word-requires-clause-reduces g c = wide_reduces c.args.form.family c.requires.kind

pub reduced_word-requires-clause-elements : goal.reduced_word-requires-clause-elements
reduced_word-requires-clause-elements g c = wide_reduced (operands_of c.args.form.family) (wide_operands c.args.form.family c.requires.kind)

pub reduced_word-requires-clause-width : goal.reduced_word-requires-clause-width
reduced_word-requires-clause-width g c =
    let r = reading c.args.form (view_of c.args.at.now) c.args.regs.now (g.S.WordFile.words c.args.file.now) in
    ap (λ s. 2 * s) c.requires.sew ∙ sym (ap (λ (o : Operands). width_of o.destination (sew_of r)) (wide_operands c.args.form.family c.requires.kind))

pub reduced_word-requires-clause-makes : goal.reduced_word-requires-clause-makes
reduced_word-requires-clause-makes g c t v p =
    let is : v ≡ reduced (2 * c.args.sew) (pos (t.sum + t.x)) = search rules in
    is ∙ sym (ap (λ (f : Family). reduced_by (rule_of f) c.args.sew t.sum t.x) c.in-Vwredsumu.is)

pub reduced_word-requires-in-Vwredsum-clause-reduces : goal.reduced_word-requires-in-Vwredsum-clause-reduces
reduced_word-requires-in-Vwredsum-clause-reduces g c = wide_reduces c.args.form.family c.requires.kind

pub reduced_word-requires-in-Vwredsum-clause-elements : goal.reduced_word-requires-in-Vwredsum-clause-elements
reduced_word-requires-in-Vwredsum-clause-elements g c = wide_reduced (operands_of c.args.form.family) (wide_operands c.args.form.family c.requires.kind)

pub reduced_word-requires-in-Vwredsum-clause-width : goal.reduced_word-requires-in-Vwredsum-clause-width
reduced_word-requires-in-Vwredsum-clause-width g c =
    let r = reading c.args.form (view_of c.args.at.now) c.args.regs.now (g.S.WordFile.words c.args.file.now) in
    ap (λ s. 2 * s) c.requires.sew ∙ sym (ap (λ (o : Operands). width_of o.destination (sew_of r)) (wide_operands c.args.form.family c.requires.kind))

pub reduced_word-requires-in-Vwredsum-clause-makes : goal.reduced_word-requires-in-Vwredsum-clause-makes
reduced_word-requires-in-Vwredsum-clause-makes g c t v p =
    let is : v ≡ reduced (2 * c.args.sew) (pos t.sum +ℤ signed_at c.args.sew t.x) = search rules in
    is ∙ sym (ap (λ (f : Family). reduced_by (rule_of f) c.args.sew t.sum t.x) c.in-Vwredsum.is)
