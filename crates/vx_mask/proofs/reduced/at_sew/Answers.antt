-- A reduction at SEW.
use Rattle.vx_vstate.specs.Views.{view_of}
use Rattle.std.proofs.Common.{◌∙◌, sym, ap}
use Rattle.vx_decode.specs.Groups.{width_of}
use Rattle.vx_rows.specs.declared.family.Operands.{Operands}
use Rattle.vx_rows.specs.Families.{operands_of}
use Rattle.vx_operands.specs.Forms.{reading}
use Rattle.vx_vector.specs.Reading.{sew_of}
use Rattle.vx_mask.proofs.Families.{even_operands, even_reduced, even_reduces}
use Rattle.vx_mask.proofs.reduced.at_sew.Goals as goal

pub reduced_word-requires-clause-reduces : goal.reduced_word-requires-clause-reduces
reduced_word-requires-clause-reduces g c = even_reduces c.args.form.family c.requires.kind

pub reduced_word-requires-clause-elements : goal.reduced_word-requires-clause-elements
reduced_word-requires-clause-elements g c = even_reduced (operands_of c.args.form.family) (even_operands c.args.form.family c.requires.kind)

pub reduced_word-requires-clause-width : goal.reduced_word-requires-clause-width
reduced_word-requires-clause-width g c =
    let r = reading c.args.form (view_of c.args.at.now) c.args.regs.now (g.S.WordFile.words c.args.file.now) in
    c.requires.sew ∙ sym (ap (λ (o : Operands). width_of o.destination (sew_of r)) (even_operands c.args.form.family c.requires.kind))
