-- The element whose index is taken.
use Rattle.vx_vstate.specs.Views.{view_of}
use Rattle.std.proofs.Common.{◌≡◌, Some, sym, ap, ◌∙◌, rules}
use Rattle.std.proofs.iter.Serving.{serving}
use Rattle.vx_decode.specs.Groups.{width_of}
use Rattle.vx_rows.specs.Families.{operands_of}
use Rattle.vx_operands.specs.Forms.{reading}
use Rattle.vx_vector.specs.Lists.{element_or_zero, gather_index}
use Rattle.vx_vector.specs.Reading.{lists_of, vs1_width}
use Rattle.vx_perm.proofs.Facts.{gather_moves, gather_takes}
use Rattle.vx_perm.proofs.moves.gathered_by_index.Goals as goal

pub by_index-requires-clause-kind : goal.by_index-requires-clause-kind
by_index-requires-clause-kind g c = gather_moves c.args.form.family c.requires.kind

pub by_index-requires-clause-callable : goal.by_index-requires-clause-callable
by_index-requires-clause-callable g c i l =
    let r = reading c.args.form (view_of c.args.at.now) c.args.regs.now (g.S.WordFile.words c.args.file.now) in
    let index : c.index_width-width.result ≡ vs1_width r = c.index_width-width.ensures.is ∙ ap (λ s. width_of (operands_of c.args.form.family).vs1 s) c.requires.sew in
    grind (serving, index, l)

pub by_index-requires-clause-moves : goal.by_index-requires-clause-moves
by_index-requires-clause-moves g c i l o p =
    let r = reading c.args.form (view_of c.args.at.now) c.args.regs.now (g.S.WordFile.words c.args.file.now) in
    let is : o ≡ Some (element_or_zero (lists_of r) (gather_index (lists_of r) i)) = search rules in
    is ∙ sym (gather_takes c.args.form.family (lists_of r) i c.requires.kind)
