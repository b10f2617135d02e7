-- Nothing that is moved saturates.
use Rattle.std.proofs.Common.{IsTrue, rules}
use Rattle.vx_operands.specs.Forms.{reading}
use Rattle.vx_operands.proofs.ByIndex.{moved_sat}
use Rattle.vx_vstate.specs.Views.{view_of}
use Rattle.vx_perm.specs.Kinds.{is_gather, is_slide}
use Rattle.vx_perm.proofs.Facts.{gather_moves, moves_by_index, slide_moves}
use Rattle.vx_perm.proofs.full.words_of_form.Goals as goal

pub returns-then-is_slide-clause-sat : goal.returns-then-is_slide-clause-sat
returns-then-is_slide-clause-sat g c w l =
    let kind : IsTrue (is_slide c.args.form.family) = search rules in
    moved_sat (reading c.args.form (view_of c.args.at.now) c.args.regs.now (g.S.WordFile.words c.args.file.now)) w (moves_by_index c.args.form.family (slide_moves c.args.form.family kind))

pub returns-then-is_gather-clause-sat : goal.returns-then-is_gather-clause-sat
returns-then-is_gather-clause-sat g c w l =
    let kind : IsTrue (is_gather c.args.form.family) = search rules in
    moved_sat (reading c.args.form (view_of c.args.at.now) c.args.regs.now (g.S.WordFile.words c.args.file.now)) w (moves_by_index c.args.form.family (gather_moves c.args.form.family kind))
