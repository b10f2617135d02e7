use Rattle.std.proofs.Common.{◌*◌}
use Rattle.vx_vstate.specs.Views.{view_of}
use Rattle.vx_operands.specs.Forms.{reading}
use Rattle.vx_perm.proofs.Facts.{IsPassing}
use Rattle.vx_perm.proofs.packs.pass_words.Given as goal

abbrev pub invariant-loop-v : goal.invariant-loop-v
invariant-loop-v g l = IsPassing (reading l.form (view_of l.at) l.regs (g.S.WordFile.words l.file)) l.target (l.v * 64) l.chosen
