use Rattle.vx_vstate.specs.Views.{view_of}
use Rattle.vx_operands.specs.Forms.{reading}
use Rattle.vx_perm.proofs.Facts.{ArePacked}
use Rattle.vx_perm.proofs.packs.packed_lanes.Given as goal

abbrev pub invariant-loop-k : goal.invariant-loop-k
invariant-loop-k g l = ArePacked (reading l.form (view_of l.at) l.regs (g.S.WordFile.words l.file)) l.sew l.first l.old l.k l.passed l.value
