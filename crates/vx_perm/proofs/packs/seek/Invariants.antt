use Rattle.vx_vstate.specs.Views.{view_of}
use Rattle.vx_operands.specs.Forms.{reading}
use Rattle.vx_perm.specs.Kinds.{IsPassed}
use Rattle.vx_perm.proofs.packs.seek.Given as goal

abbrev pub invariant-loop-i : goal.invariant-loop-i
invariant-loop-i g l = IsPassed (reading l.form (view_of l.at) l.regs (g.S.WordFile.words l.file)) l.target (record { elements = l.i; chosen = l.chosen })
