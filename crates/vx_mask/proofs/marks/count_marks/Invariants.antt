use Rattle.std.proofs.Common.{◌≡◌, ◌*◌, ◌&&◌, ltb}
use Rattle.vx_vstate.specs.Views.{view_of}
use Rattle.vx_operands.specs.Forms.{reading}
use Rattle.vx_operands.specs.Rising.{count_below, mark}
use Rattle.vx_mask.proofs.marks.count_marks.Given as goal

abbrev pub invariant-loop-v : goal.invariant-loop-v
invariant-loop-v g l = l.total ≡ count_below (λ i. ltb i l.n && mark (reading l.form (view_of l.at) l.regs (g.S.WordFile.words l.file)) i) (l.v * 64)
