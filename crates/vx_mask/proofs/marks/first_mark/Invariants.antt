use Rattle.std.proofs.Common.{◌≡◌, ℕ, ◌*◌, ◌<◌, false}
use Rattle.vx_vstate.specs.Views.{view_of}
use Rattle.vx_operands.specs.Forms.{reading}
use Rattle.vx_operands.specs.Rising.{mark}
use Rattle.vx_mask.proofs.marks.first_mark.Given as goal

abbrev pub invariant-loop-v : goal.invariant-loop-v
invariant-loop-v g l = (i : ℕ) → i < l.v * 64 → mark (reading l.form (view_of l.at) l.regs (g.S.WordFile.words l.file)) i ≡ false
