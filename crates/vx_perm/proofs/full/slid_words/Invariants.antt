-- The words so far are those after the instruction.
use Rattle.std.proofs.Common.{length}
use Rattle.vx_operands.specs.Forms.{reading}
use Rattle.vx_operands.proofs.Filled.{IsFilledBelow}
use Rattle.vx_vector.specs.Arithmetic.{words_after}
use Rattle.vx_vstate.specs.Registers.{word_at}
use Rattle.vx_vstate.specs.Views.{view_of}
use Rattle.vx_perm.proofs.full.slid_words.Given as goal

abbrev pub invariant-loop-w : goal.invariant-loop-w
invariant-loop-w g l = IsFilledBelow (λ k. word_at l.at.vlen (words_after (reading l.form (view_of l.at) l.regs (g.S.WordFile.words l.file))) l.regs.vd k) (length l.initial.made) l.w l.made
