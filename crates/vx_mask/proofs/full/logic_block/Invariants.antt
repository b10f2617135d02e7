-- The words of the block so far are those after the instruction.
use Rattle.std.proofs.Common.{◌+◌}
use Rattle.vx_operands.specs.Forms.{reading}
use Rattle.vx_operands.proofs.Filled.{IsFilledBelow}
use Rattle.vx_vector.specs.Arithmetic.{words_after}
use Rattle.vx_vstate.specs.Registers.{word_at}
use Rattle.vx_vstate.specs.Views.{view_of}
use Rattle.vx_mask.proofs.full.logic_block.Given as goal

abbrev pub invariant-loop-k : goal.invariant-loop-k
invariant-loop-k g l = IsFilledBelow (λ k. word_at l.at.vlen (words_after (reading l.fn.form (view_of l.at) l.regs l.words)) l.regs.vd (l.first + k)) g.row.N l.k l.new
