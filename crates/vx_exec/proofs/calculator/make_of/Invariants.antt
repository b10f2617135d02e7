-- The words so far are made, and whether one of them saturated is known.
use Rattle.std.proofs.Common.{◌+◌, length}
use Rattle.vx_exec.specs.Executed.{reads}
use Rattle.vx_vector.specs.Arithmetic.{words_after}
use Rattle.vx_vector.specs.Laws.{word_saturates}
use Rattle.vx_vstate.specs.Registers.{word_at}
use Rattle.vx_vstate.specs.Views.{view_of}
use Rattle.vx_exec.proofs.Puts.{IsMadeBelow}
use Rattle.vx_exec.proofs.calculator.make_of.Given as goal

abbrev pub invariant-loop-k : goal.invariant-loop-k
invariant-loop-k l = IsMadeBelow (λ k. word_at l.at.vlen (words_after (reads l.i (view_of l.at) l.v.words)) l.i.rd (l.run.first + k)) (λ k. word_saturates (reads l.i (view_of l.at) l.v.words) (l.run.first + k)) (length l.initial.made) l.k l.made l.sat
