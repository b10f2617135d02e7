-- Where all words are full, none saturates.
use Rattle.std.proofs.Common.{◌+◌, sym, arith}
use Rattle.vx_operands.proofs.Merging.{none_below}
use Rattle.vx_vector.specs.Laws.{word_saturates}
use Rattle.vx_vstate.specs.Views.{view_of}
use Rattle.vx_exec.specs.Executed.{reads}
use Rattle.vx_exec.proofs.calculator.make.Goals as goal

pub returns-then-done-run-clause-sat : goal.returns-then-done-run-clause-sat
returns-then-done-run-clause-sat c =
    let r = reads c.args.i.now (view_of c.args.at.now) c.args.v.now.words in
    sym (none_below c.args.run.count (λ k. word_saturates r (c.args.run.first + k)) (λ k l. c.make_full-done.ensures.unsaturated k (omega (arith, l, c.if-done-run.true))))
