use Rattle.std.proofs.Common.{arith, length-drop}
use Rattle.std.proofs.lemmas.List.{take_rest}
use Rattle.vx_base.proofs.Written.{IsWritten-step}
use Rattle.vx_base.proofs.sink.write_text.Goals as goal

pub loop-done-preserved : goal.loop-done-preserved
loop-done-preserved g c =
    let took = simp take_rest at c.in-Took.ensures in (
      omega (arith, took.within, c.loop-done.invariant.0, length-drop c.loop-done.done c.args.text.now),
      IsWritten-step _ _ _ c.args.text.now c.loop-done.done c.in-Took.count c.loop-done.invariant.1 took,
    )
