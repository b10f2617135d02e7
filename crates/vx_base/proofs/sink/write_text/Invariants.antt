use Rattle.std.proofs.Common.{◌≤◌, ◌-◌, length, take}
use Rattle.vx_base.specs.Sink.{IsWritten}
use Rattle.vx_base.proofs.sink.write_text.Given as goal

-- the text's first bytes are written
abbrev pub invariant-loop-done : goal.invariant-loop-done
invariant-loop-done g l = (l.done ≤ length l.text) × IsWritten (g.K.Sink.state l.fn.out) (g.K.Sink.state l.out) (take l.done l.text)

abbrev pub decreases-loop-done : goal.decreases-loop-done
decreases-loop-done g l = length l.text - l.done
