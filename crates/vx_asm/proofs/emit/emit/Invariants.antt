use Rattle.std.proofs.Common.{◌≤◌, length}
use Rattle.std.specs.Prelude.{IfSome}
use Rattle.vx_statement.specs.Labels.{place_of}
use Rattle.vx_asm.specs.Emitting.{AreSized}
use Rattle.vx_asm.specs.Reading.{lines_behind}
use Rattle.vx_asm.proofs.Emission.{Emission}
use Rattle.vx_asm.proofs.Passing.{left_of}
use Rattle.vx_asm.proofs.emit.emit.Given as goal

abbrev pub invariant-loop-next : goal.invariant-loop-next
invariant-loop-next l = record {
  within : IfSome l.next (λ next. next ≤ length l.source);
  sized : AreSized (place_of l.place) l.parts;
  emission : Emission l.source (lines_behind l.source l.next) (place_of l.place) l.found l.parts;
}

abbrev pub decreases-loop-next : goal.decreases-loop-next
decreases-loop-next l = left_of (length l.source) l.next
