use Rattle.std.proofs.Common.{◌≤◌, List, ℕ, length}
use Rattle.std.specs.Prelude.{IfSome}
use Rattle.vx_language.specs.Lines.{lines}
use Rattle.vx_statement.specs.Knowing.{Know}
use Rattle.vx_statement.specs.Labels.{place_of}
use Rattle.vx_asm.specs.Reading.{lines_behind}
use Rattle.vx_asm.proofs.Laying.{RoomAt, Laying}
use Rattle.vx_asm.proofs.Passing.{left_of}
use Rattle.vx_asm.proofs.placing.place_lines.Given as goal

abbrev pub invariant-loop-next : goal.invariant-loop-next
invariant-loop-next l = record {
  within : IfSome l.next (λ next. next ≤ length l.source);
  room : RoomAt l.next (place_of l.place);
  laying : (names : List (List ℕ)) → Know l.known names → Laying names (lines l.source) (lines_behind l.source l.next) (place_of l.place) l.labels l.found;
}

abbrev pub decreases-loop-next : goal.decreases-loop-next
decreases-loop-next l = left_of (length l.source) l.next
