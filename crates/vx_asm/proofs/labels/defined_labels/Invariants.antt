use Rattle.std.proofs.Common.{◌≤◌, [], length}
use Rattle.std.specs.Prelude.{IfSome}
use Rattle.vx_language.specs.Lines.{lines, labels_in}
use Rattle.vx_asm.specs.Reading.{lines_behind}
use Rattle.vx_asm.proofs.Naming.{Amid}
use Rattle.vx_asm.proofs.Passing.{left_of}
use Rattle.vx_asm.proofs.labels.defined_labels.Given as goal

abbrev pub invariant-loop-next : goal.invariant-loop-next
invariant-loop-next l = record {
  within : IfSome l.next (λ next. next ≤ length l.source);
  amid : Amid (labels_in (lines l.source)) (labels_in (lines_behind l.source l.next)) [] l.labels l.found;
}

abbrev pub decreases-loop-next : goal.decreases-loop-next
decreases-loop-next l = left_of (length l.source) l.next
