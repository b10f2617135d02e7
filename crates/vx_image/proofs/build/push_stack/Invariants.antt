-- So many entries of the stack stand behind those that there were.
use Rattle.std.proofs.Common.{◌≡◌, ◌++◌}
use Rattle.vx_image.specs.Building.{stack_entries}
use Rattle.vx_image.proofs.build.push_stack.Given as goal

abbrev pub invariant-loop-i : goal.invariant-loop-i
invariant-loop-i l = l.entries.items ≡ l.initial.entries.items ++ stack_entries l.i
