-- The pages so far.
use Rattle.std.proofs.Common.{◌≡◌, ◌+◌, take}
use Rattle.vx_paged.specs.Framed.{in_turn}
use Rattle.vx_paged.proofs.placement.Placement.of.Given as goal

abbrev pub invariant-loop-i : goal.invariant-loop-i
invariant-loop-i l = record {
  items : l.placed.items ≡ in_turn l.first (take l.i l.pages);
  frame : l.frame ≡ l.first + l.i;
}
