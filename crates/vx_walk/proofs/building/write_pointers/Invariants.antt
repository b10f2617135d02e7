-- The entries so far, and the tables to which they lead.
use Rattle.std.proofs.Common.{◌≡◌, ℕ, ◌+◌, ◌*◌, ◌≤◌}
use Rattle.vx_cells.specs.Cells.{Makes}
use Rattle.vx_tables.specs.Building.{kernel_writes, pointer_for}
use Rattle.vx_tables.specs.Tables.{regions_below}
use Rattle.vx_walk.proofs.building.write_pointers.Given as goal

abbrev pub invariant-loop-i : goal.invariant-loop-i
invariant-loop-i g l = record {
  few : l.next ≤ l.fn.next + l.i;
  frames : (g.C.Cells.state l.cells).frames ≡ (g.C.Cells.state l.initial.cells).frames;
  next : (from : ℕ) → l.fn.next ≡ from + regions_below l.size l.base l.pages → l.next ≡ from + regions_below l.size (l.base + l.i) l.pages;
  makes : (from : ℕ) → l.fn.next ≡ from + regions_below l.size l.base l.pages → Makes (g.C.Cells.state l.initial.cells) (g.C.Cells.state l.cells) (kernel_writes (g.C.Cells.state l.initial.cells).cycle (512 * l.frame) (λ i. pointer_for from l.size l.pages (l.base + i)) l.i);
}
