-- The entries so far.
use Rattle.std.proofs.Common.{◌≡◌, ◌+◌, ◌*◌}
use Rattle.vx_cells.specs.Cells.{Makes}
use Rattle.vx_tables.specs.Building.{kernel_writes}
use Rattle.vx_tables.specs.Residency.{at_boot}
use Rattle.vx_tables.specs.Tables.{leaf_entry}
use Rattle.vx_walk.proofs.building.write_leaves.Given as goal

abbrev pub invariant-loop-i : goal.invariant-loop-i
invariant-loop-i g l = record {
  frames : (g.C.Cells.state l.cells).frames ≡ (g.C.Cells.state l.initial.cells).frames;
  makes : Makes (g.C.Cells.state l.initial.cells) (g.C.Cells.state l.cells) (kernel_writes (g.C.Cells.state l.initial.cells).cycle (512 * l.frame) (λ i. leaf_entry (at_boot l.first_page l.pages) (l.base + i)) l.i);
}
