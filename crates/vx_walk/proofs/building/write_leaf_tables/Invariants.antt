-- The tables of the regions so far.
use Rattle.std.proofs.Common.{◌≡◌, ◌+◌, ◌*◌}
use Rattle.vx_cells.specs.Cells.{CellsState, IsMemory, Makes}
use Rattle.vx_tables.specs.Building.{table_writes}
use Rattle.vx_tables.specs.Residency.{at_boot}
use Rattle.vx_tables.specs.Tables.{gib, mib2, region_total, regions_below}
use Rattle.vx_walk.proofs.building.write_leaf_tables.Given as goal

abbrev pub invariant-loop-region : goal.invariant-loop-region
invariant-loop-region g l = record {
  memory : IsMemory (g.C.Cells.state l.cells);
  frames : (g.C.Cells.state l.cells).frames ≡ (g.C.Cells.state l.initial.cells).frames;
  frame : l.frame ≡ 1 + region_total gib l.pages + regions_below mib2 (512 * l.region) l.pages;
  makes : (before : CellsState) → Makes before (g.C.Cells.state l.initial.cells) (table_writes before.cycle (at_boot l.first_page l.pages) l.first l.fn.frame) → Makes before (g.C.Cells.state l.cells) (table_writes before.cycle (at_boot l.first_page l.pages) l.first l.frame);
}
