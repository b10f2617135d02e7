-- The tables of the regions so far.
use Rattle.std.proofs.Common.{◌≡◌, ◌+◌, ◌*◌}
use Rattle.vx_cells.specs.Cells.{CellsState, IsMemory, Makes}
use Rattle.vx_tables.specs.Building.{table_writes}
use Rattle.vx_tables.specs.Residency.{Residency, pages_of}
use Rattle.vx_tables.specs.Tables.{gib, mib2, region_total, regions_below}
use Rattle.vx_walk.proofs.building.write_seconds.Given as goal

abbrev pub invariant-loop-region : goal.invariant-loop-region
invariant-loop-region g l = record {
  memory : IsMemory (g.C.Cells.state l.cells);
  frames : (g.C.Cells.state l.cells).frames ≡ (g.C.Cells.state l.initial.cells).frames;
  frame : l.begun.frame ≡ 1 + regions_below gib l.region l.pages;
  next : l.begun.next ≡ l.first + 1 + region_total gib l.pages + regions_below mib2 (512 * l.region) l.pages;
  makes : (before : CellsState) (residency : Residency) → pages_of residency ≡ l.pages → Makes before (g.C.Cells.state l.initial.cells) (table_writes before.cycle residency l.first 1) → Makes before (g.C.Cells.state l.cells) (table_writes before.cycle residency l.first l.begun.frame);
}
