-- The tables stand for some residency throughout.
use Rattle.vx_cells.specs.LogCells.{log_cells_told}
use Rattle.vx_tables.specs.Walking.{HaveTables}
use Rattle.vx_walk.proofs.tests.present_pages_are_walked.Given as goal

abbrev pub invariant-loop-address : goal.invariant-loop-address
invariant-loop-address g l = HaveTables (log_cells_told l.cells) 2
