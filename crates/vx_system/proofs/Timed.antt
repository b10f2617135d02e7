-- Physical memory at another cycle.
use Rattle.std.proofs.Common.{◌≡◌, ℕ}
use Rattle.vx_cells.specs.Cells.{CellsState, IsMemory}
use Rattle.vx_episode.specs.Show.{Registers, Shows}
use Rattle.vx_flat.specs.State.{Flat}
use Rattle.vx_paged.specs.Left.{Fits}
use Rattle.vx_paged.specs.declared.placement.FramedPage.{FramedPage}
use Rattle.vx_tables.specs.Residency.{Residency}
use Rattle.vx_tables.specs.Tables.{AreHeld}
use Rattle.std.specs.Prelude.{List}

abbrev pub at_cycle : ℕ → CellsState → CellsState
at_cycle t c = record c { cycle = t }

memory-at : (c : CellsState) (t : ℕ) → IsMemory c → IsMemory (at_cycle t c)
memory-at c t h = record { whole = h.whole; limit = h.limit }

pub held-at : (c : CellsState) (t first : ℕ) (r : Residency) → AreHeld c first r → AreHeld (at_cycle t c) first r
held-at c t first r h = record { memory = memory-at c t h.memory; stand = h.stand; tables = h.tables; pages = h.pages }

pub shows-at : (g : Registers) (c : CellsState) (t first : ℕ) (r : Residency) (s : Flat) → Shows g c first r s → Shows g (at_cycle t c) first r s
shows-at g c t first r s h = record {
  pc_is = h.pc_is;
  x_is = h.x_is;
  v_is = h.v_is;
  pages = h.pages;
  tables = held-at c t first r h.tables;
  alone = h.alone;
  bytes = h.bytes;
}

pub fits-at : (placement : List FramedPage) (c : CellsState) (t : ℕ) → Fits placement c → Fits placement (at_cycle t c)
fits-at placement c t h = record { memory = memory-at c t h.memory; within = h.within }
