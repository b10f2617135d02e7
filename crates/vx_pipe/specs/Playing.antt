-- The state that registers and the pages in their frames show. This project's own.
use Rattle.std.specs.Prelude.{ℕ, List}
use Rattle.vx_cells.specs.Cells.{CellsState}
use Rattle.vx_flat.specs.State.{Flat}
use Rattle.vx_episode.specs.Show.{Registers}
use Rattle.vx_paged.specs.Framed.{shown}
use Rattle.vx_paged.specs.declared.placement.FramedPage.{FramedPage}

-- registers and a placement show a state, in which this was written so far
abbrev pub shown_state : Registers → List FramedPage → CellsState → (output : List ℕ) → Flat
shown_state registers placement cells output =
    record { pc = registers.pc; x = registers.x; v = registers.v; memory = shown placement cells.contents; output = output }
