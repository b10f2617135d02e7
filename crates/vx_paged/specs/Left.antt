-- What the accesses of a process leave of physical memory. This project's own.
use Rattle.std.specs.Prelude.{ℕ, ◌+◌, ◌/◌, Bool, ◌==◌, List, [], ◌∷◌, map, if◌then◌else◌}
use Rattle.std.specs.List.{list_any}
use Rattle.vx_cells.specs.Cells.{CellsState, IsMemory}
use Rattle.vx_hart.specs.Rest.{Rest}
use Rattle.vx_paged.specs.Framed.{IsWithin, entries_of}
use Rattle.vx_paged.specs.declared.placement.FramedPage.{FramedPage}

-- a page is in the frame
abbrev pub is_framed : List FramedPage → (frame : ℕ) → Bool
is_framed placement frame = list_any (λ (p : FramedPage). p.frame == frame) placement

-- these words, the first of which is the word of that number, with those of the pages' frames made 0
unfoldable pub blanked : List FramedPage → (word : ℕ) → List ℕ → List ℕ
blanked placement word [] = []
blanked placement word (value ∷ values) = (if is_framed placement (word / 512) then 0 else value) ∷ blanked placement (word + 1) values

-- what is left of the cells
abbrev pub rest_of : List FramedPage → CellsState → Rest
rest_of placement cells = record { frames = cells.frames; cycle = cells.cycle; words = blanked placement 0 cells.contents; pages = entries_of placement; places = map (λ (p : FramedPage). p.frame) placement }

-- the cells have the pages' frames
pub record Fits (placement : List FramedPage) (cells : CellsState) : Type 0 where
  pub memory : IsMemory cells
  pub within : IsWithin cells.frames placement
