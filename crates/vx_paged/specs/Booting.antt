-- How the pages of an image are written into their frames: each page's words in rising order, page after page; and what that
-- and the page tables before it leave. This project's own.
use Rattle.std.specs.Prelude.{◌≡◌, ℕ, zero, suc, ◌+◌, ◌*◌, List, [], ◌∷◌, ◌++◌, map, length, Some, slice_index, slice_index_or}
use Rattle.vx_base.specs.Numbers.{from_little_endian}
use Rattle.vx_cells.specs.Cells.{CellsState, Makes}
use Rattle.vx_cells.specs.declared.access.Access.{Access}
use Rattle.vx_episode.specs.Show.{Shows}
use Rattle.vx_flat.specs.State.{Flat}
use Rattle.vx_image.specs.Images.{entry_of_page}
use Rattle.vx_image.specs.Pages.{Memory, MappedPage}
use Rattle.vx_image.specs.Tables.{table_frames}
use Rattle.vx_tables.specs.Building.{kernel_writes, table_writes}
use Rattle.vx_tables.specs.Residency.{Residency, at_boot}
use Rattle.vx_tables.specs.Tables.{AreHeld}
use Rattle.vx_paged.specs.Framed.{IsPlacement, in_turn, shown}
use Rattle.vx_paged.specs.Left.{Fits}
use Rattle.vx_paged.specs.Placed.{AreAlone, IsPlacedAs}
use Rattle.vx_paged.specs.declared.placement.FramedPage.{FramedPage}

-- word w of these bytes
abbrev pub word_in : (bytes : List ℕ) → (w : ℕ) → ℕ
word_in bytes w = from_little_endian (map (λ j. slice_index bytes (8 * w + j)) (0 ∷ 1 ∷ 2 ∷ 3 ∷ 4 ∷ 5 ∷ 6 ∷ 7 ∷ []))

-- the page at an index, and the frame
abbrev pub page_at : Memory → (k : ℕ) → MappedPage
page_at pages k = slice_index_or pages k (record { number = 0; permissions = 0; bytes = [] })

abbrev pub framed_at : List FramedPage → (k : ℕ) → FramedPage
framed_at placement k = slice_index_or placement k (record { entry = record { page = 0; perm = record { bits = 0 } }; frame = 0 })

-- the writes of the first so many pages
unfoldable pub page_writes : (cycle : ℕ) → List FramedPage → Memory → (count : ℕ) → List Access
page_writes cycle placement pages zero = []
page_writes cycle placement pages (suc count) =
    page_writes cycle placement pages count ++ kernel_writes cycle (512 * (framed_at placement count).frame) (word_in (page_at pages count).bytes) 512

-- the residency of pages in successive frames behind their tables, which begin in frame `first`
abbrev pub page_frame : (first : ℕ) → Memory → ℕ
page_frame first pages = first + table_frames pages

abbrev pub residency_at : (first : ℕ) → Memory → Residency
residency_at first pages = at_boot (Some (page_frame first pages)) (map entry_of_page pages)

-- the tables were built in the frames from one on and the pages placed behind them, in this order, and nothing else was written:
-- physical memory shows each state that has these pages
pub record Boots (before after : CellsState) (first : ℕ) (pages : Memory) (placement : List FramedPage) : Type 0 where
  pub placed : placement ≡ in_turn (page_frame first pages) (map entry_of_page pages)
  pub kept : IsPlacement placement
  pub fits : Fits placement after
  pub same : IsPlacedAs placement (residency_at first pages)
  pub alone : AreAlone first (residency_at first pages)
  pub held : AreHeld after first (residency_at first pages)
  pub is_shown : shown placement after.contents ≡ pages
  pub shows : (s : Flat) → s.memory ≡ pages → Shows (record { pc = s.pc; x = s.x; v = s.v }) after first (residency_at first pages) s
  pub makes : Makes before after (table_writes before.cycle (residency_at first pages) first (table_frames pages) ++ page_writes before.cycle placement pages (length pages))
