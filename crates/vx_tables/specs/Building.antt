-- How page tables are written: every word of every frame, in rising order. This project's own.
use Rattle.std.specs.Prelude.{ℕ, zero, suc, ◌+◌, ◌*◌, ◌/◌, ◌<◌, ◌≤◌, true, List, [], ◌∷◌, ◌++◌, length, slice_index_or, if◌then◌else◌}
use Rattle.vx_base.specs.declared.perm.PageEntry.{PageEntry}
use Rattle.vx_cells.specs.Cells.{CellsState, IsMemory, Makes}
use Rattle.vx_cells.specs.declared.access.Access.{Access}
use Rattle.vx_cells.specs.declared.access.Port.TheVariants.{Kernel}
use Rattle.vx_tables.specs.Entries.{pointer}
use Rattle.vx_tables.specs.Residency.{Residency, pages_of}
use Rattle.vx_tables.specs.Tables.{has_region, regions_below, table_word, table_count, Stand, SameBut}

-- the system's write of a whole word
abbrev pub kernel_write : (cycle word value : ℕ) → Access
kernel_write cycle word value = record { cycle = cycle; port = Kernel; word = word; written = true; bytes = 255; value = value }

-- the writes of so many words from one on, each with its value by its place
unfoldable pub kernel_writes : (cycle start : ℕ) (value : ℕ → ℕ) (count : ℕ) → List Access
kernel_writes cycle start value zero = []
kernel_writes cycle start value (suc count) = kernel_writes cycle start value count ++ kernel_write cycle (start + count) (value count) ∷ []

-- the writes of the tables' first so many frames
abbrev pub table_writes : (cycle : ℕ) → Residency → (first frames : ℕ) → List Access
table_writes cycle residency first frames = kernel_writes cycle (512 * first) (λ k. table_word residency first (512 * first + k)) (512 * frames)

-- the entry of a region above the leaves, where the tables of such regions stand from a frame on
abbrev pub pointer_for : (from size : ℕ) → List PageEntry → (region : ℕ) → ℕ
pointer_for from size pages region = if has_region size region pages then pointer (from + regions_below size region pages) else 0

-- the index of the first page at or above a region of so many pages: those before it lie below the region, and those from it
-- on don't
pub record IsFrom (size region : ℕ) (pages : List PageEntry) (index : ℕ) : Type 0 where
  pub within : index ≤ length pages
  pub before : (k : ℕ) (d : PageEntry) → k < index → (slice_index_or pages k d).page / size < region
  pub behind : (k : ℕ) (d : PageEntry) → index ≤ k → k < length pages → region ≤ (slice_index_or pages k d).page / size

-- the tables were built in the frames from one on, and nothing else was written
pub record Builds (before after : CellsState) (first : ℕ) (residency : Residency) : Type 0 where
  pub makes : Makes before after (table_writes before.cycle residency first (table_count (pages_of residency)))
  pub stand : Stand after.contents first residency
  pub memory : IsMemory after
  pub others : SameBut first (table_count (pages_of residency)) before.contents after.contents
