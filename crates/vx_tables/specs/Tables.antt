-- The page tables of a process: RISC-V Privileged 1.12, section 4.4 (Sv39: three levels of tables of 512 entries). A process
-- has a root, a second-level table for each region of 1 GiB that has one of its pages, and a leaf table for each region of
-- 2 MiB that does. They stand in that order, each kind in rising address, in successive frames; that order is this project's
-- own.
use Rattle.std.specs.Prelude.{◌≡◌, ℕ, ◌+◌, ◌-◌, ◌*◌, ◌/◌, ◌%◌, ◌^◌, ◌<◌, ◌≤◌, Bool, false, ◌&&◌, ◌==◌, nat_lt, nat_le, List, map, filter, find, slice_index, unwrap_or, if◌then◌else◌}
use Rattle.std.specs.List.{list_any}
use Rattle.std.specs.Option.{option_map_or}
use Rattle.vx_base.specs.Pages.{IsPageList}
use Rattle.vx_base.specs.declared.perm.PageEntry.{PageEntry}
use Rattle.vx_cells.specs.Cells.{CellsState, IsMemory}
use Rattle.vx_image.specs.Tables.{distinct_count}
use Rattle.vx_tables.specs.Entries.{pointer, page_entry}
use Rattle.vx_tables.specs.Residency.{PlacedPage, Residency, pages_of, placed, AreBelow}

-- how many pages a region of 1 GiB has, and one of 2 MiB
abbrev pub gib : ℕ
gib = 2 ^ 18

abbrev pub mib2 : ℕ
mib2 = 2 ^ 9

-- the regions of so many pages in which the pages lie
abbrev pub regions : (size : ℕ) → List PageEntry → List ℕ
regions size pages = map (λ (e : PageEntry). e.page / size) pages

-- a region has one of the pages
abbrev pub has_region : (size region : ℕ) → List PageEntry → Bool
has_region size region pages = list_any (λ n. n == region) (regions size pages)

-- how many regions have one, and how many of these lie below a region
abbrev pub region_total : (size : ℕ) → List PageEntry → ℕ
region_total size pages = distinct_count (regions size pages)

abbrev pub regions_below : (size region : ℕ) → List PageEntry → ℕ
regions_below size region pages = distinct_count (filter (λ n. nat_lt n region) (regions size pages))

-- how many frames the tables take
abbrev pub table_count : List PageEntry → ℕ
table_count pages = 1 + region_total gib pages + region_total mib2 pages

-- the frame of the table of a region of 1 GiB, and of one of 2 MiB, with the root in frame `first`
abbrev pub second_frame : (first : ℕ) → List PageEntry → (region : ℕ) → ℕ
second_frame first pages region = first + 1 + regions_below gib region pages

abbrev pub leaf_frame : (first : ℕ) → List PageEntry → (region : ℕ) → ℕ
leaf_frame first pages region = first + 1 + region_total gib pages + regions_below mib2 region pages

-- the entry for a region of 1 GiB, for one of 2 MiB, and for a page
abbrev pub root_entry : (first : ℕ) → List PageEntry → (region : ℕ) → ℕ
root_entry first pages region = if has_region gib region pages then pointer (second_frame first pages region) else 0

abbrev pub second_entry : (first : ℕ) → List PageEntry → (region : ℕ) → ℕ
second_entry first pages region = if has_region mib2 region pages then pointer (leaf_frame first pages region) else 0

abbrev pub leaf_entry : Residency → (number : ℕ) → ℕ
leaf_entry residency number =
    option_map_or (λ (p : PlacedPage). page_entry p.entry.perm.bits p.place) (placed number residency) 0

-- the region with a page, below which so many such regions lie
abbrev pub region_after : (size below : ℕ) → List PageEntry → ℕ
region_after size below pages = unwrap_or (find (λ n. regions_below size n pages == below) (regions size pages)) 0

-- entry i of table t, from 0: the root, the second-level tables, the leaf tables
unfoldable pub entry_in : Residency → (first t i : ℕ) → ℕ
entry_in residency first t i =
    if t == 0 then root_entry first (pages_of residency) i
    else if nat_le t (region_total gib (pages_of residency))
    then second_entry first (pages_of residency) (512 * region_after gib (t - 1) (pages_of residency) + i)
    else leaf_entry residency (512 * region_after mib2 (t - 1 - region_total gib (pages_of residency)) (pages_of residency) + i)

-- a word of physical memory in the tables
abbrev pub table_word : Residency → (first word : ℕ) → ℕ
table_word residency first word = entry_in residency first (word / 512 - first) (word % 512)

-- physical memory holds the tables of a residency from frame `first` on
pub record Stand (contents : List ℕ) (first : ℕ) (residency : Residency) : Type 0 where
  pub listed : IsPageList (pages_of residency)
  pub each : (word : ℕ) → 512 * first ≤ word → word < 512 * (first + table_count (pages_of residency)) → slice_index contents word ≡ table_word residency first word

-- the same of the cells, which have the frames of the tables and of the present pages
pub record AreHeld (cells : CellsState) (first : ℕ) (residency : Residency) : Type 0 where
  pub memory : IsMemory cells
  pub stand : Stand cells.contents first residency
  pub tables : first + table_count (pages_of residency) ≤ cells.frames
  pub pages : AreBelow cells.frames residency

-- physical memory stays but for the words of so many frames from one on
abbrev pub SameBut : (first count : ℕ) → (before after : List ℕ) → Type 0
SameBut first count before after =
    (word : ℕ) → (nat_le (512 * first) word && nat_lt word (512 * (first + count))) ≡ false → slice_index after word ≡ slice_index before word

-- the word of the leaf entry of a mapped page
abbrev pub leaf_word : (first : ℕ) → List PageEntry → (number : ℕ) → ℕ
leaf_word first pages number = 512 * leaf_frame first pages (number / mib2) + number % mib2
