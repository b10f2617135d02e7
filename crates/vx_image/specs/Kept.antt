-- How an image is kept: the entries of its pages, and the bytes of all pages one after another. This project's own.
use Rattle.std.specs.Prelude.{◌≡◌, ℕ, ◌*◌, ◌%◌, ◌<◌, ◌≤◌, ◌≢◌, List, [], ◌∷◌, length, take, drop, slice_index_or}
use Rattle.vx_base.specs.Pages.{IsPageList}
use Rattle.vx_base.specs.declared.perm.PageEntry.{PageEntry}
use Rattle.vx_image.specs.Pages.{Memory}

-- the pages that these entries and bytes stand for, with pages of so many bytes
unfoldable pub pages_by : ℕ → List PageEntry → List ℕ → Memory
pages_by size [] bytes = []
pages_by size (entry ∷ entries) bytes =
    record { number = entry.page; permissions = entry.perm.bits; bytes = take size bytes } ∷ pages_by size entries (drop size bytes)

-- with pages of 4,096 bytes
unfoldable pub pages_of : List PageEntry → List ℕ → Memory
pages_of entries bytes = pages_by 4096 entries bytes

-- each page has its bytes, the entries are those of a list of pages, and the entry point is that of an instruction
pub record IsImage (entry : ℕ) (entries : List PageEntry) (bytes : List ℕ) : Type 0 where
  pub aligned : entry % 4 ≡ 0
  pub listed : IsPageList entries
  pub whole : length bytes ≡ 4096 * length entries

-- the entry at a place, and past the end that of page 0 without permissions
abbrev pub entry_at : List PageEntry → ℕ → PageEntry
entry_at entries k = slice_index_or entries k (record { page = 0; perm = record { bits = 0 } })

-- the pages' numbers rise
abbrev pub IsRising : List PageEntry → Type 0
IsRising entries = (i j : ℕ) → i < j → j < length entries → (entry_at entries i).page < (entry_at entries j).page

-- each page has its bytes, and each number stands once
pub record IsKept (entries : List PageEntry) (bytes : List ℕ) : Type 0 where
  pub whole : length bytes ≡ 4096 * length entries
  pub rising : IsRising entries

-- the entry at a place is that of the page
pub record IsPlaceOf (entries : List PageEntry) (page k : ℕ) : Type 0 where
  pub within : k < length entries
  pub same : (entry_at entries k).page ≡ page

-- the entries from a place on are those of this page and of pages above it
pub record IsPlaceFrom (entries : List PageEntry) (page k : ℕ) : Type 0 where
  pub within : k ≤ length entries
  pub below : (i : ℕ) → i < k → (entry_at entries i).page < page
  pub above : (i : ℕ) → k ≤ i → i < length entries → page ≤ (entry_at entries i).page

-- no entry is that of the page
abbrev pub Lacks : List PageEntry → ℕ → Type 0
Lacks entries page = (i : ℕ) → i < length entries → (entry_at entries i).page ≢ page
