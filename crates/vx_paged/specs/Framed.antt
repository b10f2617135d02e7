-- The pages of a process in frames of physical memory, and the memory that they show. This project's own.
use Rattle.std.specs.Prelude.{◌≢◌, ℕ, zero, suc, ◌+◌, ◌*◌, ◌<◌, ◌==◌, List, [], ◌∷◌, map, All, AllPairs, Option, Some, None, if◌then◌else◌}
use Rattle.vx_base.specs.Page.{byte_of_words}
use Rattle.vx_base.specs.Pages.{IsPageList}
use Rattle.vx_base.specs.declared.perm.PageEntry.{PageEntry}
use Rattle.vx_image.specs.Pages.{Memory, MappedPage}
use Rattle.vx_paged.specs.declared.placement.FramedPage.{FramedPage}

-- the entries of the pages
abbrev pub entries_of : List FramedPage → List PageEntry
entries_of placement = map (λ (p : FramedPage). p.entry) placement

-- mapped pages in rising order, each in a frame of its own
pub record IsPlacement (placement : List FramedPage) : Type 0 where
  pub listed : IsPageList (entries_of placement)
  pub apart : AllPairs (λ one later. one.frame ≢ later.frame) placement
  pub limit : All (λ p. p.frame < 16384) placement

-- every page is in one of so many frames
abbrev pub IsWithin : (frames : ℕ) → List FramedPage → Type 0
IsWithin frames placement = All (λ p. p.frame < frames) placement

-- the page of that number
abbrev pub framed : (number : ℕ) → List FramedPage → Option FramedPage
framed number [] = None
framed number (p ∷ placement) = if p.entry.page == number then Some p else framed number placement

-- these pages in successive frames from one on
abbrev pub in_turn : (first : ℕ) → List PageEntry → List FramedPage
in_turn first [] = []
in_turn first (entry ∷ entries) = record { entry = entry; frame = first } ∷ in_turn (first + 1) entries

-- so many bytes from one on, of a memory that gives each its value
unfoldable pub bytes_from : (memory : ℕ → ℕ) → (start count : ℕ) → List ℕ
bytes_from memory start zero = []
bytes_from memory start (suc count) = memory start ∷ bytes_from memory (start + 1) count

-- a page, of which the bytes are those of its frame
abbrev pub shown_page : (memory : ℕ → ℕ) → FramedPage → MappedPage
shown_page memory p = record { number = p.entry.page; permissions = p.entry.perm.bits; bytes = bytes_from memory (4096 * p.frame) 4096 }

-- the memory that these words of physical memory show
unfoldable pub shown : List FramedPage → (contents : List ℕ) → Memory
shown placement contents = map (shown_page (byte_of_words contents)) placement
