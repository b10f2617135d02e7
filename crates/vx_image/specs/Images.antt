-- Images of programs, and their faults. This project's own.
use Rattle.std.specs.Prelude.{◌≡◌, ℕ, ◌<◌, ◌+◌, ◌/◌, ◌%◌, Bool, false, not, ◌==◌, ◌&&◌, ◌||◌, nat_lt, bit_and, List, [], ◌∷◌, length, slice_index, find, Option, Some, None, option_map, Result, Ok, Err, if◌then◌else◌}
use Rattle.std.specs.Int.{div_ceil}
use Rattle.std.specs.Option.{option_or, option_map_or}
use Rattle.vx_base.specs.Page.{byte_of_words}
use Rattle.vx_base.specs.Permissions.{grants}
use Rattle.vx_base.specs.declared.machine.Want.TheVariants.{Fetch}
use Rattle.vx_base.specs.declared.perm.PageEntry.{PageEntry}
use Rattle.vx_base.specs.declared.perm.Perm.{Perm}
use Rattle.vx_elf.specs.declared.segment.Segment.{Segment}
use Rattle.vx_elf.specs.declared.segments.Segments.{Segments}
use Rattle.vx_image.specs.Pages.{MappedPage, Memory, page_numbered, Image}
use Rattle.vx_image.specs.Mapping.{all_pages}
use Rattle.vx_image.specs.declared.fault.ImageFault.{ImageFault}
use Rattle.vx_image.specs.declared.fault.ImageFault.TheVariants.{RawLength, WriteExec, TooManyPages, EntryNotCode, NoMemory}

-- the image of a program's segments
unfoldable pub image_in : Segments → Image
image_in segments = record { entry = segments.entry; pages = all_pages segments.list }

-- a page that may be both written and executed
abbrev pub is_write_exec : ℕ → Bool
is_write_exec permissions = bit_and permissions 3 == 3

-- the lowest page that may be both
abbrev pub write_exec_fault : Memory → Option ImageFault
write_exec_fault pages =
    option_map (λ (page : MappedPage). WriteExec page.number) (find (λ (page : MappedPage). is_write_exec page.permissions) pages)

-- more than 4,096 pages
abbrev pub count_fault : Memory → Option ImageFault
count_fault pages = if nat_lt 4096 (length pages) then Some (TooManyPages (length pages)) else None

-- the page of an address is mapped and may be executed
abbrev pub is_code : ℕ → Memory → Bool
is_code address pages = option_map_or (λ (page : MappedPage). grants page.permissions Fetch) (page_numbered (address / 4096) pages) false

-- an entry that is no multiple of 4 or whose page can't be executed
abbrev pub entry_fault : ℕ → Memory → Option ImageFault
entry_fault entry pages = if entry % 4 == 0 && is_code entry pages then None else Some (EntryNotCode entry)

-- the first fault of an entry and the pages of a program
unfoldable pub pages_fault : ℕ → Memory → Option ImageFault
pages_fault entry pages = option_or (write_exec_fault pages) (option_or (count_fault pages) (entry_fault entry pages))

-- the first fault of a program's segments
unfoldable pub image_fault : Segments → Option ImageFault
image_fault segments = pages_fault segments.entry (all_pages segments.list)

-- what each answer to the making of an image says
abbrev pub Makes : Segments → Result Image ImageFault → Type 0
Makes segments (Ok image) = (image_fault segments ≡ None) × (image ≡ image_in segments)
Makes segments (Err NoMemory) = Unit {0}
Makes segments (Err fault) = image_fault segments ≡ Some fault

-- raw bytes as a program: one segment from address 0x10000 on that may be read and executed, and begins there
unfoldable pub raw_segment : List ℕ → Segment
raw_segment bytes = record { index = 0; address = 0x10000; bytes = bytes; size = length bytes; perm = record { bits = 5 } }

abbrev pub raw_segments : List ℕ → Segments
raw_segments bytes = record { entry = 0x10000; list = raw_segment bytes ∷ [] }

-- the image of raw bytes
unfoldable pub raw_image : List ℕ → Image
raw_image bytes = image_in (raw_segments bytes)

-- how many pages so many bytes fill
abbrev pub page_count : ℕ → ℕ
page_count count = div_ceil count 4096

-- why bytes are no raw image: their number is 0 or no multiple of 4, or there are more than 4,096 pages with the stack's
unfoldable pub raw_fault : List ℕ → Option ImageFault
raw_fault bytes =
    if length bytes == 0 || not (length bytes % 4 == 0) then Some (RawLength (length bytes))
    else if nat_lt 4096 (page_count (length bytes) + 16) then Some (TooManyPages (page_count (length bytes) + 16))
    else None

-- what each answer to the making of a raw image says
abbrev pub MakesRaw : List ℕ → Result Image ImageFault → Type 0
MakesRaw bytes (Ok image) = (raw_fault bytes ≡ None) × (image ≡ raw_image bytes)
MakesRaw bytes (Err NoMemory) = Unit {0}
MakesRaw bytes (Err fault) = raw_fault bytes ≡ Some fault

-- the words of a page hold these bytes
abbrev pub HoldBytes : List ℕ → List ℕ → Type 0
HoldBytes words bytes = (j : ℕ) → j < 4096 → byte_of_words words j ≡ slice_index bytes j

-- the permissions of a page as a set of them, and its entry in a list of pages
abbrev pub perm_of_page : MappedPage → Perm
perm_of_page page = record { bits = page.permissions }

abbrev pub entry_of_page : MappedPage → PageEntry
entry_of_page page = record { page = page.number; perm = record { bits = page.permissions } }
