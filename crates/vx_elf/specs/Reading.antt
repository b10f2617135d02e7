-- What the bytes of an ELF file hold, or the first fault that they have. The fields are those of ELF-64 Object File
-- Format 1.5; the machine number and the flags those of the RISC-V psABI; what is accepted is this project's own.
use Rattle.std.specs.Prelude.{◌≡◌, ℕ, zero, suc, ◌+◌, ◌*◌, ◌%◌, Bool, not, ◌==◌, ◌&&◌, ◌||◌, nat_lt, nat_eq, bit_and, bit_or, List, [], ◌∷◌, ◌++◌, length, take, drop, find, Option, Some, None, option_map, Result, Ok, Err, if◌then◌else◌}
use Rattle.std.specs.List.{starts_with}
use Rattle.std.specs.Option.{option_or}
use Rattle.vx_elf.specs.Layout.{file_type, machine, entry_point, table_place, file_flags, header_size, header_count, header_at}
use Rattle.vx_elf.specs.Segments.{ranges_meet, segments_end, segments_room, total_size}
use Rattle.vx_elf.specs.declared.fault.ElfFault.{ElfFault}
use Rattle.vx_elf.specs.declared.fault.ElfFault.TheVariants.{Short, NotElf, NotRiscv, NotExec, Compressed, BadTable, Interp, BadRange, Overlap, NoMemory}
use Rattle.vx_elf.specs.declared.header.ProgramHeader.{ProgramHeader}
use Rattle.vx_elf.specs.declared.segment.Segment.{Segment}
use Rattle.vx_elf.specs.declared.segments.Segments.{Segments}

-- 7f, "ELF", 64 bits, little-endian, version 1
abbrev pub magic : List ℕ
magic = 0x7f ∷ 0x45 ∷ 0x4c ∷ 0x46 ∷ 2 ∷ 1 ∷ 1 ∷ []

-- the first fault of the file header: its length, its first bytes, and what kind of program it is
unfoldable pub kind_fault : List ℕ → Option ElfFault
kind_fault bytes =
    if nat_lt (length bytes) 64 then Some (Short 64 (length bytes))
    else if not (starts_with nat_eq bytes magic) then Some NotElf
    else if not (machine bytes == 243) then Some (NotRiscv (machine bytes))
    else if not (file_type bytes == 2) then Some (NotExec (file_type bytes))
    else if file_flags bytes % 2 == 1 then Some Compressed
    else None

-- the first fault of the table of program headers as a whole
unfoldable pub table_fault : List ℕ → Option ElfFault
table_fault bytes =
    if not (header_size bytes == 56) then Some (BadTable 54)
    else if header_count bytes == 65535 then Some (BadTable 56)
    else if nat_lt (length bytes) (table_place bytes + 56 * header_count bytes) then Some (Short (table_place bytes + 56 * header_count bytes) (length bytes))
    else None

-- a program header is a segment: PT_LOAD, with memory and with one or more of R 4, W 2 and X 1
abbrev pub is_segment : ProgramHeader → Bool
is_segment header = header.kind == 1 && (not (header.memory_size == 0) && not (header.flags % 8 == 0))

-- W grants R also
abbrev pub with_read : ℕ → ℕ
with_read bits = if bit_and bits 2 == 2 then bit_or bits 4 else bits

-- the segment of a program header of this number
unfoldable pub segment_of : List ℕ → ℕ → ProgramHeader → Segment
segment_of bytes index header = record {
  index = index;
  address = header.address;
  bytes = take header.file_size (drop header.offset bytes);
  size = header.memory_size;
  perm = record { bits = with_read (header.flags % 8) };
}

-- a header's memory holds fewer bytes than the file, ends too high, or is too much with that of the segments before
abbrev pub is_bad_range : ℕ → ProgramHeader → Bool
is_bad_range total header =
    nat_lt header.memory_size header.file_size
    || (nat_lt segments_end (header.address + header.memory_size) || nat_lt segments_room (total + header.memory_size))

-- the memory of a header meets that of a segment
abbrev pub meets : ProgramHeader → Segment → Bool
meets header segment = ranges_meet segment.address segment.size header.address header.memory_size

-- the first fault of a segment's header of this number, where these are the segments before it
unfoldable pub segment_fault : List ℕ → List Segment → ℕ → ProgramHeader → Option ElfFault
segment_fault bytes before index header =
    if is_bad_range (total_size before) header then Some (BadRange index)
    else if nat_lt (length bytes) (header.offset + header.file_size) then Some (Short (header.offset + header.file_size) (length bytes))
    else option_map (λ (segment : Segment). Overlap segment.index index) (find (meets header) before)

-- the first fault of a program header of this number: PT_INTERP, or a segment's
unfoldable pub header_fault : List ℕ → List Segment → ℕ → ProgramHeader → Option ElfFault
header_fault bytes before index header =
    if header.kind == 3 then Some (Interp index)
    else if is_segment header then segment_fault bytes before index header
    else None

-- the segment of a program header of this number, where it is one
unfoldable pub segments_under : List ℕ → ℕ → ProgramHeader → List Segment
segments_under bytes index header = if is_segment header then segment_of bytes index header ∷ [] else []

-- the segments of so many program headers, in their order
unfoldable pub segments_of : List ℕ → ℕ → List Segment
segments_of bytes zero = []
segments_of bytes (suc count) = segments_of bytes count ++ segments_under bytes count (header_at bytes count)

-- the first fault of so many program headers
unfoldable pub headers_fault : List ℕ → ℕ → Option ElfFault
headers_fault bytes zero = None
headers_fault bytes (suc count) =
    option_or (headers_fault bytes count) (header_fault bytes (segments_of bytes count) count (header_at bytes count))

-- the first fault of the file
unfoldable pub elf_fault : List ℕ → Option ElfFault
elf_fault bytes = option_or (kind_fault bytes) (option_or (table_fault bytes) (headers_fault bytes (header_count bytes)))

-- what a file without a fault holds
unfoldable pub segments_in : List ℕ → Segments
segments_in bytes = record { entry = entry_point bytes; list = segments_of bytes (header_count bytes) }

-- what each answer to a reading says
abbrev pub Reads : List ℕ → Result Segments ElfFault → Type 0
Reads bytes (Ok segments) = (elf_fault bytes ≡ None) × (segments ≡ segments_in bytes)
Reads bytes (Err NoMemory) = Unit {0}
Reads bytes (Err fault) = elf_fault bytes ≡ Some fault

-- what the reading of so many program headers answers
abbrev pub ReadsHeaders : List ℕ → ℕ → Result (List Segment) ElfFault → Type 0
ReadsHeaders bytes count (Ok segments) = (headers_fault bytes count ≡ None) × (segments ≡ segments_of bytes count)
ReadsHeaders bytes count (Err NoMemory) = Unit {0}
ReadsHeaders bytes count (Err fault) = headers_fault bytes count ≡ Some fault

-- a program header was read, and so many bytes are taken then
pub record TakesHeader (bytes : List ℕ) (index : ℕ) (before after : List Segment) (taken : ℕ) : Type 0 where
  pub faultless : header_fault bytes before index (header_at bytes index) ≡ None
  pub segments : after ≡ before ++ segments_under bytes index (header_at bytes index)
  pub total : taken ≡ total_size after

-- what the reading of one program header answers
abbrev pub ReadsHeader : List ℕ → ℕ → List Segment → List Segment → Result ℕ ElfFault → Type 0
ReadsHeader bytes index before after (Ok total) = TakesHeader bytes index before after total
ReadsHeader bytes index before after (Err NoMemory) = Unit {0}
ReadsHeader bytes index before after (Err fault) = header_fault bytes before index (header_at bytes index) ≡ Some fault
