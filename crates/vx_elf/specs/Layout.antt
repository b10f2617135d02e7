-- Where the fields of an ELF64 file stand: the file header and the program headers. ELF-64 Object File Format, version
-- 1.5, File Header and Program header; numbers are little-endian.
use Rattle.std.specs.Prelude.{ℕ, ◌+◌, ◌*◌, List, take, drop}
use Rattle.vx_base.specs.Numbers.{from_little_endian}
use Rattle.vx_elf.specs.declared.header.ProgramHeader.{ProgramHeader}

-- the number in `width` bytes from a place on
unfoldable pub number_at : List ℕ → ℕ → ℕ → ℕ
number_at bytes place width = from_little_endian (take width (drop place bytes))

-- e_type
abbrev pub file_type : List ℕ → ℕ
file_type bytes = number_at bytes 16 2

-- e_machine
abbrev pub machine : List ℕ → ℕ
machine bytes = number_at bytes 18 2

-- e_entry
abbrev pub entry_point : List ℕ → ℕ
entry_point bytes = number_at bytes 24 8

-- e_phoff
abbrev pub table_place : List ℕ → ℕ
table_place bytes = number_at bytes 32 8

-- e_flags
abbrev pub file_flags : List ℕ → ℕ
file_flags bytes = number_at bytes 48 4

-- e_phentsize
abbrev pub header_size : List ℕ → ℕ
header_size bytes = number_at bytes 54 2

-- e_phnum
abbrev pub header_count : List ℕ → ℕ
header_count bytes = number_at bytes 56 2

-- where the program header of a number begins, of 56 bytes each
abbrev pub header_place : List ℕ → ℕ → ℕ
header_place bytes index = table_place bytes + 56 * index

-- the program header at a place: p_type, p_flags, p_offset, p_vaddr, p_filesz and p_memsz
unfoldable pub header_from : List ℕ → ℕ → ProgramHeader
header_from bytes place = record {
  kind = number_at bytes place 4;
  flags = number_at bytes (place + 4) 4;
  offset = number_at bytes (place + 8) 8;
  address = number_at bytes (place + 16) 8;
  file_size = number_at bytes (place + 32) 8;
  memory_size = number_at bytes (place + 40) 8;
}

-- the program header of a number
abbrev pub header_at : List ℕ → ℕ → ProgramHeader
header_at bytes index = header_from bytes (header_place bytes index)
