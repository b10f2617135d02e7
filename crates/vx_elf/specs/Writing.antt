-- The ELF file of a program, byte for byte: ELF-64 Object File Format 1.5, File Header and Program header; the machine
-- number is the RISC-V psABI's. Where the parts stand is this project's own.
use Rattle.std.specs.Prelude.{ℕ, ◌+◌, ◌-◌, ◌*◌, ◌≤◌, Bool, not, ◌==◌, List, [], ◌∷◌, ◌++◌, length, replicate, if◌then◌else◌}
use Rattle.std.specs.Int.{div_ceil}
use Rattle.std.specs.List.{flat_map}
use Rattle.vx_base.specs.Numbers.{little_endian}
use Rattle.vx_elf.specs.Reading.{magic}
use Rattle.vx_elf.specs.declared.field.Field.{Field}
use Rattle.vx_elf.specs.declared.field.Field.TheVariants.{Half, Word, Xword}
use Rattle.vx_elf.specs.declared.header.ProgramHeader.{ProgramHeader}
use Rattle.vx_elf.specs.declared.program.Program.{Program}
use Rattle.vx_elf.specs.declared.segment.Segment.{Segment}
use Rattle.vx_elf.specs.declared.segments.Segments.{Segments}

-- the bytes of a field
abbrev pub field_bytes : Field → List ℕ
field_bytes (Half n) = little_endian 2 n
field_bytes (Word n) = little_endian 4 n
field_bytes (Xword n) = little_endian 8 n

-- e_ident: the first bytes, and zeros up to 16
abbrev pub ident : List ℕ
ident = magic ++ replicate 9 0

-- e_type, e_machine, e_version, e_entry, e_phoff, e_shoff, e_flags, e_ehsize, e_phentsize, e_phnum, e_shentsize, e_shnum
-- and e_shstrndx of an executable file with so many program headers behind the file header
abbrev pub file_fields : ℕ → ℕ → List Field
file_fields entry count =
    Half 2 ∷ Half 243 ∷ Word 1 ∷ Xword entry ∷ Xword 64 ∷ Xword 0 ∷ Word 0 ∷ Half 64 ∷ Half 56 ∷ Half count ∷ Half 0 ∷ Half 0 ∷ Half 0 ∷ []

unfoldable pub file_header : ℕ → ℕ → List ℕ
file_header entry count = ident ++ flat_map field_bytes (file_fields entry count)

-- p_type, p_flags, p_offset, p_vaddr, p_paddr, p_filesz, p_memsz and p_align
abbrev pub header_fields : ProgramHeader → List Field
header_fields header =
    Word header.kind ∷ Word header.flags ∷ Xword header.offset ∷ Xword header.address ∷ Xword header.address ∷ Xword header.file_size ∷ Xword header.memory_size ∷ Xword 4096 ∷ []

unfoldable pub program_header : ProgramHeader → List ℕ
program_header header = flat_map field_bytes (header_fields header)

-- the least multiple of 4,096 that isn't below a number
abbrev pub whole_pages : ℕ → ℕ
whole_pages n = 4096 * div_ceil n 4096

-- a program has code, and it has variables
abbrev pub has_code : Program → Bool
has_code program = not (length program.code == 0)

abbrev pub has_vars : Program → Bool
has_vars program = not (length program.vars + program.zero == 0)

-- where the variables begin in memory, behind the code, and in the file
abbrev pub vars_address : Program → ℕ
vars_address program = 0x10000 + whole_pages (length program.code)

abbrev pub vars_place : Program → ℕ
vars_place program = 4096 + whole_pages (length program.code)

-- the program header of the code, which may be read and executed, and of the variables, which may be read and written
unfoldable pub code_header : Program → ProgramHeader
code_header program = record { kind = 1; flags = 5; offset = 4096; address = 0x10000; file_size = length program.code; memory_size = length program.code }

unfoldable pub vars_header : Program → ProgramHeader
vars_header program = record {
  kind = 1;
  flags = 6;
  offset = vars_place program;
  address = vars_address program;
  file_size = length program.vars;
  memory_size = length program.vars + program.zero;
}

-- those that the program has
unfoldable pub headers_of : Program → List ProgramHeader
headers_of program =
    (if has_code program then code_header program ∷ [] else []) ++ (if has_vars program then vars_header program ∷ [] else [])

-- bytes with zeros behind them up to a place
abbrev pub filled_to : ℕ → List ℕ → List ℕ
filled_to place bytes = bytes ++ replicate (place - length bytes) 0

-- the headers, and the code behind them from byte 4,096 on
unfoldable pub written_start : Program → List ℕ
written_start program =
    filled_to 4096 (file_header program.entry (length (headers_of program)) ++ flat_map program_header (headers_of program)) ++ program.code

-- the whole file: behind that the variables, where there are some
unfoldable pub written : Program → List ℕ
written program =
    if has_vars program then filled_to (vars_place program) (written_start program) ++ program.vars else written_start program

-- the segments of a program: its code, and its variables with zeros behind them
unfoldable pub code_segment : Program → Segment
code_segment program = record { index = 0; address = 0x10000; bytes = program.code; size = length program.code; perm = record { bits = 5 } }

unfoldable pub vars_segment : ℕ → Program → Segment
vars_segment index program = record {
  index = index;
  address = vars_address program;
  bytes = program.vars;
  size = length program.vars + program.zero;
  perm = record { bits = 6 };
}

abbrev pub program_list : Program → List Segment
program_list program =
    if has_code program then code_segment program ∷ (if has_vars program then vars_segment 1 program ∷ [] else [])
    else (if has_vars program then vars_segment 0 program ∷ [] else [])

unfoldable pub program_segments : Program → Segments
program_segments program = record { entry = program.entry; list = program_list program }

-- a program that can be written: at most 8 MiB
abbrev pub IsWritable : Program → Type 0
IsWritable program = length program.code + length program.vars + program.zero ≤ 8388608
