-- The notes: one line for each status that has one. This project's own.
use Rattle.std.specs.Prelude.{ℕ, List, [], ◌∷◌, codes, decimal}
use Rattle.vx_base.specs.Hex.{hex_digits}
use Rattle.vx_elf.specs.declared.fault.ElfFault.{ElfFault}
use Rattle.vx_elf.specs.declared.fault.ElfFault.TheVariants as elf
use Rattle.vx_elf.specs.declared.fault.ElfFault.TheVariants.{Short, NotElf, NotRiscv, NotExec, Compressed, BadTable, Interp, BadRange, Overlap}
use Rattle.vx_image.specs.declared.fault.ImageFault.{ImageFault}
use Rattle.vx_image.specs.declared.fault.ImageFault.TheVariants as image
use Rattle.vx_image.specs.declared.fault.ImageFault.TheVariants.{RawLength, WriteExec, TooManyPages, EntryNotCode}
use Rattle.vx_language.specs.declared.fault.Fault.{Fault}
use Rattle.vx_words.specs.Lines.{line}
use Rattle.vx_words.specs.Sources.{line_number, column_number, source_fault_text}
use Rattle.vx_words.specs.declared.file_fault.FileFault.{FileFault}
use Rattle.vx_words.specs.declared.file_fault.FileFault.TheVariants.{TooLong, BadElf, NoImage}

-- how many bytes a file may have: 32 MiB
abbrev pub file_limit : ℕ
file_limit = 33554432

-- want of memory is no fault of a file, and has a note of its own
abbrev pub elf_words : ElfFault → List (List ℕ)
elf_words (Short need there) = codes "short: " ∷ decimal need ∷ codes " bytes needed, " ∷ decimal there ∷ codes " there" ∷ []
elf_words NotElf = codes "not ELF" ∷ []
elf_words (NotRiscv machine) = codes "machine " ∷ decimal machine ∷ []
elf_words (NotExec kind) = codes "type " ∷ decimal kind ∷ []
elf_words Compressed = codes "compressed code" ∷ []
elf_words (BadTable place) = codes "bad table at " ∷ decimal place ∷ []
elf_words (Interp index) = codes "interpreter at header " ∷ decimal index ∷ []
elf_words (BadRange index) = codes "bad range at header " ∷ decimal index ∷ []
elf_words (Overlap one other) = codes "segments " ∷ decimal one ∷ codes " and " ∷ decimal other ∷ codes " overlap" ∷ []
elf_words elf.NoMemory = []

abbrev pub image_words : ImageFault → List (List ℕ)
image_words (RawLength n) = codes "raw length " ∷ decimal n ∷ []
image_words (WriteExec page) = codes "page " ∷ decimal page ∷ codes " is writable and executable" ∷ []
image_words (TooManyPages n) = decimal n ∷ codes " pages" ∷ []
image_words (EntryNotCode entry) = codes "entry 0x" ∷ hex_digits 16 entry ∷ codes " is not code" ∷ []
image_words image.NoMemory = []

abbrev pub fault_words : FileFault → List (List ℕ)
fault_words TooLong = codes "longer than " ∷ decimal file_limit ∷ codes " bytes" ∷ []
fault_words (BadElf fault) = elf_words fault
fault_words (NoImage fault) = image_words fault

-- a note is a line that begins with the program's name
abbrev pub note : List (List ℕ) → List ℕ
note words = line (codes "vexec: " ∷ words)

abbrev pub bad_words : ℕ → List ℕ
bad_words index = note (codes "bad words at " ∷ decimal index ∷ [])

abbrev pub read_failed : List ℕ → List ℕ
read_failed name = note (name ∷ codes ": read failed" ∷ [])

abbrev pub bad_image : List ℕ → FileFault → List ℕ
bad_image name fault = note (name ∷ codes ": " ∷ fault_words fault)

abbrev pub write_failed : List ℕ
write_failed = note (codes "write failed" ∷ [])

-- so many frames are needed, and so many are there
abbrev pub too_few_frames : (need have : ℕ) → List ℕ
too_few_frames need have = note (codes "frames: " ∷ decimal need ∷ codes " needed, " ∷ decimal have ∷ codes " given" ∷ [])

abbrev pub no_memory : List ℕ
no_memory = note (codes "no memory" ∷ [])

-- a source's fault: where it is, and what it is
abbrev pub bad_source : List ℕ → List ℕ → Fault → List ℕ
bad_source name source fault =
    note (name ∷ codes ":" ∷ decimal (line_number source fault.span.start) ∷ codes ":" ∷ decimal (column_number source fault.span.start) ∷ codes ": " ∷ source_fault_text fault.kind ∷ [])
