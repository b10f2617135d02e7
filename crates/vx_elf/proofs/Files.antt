-- What the reading of a file answers at each of its three parts.
use Rattle.std.proofs.Common.{◌≡◌, ℕ, List, Some, None, Ok, Err, refl}
use Rattle.vx_elf.specs.Layout.{entry_point, header_count}
use Rattle.vx_elf.specs.Reading.{kind_fault, table_fault, headers_fault, segments_of, elf_fault, segments_in, Reads, ReadsHeaders}
use Rattle.vx_elf.specs.declared.fault.ElfFault.{ElfFault}
use Rattle.vx_elf.specs.declared.fault.ElfFault.TheVariants.{NoMemory}
use Rattle.vx_elf.specs.declared.segment.Segment.{Segment}

-- a file's first fault is what the reading answers
answers : (bytes : List ℕ) (fault : ElfFault) → elf_fault bytes ≡ Some fault → Reads bytes (Err fault)
answers bytes NoMemory found = tt
answers bytes fault found = found

-- a fault of the file header
pub at_kind : (bytes : List ℕ) (fault : ElfFault) → kind_fault bytes ≡ Some fault → Reads bytes (Err fault)
unfolding elf_fault
at_kind bytes fault found = answers bytes fault (rw found refl)

-- a fault of the table
pub at_table : (bytes : List ℕ) (fault : ElfFault) → kind_fault bytes ≡ None → table_fault bytes ≡ Some fault → Reads bytes (Err fault)
unfolding elf_fault
at_table bytes fault none found = answers bytes fault (rw (none, found) refl)

-- a fault of a program header
pub at_headers : (bytes : List ℕ) (fault : ElfFault) → kind_fault bytes ≡ None → table_fault bytes ≡ None → ReadsHeaders bytes (header_count bytes) (Err fault) → Reads bytes (Err fault)
unfolding elf_fault
at_headers bytes NoMemory none whole found = tt
at_headers bytes fault none whole found = answers bytes fault (rw (none, whole) found)

-- no fault
pub at_end : (bytes : List ℕ) (list : List Segment) (entry : ℕ) → kind_fault bytes ≡ None → table_fault bytes ≡ None → headers_fault bytes (header_count bytes) ≡ None → list ≡ segments_of bytes (header_count bytes) → entry ≡ entry_point bytes → Reads bytes (Ok (record { entry = entry; list = list }))
unfolding elf_fault segments_in
at_end bytes list entry none whole faultless same entered = (rw (none, whole) faultless, rw (same, entered) refl)
