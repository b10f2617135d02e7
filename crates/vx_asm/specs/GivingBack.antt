-- Answers to the line of a word. This project's own.
use Rattle.std.specs.Prelude.{◌≡◌, ℕ, Result, Ok, Err}
use Rattle.vx_base.specs.Numbers.{little_endian}
use Rattle.vx_elf.specs.declared.program.Program.{Program}
use Rattle.vx_asm.specs.declared.asm_fault.AsmFault.{AsmFault}
use Rattle.vx_asm.specs.declared.asm_fault.AsmFault.TheVariants.{NoMemory}

-- an answer gives a word back: the program's code is the word, or memory is wanting
abbrev pub GivesBack : ℕ → Result Program AsmFault → Type 0
GivesBack word (Ok program) = program.code ≡ little_endian 4 word
GivesBack word (Err fault) = fault ≡ NoMemory
