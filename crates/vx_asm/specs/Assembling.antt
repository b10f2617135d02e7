-- What the assembler answers. This project's own.
use Rattle.std.specs.Prelude.{◌≡◌, ℕ, List, [], Option, Some, None, Result, Ok, Err}
use Rattle.vx_elf.specs.Writing.{IsWritable}
use Rattle.vx_elf.specs.declared.program.Program.{Program}
use Rattle.vx_language.specs.Assembly.{faults, first_fault, assembled}
use Rattle.vx_language.specs.declared.fault.Fault.{Fault}
use Rattle.vx_language.specs.declared.fault.FaultKind.{FaultKind}
use Rattle.vx_language.specs.declared.fault.FaultKind.TheVariants as kind
use Rattle.vx_language.specs.declared.token.Span.{Span}
use Rattle.vx_asm.specs.declared.asm_fault.AsmFault.{AsmFault}
use Rattle.vx_asm.specs.declared.asm_fault.AsmFault.TheVariants.{BadByte, BadToken, UnknownName, BadOperand, OutOfRange, Twice, Undefined, TooLarge, NoMemory}

abbrev pub fault_in : FaultKind → Span → Option Fault
fault_in kind span = Some (record { kind = kind; span = span })

-- the fault of a source that an answer tells
abbrev pub fault_told : AsmFault → Option Fault
fault_told (BadByte span) = fault_in kind.BadByte span
fault_told (BadToken span) = fault_in kind.BadToken span
fault_told (UnknownName span) = fault_in kind.UnknownName span
fault_told (BadOperand span) = fault_in kind.BadOperand span
fault_told (OutOfRange span) = fault_in kind.OutOfRange span
fault_told (Twice span) = fault_in kind.Twice span
fault_told (Undefined span) = fault_in kind.Undefined span
fault_told (TooLarge span) = fault_in kind.TooLarge span
fault_told NoMemory = None

-- it is the first fault of the source, where the answer tells one
abbrev pub Tells : List ℕ → Option Fault → Type 0
Tells source None = Unit {0}
Tells source (Some fault) = first_fault source ≡ Some fault

-- the source has no fault, and this is its program
pub record IsAssembled (source : List ℕ) (made : Program) : Type 0 where
  pub faultless : faults source ≡ []
  pub program : made ≡ assembled source
  pub writable : IsWritable made

-- what each answer says
abbrev pub Assembles : List ℕ → Result Program AsmFault → Type 0
Assembles source (Ok program) = IsAssembled source program
Assembles source (Err fault) = Tells source (fault_told fault)
