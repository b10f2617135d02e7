-- The forms of statements: what stands behind each name, and what the statement does. This project's own; the directives
-- are among the GNU assembler's, the pseudo-statements among those of the RISC-V Assembly Programmer's Manual.
use Rattle.std.specs.Prelude.{ℕ, zero, suc, pos, List, [], ◌∷◌, ◌++◌, map, filter, bytes_eq, codes, Option, Some, None}
use Rattle.vx_rows.specs.declared.op.Op.TheVariants.{Scalar}
use Rattle.vx_rows.specs.declared.op.ScalarOp.TheVariants.{Jal, Jalr, Beq, Bne, Addi, Fence, Csrrs}
use Rattle.vx_source.specs.Operands.{operand_kinds}
use Rattle.vx_decode.specs.declared.instr.Instr.{Instr}
use Rattle.vx_language.specs.Code.{Code, Expansion, Alone, LoadsNumber, LoadsAddress}
use Rattle.vx_language.specs.Names.{bare_instr, instr_named, scalar_instr}
use Rattle.vx_language.specs.Slots.{Slot, Rd, Rs1, Immediate, Offset, Label, ControlRegister, Datum, Text, Symbol, Range, comma, signed_range, unsigned_range, either_range, operand_ways}

pub data Section : Type 0 where
  OfCode : Section
  OfVariables : Section

-- what a statement does
pub data Action : Type 0 where
  -- chooses a section
  Enters : Section → Action
  -- puts its numbers, each in so many bytes; a text's bytes; so many zeros; zeros up to a multiple of a power of two
  PutsNumbers : ℕ → Action
  PutsText : Action
  PutsZeros : Action
  Aligns : Action
  -- puts the words of instructions
  Puts : Code → Action
  -- has no effect
  Rests : Action

-- a form of a statement: its name, the slots behind it, and what it does
pub record Form : Type 0 where
  pub name : List ℕ
  pub slots : List Slot
  pub action : Action

abbrev pub form : List ℕ → List Slot → Action → Form
form name slots action = record { name = name; slots = slots; action = action }

-- a number of this range, and so many more behind commas
abbrev pub numbers : Range → ℕ → List Slot
numbers range zero = Datum range ∷ []
numbers range (suc more) = Datum range ∷ comma ∷ numbers range more

-- the directives, where so many commas stand on the line: a list of numbers has one number more
unfoldable pub directives : ℕ → List Form
directives commas =
    form (codes ".text") [] (Enters OfCode) ∷
    form (codes ".data") [] (Enters OfVariables) ∷
    form (codes ".byte") (numbers (either_range 8) commas) (PutsNumbers 1) ∷
    form (codes ".half") (numbers (either_range 16) commas) (PutsNumbers 2) ∷
    form (codes ".word") (numbers (either_range 32) commas) (PutsNumbers 4) ∷
    form (codes ".dword") (numbers (either_range 64) commas) (PutsNumbers 8) ∷
    form (codes ".ascii") (Text ∷ []) PutsText ∷
    form (codes ".zero") (Datum (unsigned_range 64) ∷ []) PutsZeros ∷
    form (codes ".align") (Datum (record { least = pos 0; greatest = pos 12 }) ∷ []) Aligns ∷
    form (codes ".globl") (Symbol ∷ []) Rests ∷
    []

-- a statement gives this instruction, with the operands that its slots fill
abbrev pub alone : Instr → Action
alone i = Puts (record { expansion = Alone; instr = i; target = None })

-- a statement gives the instructions that load a number or an address
abbrev pub loading : Expansion → Action
loading expansion = Puts (record { expansion = expansion; instr = bare_instr (Scalar Addi); target = None })

-- the pseudo-statements; `fence` without operands orders all accesses
unfoldable pub pseudo_statements : List Form
pseudo_statements =
    form (codes "nop") [] (alone (bare_instr (Scalar Addi))) ∷
    form (codes "mv") (Rd ∷ comma ∷ Rs1 ∷ []) (alone (bare_instr (Scalar Addi))) ∷
    form (codes "j") (Offset 21 ∷ []) (alone (bare_instr (Scalar Jal))) ∷
    form (codes "jr") (Rs1 ∷ []) (alone (bare_instr (Scalar Jalr))) ∷
    form (codes "ret") [] (alone (scalar_instr (Scalar Jalr) 0 1 0 (pos 0))) ∷
    form (codes "beqz") (Rs1 ∷ comma ∷ Offset 13 ∷ []) (alone (bare_instr (Scalar Beq))) ∷
    form (codes "bnez") (Rs1 ∷ comma ∷ Offset 13 ∷ []) (alone (bare_instr (Scalar Bne))) ∷
    form (codes "csrr") (Rd ∷ comma ∷ ControlRegister ∷ []) (alone (bare_instr (Scalar Csrrs))) ∷
    form (codes "fence") [] (alone (scalar_instr (Scalar Fence) 0 0 0 (pos 255))) ∷
    form (codes "li") (Rd ∷ comma ∷ Immediate (signed_range 32) ∷ []) (loading LoadsNumber) ∷
    form (codes "la") (Rd ∷ comma ∷ Label ∷ []) (loading LoadsAddress) ∷
    []

-- the forms of an instruction, in each of the ways to write its operands
abbrev pub instr_forms : List ℕ → Option Instr → List Form
instr_forms name None = []
instr_forms name (Some i) = map (λ slots. form name slots (alone i)) (operand_ways (operand_kinds i.op))

-- all forms of a name, where so many commas stand on the line; none where the name is unknown
unfoldable pub forms_of : ℕ → List ℕ → List Form
forms_of commas name =
    filter (λ (f : Form). bytes_eq name f.name) (directives commas ++ pseudo_statements)
    ++ instr_forms name (instr_named name)
