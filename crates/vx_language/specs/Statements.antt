-- One statement: the faults that it has by itself, and what it puts into its section. This project's own.
use Rattle.std.specs.Prelude.{ℕ, ◌-◌, ◌*◌, ◌^◌, Bool, true, false, ◌&&◌, ℤ, unsigned_abs, List, [], ◌∷◌, ◌++◌, length, map, filter, flat_map, drop, find, replicate, count_by, codes, Option, Some, None, if◌then◌else◌}
use Rattle.std.specs.List.{list_any}
use Rattle.std.specs.Int.{next_multiple_of}
use Rattle.vx_base.specs.Numbers.{reduced, little_endian}
use Rattle.vx_decode.specs.declared.instr.Instr.{Instr}
use Rattle.vx_language.specs.Code.{Code, filled_all, expanded, instr_bytes}
use Rattle.vx_language.specs.Faults.{fault_at}
use Rattle.vx_language.specs.Forms.{Form, forms_of, Action, Enters, PutsNumbers, PutsText, PutsZeros, Aligns, Puts, Rests}
use Rattle.vx_language.specs.Lexemes.{Piece, is_a}
use Rattle.vx_language.specs.Numerals.{number_value}
use Rattle.vx_language.specs.Texts.{text_bytes}
use Rattle.vx_language.specs.Lines.{is_the_mark}
use Rattle.vx_language.specs.Slots.{Slot, takes, token_faults}
use Rattle.vx_language.specs.declared.fault.Fault.{Fault}
use Rattle.vx_language.specs.declared.fault.FaultKind.TheVariants.{UnknownName, BadOperand}
use Rattle.vx_language.specs.declared.token.TokenKind.TheVariants as token

-- the forms of a statement with this name and these tokens behind it
unfoldable pub forms_for : Piece → List Piece → List Form
forms_for name operands = forms_of (count_by (is_the_mark (codes ",")) operands) name.text

-- Faults.

-- slots go on with a token: there is one more, and it takes it
abbrev pub go_on_with : Piece → List Slot → Bool
go_on_with piece [] = false
go_on_with piece (slot ∷ slots) = takes slot piece

-- the faults of a token that the first of these slots takes
abbrev pub first_slot_faults : List (List ℕ) → Piece → List Slot → List Fault
first_slot_faults names piece [] = []
first_slot_faults names piece (slot ∷ slots) = token_faults names slot piece

abbrev pub is_done : List Slot → Bool
is_done [] = true
is_done (slot ∷ slots) = false

-- the line ends too early: a fault without a byte
abbrev pub ends_too_early : ℕ → Fault
ends_too_early end = record { kind = BadOperand; span = record { start = end; end = end } }

-- the faults of tokens up to the line's end, where these are the ways in which a statement of the name can go on: the first
-- token with which none goes on is one; a token before it may have one of its own
unfoldable pub operand_faults : List (List ℕ) → ℕ → List (List Slot) → List Piece → List Fault
operand_faults names end ways [] = if list_any is_done ways then [] else ends_too_early end ∷ []
operand_faults names end ways (piece ∷ pieces) =
    elim (filter (go_on_with piece) ways) [
      | [] ↦ fault_at BadOperand piece ∷ []
      | way ∷ more ↦ first_slot_faults names piece way ++ operand_faults names end (map (drop 1) (way ∷ more)) pieces
    ]

-- the faults of a statement of this name
unfoldable pub named_faults : List (List ℕ) → ℕ → Piece → List Piece → List Fault
named_faults names end name operands =
    elim (forms_for name operands) [
      | [] ↦ fault_at UnknownName name ∷ []
      | first ∷ more ↦ operand_faults names end (map (λ (f : Form). f.slots) (first ∷ more)) operands
    ]

-- the faults of a statement of these tokens, on a line that ends at this offset, where labels of these names are defined
unfoldable pub statement_faults : List (List ℕ) → ℕ → List Piece → List Fault
statement_faults names end [] = []
statement_faults names end (first ∷ operands) =
    if is_a token.Name first then named_faults names end first operands else fault_at BadOperand first ∷ []

-- Effects, of a statement without a fault.

-- the slots take the tokens, one each
unfoldable pub take_all : List Slot → List Piece → Bool
take_all [] [] = true
take_all (slot ∷ slots) (piece ∷ pieces) = takes slot piece && take_all slots pieces
take_all slots pieces = false

-- the form that a statement has
unfoldable pub form_for : Piece → List Piece → Option Form
form_for name operands = find (λ (f : Form). take_all f.slots operands) (forms_for name operands)

-- what a statement puts into its section: bytes, or zeros that needn't be in the file
pub data Chunk : Type 0 where
  Plain : List ℕ → Chunk
  Zeros : ℕ → Chunk

abbrev pub chunk_size : Chunk → ℕ
chunk_size (Plain bytes) = length bytes
chunk_size (Zeros count) = count

abbrev pub chunk_bytes : Chunk → List ℕ
chunk_bytes (Plain bytes) = bytes
chunk_bytes (Zeros count) = replicate count 0

-- the numbers among tokens
unfoldable pub numbers_in : List Piece → List ℤ
numbers_in operands = map (λ (piece : Piece). number_value piece.text) (filter (is_a token.Number) operands)

-- the one number of `.zero` or `.align`
unfoldable pub count_in : List Piece → ℕ
count_in [] = 0
count_in (piece ∷ pieces) = unsigned_abs (number_value piece.text)

-- an instruction whose immediate is the offset of its label, where it has one
abbrev pub aimed : (Piece → ℤ) → Option Piece → Instr → Instr
aimed aim None i = i
aimed aim (Some label) i = record i { imm = aim label }

abbrev pub code_instrs : (Piece → ℤ) → Code → List Instr
code_instrs aim code = expanded code.expansion (aimed aim code.target code.instr)

-- what an action with these tokens in its slots puts at an offset of its section, where `aim` tells how far labels are
unfoldable pub chunk_of : (Piece → ℤ) → ℕ → List Slot → List Piece → Action → Chunk
chunk_of aim offset slots operands (Enters section) = Plain []
chunk_of aim offset slots operands (PutsNumbers count) = Plain (flat_map (λ value. little_endian count (reduced (8 * count) value)) (numbers_in operands))
chunk_of aim offset slots operands PutsText = Plain (flat_map (λ (piece : Piece). text_bytes false (drop 1 piece.text)) operands)
chunk_of aim offset slots operands PutsZeros = Zeros (count_in operands)
chunk_of aim offset slots operands Aligns = Plain (replicate (next_multiple_of offset (2 ^ count_in operands) - offset) 0)
chunk_of aim offset slots operands (Puts code) = Plain (instr_bytes (code_instrs aim (filled_all slots operands code)))
chunk_of aim offset slots operands Rests = Plain []

-- the form of a statement, and the tokens behind its name
unfoldable pub statement_form : List Piece → Option Form
statement_form [] = None
statement_form (name ∷ operands) = form_for name operands

abbrev pub form_chunk : (Piece → ℤ) → ℕ → List Piece → Option Form → Chunk
form_chunk aim offset operands None = Plain []
form_chunk aim offset operands (Some f) = chunk_of aim offset f.slots operands f.action

-- what a statement puts at an offset of its section
unfoldable pub statement_chunk : (Piece → ℤ) → ℕ → List Piece → Chunk
statement_chunk aim offset statement = form_chunk aim offset (drop 1 statement) (statement_form statement)
