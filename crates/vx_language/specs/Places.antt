-- Where the statements and labels of a source stand: the section of each, its offset there, and its address; and the faults
-- that depend on it. This project's own.
use Rattle.std.specs.Prelude.{ℕ, ◌+◌, ◌%◌, Bool, true, false, not, ◌==◌, ◌&&◌, nat_lt, ℤ, pos, ◌-ℤ◌, List, [], ◌∷◌, ◌++◌, find, drop, bytes_eq, Option, Some, None, option_map, unwrap_or, if◌then◌else◌}
use Rattle.std.specs.List.{list_any}
use Rattle.vx_elf.specs.Writing.{whole_pages}
use Rattle.vx_language.specs.Faults.{fault_at}
use Rattle.vx_language.specs.Forms.{Section, OfCode, OfVariables, Form, Action, Enters, Puts}
use Rattle.vx_language.specs.Lexemes.{Piece, is_a}
use Rattle.vx_language.specs.Lines.{Line, labels_before, behind_labels}
use Rattle.vx_language.specs.Slots.{Slot, Offset, is_offset}
use Rattle.vx_language.specs.Statements.{chunk_size, forms_for, statement_faults, statement_form, statement_chunk}
use Rattle.vx_language.specs.Tokens.{bad_pieces}
use Rattle.vx_language.specs.declared.fault.Fault.{Fault}
use Rattle.vx_language.specs.declared.fault.FaultKind.TheVariants.{BadOperand, OutOfRange, TooLarge}
use Rattle.vx_language.specs.declared.token.TokenKind.TheVariants as token

-- where a line stands: the section, and how many bytes of each section stand before it
pub record Place : Type 0 where
  pub section : Section
  pub code : ℕ
  pub variables : ℕ

-- a source begins with the code
abbrev pub first_place : Place
first_place = record { section = OfCode; code = 0; variables = 0 }

abbrev pub offset_in : Place → Section → ℕ
offset_in place OfCode = place.code
offset_in place OfVariables = place.variables

-- the offset in its section
abbrev pub offset_of : Place → ℕ
offset_of place = offset_in place place.section

abbrev pub advanced_in : Place → ℕ → Section → Place
advanced_in place size OfCode = record place { code = place.code + size }
advanced_in place size OfVariables = record place { variables = place.variables + size }

-- the place behind so many bytes
abbrev pub advanced : Place → ℕ → Place
advanced place size = advanced_in place size place.section

-- the statement of a line
abbrev pub statement_of : Line → List Piece
statement_of line = behind_labels line.tokens

-- Faults of a statement where it stands.

abbrev pub is_code : Form → Bool
is_code f = elim f.action [ Puts code ↦ true | _ ↦ false ]

-- an instruction may stand in the code, at a multiple of 4
abbrev pub may_have_code_in : Place → Section → Bool
may_have_code_in place OfCode = place.code % 4 == 0
may_have_code_in place OfVariables = false

abbrev pub name_placement_faults : Place → Piece → List Piece → List Fault
name_placement_faults place name operands =
    if is_a token.Name name && (list_any is_code (forms_for name operands) && not (may_have_code_in place place.section))
    then fault_at BadOperand name ∷ [] else []

-- an instruction that stands elsewhere is a fault
unfoldable pub placement_faults : Place → List Piece → List Fault
placement_faults place [] = []
placement_faults place (name ∷ operands) = name_placement_faults place name operands

-- the faults of a line's own statement, where labels of these names are defined: those of the statement by itself, its bad
-- tokens, and that it may not stand here
unfoldable pub own_faults : List (List ℕ) → Place → Line → List Fault
own_faults names place line =
    statement_faults names line.end (statement_of line) ++ bad_pieces (statement_of line) ++ placement_faults place (statement_of line)

abbrev pub is_faultless : List Fault → Bool
is_faultless [] = true
is_faultless (fault ∷ faults) = false

-- how many bytes a line's statement puts at its place: none where it has a fault. No label's place plays a part in this
unfoldable pub size_of : List (List ℕ) → Place → Line → ℕ
size_of names place line =
    if is_faultless (own_faults names place line) then chunk_size (statement_chunk (λ label. pos 0) (offset_of place) (statement_of line)) else 0

-- the code and the variables of a program have so many bytes at the most
abbrev pub program_room : ℕ
program_room = 8388608

abbrev pub total : Place → ℕ
total place = place.code + place.variables

abbrev pub size_faults : List Piece → ℕ → ℕ → List Fault
size_faults [] before size = []
size_faults (first ∷ more) before size =
    if not (nat_lt program_room before) && nat_lt program_room (before + size) then fault_at TooLarge first ∷ [] else []

-- the statement with which the program passes its room is a fault
unfoldable pub too_large : List (List ℕ) → Place → Line → List Fault
too_large names place line = size_faults (statement_of line) (total place) (size_of names place line)

-- Places.

abbrev pub section_behind_action : Section → Action → Section
section_behind_action section (Enters other) = other
section_behind_action section action = section

abbrev pub section_behind : Section → Option Form → Section
section_behind section None = section
section_behind section (Some f) = section_behind_action section f.action

-- the section behind a line
unfoldable pub next_section : List (List ℕ) → Place → Line → Section
next_section names place line =
    if is_faultless (own_faults names place line) then section_behind place.section (statement_form (statement_of line)) else place.section

-- the place behind a line
unfoldable pub place_behind : List (List ℕ) → Place → Line → Place
place_behind names place line =
    let next = advanced place (size_of names place line) in
    record next { section = next_section names place line }

-- a line and its place
pub record Placed : Type 0 where
  pub line : Line
  pub place : Place

-- lines with their places, where the first stands at this one
unfoldable pub placed_from : List (List ℕ) → Place → List Line → List Placed
placed_from names place [] = []
placed_from names place (line ∷ lines) = record { line = line; place = place } ∷ placed_from names (place_behind names place line) lines

-- the place behind all lines
unfoldable pub end_from : List (List ℕ) → Place → List Line → Place
end_from names place [] = place
end_from names place (line ∷ lines) = end_from names (place_behind names place line) lines

-- Addresses.

-- where a section begins in memory, where the code has so many bytes: the code at 0x10000, the variables at the next multiple
-- of 4,096 behind it
unfoldable pub section_address : ℕ → Section → ℕ
section_address code OfCode = 0x10000
section_address code OfVariables = 0x10000 + whole_pages code

-- the address of a place
abbrev pub address_of : ℕ → Place → ℕ
address_of code place = section_address code place.section + offset_of place

-- a label of this name stands on the line
abbrev pub has_label : List ℕ → Placed → Bool
has_label name placed = list_any (λ (label : Piece). bytes_eq name label.text) (labels_before placed.line.tokens)

-- the address of the label of a name, where one has it
unfoldable pub label_address : ℕ → List Placed → List ℕ → Option ℕ
label_address code lines name = option_map (λ (p : Placed). address_of code p.place) (find (has_label name) lines)

-- how far a label is from a place
unfoldable pub distance : ℕ → List Placed → Place → Piece → ℤ
distance code lines place label = pos (unwrap_or (label_address code lines label.text) 0) -ℤ pos (address_of code place)

-- Faults of offsets, where `aim` tells how far labels are.

abbrev pub offset_fault : (Piece → ℤ) → Slot → Piece → List Fault
offset_fault aim (Offset width) piece =
    if is_a token.Name piece && not (is_offset width (aim piece)) then fault_at OutOfRange piece ∷ [] else []
offset_fault aim slot piece = []

-- the offset to a label that a slot's field can't hold is a fault
unfoldable pub offset_faults : (Piece → ℤ) → List Slot → List Piece → List Fault
offset_faults aim (slot ∷ slots) (piece ∷ pieces) = offset_fault aim slot piece ++ offset_faults aim slots pieces
offset_faults aim slots pieces = []

abbrev pub form_offset_faults : (Piece → ℤ) → Option Form → List Piece → List Fault
form_offset_faults aim None operands = []
form_offset_faults aim (Some f) operands = offset_faults aim f.slots operands

abbrev pub statement_offset_faults : (Piece → ℤ) → List Piece → List Fault
statement_offset_faults aim statement = form_offset_faults aim (statement_form statement) (drop 1 statement)
