-- Statements as the assembler puts them. This project's own.
use Rattle.std.specs.Prelude.{◌≡◌, ℕ, ◌<◌, ℤ, true, List, [], ◌∷◌, Option, Some, None, unwrap_or}
use Rattle.vx_decode.specs.Encoded.{IsValid}
use Rattle.vx_decode.specs.declared.instr.Instr.{Instr}
use Rattle.vx_language.specs.Code.{Expansion, Alone, LoadsNumber, LoadsAddress}
use Rattle.vx_language.specs.Forms.{Action}
use Rattle.vx_language.specs.Lexemes.{Piece}
use Rattle.vx_language.specs.Places.{offset_faults}
use Rattle.vx_language.specs.Slots.{Slot}
use Rattle.vx_language.specs.Statements.{statement_faults, statement_form}
use Rattle.vx_statement.specs.Lexemes.{pieces_of}
use Rattle.vx_statement.specs.Ways.{commas_in, way_slots, form_of}
use Rattle.vx_statement.specs.declared.form.Form.{Form}
use Rattle.vx_statement.specs.declared.lexeme.Lexeme.{Lexeme}
use Rattle.vx_code.specs.Filling.{AreFilled}
use Rattle.vx_code.specs.Right.{is_right_action}
use Rattle.vx_code.specs.declared.fill.Filled.{Filled}
use denote.Ref.{Bor}

-- an instruction with what is filled in
abbrev pub instr_with : Instr → Filled → Instr
instr_with i filled = record {
  op = i.op;
  rd = filled.rd;
  rs1 = filled.rs1;
  rs2 = filled.rs2;
  imm = unwrap_or filled.target filled.imm;
  vm = filled.vm;
  nf = i.nf;
}

-- the instructions that it stands for are valid
abbrev pub MayBePut : Expansion → Instr → Filled → Type 0
MayBePut Alone i filled = IsValid (instr_with i filled)
MayBePut LoadsNumber i filled = filled.rd < 32
MayBePut LoadsAddress i filled = filled.rd < 32

-- the slots of a form, for these tokens
abbrev pub slots_for : Form → List Lexeme → List Slot
slots_for form operands = way_slots (commas_in (pieces_of operands)) form.way

-- a statement may be put: its tokens fill its slots, these are those of its action, and its labels are in reach
pub record IsSound (aim : Piece → ℤ) (slots : List Slot) (pieces : List Piece) (action : Action) : Type 0 where
  pub filled : AreFilled slots pieces
  pub right : is_right_action slots action ≡ true
  pub reach : offset_faults aim slots pieces ≡ []

-- a statement has no fault by itself, where some labels are defined
abbrev pub IsFaultless : List Piece → Type 0
IsFaultless statement = (names : List (List ℕ)) × (end : ℕ) × (statement_faults names end statement ≡ [])

-- the form of a statement, and the tokens behind its name, or none
abbrev pub IsFormOf : List Lexeme → Option (Form × Bor (List Lexeme)) → Type 0
IsFormOf statement None = statement_form (pieces_of statement) ≡ None
IsFormOf statement (Some found) =
    (name : Lexeme)
    × (statement ≡ name ∷ found.1.now)
    × (statement_form (pieces_of statement) ≡ Some (form_of name.text.now (commas_in (pieces_of found.1.now)) found.0))
