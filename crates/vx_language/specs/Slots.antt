-- What stands behind a statement's name, token by token. A slot is the place of one token: which tokens it takes, and
-- which faults a token that it takes has. This project's own; syntax after the GNU assembler's.
use Rattle.std.specs.Prelude.{ℕ, ◌-◌, ◌^◌, Bool, ◌==◌, ◌&&◌, ◌||◌, ℤ, pos, neg_ℤ, int_le, int_rem, unsigned_abs, List, [], ◌∷◌, ◌++◌, map, flat_map, drop, is_some, bytes_eq, codes, if◌then◌else◌}
use Rattle.std.specs.List.{list_any}
use Rattle.vx_source.specs.declared.operand.OperandKind.{OperandKind}
use Rattle.vx_source.specs.declared.operand.OperandKind.TheVariants as operand
use Rattle.vx_source.specs.declared.vtype.VtypeField.{VtypeField}
use Rattle.vx_source.specs.declared.vtype.VtypeField.TheVariants as vtype
use Rattle.vx_language.specs.Faults.{fault_at}
use Rattle.vx_language.specs.Lexemes.{Piece, is_a}
use Rattle.vx_language.specs.Numerals.{number_value}
use Rattle.vx_language.specs.Lines.{is_the_mark}
use Rattle.vx_language.specs.Names.{register_number, vector_number, vtype_number, control_number}
use Rattle.vx_language.specs.declared.fault.Fault.{Fault}
use Rattle.vx_language.specs.declared.fault.FaultKind.TheVariants.{OutOfRange, Undefined}
use Rattle.vx_language.specs.declared.token.TokenKind.TheVariants as token

-- the numbers from one to another
pub record Range : Type 0 where
  pub least : ℤ
  pub greatest : ℤ

abbrev pub signed_range : ℕ → Range
signed_range width = record { least = neg_ℤ (pos (2 ^ (width - 1))); greatest = pos (2 ^ (width - 1) - 1) }

abbrev pub unsigned_range : ℕ → Range
unsigned_range width = record { least = pos 0; greatest = pos (2 ^ width - 1) }

-- the numbers that are signed or unsigned ones of a width
abbrev pub either_range : ℕ → Range
either_range width = record { least = neg_ℤ (pos (2 ^ (width - 1))); greatest = pos (2 ^ width - 1) }

abbrev pub is_within : Range → ℤ → Bool
is_within range value = int_le range.least value && int_le value range.greatest

-- an offset in bytes fits a field of this width: it is a signed number of it, and even
unfoldable pub is_offset : ℕ → ℤ → Bool
is_offset width value = is_within (signed_range width) value && unsigned_abs (int_rem value (pos 2)) == 0

pub data Slot : Type 0 where
  -- the name of an integer register: the instruction's rd, rs1 or rs2
  Rd : Slot
  Rs1 : Slot
  Rs2 : Slot
  -- the name of a vector register: the instruction's vd or vs3, vs1 or vs2
  Vd : Slot
  Vs1 : Slot
  Vs2 : Slot
  -- `v0.t`, or `v0` as an operand: the instruction's vm is 0
  Masked : Slot
  Carry : Slot
  -- the word of a field of vtype: its part of the immediate
  VtypeWord : VtypeField → Slot
  -- a number of this range: the immediate, or what stands in the place of rs1
  Immediate : Range → Slot
  SourceField : Range → Slot
  -- a target: a label, or how many bytes it is away, an even number of this width
  Offset : ℕ → Slot
  -- a label
  Label : Slot
  -- a control register: its name, or its number of 12 bits
  ControlRegister : Slot
  -- a directive's number of this range, its text, or its name
  Datum : Range → Slot
  Text : Slot
  Symbol : Slot
  -- a mark
  Mark : List ℕ → Slot

abbrev pub comma : Slot
comma = Mark (codes ",")

-- the token is this name
abbrev pub is_the_name : List ℕ → Piece → Bool
is_the_name name piece = is_a token.Name piece && bytes_eq piece.text name

-- the slot takes the token
unfoldable pub takes : Slot → Piece → Bool
takes Rd piece = is_a token.Name piece && is_some (register_number piece.text)
takes Rs1 piece = is_a token.Name piece && is_some (register_number piece.text)
takes Rs2 piece = is_a token.Name piece && is_some (register_number piece.text)
takes Vd piece = is_a token.Name piece && is_some (vector_number piece.text)
takes Vs1 piece = is_a token.Name piece && is_some (vector_number piece.text)
takes Vs2 piece = is_a token.Name piece && is_some (vector_number piece.text)
takes Masked piece = is_the_name (codes "v0.t") piece
takes Carry piece = is_the_name (codes "v0") piece
takes (VtypeWord f) piece = is_a token.Name piece && is_some (vtype_number f piece.text)
takes (Immediate range) piece = is_a token.Number piece
takes (SourceField range) piece = is_a token.Number piece
takes (Offset width) piece = is_a token.Name piece || is_a token.Number piece
takes Label piece = is_a token.Name piece
takes ControlRegister piece = is_a token.Number piece || (is_a token.Name piece && is_some (control_number piece.text))
takes (Datum range) piece = is_a token.Number piece
takes Text piece = is_a token.Quoted piece
takes Symbol piece = is_a token.Name piece
takes (Mark text) piece = is_the_mark text piece

-- a number's fault, where it isn't one that may stand there
abbrev pub number_faults : Bool → Piece → List Fault
number_faults fits piece = if fits then [] else fault_at OutOfRange piece ∷ []

-- a use of a label is a fault where none of these names is its name
abbrev pub label_faults : List (List ℕ) → Piece → List Fault
label_faults names piece = if list_any (bytes_eq piece.text) names then [] else fault_at Undefined piece ∷ []

-- the faults of a token that a slot takes, where labels of these names are defined
unfoldable pub token_faults : List (List ℕ) → Slot → Piece → List Fault
token_faults names (Immediate range) piece = number_faults (is_within range (number_value piece.text)) piece
token_faults names (SourceField range) piece = number_faults (is_within range (number_value piece.text)) piece
token_faults names (Datum range) piece = number_faults (is_within range (number_value piece.text)) piece
token_faults names (Offset width) piece =
    if is_a token.Name piece then label_faults names piece else number_faults (is_offset width (number_value piece.text)) piece
token_faults names Label piece = label_faults names piece
token_faults names ControlRegister piece =
    if is_a token.Name piece then [] else number_faults (is_within (unsigned_range 12) (number_value piece.text)) piece
token_faults names slot piece = []

-- Operands of instructions: the same kinds by which lines are written.

-- the ways to write an operand of each kind, each a list of slots; an empty one leaves the operand out
abbrev pub ways : OperandKind → List (List Slot)
ways operand.Destination = (Rd ∷ []) ∷ []
ways operand.FirstSource = (Rs1 ∷ []) ∷ []
ways operand.SecondSource = (Rs2 ∷ []) ∷ []
ways (operand.Signed width) = (Immediate (signed_range width) ∷ []) ∷ []
ways (operand.Unsigned width) = (Immediate (unsigned_range width) ∷ []) ∷ []
ways (operand.Target width) = (Offset width ∷ []) ∷ []
ways operand.Address = (Immediate (signed_range 12) ∷ Mark (codes "(") ∷ Rs1 ∷ Mark (codes ")") ∷ []) ∷ []
ways operand.Control = (ControlRegister ∷ []) ∷ []
ways operand.SourceNumber = (SourceField (unsigned_range 5) ∷ []) ∷ []
ways operand.VectorDestination = (Vd ∷ []) ∷ []
ways operand.FirstVector = (Vs1 ∷ []) ∷ []
ways operand.SecondVector = (Vs2 ∷ []) ∷ []
ways operand.Base = (Mark (codes "(") ∷ Rs1 ∷ Mark (codes ")") ∷ []) ∷ []
ways (operand.Vtype width) =
    (VtypeWord vtype.Sew ∷ comma ∷ VtypeWord vtype.Lmul ∷ comma ∷ VtypeWord vtype.Tail ∷ comma ∷ VtypeWord vtype.Mask ∷ [])
    ∷ (Immediate (unsigned_range width) ∷ [])
    ∷ []
ways operand.Masked = [] ∷ (Masked ∷ []) ∷ []
ways operand.Carry = (Carry ∷ []) ∷ []

-- an operand that isn't left out, with a comma before it, and what stands behind it
abbrev pub behind_comma : List Slot → List Slot → List Slot
behind_comma [] slots = slots
behind_comma (first ∷ more) slots = comma ∷ first ∷ more ++ slots

-- the ways to write operands of these kinds, each behind a comma
unfoldable pub ways_behind_commas : List OperandKind → List (List Slot)
ways_behind_commas [] = [] ∷ []
ways_behind_commas (kind ∷ kinds) =
    flat_map (λ slots. map (λ way. behind_comma way slots) (ways kind)) (ways_behind_commas kinds)

-- the ways to write operands of these kinds: with a comma between each two
abbrev pub operand_ways : List OperandKind → List (List Slot)
operand_ways kinds = map (drop 1) (ways_behind_commas kinds)
