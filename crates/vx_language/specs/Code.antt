-- What the tokens of an instruction's statement say: its operands, and the words that it gives. The words of `li` and `la`
-- are those of the RISC-V Assembly Programmer's Manual, pseudoinstructions; that they are never fewer or more than here is
-- this project's own.
use Rattle.std.specs.Prelude.{ℕ, ◌+◌, ◌*◌, ◌^◌, false, ℤ, pos, ◌+ℤ◌, unsigned_abs, List, [], ◌∷◌, flat_map, Option, Some, unwrap_or, if◌then◌else◌}
use Rattle.vx_base.specs.Numbers.{reduced, signed, field, little_endian}
use Rattle.vx_decode.specs.Encoded.{word_of}
use Rattle.vx_decode.specs.declared.instr.Instr.{Instr}
use Rattle.vx_rows.specs.declared.op.Op.TheVariants.{Scalar}
use Rattle.vx_rows.specs.declared.op.ScalarOp.TheVariants.{Lui, Auipc, Addi, Addiw}
use Rattle.vx_language.specs.Lexemes.{Piece, is_a}
use Rattle.vx_language.specs.Numerals.{number_value}
use Rattle.vx_source.specs.Vtypes.{vtype_words}
use Rattle.vx_source.specs.declared.vtype.VtypeField.{VtypeField}
use Rattle.vx_language.specs.Names.{register_number, vector_number, vtype_number, control_number, scalar_instr}
use Rattle.vx_language.specs.Slots.{Slot, Rd, Rs1, Rs2, Vd, Vs1, Vs2, Masked, Carry, VtypeWord, Immediate, SourceField, Offset, Label, ControlRegister, signed_range, is_within}
use Rattle.vx_language.specs.declared.token.TokenKind.TheVariants as token

-- which instructions a statement gives: the one that it names, those that load a number, or those that load an address
pub data Expansion : Type 0 where
  Alone : Expansion
  LoadsNumber : Expansion
  LoadsAddress : Expansion

-- a statement's instruction, and the label whose offset is its immediate, where there is one
pub record Code : Type 0 where
  pub expansion : Expansion
  pub instr : Instr
  pub target : Option Piece

-- the number of a register, a vector register or a control register of this name, where one has it
abbrev pub register_of : Piece → ℕ
register_of piece = unwrap_or (register_number piece.text) 0

abbrev pub vector_of : Piece → ℕ
vector_of piece = unwrap_or (vector_number piece.text) 0

abbrev pub control_of : Piece → ℕ
control_of piece = unwrap_or (control_number piece.text) 0

-- what the word of a field adds to the 8 bits of vtype
abbrev pub vtype_part : VtypeField → Piece → ℕ
vtype_part f piece = unwrap_or (vtype_number f piece.text) 0 * 2 ^ (vtype_words f).low

abbrev pub with_immediate : ℤ → Code → Code
with_immediate value code = record code { instr = record code.instr { imm = value } }

-- the code with the operand that a token in a slot is
unfoldable pub filled : Slot → Piece → Code → Code
filled Rd piece code = record code { instr = record code.instr { rd = register_of piece } }
filled Rs1 piece code = record code { instr = record code.instr { rs1 = register_of piece } }
filled Rs2 piece code = record code { instr = record code.instr { rs2 = register_of piece } }
filled Vd piece code = record code { instr = record code.instr { rd = vector_of piece } }
filled Vs1 piece code = record code { instr = record code.instr { rs1 = vector_of piece } }
filled Vs2 piece code = record code { instr = record code.instr { rs2 = vector_of piece } }
filled Masked piece code = record code { instr = record code.instr { vm = false } }
filled Carry piece code = record code { instr = record code.instr { vm = false } }
filled (VtypeWord f) piece code = with_immediate (pos (reduced 8 (code.instr.imm +ℤ pos (vtype_part f piece)))) code
filled (Immediate range) piece code = with_immediate (number_value piece.text) code
filled (SourceField range) piece code = record code { instr = record code.instr { rs1 = unsigned_abs (number_value piece.text) } }
filled (Offset width) piece code =
    if is_a token.Name piece then record code { target = Some piece } else with_immediate (number_value piece.text) code
filled Label piece code = record code { target = Some piece }
filled ControlRegister piece code =
    with_immediate (if is_a token.Name piece then pos (control_of piece) else number_value piece.text) code
filled slot piece code = code

-- the code with all of its operands
unfoldable pub filled_all : List Slot → List Piece → Code → Code
filled_all (slot ∷ slots) (piece ∷ pieces) code = filled_all slots pieces (filled slot piece code)
filled_all slots pieces code = code

-- a number of 32 bits as the immediates of `lui` or `auipc` and of the addition behind it
unfoldable pub upper_part : ℤ → ℤ
upper_part value = pos (field (reduced 32 (value +ℤ pos (2 ^ 11))) 12 20)

unfoldable pub lower_part : ℤ → ℤ
lower_part value = signed 12 (reduced 12 value)

-- the instructions that an instruction stands for
unfoldable pub expanded : Expansion → Instr → List Instr
expanded Alone i = i ∷ []
expanded LoadsNumber i =
    if is_within (signed_range 12) i.imm then scalar_instr (Scalar Addi) i.rd 0 0 i.imm ∷ []
    else scalar_instr (Scalar Lui) i.rd 0 0 (upper_part i.imm) ∷ scalar_instr (Scalar Addiw) i.rd i.rd 0 (lower_part i.imm) ∷ []
expanded LoadsAddress i =
    scalar_instr (Scalar Auipc) i.rd 0 0 (upper_part i.imm) ∷ scalar_instr (Scalar Addi) i.rd i.rd 0 (lower_part i.imm) ∷ []

-- the bytes of instructions, each a word of four, the least first
unfoldable pub instr_bytes : List Instr → List ℕ
instr_bytes instrs = flat_map (λ (i : Instr). little_endian 4 (word_of i)) instrs
