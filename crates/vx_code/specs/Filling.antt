-- Tokens in the slots of a form. This project's own.
use Rattle.std.specs.Prelude.{◌≡◌, ℕ, ℤ, true, List, [], ◌∷◌, option_map}
use Rattle.vx_language.specs.Code.{Code}
use Rattle.vx_language.specs.Lexemes.{Piece}
use Rattle.vx_language.specs.Slots.{Slot, Immediate, SourceField, Datum, Offset, Range, signed_range, unsigned_range, takes, token_faults}
use Rattle.vx_language.specs.Statements.{Chunk, Plain, Zeros}
use Rattle.vx_code.specs.declared.chunk.Chunk as asm
use Rattle.vx_code.specs.declared.chunk.Chunk.TheVariants as chunk
use Rattle.vx_code.specs.declared.fill.Filled.{Filled}

-- each slot takes its token, which has no fault there where labels of these names are defined
abbrev pub Fill : List (List ℕ) → List Slot → List Piece → Type 0
Fill names [] [] = Unit {0}
Fill names (slot ∷ slots) (piece ∷ pieces) = (takes slot piece ≡ true) × (token_faults names slot piece ≡ []) × Fill names slots pieces
Fill names slots pieces = ⊥

-- the same where some labels are defined
abbrev pub AreFilled : List Slot → List Piece → Type 0
AreFilled slots pieces = (names : List (List ℕ)) × Fill names slots pieces

-- the numbers that a slot takes, where it takes some
abbrev pub slot_range : Slot → Range
slot_range (Immediate range) = range
slot_range (SourceField range) = range
slot_range (Datum range) = range
slot_range (Offset width) = signed_range width
slot_range slot = unsigned_range 12

-- what is filled in of a statement's code, where `aim` tells how far labels are
abbrev pub seen : (Piece → ℤ) → Code → Filled
seen aim code = record {
  rd = code.instr.rd;
  rs1 = code.instr.rs1;
  rs2 = code.instr.rs2;
  imm = code.instr.imm;
  vm = code.instr.vm;
  target = option_map aim code.target;
}

-- what a chunk stands for
abbrev pub chunk_seen : asm.Chunk → Chunk
chunk_seen (chunk.Plain bytes) = Plain bytes.items
chunk_seen (chunk.Zeros count) = Zeros count
