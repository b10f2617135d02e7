-- What a source is: its faults, the first of them, and the program of a source without one. This project's own.
use Rattle.std.specs.Prelude.{◌≡◌, ℕ, ◌+◌, ◌^◌, ◌<◌, Bool, true, false, ◌==◌, ℤ, List, [], ◌∷◌, ◌++◌, length, map, flat_map, filter, codes, bytes_eq, Contains, Option, Some, None, unwrap_or, if◌then◌else◌}
use Rattle.std.specs.List.{list_any, list_all}
use Rattle.vx_base.specs.Numbers.{little_endian}
use Rattle.vx_elf.specs.declared.program.Program.{Program}
use Rattle.vx_source.specs.Lines.{line_of}
use Rattle.vx_language.specs.Faults.{fault_at, first_of}
use Rattle.vx_language.specs.Forms.{Section, OfCode, OfVariables}
use Rattle.vx_language.specs.Lexemes.{Piece}
use Rattle.vx_language.specs.Lines.{Line, lines, labels_in, label_names}
use Rattle.vx_language.specs.Places.{first_place, offset_of, statement_of, own_faults, is_faultless, too_large, Placed, placed_from, end_from, label_address, distance, statement_offset_faults}
use Rattle.vx_language.specs.Statements.{Chunk, Plain, Zeros, chunk_size, chunk_bytes, statement_chunk}
use Rattle.vx_language.specs.Tokens.{lexical_faults}
use Rattle.vx_language.specs.declared.fault.Fault.{Fault}
use Rattle.vx_language.specs.declared.fault.FaultKind.TheVariants.{Twice}

-- a source's lines with their places, and how many bytes its code has
pub record Layout : Type 0 where
  pub lines : List Placed
  pub code : ℕ

abbrev pub layout_of_lines : List Line → Layout
layout_of_lines lines = record {
  lines = placed_from (label_names lines) first_place lines;
  code = (end_from (label_names lines) first_place lines).code;
}

unfoldable pub layout : List ℕ → Layout
layout source = layout_of_lines (lines source)

-- how far a label is from a line
abbrev pub aim_of : Layout → Placed → Piece → ℤ
aim_of laid placed label = distance laid.code laid.lines placed.place label

-- Faults.

-- a label whose name is among these, or is that of a label before it, is defined again
unfoldable pub twice_faults : List (List ℕ) → List Piece → List Fault
twice_faults names [] = []
twice_faults names (label ∷ labels) =
    (if list_any (bytes_eq label.text) names then fault_at Twice label ∷ [] else []) ++ twice_faults (label.text ∷ names) labels

-- the faults of lines, each its statement's own, and the passing of the room, where labels of these names are defined
unfoldable pub placed_faults : List (List ℕ) → List Placed → List Fault
placed_faults names lines = flat_map (λ (p : Placed). own_faults names p.place p.line ++ too_large names p.place p.line) lines

-- all faults of a source but those of offsets to labels
unfoldable pub plain_faults : List ℕ → List Fault
plain_faults source =
    lexical_faults source ++ twice_faults [] (labels_in (lines source)) ++ placed_faults (label_names (lines source)) (layout source).lines

-- the faults of offsets to labels
unfoldable pub reach_faults : Layout → List Fault
reach_faults laid = flat_map (λ (p : Placed). statement_offset_faults (aim_of laid p) (statement_of p.line)) laid.lines

-- all faults of a source: those of offsets to labels are judged only where there is no other
unfoldable pub faults : List ℕ → List Fault
faults source = if is_faultless (plain_faults source) then reach_faults (layout source) else plain_faults source

abbrev pub HasFault : List ℕ → Fault → Type 0
HasFault source fault = Contains (faults source) fault

-- the fault that is answered, where there is one
abbrev pub first_fault : List ℕ → Option Fault
first_fault source = first_of (faults source)

-- The program of a source without a fault.

abbrev pub is_in : Section → Placed → Bool
is_in OfCode placed = elim placed.place.section [ OfCode ↦ true | OfVariables ↦ false ]
is_in OfVariables placed = elim placed.place.section [ OfCode ↦ false | OfVariables ↦ true ]

-- what a line puts into its section
abbrev pub chunk_at : Layout → Placed → Chunk
chunk_at laid placed = statement_chunk (aim_of laid placed) (offset_of placed.place) (statement_of placed.line)

-- what the lines of a section put there, in order
unfoldable pub chunks : Layout → Section → List Chunk
chunks laid section = map (chunk_at laid) (filter (is_in section) laid.lines)

-- a chunk is made of zeros that needn't be in the file, or of nothing
abbrev pub is_zeros : Chunk → Bool
is_zeros (Plain bytes) = length bytes == 0
is_zeros (Zeros count) = true

-- the bytes of chunks, without the zeros at the end that needn't be in the file
unfoldable pub bytes_before_zeros : List Chunk → List ℕ
bytes_before_zeros [] = []
bytes_before_zeros (chunk ∷ chunks) =
    if list_all is_zeros (chunk ∷ chunks) then [] else chunk_bytes chunk ++ bytes_before_zeros chunks

-- how many those are
unfoldable pub zeros_at_end : List Chunk → ℕ
zeros_at_end [] = 0
zeros_at_end (chunk ∷ chunks) =
    if list_all is_zeros (chunk ∷ chunks) then chunk_size chunk + zeros_at_end chunks else zeros_at_end chunks

-- the entry: the label `_start`, or else the first instruction
abbrev pub entry_of : Layout → ℕ
entry_of laid = unwrap_or (label_address laid.code laid.lines (codes "_start")) 0x10000

abbrev pub program_of : Layout → Program
program_of laid = record {
  entry = entry_of laid;
  code = flat_map chunk_bytes (chunks laid OfCode);
  vars = bytes_before_zeros (chunks laid OfVariables);
  zero = zeros_at_end (chunks laid OfVariables);
}

unfoldable pub assembled : List ℕ → Program
assembled source = program_of (layout source)

-- The law of lines.

-- a source has no fault, and its code is this word
pub record IsSourceOf (source : List ℕ) (word : ℕ) : Type 0 where
  pub faultless : faults source ≡ []
  pub code : (assembled source).code ≡ little_endian 4 word

-- the canonical line of each word of 32 bits is a source of that word
abbrev pub LinesAreSources : Type 0
LinesAreSources = (word : ℕ) → word < 2 ^ 32 → IsSourceOf (line_of word) word
