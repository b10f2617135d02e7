-- The pieces of a source as the lexer gives them. This project's own.
use Rattle.std.specs.Prelude.{◌≡◌, ℕ, ◌<◌, ◌≤◌, List, ◌∷◌, length, slice_range}
use Rattle.vx_language.specs.Lexemes.{pieces_from}
use Rattle.vx_language.specs.Lexemes as language
use Rattle.vx_language.specs.declared.fault.Fault.{Fault}
use Rattle.vx_language.specs.declared.fault.FaultKind.TheVariants.{BadByte}
use Rattle.vx_language.specs.declared.token.Span.{Span}
use Rattle.vx_lex.specs.declared.piece.Piece.{Piece}

-- the piece of a source that one of the lexer's stands for
abbrev pub piece_in : List ℕ → Piece → language.Piece
piece_in source piece = record { kind = piece.kind; start = piece.span.start; text = slice_range source piece.span.start piece.span.end }

-- the piece begins at an offset of the source: it has a byte, and the source's pieces from the offset on are this one and
-- those from its end on
pub record BeginsAt (source : List ℕ) (from : ℕ) (piece : Piece) : Type 0 where
  pub starts : piece.span.start ≡ from
  pub some : from < piece.span.end
  pub within : piece.span.end ≤ length source
  pub pieces : pieces_from source from ≡ piece_in source piece ∷ pieces_from source piece.span.end

-- the fault of a bad byte
abbrev pub bad_byte_at : Span → Fault
bad_byte_at span = record { kind = BadByte; span = span }
