-- What a lexer answers for a source: its tokens, or its first lexical fault. This project's own.
use Rattle.std.specs.Prelude.{ℕ, ◌+◌, List, [], ◌∷◌, ◌++◌, map, filter, filter_map, Option, Some, None, if◌then◌else◌}
use Rattle.vx_language.specs.Bytes.{is_source_byte}
use Rattle.vx_language.specs.Faults.{fault_at}
use Rattle.vx_language.specs.Lexemes.{Piece, span_of, pieces, is_bad}
use Rattle.vx_language.specs.declared.fault.Fault.{Fault}
use Rattle.vx_language.specs.declared.fault.FaultKind.TheVariants.{BadByte, BadToken}
use Rattle.vx_language.specs.declared.token.PieceKind.{PieceKind}
use Rattle.vx_language.specs.declared.token.PieceKind.TheVariants.{Good, Bad, Stray, Blank}
use Rattle.vx_language.specs.declared.token.Span.{Span}
use Rattle.vx_language.specs.declared.token.Token.{Token}

-- each byte that isn't one of a source is a fault; the first of these bytes stands at this offset
unfoldable pub bad_bytes : ℕ → List ℕ → List Fault
bad_bytes start [] = []
bad_bytes start (byte ∷ rest) =
    if is_source_byte byte then bad_bytes (start + 1) rest
    else record { kind = BadByte; span = record { start = start; end = start + 1 } } ∷ bad_bytes (start + 1) rest

-- so is each piece that is bad: a number out of range, a text with another escape or no end, a byte that begins no token
unfoldable pub bad_pieces : List Piece → List Fault
bad_pieces pieces = map (fault_at BadToken) (filter is_bad pieces)

-- all lexical faults of a source
abbrev pub lexical_faults : List ℕ → List Fault
lexical_faults source = bad_bytes 0 source ++ bad_pieces (pieces source)

-- the token that a piece of this kind and span is, where it is a good one
abbrev pub token_as : PieceKind → Span → Option Token
token_as (Good kind) span = Some (record { kind = kind; span = span })
token_as (Bad kind) span = None
token_as Stray span = None
token_as Blank span = None

abbrev pub token_of : Piece → Option Token
token_of piece = token_as piece.kind (span_of piece)

-- the good tokens of a source
unfoldable pub tokens : List ℕ → List Token
tokens source = filter_map token_of (pieces source)
