-- The lexical level of the assembler's language: a source is a list of pieces, one behind another, and some of them are
-- its tokens. This project's own; syntax after the GNU assembler's.
use Rattle.std.specs.Prelude.{ℕ, zero, suc, ◌+◌, ◌-◌, Bool, true, false, not, ◌==◌, ◌||◌, List, [], ◌∷◌, length, take, drop, filter, Option, Some, None, is_some, if◌then◌else◌}
use Rattle.std.specs.List.{prefix_len}
use Rattle.vx_language.specs.Bytes.{newline, tab, space, quote, hash, minus, is_digit, begins_name, is_name_byte, is_mark}
use Rattle.vx_language.specs.Numerals.{digits_length, number_value, is_number_value}
use Rattle.vx_language.specs.Texts.{text_length, is_whole_text}
use Rattle.vx_language.specs.declared.token.Beginning.{Beginning}
use Rattle.vx_language.specs.declared.token.Beginning.TheVariants as begins
use Rattle.vx_language.specs.declared.token.PieceKind.{PieceKind}
use Rattle.vx_language.specs.declared.token.PieceKind.TheVariants.{Good, Bad, Stray, Blank}
use Rattle.vx_language.specs.declared.token.Span.{Span}
use Rattle.vx_language.specs.declared.token.TokenKind.{TokenKind}
use Rattle.vx_language.specs.declared.token.TokenKind.TheVariants as token

-- what a piece of a source is, the offset of its first byte, and its bytes
pub record Piece : Type 0 where
  pub kind : PieceKind
  pub start : ℕ
  pub text : List ℕ

abbrev pub span_of : Piece → Span
span_of piece = record { start = piece.start; end = piece.start + length piece.text }

-- what a piece can be, by its first byte
unfoldable pub beginning : ℕ → Beginning
beginning byte =
    if byte == newline then begins.Line
    else if byte == space || byte == tab then begins.Gap
    else if byte == hash then begins.Comment
    else if is_mark byte then begins.Sign
    else if byte == quote then begins.Text
    else if begins_name byte then begins.Word
    else if is_digit byte then begins.Digits
    else if byte == minus then begins.Negative
    else begins.Nothing

-- how many of the bytes, which begin so, are of the first piece: as many as can be
unfoldable pub piece_length : Beginning → List ℕ → ℕ
piece_length begins.Line bytes = 1
piece_length begins.Gap bytes = 1
piece_length begins.Comment bytes = prefix_len (λ byte. not (byte == newline)) bytes
piece_length begins.Sign bytes = 1
piece_length begins.Text bytes = 1 + text_length false (drop 1 bytes)
piece_length begins.Word bytes = prefix_len is_name_byte bytes
piece_length begins.Digits bytes = digits_length bytes
piece_length begins.Negative bytes = 1 + digits_length (drop 1 bytes)
piece_length begins.Nothing bytes = 1

-- what a number of this text is: a good one within its range
unfoldable pub number_kind : List ℕ → PieceKind
number_kind text = if is_number_value (number_value text) then Good token.Number else Bad token.Number

-- what a piece of this text is, which begins so
unfoldable pub kind_of : Beginning → List ℕ → PieceKind
kind_of begins.Line text = Good token.Newline
kind_of begins.Gap text = Blank
kind_of begins.Comment text = Blank
kind_of begins.Sign text = Good token.Mark
kind_of begins.Text text = if is_whole_text false (drop 1 text) then Good token.Quoted else Bad token.Quoted
kind_of begins.Word text = Good token.Name
kind_of begins.Digits text = number_kind text
kind_of begins.Negative text = if length text == 1 then Stray else number_kind text
kind_of begins.Nothing text = Stray

unfoldable pub piece_with : Beginning → ℕ → List ℕ → Piece
piece_with first start text = record { kind = kind_of first text; start = start; text = text }

-- the first piece of bytes, which begin with this one and stand from this offset on
unfoldable pub first_piece : ℕ → ℕ → List ℕ → Piece
first_piece byte start bytes = piece_with (beginning byte) start (take (piece_length (beginning byte) bytes) bytes)

-- the pieces of bytes that stand from this offset on, where the first `taken` bytes are of a piece before them
unfoldable pub pieces_behind : (taken start : ℕ) → List ℕ → List Piece
pieces_behind taken start [] = []
pieces_behind (suc taken) start (byte ∷ rest) = pieces_behind taken (start + 1) rest
pieces_behind zero start (byte ∷ rest) =
    let piece = first_piece byte start (byte ∷ rest) in
    piece ∷ pieces_behind (length piece.text - 1) (start + 1) rest

-- the pieces of a source
abbrev pub pieces : List ℕ → List Piece
pieces source = pieces_behind 0 0 source

-- those from an offset on at which one begins
abbrev pub pieces_from : List ℕ → ℕ → List Piece
pieces_from source from = pieces_behind 0 from (drop from source)

-- Tokens.

-- what token a piece of this kind is, good or bad, where it is one
abbrev pub token_kind : PieceKind → Option TokenKind
token_kind (Good kind) = Some kind
token_kind (Bad kind) = Some kind
token_kind Stray = None
token_kind Blank = None

-- a piece of this kind has a fault
abbrev pub is_bad_kind : PieceKind → Bool
is_bad_kind (Good kind) = false
is_bad_kind (Bad kind) = true
is_bad_kind Stray = true
is_bad_kind Blank = false

abbrev pub is_bad : Piece → Bool
is_bad piece = is_bad_kind piece.kind

abbrev pub is_token : Piece → Bool
is_token piece = is_some (token_kind piece.kind)

abbrev pub is_kind : TokenKind → Option TokenKind → Bool
is_kind token.Name (Some token.Name) = true
is_kind token.Number (Some token.Number) = true
is_kind token.Quoted (Some token.Quoted) = true
is_kind token.Mark (Some token.Mark) = true
is_kind token.Newline (Some token.Newline) = true
is_kind wanted other = false

-- the piece is a token of this kind, good or bad
unfoldable pub is_a : TokenKind → Piece → Bool
is_a kind piece = is_kind kind (token_kind piece.kind)

-- the tokens of a source, good and bad
unfoldable pub lexemes : List ℕ → List Piece
lexemes source = filter is_token (pieces source)
