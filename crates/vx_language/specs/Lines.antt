-- The lines of a source: any labels, then at most one statement. This project's own; syntax after the GNU assembler's.
use Rattle.std.specs.Prelude.{ℕ, Bool, ◌&&◌, List, [], ◌∷◌, length, flat_map, map, codes, bytes_eq, if◌then◌else◌}
use Rattle.vx_language.specs.Lexemes.{Piece, is_a, lexemes}
use Rattle.vx_language.specs.declared.token.TokenKind.TheVariants as token

-- the tokens of a line, without that of its end, and the offset where it ends: that of its newline, or of the source's end
pub record Line : Type 0 where
  pub tokens : List Piece
  pub end : ℕ

-- the line with a token put before its first
abbrev pub before_line : Piece → Line → Line
before_line first line = record line { tokens = first ∷ line.tokens }

-- a token before lines: a newline is a line's end, any other is in the first of them
abbrev pub before_lines : Piece → List Line → List Line
before_lines first [] = []
before_lines first (line ∷ lines) =
    if is_a token.Newline first then record { tokens = []; end = first.start } ∷ line ∷ lines
    else before_line first line ∷ lines

-- the lines of tokens, where the source ends at this offset; the last has no newline
unfoldable pub lines_from : ℕ → List Piece → List Line
lines_from end [] = record { tokens = []; end = end } ∷ []
lines_from end (first ∷ rest) = before_lines first (lines_from end rest)

abbrev pub lines : List ℕ → List Line
lines source = lines_from (length source) (lexemes source)

-- the token is a mark of this text
unfoldable pub is_the_mark : List ℕ → Piece → Bool
is_the_mark text piece = is_a token.Mark piece && bytes_eq piece.text text

-- a name and a colon are a label
abbrev pub is_label : Piece → Piece → Bool
is_label name colon = is_a token.Name name && is_the_mark (codes ":") colon

-- the names of the labels with which tokens begin
unfoldable pub labels_before : List Piece → List Piece
labels_before (name ∷ colon ∷ rest) = if is_label name colon then name ∷ labels_before rest else []
labels_before rest = []

-- what stands behind them
unfoldable pub behind_labels : List Piece → List Piece
behind_labels (name ∷ colon ∷ rest) = if is_label name colon then behind_labels rest else name ∷ colon ∷ rest
behind_labels rest = rest

-- the labels of lines, in their order
unfoldable pub labels_in : List Line → List Piece
labels_in lines = flat_map (λ (line : Line). labels_before line.tokens) lines

-- their names
abbrev pub label_names : List Line → List (List ℕ)
label_names lines = map (λ (label : Piece). label.text) (labels_in lines)
