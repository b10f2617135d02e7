-- Lines, read one behind another. This project's own.
use Rattle.std.specs.Prelude.{◌≡◌, ℕ, List, [], ◌∷◌, ◌++◌, length, filter, Option, Some, None}
use Rattle.vx_language.specs.Lexemes.{Piece, is_token, pieces_from}
use Rattle.vx_language.specs.Lines as language
use Rattle.vx_statement.specs.Lexemes.{pieces_of}
use Rattle.vx_asm.specs.declared.line.Line.{Line}

-- the lines of a source from an offset on at which a piece begins
abbrev pub lines_at : List ℕ → ℕ → List language.Line
lines_at source from = language.lines_from (length source) (filter is_token (pieces_from source from))

-- the lines behind one
abbrev pub lines_behind : List ℕ → Option ℕ → List language.Line
lines_behind source None = []
lines_behind source (Some from) = lines_at source from

abbrev pub line_of : Line → language.Line
line_of line = record { tokens = pieces_of line.tokens.items; end = line.end }

-- the line is the first of those from an offset on
abbrev pub IsLineAt : List ℕ → ℕ → Line → Type 0
IsLineAt source from line = lines_at source from ≡ line_of line ∷ lines_behind source line.next

-- tokens put before the first of lines
abbrev pub prefixed : List Piece → List language.Line → List language.Line
prefixed tokens [] = []
prefixed tokens (line ∷ lines) = record line { tokens = tokens ++ line.tokens } ∷ lines
