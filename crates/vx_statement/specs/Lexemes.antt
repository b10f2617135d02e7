-- The tokens of a source as the assembler keeps them. This project's own.
use Rattle.std.specs.Prelude.{List, map}
use Rattle.vx_language.specs.Lexemes.{Piece}
use Rattle.vx_statement.specs.declared.lexeme.Lexeme.{Lexeme}

-- the piece that a token is
abbrev pub piece_of : Lexeme → Piece
piece_of token = record { kind = token.kind; start = token.start; text = token.text.now }

abbrev pub pieces_of : List Lexeme → List Piece
pieces_of tokens = map piece_of tokens
