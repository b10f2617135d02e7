-- Labels before a statement, one after the other. This project's own.
use Rattle.std.specs.Prelude.{◌≡◌, ◌≤◌, Bool, true, false, List, [], ◌∷◌, drop, length, slice_index_or}
use Rattle.vx_language.specs.Lines.{labels_before, behind_labels}
use Rattle.vx_statement.specs.Lexemes.{piece_of, pieces_of}
use Rattle.vx_statement.specs.declared.lexeme.Lexeme.{Lexeme}

-- tokens begin with a label, of this name, or with none
abbrev pub BeginWithLabel : List Lexeme → Bool → Type 0
BeginWithLabel tokens false = (labels_before (pieces_of tokens) ≡ []) × (behind_labels (pieces_of tokens) ≡ pieces_of tokens)
BeginWithLabel tokens true =
    (2 ≤ length tokens)
    × (behind_labels (pieces_of tokens) ≡ behind_labels (pieces_of (drop 2 tokens)))
    × ((name : Lexeme) → labels_before (pieces_of tokens) ≡ piece_of (slice_index_or tokens 0 name) ∷ labels_before (pieces_of (drop 2 tokens)))
