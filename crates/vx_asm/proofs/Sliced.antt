-- The statement of a line.
use Rattle.std.proofs.Common.{◌≡◌, ℕ, ◌-◌, length, take, drop, List, sym, ap, ◌∙◌}
use Rattle.std.proofs.lemmas.List.{take_rest}
use Rattle.vx_language.specs.Lines.{behind_labels}
use Rattle.vx_language.specs.Places.{statement_of}
use Rattle.vx_statement.specs.Lexemes.{pieces_of}
use Rattle.vx_statement.specs.declared.lexeme.Lexeme.{Lexeme}
use Rattle.vx_asm.specs.Reading.{line_of}
use Rattle.vx_asm.specs.declared.line.Line.{Line}

-- tokens from one on
abbrev pub cut_at : List Lexeme → ℕ → List Lexeme
cut_at tokens at = take (length tokens - at) (drop at tokens)

pub sliced : (line : Line) (tokens : List Lexeme) (at : ℕ) → tokens ≡ line.tokens.items → pieces_of (drop at tokens) ≡ behind_labels (pieces_of tokens) → statement_of (line_of line) ≡ pieces_of (cut_at tokens at)
sliced line tokens at is behind =
    ap (λ (l : List Lexeme). behind_labels (pieces_of l)) (sym is) ∙ sym behind ∙ ap pieces_of (sym (take_rest tokens at))
