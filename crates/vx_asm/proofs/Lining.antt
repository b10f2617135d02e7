-- Lines, a piece at a time.
use Rattle.std.proofs.Common.{◌≡◌, ℕ, ◌≤◌, length, Bool, true, false, cond, List, [], ◌∷◌, ◌++◌, filter, Option, Some, None, is_some, refl, sym, ap, ◌∙◌, append_assoc, append-nil}
use Rattle.std.proofs.lemmas.Bool.{false≢true}
use Rattle.std.proofs.lemmas.List.{drop_all}
use Rattle.vx_language.specs.Lexemes.{Piece, is_a, is_kind, is_token, token_kind, pieces_from, pieces_behind}
use Rattle.vx_language.specs.Lines.{Line, before_line, before_lines, lines_from}
use Rattle.vx_language.specs.declared.token.TokenKind.{TokenKind}
use Rattle.vx_language.specs.declared.token.TokenKind.TheVariants as token
use Rattle.vx_lex.specs.Pieces.{piece_in, BeginsAt}
use Rattle.vx_lex.specs.declared.piece as lexer
use Rattle.vx_statement.specs.Lexemes.{pieces_of}
use Rattle.vx_statement.specs.declared.lexeme.Lexeme.{Lexeme}
use Rattle.vx_asm.specs.Reading.{lines_at, prefixed}

-- there is a line at least
HasLine : List Line → Type 0
HasLine [] = ⊥
HasLine (line ∷ lines) = Unit {0}

before-has : (piece : Piece) (b : Bool) (line : Line) (lines : List Line) → HasLine (cond b (record { tokens = []; end = piece.start } ∷ line ∷ lines) (before_line piece line ∷ lines))
unfolding HasLine
before-has piece true line lines = tt
before-has piece false line lines = tt

before-lines : (piece : Piece) (lines : List Line) → HasLine lines → HasLine (before_lines piece lines)
unfolding HasLine
before-lines piece [] h = absurd h
before-lines piece (line ∷ lines) h = before-has piece (is_a token.Newline piece) line lines

some-line : (end : ℕ) (pieces : List Piece) → HasLine (lines_from end pieces)
unfolding HasLine lines_from
some-line end [] = tt
some-line end (piece ∷ pieces) = before-lines piece (lines_from end pieces) (some-line end pieces)

prefixed-none : (lines : List Line) → prefixed [] lines ≡ lines
prefixed-none [] = refl
prefixed-none (line ∷ lines) = refl

prefixed-twice : (a b : List Piece) (lines : List Line) → prefixed a (prefixed b lines) ≡ prefixed (a ++ b) lines
prefixed-twice a b [] = refl
prefixed-twice a b (line ∷ lines) = ap (λ (l : List Piece). let first : Line = record line { tokens = l } in first ∷ lines) (sym (append_assoc a b line.tokens))

-- a token that ends no line
in-line : (piece : Piece) (lines : List Line) → HasLine lines → is_a token.Newline piece ≡ false → before_lines piece lines ≡ prefixed (piece ∷ []) lines
unfolding HasLine
in-line piece [] h e = absurd h
in-line piece (line ∷ lines) h e = rw e refl

-- one that ends a line
at-end : (piece : Piece) (lines : List Line) → HasLine lines → is_a token.Newline piece ≡ true → before_lines piece lines ≡ record { tokens = []; end = piece.start } ∷ lines
unfolding HasLine
at-end piece [] h e = absurd h
at-end piece (line ∷ lines) h e = rw e refl

kept-or-not : (end : ℕ) (piece : Piece) (rest : List Piece) (b : Bool) → is_a token.Newline piece ≡ false → lines_from end (cond b (piece ∷ filter is_token rest) (filter is_token rest)) ≡ prefixed (cond b (piece ∷ []) []) (lines_from end (filter is_token rest))
unfolding lines_from
kept-or-not end piece rest true e = in-line piece (lines_from end (filter is_token rest)) (some-line end (filter is_token rest)) e
kept-or-not end piece rest false e = sym (prefixed-none (lines_from end (filter is_token rest)))

token-if-newline : (o : Option TokenKind) → is_kind token.Newline o ≡ true → is_some o ≡ true
token-if-newline None h = absurd (false≢true h)
token-if-newline (Some kind) h = refl

newline-kept : (end : ℕ) (piece : Piece) (rest : List Piece) → is_some (token_kind piece.kind) ≡ true → is_a token.Newline piece ≡ true → lines_from end (filter is_token (piece ∷ rest)) ≡ record { tokens = []; end = piece.start } ∷ lines_from end (filter is_token rest)
unfolding lines_from
newline-kept end piece rest h e = rw h (at-end piece (lines_from end (filter is_token rest)) (some-line end (filter is_token rest)) e)

-- a piece that ends no line
pub line-on : (source : List ℕ) (from at : ℕ) (piece : lexer.Piece.Piece) (old new : List Piece) → BeginsAt source at piece → is_kind token.Newline (token_kind piece.kind) ≡ false → new ≡ old ++ filter is_token (piece_in source piece ∷ []) → lines_at source from ≡ prefixed old (lines_at source at) → lines_at source from ≡ prefixed new (lines_at source piece.span.end)
unfolding is_a
line-on source from at piece old new begins e pushed before =
    let own = piece_in source piece in
    let kept = filter is_token (own ∷ []) in
    before
    ∙ ap (λ (l : List Piece). prefixed old (lines_from (length source) (filter is_token l))) begins.pieces
    ∙ ap (prefixed old) (kept-or-not (length source) own (pieces_from source piece.span.end) (is_token own) e)
    ∙ prefixed-twice old kept (lines_at source piece.span.end)
    ∙ ap (λ (l : List Piece). prefixed l (lines_at source piece.span.end)) (sym pushed)

-- one that ends it
pub line-over : (source : List ℕ) (from at : ℕ) (piece : lexer.Piece.Piece) (tokens : List Piece) → BeginsAt source at piece → is_kind token.Newline (token_kind piece.kind) ≡ true → lines_at source from ≡ prefixed tokens (lines_at source at) → lines_at source from ≡ record { tokens = tokens; end = piece.span.start } ∷ lines_at source piece.span.end
unfolding is_a
line-over source from at piece tokens begins e before =
    let own = piece_in source piece in
    before
    ∙ ap (λ (l : List Piece). prefixed tokens (lines_from (length source) (filter is_token l))) begins.pieces
    ∙ ap (prefixed tokens) (newline-kept (length source) own (pieces_from source piece.span.end) (token-if-newline (token_kind piece.kind) e) e)
    ∙ ap (λ (l : List Piece). let first : Line = record { tokens = l; end = piece.span.start } in first ∷ lines_at source piece.span.end) (append-nil tokens)

-- the last line
no-pieces : (source : List ℕ) (at : ℕ) → length source ≤ at → pieces_from source at ≡ []
unfolding pieces_behind
no-pieces source at past = ap (pieces_behind 0 at) (drop_all at source past)

pub line-last : (source : List ℕ) (from at : ℕ) (tokens : List Piece) → length source ≤ at → lines_at source from ≡ prefixed tokens (lines_at source at) → lines_at source from ≡ record { tokens = tokens; end = length source } ∷ []
unfolding lines_from
line-last source from at tokens past before =
    before
    ∙ ap (λ (l : List Piece). prefixed tokens (lines_from (length source) (filter is_token l))) (no-pieces source at past)
    ∙ ap (λ (l : List Piece). let first : Line = record { tokens = l; end = length source } in first ∷ []) (append-nil tokens)

pub line-begun : (lines : List Line) → lines ≡ prefixed [] lines
line-begun lines = sym (prefixed-none lines)

pub begun-with : (source : List ℕ) (from : ℕ) (tokens : List Lexeme) → tokens ≡ [] → lines_at source from ≡ prefixed (pieces_of tokens) (lines_at source from)
begun-with source from tokens e = rw e (line-begun (lines_at source from))
