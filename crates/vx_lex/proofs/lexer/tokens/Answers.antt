use Rattle.std.proofs.Common.{◌≡◌, ℕ, List, sym, ◌∙◌, ap}
use Rattle.std.specs.Prelude.{Some, None}
use Rattle.vx_language.specs.Faults.{earlier, earliest, first_of}
use Rattle.vx_language.specs.Lexemes.{pieces}
use Rattle.vx_language.specs.Tokens.{bad_bytes, bad_pieces, lexical_faults}
use Rattle.vx_lex.specs.Pieces.{bad_byte_at}
use Rattle.vx_lex.proofs.Steps.{no-first}
use Rattle.vx_lex.proofs.lexer.tokens.Goals as goal

pub returns-in-None : goal.returns-in-None
returns-in-None c =
    let source : List ℕ = c.args.source.now in
    let parts : first_of (lexical_faults source) ≡ earliest (first_of (bad_bytes 0 source)) (first_of (bad_pieces (pieces source))) = c.firsts_join.ensures (bad_bytes 0 source) (bad_pieces (pieces source)) in
    let none : first_of (lexical_faults source) ≡ None = parts ∙ (ap (λ b. earliest b (first_of (bad_pieces (pieces source)))) (sym c.in-None.ensures) ∙ c.in-Ok.ensures.0) in
    (no-first (lexical_faults source) none, c.in-Ok.ensures.1)

pub returns-in-Some : goal.returns-in-Some
unfolding earlier
returns-in-Some c =
    let source : List ℕ = c.args.source.now in
    let parts : first_of (lexical_faults source) ≡ earliest (first_of (bad_bytes 0 source)) (first_of (bad_pieces (pieces source))) = c.firsts_join.ensures (bad_bytes 0 source) (bad_pieces (pieces source)) in
    parts
    ∙ (ap (λ b. earliest b (first_of (bad_pieces (pieces source)))) (sym c.in-Some.ensures)
    ∙ ap (λ q. earliest (Some (bad_byte_at c.in-Some.span)) q) c.in-Ok.ensures.0)
