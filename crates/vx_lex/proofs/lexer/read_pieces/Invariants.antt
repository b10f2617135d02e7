use Rattle.std.proofs.Common.{◌≡◌, ℕ, ◌-◌, ◌++◌, List, length}
use Rattle.std.specs.Prelude.{filter_map}
use Rattle.vx_language.specs.Lexemes.{pieces, pieces_from}
use Rattle.vx_language.specs.Tokens.{bad_pieces, token_of, tokens}
use Rattle.vx_language.specs.declared.token.Token.{Token}
use Rattle.vx_lex.proofs.lexer.read_pieces.Given as goal

-- the tokens so far, and those of the pieces that are left, are the source's; no piece so far is bad
pub record HasRead (source : List ℕ) (read : List Token) (from : ℕ) : Type 0 where
  pub list : read ++ filter_map token_of (pieces_from source from) ≡ tokens source
  pub good : bad_pieces (pieces_from source from) ≡ bad_pieces (pieces source)

abbrev pub invariant-pieces : goal.invariant-pieces
invariant-pieces l = HasRead l.source l.items.items l.from

abbrev pub decreases-pieces : goal.decreases-pieces
decreases-pieces l = length l.source - l.from
