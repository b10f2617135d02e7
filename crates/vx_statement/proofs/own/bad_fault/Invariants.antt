use Rattle.std.proofs.Common.{◌≡◌, drop}
use Rattle.vx_language.specs.Faults.{first_of, earliest}
use Rattle.vx_language.specs.Tokens.{bad_pieces}
use Rattle.vx_statement.specs.Lexemes.{pieces_of}
use Rattle.vx_statement.proofs.own.bad_fault.Given as goal

abbrev pub invariant-loop-token : goal.invariant-loop-token
invariant-loop-token l = earliest l.found (first_of (bad_pieces (pieces_of (drop l.token-index l.tokens)))) ≡ first_of (bad_pieces (pieces_of l.tokens))
