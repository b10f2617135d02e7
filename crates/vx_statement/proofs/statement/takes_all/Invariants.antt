use Rattle.std.proofs.Common.{◌≡◌, drop}
use Rattle.vx_language.specs.Statements.{take_all}
use Rattle.vx_statement.specs.Lexemes.{pieces_of}
use Rattle.vx_statement.specs.Ways.{commas_in, way_slots}
use Rattle.vx_statement.proofs.statement.takes_all.Given as goal

-- what is left of the way takes what is left of the tokens, or not, as the whole does
abbrev pub invariant-loop-token : goal.invariant-loop-token
invariant-loop-token l =
    take_all (way_slots (commas_in (pieces_of (drop l.token-index l.tokens))) l.rest) (pieces_of (drop l.token-index l.tokens)) ≡ take_all (way_slots (commas_in (pieces_of l.tokens)) l.way) (pieces_of l.tokens)
