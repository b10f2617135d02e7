use Rattle.std.proofs.Common.{◌≡◌, ℕ, List, map, drop}
use Rattle.vx_language.specs.Faults.{first_of, earliest}
use Rattle.vx_language.specs.Statements.{operand_faults}
use Rattle.vx_statement.specs.Knowing.{Know}
use Rattle.vx_statement.specs.Lexemes.{pieces_of}
use Rattle.vx_statement.specs.Ways.{commas_in, way_slots}
use Rattle.vx_statement.proofs.operands.operand_fault.Given as goal

-- what is found so far, and what the rest has, is what all tokens have
abbrev pub invariant-loop-token : goal.invariant-loop-token
invariant-loop-token l =
    (names : List (List ℕ)) → Know l.labels names →
    earliest l.found (first_of (operand_faults names l.end (map (way_slots (commas_in (pieces_of (drop l.token-index l.tokens)))) l.going.items) (pieces_of (drop l.token-index l.tokens))))
    ≡ first_of (operand_faults names l.end (map (way_slots (commas_in (pieces_of l.tokens))) l.fn.ways.items) (pieces_of l.tokens))
