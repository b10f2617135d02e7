use Rattle.std.proofs.Common.{◌≡◌, ◌-◌, length}
use Rattle.vx_language.specs.Faults.{first_of, earliest}
use Rattle.vx_language.specs.Lexemes.{pieces, pieces_from}
use Rattle.vx_language.specs.Tokens.{bad_pieces}
use Rattle.vx_asm.proofs.lexical.bad_piece_fault.Given as goal

abbrev pub invariant-loop-piece : goal.invariant-loop-piece
invariant-loop-piece l = earliest l.found (first_of (bad_pieces (pieces_from l.source l.at))) ≡ first_of (bad_pieces (pieces l.source))

abbrev pub decreases-loop-piece : goal.decreases-loop-piece
decreases-loop-piece l = length l.source - l.at
