use Rattle.std.proofs.Common.{List, take}
use Rattle.vx_language.specs.Lexemes.{Piece}
use Rattle.vx_statement.specs.Advances.{Advances}
use Rattle.vx_statement.specs.Lexemes.{piece_of}
use Rattle.vx_statement.proofs.operands.advance.Given as goal

-- what is said of all ways holds of those so far
abbrev pub invariant-loop-way : goal.invariant-loop-way
invariant-loop-way l = (rest : List Piece) → Advances (piece_of l.token) rest (take l.way-index l.going) l.slot l.ways.items
