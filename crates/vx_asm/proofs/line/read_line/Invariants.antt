use Rattle.std.proofs.Common.{◌≡◌, ◌-◌, ◌≤◌, length}
use Rattle.vx_statement.specs.Lexemes.{pieces_of}
use Rattle.vx_asm.specs.Reading.{lines_at, prefixed}
use Rattle.vx_asm.proofs.line.read_line.Given as goal

-- the tokens so far, and the lines from here on, are the lines
abbrev pub invariant-loop-piece : goal.invariant-loop-piece
invariant-loop-piece l = record {
  lines : lines_at l.source l.from ≡ prefixed (pieces_of l.tokens.items) (lines_at l.source l.at);
  ahead : l.from ≤ l.at;
}

abbrev pub decreases-loop-piece : goal.decreases-loop-piece
decreases-loop-piece l = length l.source - l.at
