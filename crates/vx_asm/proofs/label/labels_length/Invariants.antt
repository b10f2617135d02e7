use Rattle.std.proofs.Common.{◌≡◌, ◌≤◌, ◌-◌, drop, length}
use Rattle.vx_language.specs.Lines.{behind_labels}
use Rattle.vx_statement.specs.Lexemes.{pieces_of}
use Rattle.vx_asm.proofs.label.labels_length.Given as goal

-- the statement of the tokens from here on is that of all
abbrev pub invariant-loop-at : goal.invariant-loop-at
invariant-loop-at l = record {
  within : l.at ≤ length l.tokens;
  same : behind_labels (pieces_of (drop l.at l.tokens)) ≡ behind_labels (pieces_of l.tokens);
}

abbrev pub decreases-loop-at : goal.decreases-loop-at
decreases-loop-at l = length l.tokens - l.at
