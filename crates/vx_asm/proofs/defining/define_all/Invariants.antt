use Rattle.std.proofs.Common.{◌≡◌, ◌≤◌, ◌-◌, List, ℕ, drop, length}
use Rattle.vx_language.specs.Lines.{labels_before}
use Rattle.vx_statement.specs.Knowing.{Know}
use Rattle.vx_statement.specs.Lexemes.{pieces_of}
use Rattle.vx_statement.specs.Labels.{place_of}
use Rattle.vx_asm.proofs.Naming.{Amid, placed_with}
use Rattle.vx_asm.proofs.defining.define_all.Given as goal

abbrev pub invariant-loop-place : goal.invariant-loop-place
invariant-loop-place l = record {
  within : l.at ≤ length l.tokens;
  places : (name : List ℕ) → placed_with name l.labels (labels_before (pieces_of (drop l.at l.tokens))) (place_of l.place) ≡ placed_with name l.fn.labels (labels_before (pieces_of l.tokens)) (place_of l.place);
  amid : (names : List (List ℕ)) → Know l.fn.labels names → Amid (labels_before (pieces_of l.tokens)) (labels_before (pieces_of (drop l.at l.tokens))) names l.labels l.found;
}

abbrev pub decreases-loop-place : goal.decreases-loop-place
decreases-loop-place l = length l.tokens - l.at
