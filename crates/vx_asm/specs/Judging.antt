-- Lines as they are judged and placed. This project's own.
use Rattle.std.specs.Prelude.{◌≡◌, ℕ, ◌≤◌, List, [], ◌++◌}
use Rattle.vx_language.specs.Faults.{first_of}
use Rattle.vx_language.specs.Lexemes.{Piece}
use Rattle.vx_language.specs.Lines.{Line}
use Rattle.vx_language.specs.Places.{Place, statement_of, own_faults, too_large, place_behind, total, program_room}
use Rattle.vx_statement.specs.Labels.{place_of}
use Rattle.vx_asm.specs.declared.judge.Judged.{Judged}

-- a line's first fault, and the place behind it, where labels of these names are defined
pub record Judges (names : List (List ℕ)) (place : Place) (line : Line) (judged : Judged) : Type 0 where
  pub fault : judged.fault ≡ first_of (own_faults names place line ++ too_large names place line)
  pub behind : place_of judged.place ≡ place_behind names place line

-- a statement on some line that has no fault, where the program has room for it
pub record IsGood (place : Place) (pieces : List Piece) : Type 0 where
  pub names : List (List ℕ)
  pub line : Line
  pub statement : statement_of line ≡ pieces
  pub own : own_faults names place line ≡ []
  pub large : too_large names place line ≡ []
  pub room : total place ≤ program_room
