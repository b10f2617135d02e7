-- The lines of a source as they are placed. This project's own.
use Rattle.std.specs.Prelude.{◌≡◌, ℕ, List, find, option_map}
use Rattle.vx_language.specs.Assembly.{placed_faults}
use Rattle.vx_language.specs.Faults.{first_of}
use Rattle.vx_language.specs.Lines.{Line}
use Rattle.vx_language.specs.Places.{Placed, first_place, placed_from, end_from, has_label}
use Rattle.vx_statement.specs.Labels.{Label, place_of, place_in}
use Rattle.vx_asm.specs.declared.placing.Laid.{Laid}

-- labels stand where these lines have them
abbrev pub Stand : List Label → List Placed → Type 0
Stand labels lines = (name : List ℕ) → place_in name labels ≡ option_map (λ (p : Placed). p.place) (find (has_label name) lines)

-- lines are laid out, where labels of these names are defined: their first fault, the place behind them, and their labels
pub record AreLaid (names : List (List ℕ)) (lines : List Line) (laid : Laid) : Type 0 where
  pub fault : laid.fault ≡ first_of (placed_faults names (placed_from names first_place lines))
  pub end : place_of laid.end ≡ end_from names first_place lines
  pub labels : Stand laid.labels (placed_from names first_place lines)
