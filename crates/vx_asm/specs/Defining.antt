-- Labels as they are defined, one after the other. This project's own.
use Rattle.std.specs.Prelude.{◌≡◌, ℕ, Bool, List, [], ◌∷◌, bytes_eq, Option, Some, None, if◌then◌else◌}
use Rattle.std.specs.List.{list_any}
use Rattle.std.specs.Option.{option_or}
use Rattle.vx_language.specs.Assembly.{twice_faults}
use Rattle.vx_language.specs.Faults.{fault_at, first_of}
use Rattle.vx_language.specs.Lexemes.{Piece}
use Rattle.vx_language.specs.declared.fault.Fault.{Fault}
use Rattle.vx_language.specs.declared.fault.FaultKind.TheVariants.{Twice}
use Rattle.vx_statement.specs.Knowing.{Know}
use Rattle.vx_language.specs.Places.{Place}
use Rattle.vx_statement.specs.Labels.{Label, place_in}

-- the fault of a label where these names are those of labels before it
abbrev pub again : Piece → List (List ℕ) → List Fault
again label names = if list_any (bytes_eq label.text) names then fault_at Twice label ∷ [] else []

-- a label is defined behind those of these names: its fault, and all labels then
pub record Defines (label : Piece) (names : List (List ℕ)) (labels : List Label) (fault : Option Fault) : Type 0 where
  pub judged : fault ≡ first_of (again label names)
  pub known : Know labels (label.text ∷ names)

-- the names of labels, each put before those of the ones before it
abbrev pub named_with : List (List ℕ) → List Piece → List (List ℕ)
named_with names [] = names
named_with names (label ∷ labels) = named_with (label.text ∷ names) labels

-- labels are defined behind those of these names: their first fault, and all labels then
pub record DefineAll (own : List Piece) (names : List (List ℕ)) (labels : List Label) (fault : Option Fault) : Type 0 where
  pub judged : fault ≡ first_of (twice_faults names own)
  pub known : Know labels (named_with names own)

-- the labels of these names are put behind others, at this place: a name that had a place keeps it
abbrev pub PutsAt : List Label → List Label → (List ℕ → Bool) → Place → Type 0
PutsAt old new has place = (name : List ℕ) → place_in name new ≡ option_or (place_in name old) (if has name then Some place else None)

-- one of these labels has the name
abbrev pub names_one : List Piece → List ℕ → Bool
names_one labels name = list_any (λ (label : Piece). bytes_eq name label.text) labels
