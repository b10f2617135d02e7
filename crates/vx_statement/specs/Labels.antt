-- The labels of a source, as the assembler keeps them. This project's own.
use Rattle.std.specs.Prelude.{ℕ, Bool, List, find, bytes_eq, Option, option_map}
use Rattle.std.specs.List.{list_any}
use Rattle.vx_language.specs.Forms.{Section}
use Rattle.vx_language.specs.Places as language
use Rattle.vx_statement.specs.Ways.{section_of}
use Rattle.vx_statement.specs.declared.place.Place.{Place}
use denote.Ref.{Bor}

-- the place that one of the assembler's stands for
abbrev pub place_of : Place → language.Place
place_of place = record { section = section_of place.section; code = place.code; variables = place.variables }

-- the place behind so many bytes, in this section
abbrev pub moved : language.Place → ℕ → Section → language.Place
moved place size section = record (language.advanced place size) { section = section }

-- a label: its name, and where it stands
pub record Label : Type 0 where
  pub name : List ℕ
  pub place : language.Place

abbrev pub label_of : (Bor (List ℕ) × Place) → Label
label_of entry = record { name = entry.0.now; place = place_of entry.1 }

-- a label of this name is among these
abbrev pub has_name : List ℕ → List Label → Bool
has_name name labels = list_any (λ (l : Label). bytes_eq name l.name) labels

-- the place of the label of this name
abbrev pub place_in : List ℕ → List Label → Option language.Place
place_in name labels = option_map (λ (l : Label). l.place) (find (λ (l : Label). bytes_eq name l.name) labels)
