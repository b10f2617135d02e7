-- The names of a source's labels, as the assembler knows them. This project's own.
use Rattle.std.specs.Prelude.{◌≡◌, ℕ, List, bytes_eq}
use Rattle.std.specs.List.{list_any}
use Rattle.vx_statement.specs.Labels.{Label, has_name}

-- labels have these names, in any order, and any number of times each
pub record Know (labels : List Label) (names : List (List ℕ)) : Type 0 where
  pub same : (name : List ℕ) → has_name name labels ≡ list_any (bytes_eq name) names
