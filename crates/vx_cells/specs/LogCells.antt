-- Physical memory that keeps its log: what it keeps, and what each access does. This project's own.
use Rattle.std.specs.Prelude.{ℕ, Bool, not, ◌||◌, List, [], ◌∷◌, ◌++◌, length, Some, None, nat_lt, if◌then◌else◌}
use Rattle.vx_cells.specs.Cells.{CellsState, with_access}
use Rattle.vx_cells.specs.declared.access.Access.{Access}

pub record LogCellsView : Type 0 where
  pub frames : ℕ
  pub cycle : ℕ
  pub contents : List ℕ
  -- the accesses that found room, the first of them first
  pub entries : List Access
  -- how many it has room for
  pub room : ℕ
  -- an access found none
  pub is_over : Bool

-- what they tell: the log while every access found room
abbrev pub log_cells_told : LogCellsView → CellsState
log_cells_told cells = record {
  frames = cells.frames;
  cycle = cells.cycle;
  contents = cells.contents;
  log = if cells.is_over then None else Some cells.entries;
}

-- there is room for an access
abbrev pub has_room : LogCellsView → Bool
has_room cells = nat_lt (length cells.entries) cells.room

-- after an access
abbrev pub after_access : LogCellsView → Access → LogCellsView
after_access cells access = record cells {
  contents = with_access cells.contents access;
  entries = if has_room cells then cells.entries ++ access ∷ [] else cells.entries;
  is_over = cells.is_over || not (has_room cells);
}
