-- What a noted access is to one who is told.
use Rattle.std.proofs.Common.{◌≡◌, ℕ, true, false, [], ◌∷◌, ◌++◌, length, ltb, cond, Some, None, refl, inl, inr}
use Rattle.std.specs.Prelude.{not, ◌||◌, nat_lt, if◌then◌else◌, Bool, List}
use Rattle.vx_cells.specs.Cells.{CellsState, IsLogged, Makes, with_access}
use Rattle.vx_cells.specs.LogCells.{LogCellsView, log_cells_told, after_access}
use Rattle.vx_cells.specs.declared.access.Access.{Access}

logged : (is_over has : Bool) (entries : List Access) (access : Access) → IsLogged (if is_over then None else Some entries) (if is_over || not has then None else Some (if has then entries ++ access ∷ [] else entries)) (access ∷ [])
logged true has entries access = tt
logged false true entries access = refl
logged false false entries access = tt

pub Makes-after_access : (cells : LogCellsView) (access : Access) → Makes (log_cells_told cells) (log_cells_told (after_access cells access)) (access ∷ [])
Makes-after_access cells access = record {
  frames = refl;
  cycle = refl;
  contents = refl;
  log = logged cells.is_over (nat_lt (length cells.entries) cells.room) cells.entries access;
}
