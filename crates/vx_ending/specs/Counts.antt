-- What an engine counts as its episode goes on: commits, completed instructions, and whether the vector state has changed. This
-- project's own.
use Rattle.std.specs.Prelude.{ℕ, Bool, ◌&&◌, List, length, filter}
use Rattle.std.specs.List.{list_any}
use Rattle.vx_episode.specs.Commits.{Happening}
use Rattle.vx_episode.specs.Episode.{commits_by, completes}

-- how often something was committed
abbrev pub commits_in : List Happening → ℕ
commits_in happened = length (filter (λ (h : Happening). commits_by h.what) happened)

-- how many instructions completed
abbrev pub completed_in : List Happening → ℕ
completed_in happened = length (filter (λ (h : Happening). completes h.what) happened)

-- something was committed that changes the vector state
abbrev pub changes_in : List Happening → Bool
changes_in happened = list_any (λ (h : Happening). commits_by h.what && h.entry.footprint.changes_vectors) happened
