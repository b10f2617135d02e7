-- What the shelf of the system's files and the sink over a writer tell. This project's own.
use Rattle.std.specs.Prelude.{ℕ, ◌<◌, ◌≤◌, List, None}
use Rattle.vx_base.specs.Shelf.{ShelfState}
use Rattle.vx_base.specs.Sink.{SinkState}
use Rattle.vx_files.specs.declared.file_shelf.Ended.{Ended}
use Rattle.vx_files.specs.declared.file_shelf.Ended.TheVariants.{AtEnd, PastLimit, AtFault}

-- what a shelf of the system's files keeps
pub record FileShelfView : Type 0 where
  -- the names that were fetched so far, the first of them first
  pub asked : List (List ℕ)
  -- how many bytes the last fetch took
  pub received : ℕ
  -- how many faults there have been
  pub faults : ℕ

-- it tells nothing of what the files hold
abbrev pub file_shelf_told : FileShelfView → ShelfState
file_shelf_told shelf = record { files = None; asked = shelf.asked; received = shelf.received; faults = shelf.faults }

-- a sink over a writer keeps its count of faults, and tells nothing of what was written
abbrev pub out_sink_told : ℕ → SinkState
out_sink_told faults = record { bytes = None; faults = faults }

-- how the reading of a file ended that has read so many bytes
abbrev pub EndsWithin : ℕ → ℕ → Ended → Type 0
EndsWithin count limit AtEnd = count ≤ limit
EndsWithin count limit PastLimit = limit < count
EndsWithin count limit AtFault = Unit {0}
