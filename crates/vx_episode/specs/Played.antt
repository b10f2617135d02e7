-- What an engine leaves that has played an episode: the contract of every engine, whatever it overlaps. This project's own.
use Rattle.std.specs.Prelude.{◌≡◌, ◌≢◌, ◌⊎◌, ℕ, ◌+◌, ◌/◌, ◌<◌, ◌≤◌, Bool, Some, slice_index}
use Rattle.vx_cells.specs.Cells.{CellsState, IsLogged}
use Rattle.vx_flat.specs.Process.{Process}
use Rattle.vx_tables.specs.Residency.{Residency, PlacedPage, pages_of, placed}
use Rattle.vx_tables.specs.Residency.Place.{Present}
use Rattle.vx_tables.specs.Tables.{table_count}
use Rattle.vx_episode.specs.Episode.{EpisodeEnd, episode}
use Rattle.vx_episode.specs.Organisation.{Start}
use Rattle.vx_episode.specs.Show.{Registers, Shows}
use Rattle.vx_episode.specs.declared.ended.Ended.{Ended}

-- a frame has neither a table nor a present page of the process
pub record IsElsewhere (first : ℕ) (residency : Residency) (frame : ℕ) : Type 0 where
  pub no_table : (frame < first) ⊎ (first + table_count (pages_of residency) ≤ frame)
  pub no_page : (number : ℕ) (p : PlacedPage) (accessed dirty : Bool) → placed number residency ≡ Some p → p.place ≢ Present frame accessed dirty

-- an engine that has played an episode of a process gave its answer, took its cycles, and left registers and memory that show its
-- process; the rest of memory stays
pub record Plays (start : Start) (until : ℕ) (process : Process) (before after : CellsState) (registers : Registers) (ended : Ended) (commits completed : ℕ) (changed_vectors : Bool) : Type 0 where
  pub result : EpisodeEnd
  pub is : episode start until process ≡ Some result
  pub answer : ended ≡ result.ended
  pub cycle : after.cycle ≡ result.clock
  pub committed : commits ≡ result.commits
  pub completed_are : completed ≡ result.completed
  pub changed : changed_vectors ≡ result.changed_vectors
  pub shows : Shows registers after start.root result.residency result.process.state
  pub frames : after.frames ≡ before.frames
  pub others : (word : ℕ) → IsElsewhere start.root start.residency (word / 512) → slice_index after.contents word ≡ slice_index before.contents word

-- the log, where it is told, has the episode's accesses more
abbrev pub LogsEpisode : EpisodeEnd → (before after : CellsState) → Type 0
LogsEpisode result before after = IsLogged before.log after.log result.log
