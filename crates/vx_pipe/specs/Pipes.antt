-- What an engine is seen as. This project's own.
use Rattle.std.specs.Prelude.{◌+◌}
use Rattle.vx_episode.specs.Organisation.{Organisation}
use Rattle.vx_pipe.specs.Turning.{machine_of}
use Rattle.vx_pipe.specs.declared.counts.Counts.{Counts}
use Rattle.vx_pipe.specs.declared.course.Course.{Course}
use Rattle.vx_pipe.specs.declared.engine.Engine.{Engine}

-- its organisation, and what it counted in its last episode
pub record PipeState : Type 0 where
  pub machine : Organisation
  pub counts : Counts

abbrev pub counts_of : Course → Counts
counts_of course = record { retired = course.completed; commits = course.completed + course.reached; dirtied = course.changed }

abbrev pub state_of : Engine → PipeState
state_of engine = record { machine = machine_of engine; counts = counts_of engine.course }
