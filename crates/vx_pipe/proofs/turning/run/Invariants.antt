-- The episode is at an instruction, behind as many as the loop has gone through.
use Rattle.std.proofs.Common.{◌≡◌, ℕ, List}
use Rattle.vx_cells.specs.Cells.{CellsState}
use Rattle.vx_episode.specs.Organisation.{Start}
use Rattle.vx_flat.specs.Process.{Process}
use Rattle.vx_pipe.specs.Going.{IsEpisodeOn, IsGoing}
use Rattle.vx_pipe.specs.Left.{registers_of}
use Rattle.vx_pipe.specs.Playing.{shown_state}
use Rattle.vx_pipe.specs.Turning.{IsTurning, caches_of, course_of, machine_of}
use Rattle.vx_pipe.proofs.turning.run.Given as goal

abbrev pub invariant-loop : goal.invariant-loop
invariant-loop g l = record {
  machine : machine_of l.engine ≡ machine_of l.fn.engine;
  memory : l.memory ≡ l.fn.memory;
  count : l.engine.course.completed ≡ l.counter;
  turning : IsTurning (machine_of l.engine) l.root l.until l.memory (course_of l.engine.course) (caches_of l.engine) (g.C.Cells.state l.cells) (registers_of l.arch);
  going : (start : Start) (from : Process) (first : CellsState) (output : List ℕ) → IsEpisodeOn (machine_of l.fn.engine) l.root l.fn.memory start
      → IsGoing start l.until from first (course_of l.fn.engine.course) (caches_of l.fn.engine) (g.C.Cells.state l.fn.cells) (shown_state (registers_of l.fn.arch) l.fn.memory (g.C.Cells.state l.fn.cells) output)
      → IsGoing start l.until from first (course_of l.engine.course) (caches_of l.engine) (g.C.Cells.state l.cells) (shown_state (registers_of l.arch) l.memory (g.C.Cells.state l.cells) output);
}
