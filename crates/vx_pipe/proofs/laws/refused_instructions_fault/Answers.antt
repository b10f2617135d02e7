use Rattle.vx_pipe.proofs.Completing.{StepLaws}
use Rattle.vx_pipe.proofs.Kept.{PagedLaws}
use Rattle.vx_pipe.proofs.RefusedArm.{refused-stops}
use Rattle.vx_pipe.proofs.Stopping.{over-faulted}
use Rattle.vx_pipe.proofs.laws.refused_instructions_fault.Goals as goal

pub returns : goal.returns
returns c machine root until placement start from first course fetched caches before after u v issued why on kept issuing refused at same outcome =
    let paged : PagedLaws = record {
      words = c.tables_stay.ensures.words;
      held = c.tables_stay.ensures.held;
      is_placed = c.walks_leave_pages.ensures.placed;
      alone = c.walks_leave_pages.ensures.alone;
      elsewhere = c.walks_leave_pages.ensures.elsewhere;
    } in
    let laws : StepLaws = record {
      next = c.steps_are_alike.ensures.next;
      exact = c.nothing_else_differs.ensures.exact;
      formed = c.runs_are_well_formed.ensures.step;
      footprints = c.footprints_are_the_same.ensures;
      issued = c.instructions_issue_behind_a_quiet_history.ensures.issued;
      completed = c.instructions_without_accesses_complete.ensures.completed;
      happens = c.instructions_without_accesses_complete.ensures.happens;
    } in
    let stops = refused-stops machine u v why refused outcome in
    over-faulted paged laws c.courses_end.ensures.at_issue machine root placement start until from first course fetched caches before after u v issued on kept issuing c.steps_are_alike.ensures.faulted why stops.1 at same stops.0
