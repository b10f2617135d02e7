use Rattle.std.proofs.Common.{refl}
use Rattle.vx_pipe.proofs.Calculating.{calculates, refuses}
use Rattle.vx_pipe.proofs.Completing.{StepLaws, retiring}
use Rattle.vx_pipe.proofs.Kept.{PagedLaws}
use Rattle.vx_pipe.proofs.Stopping.{over-faulted}
use Rattle.vx_pipe.proofs.arithmetic.calculations_are_done.Goals as goal

pub returns-clause-completes : goal.returns-clause-completes
returns-clause-completes c machine root until placement start from first course fetched caches cells u v word i family beats progress fault issued on kept issuing of next legal count at outcome =
    let paged : PagedLaws = record {
      words = c.tables_stay.ensures.words;
      held = c.tables_stay.ensures.held;
      is_placed = c.walks_leave_pages.ensures.placed;
      alone = c.walks_leave_pages.ensures.alone;
      elsewhere = c.walks_leave_pages.ensures.elsewhere;
    } in
    let laws : StepLaws = record {
      next = c.steps_are_alike.ensures.next;
      exact = c.nothing_else_differs.ensures.exact;
      formed = c.runs_are_well_formed.ensures.step;
      footprints = c.footprints_are_the_same.ensures;
      issued = c.instructions_issue_behind_a_quiet_history.ensures.issued;
      completed = c.instructions_without_accesses_complete.ensures.completed;
      happens = c.instructions_without_accesses_complete.ensures.happens;
    } in
    let done = calculates machine u word i family of next beats progress fault v legal count outcome in
    retiring paged laws machine root placement start until from first course fetched caches cells cells u v _ issued _ _ on kept issuing done.1 at done.0 refl

pub returns-clause-refused : goal.returns-clause-refused
returns-clause-refused c machine root until placement start from first course fetched caches cells u word i family issued on kept issuing of next illegal at =
    let paged : PagedLaws = record {
      words = c.tables_stay.ensures.words;
      held = c.tables_stay.ensures.held;
      is_placed = c.walks_leave_pages.ensures.placed;
      alone = c.walks_leave_pages.ensures.alone;
      elsewhere = c.walks_leave_pages.ensures.elsewhere;
    } in
    let laws : StepLaws = record {
      next = c.steps_are_alike.ensures.next;
      exact = c.nothing_else_differs.ensures.exact;
      formed = c.runs_are_well_formed.ensures.step;
      footprints = c.footprints_are_the_same.ensures;
      issued = c.instructions_issue_behind_a_quiet_history.ensures.issued;
      completed = c.instructions_without_accesses_complete.ensures.completed;
      happens = c.instructions_without_accesses_complete.ensures.happens;
    } in
    let faults = refuses machine u word i family of next illegal in
    over-faulted paged laws c.courses_end.ensures.at_issue machine root placement start until from first course fetched caches cells cells u u issued on kept issuing c.steps_are_alike.ensures.faulted _ faults.1 at refl faults.0
