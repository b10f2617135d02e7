use Rattle.std.proofs.Common.{ap, ◌∙◌}
use Rattle.vx_hart.specs.Asking.{is_service}
use Rattle.vx_pipe.proofs.Completing.{StepLaws, retiring}
use Rattle.vx_pipe.proofs.Kept.{PagedLaws}
use Rattle.vx_pipe.proofs.Outcomes.{completed, service, fault}
use Rattle.vx_pipe.proofs.Stopping.{over-service, over-faulted}
use Rattle.vx_pipe.proofs.laws.plain_instructions_are_done.Goals as goal

pub returns-clause-completes : goal.returns-clause-completes
returns-clause-completes c machine root until placement start from first course fetched caches before after u v word i k issued why on kept issuing of is next at same outcome =
    let paged : PagedLaws = record {
      words = c.tables_stay.ensures.words;
      held = c.tables_stay.ensures.held;
      is_placed = c.walks_leave_pages.ensures.placed;
      alone = c.walks_leave_pages.ensures.alone;
      elsewhere = c.walks_leave_pages.ensures.elsewhere;
    } in
    let laws : StepLaws = record {
      next = c.steps_are_alike.ensures.next;
      exact = c.nothing_else_differs.ensures.exact;
      formed = c.runs_are_well_formed.ensures.step;
      footprints = c.footprints_are_the_same.ensures;
      issued = c.instructions_issue_behind_a_quiet_history.ensures.issued;
      completed = c.instructions_without_accesses_complete.ensures.completed;
      happens = c.instructions_without_accesses_complete.ensures.happens;
    } in
    let done = completed machine u v word i k of is next why outcome in
    retiring paged laws machine root placement start until from first course fetched caches before after u v _ issued _ _ on kept issuing done.1 at done.0 same

pub returns-clause-asks : goal.returns-clause-asks
returns-clause-asks c machine root until placement start from first course fetched caches before after u v word i k issued why on kept issuing of is next at same outcome waits =
    let paged : PagedLaws = record {
      words = c.tables_stay.ensures.words;
      held = c.tables_stay.ensures.held;
      is_placed = c.walks_leave_pages.ensures.placed;
      alone = c.walks_leave_pages.ensures.alone;
      elsewhere = c.walks_leave_pages.ensures.elsewhere;
    } in
    let laws : StepLaws = record {
      next = c.steps_are_alike.ensures.next;
      exact = c.nothing_else_differs.ensures.exact;
      formed = c.runs_are_well_formed.ensures.step;
      footprints = c.footprints_are_the_same.ensures;
      issued = c.instructions_issue_behind_a_quiet_history.ensures.issued;
      completed = c.instructions_without_accesses_complete.ensures.completed;
      happens = c.instructions_without_accesses_complete.ensures.happens;
    } in
    let asks = service machine u v word i k of is next why outcome in
    over-service paged laws c.courses_end.ensures.at_issue machine root placement start until from first course fetched caches before after u v issued on kept issuing
    c.pending_bytes_are_not_read.ensures.next (ap is_service next ∙ asks.0) asks.1 at same (waits asks.0)

pub returns-clause-faults : goal.returns-clause-faults
returns-clause-faults c machine root until placement start from first course fetched caches before after u v word i k issued why on kept issuing of is next at same outcome =
    let paged : PagedLaws = record {
      words = c.tables_stay.ensures.words;
      held = c.tables_stay.ensures.held;
      is_placed = c.walks_leave_pages.ensures.placed;
      alone = c.walks_leave_pages.ensures.alone;
      elsewhere = c.walks_leave_pages.ensures.elsewhere;
    } in
    let laws : StepLaws = record {
      next = c.steps_are_alike.ensures.next;
      exact = c.nothing_else_differs.ensures.exact;
      formed = c.runs_are_well_formed.ensures.step;
      footprints = c.footprints_are_the_same.ensures;
      issued = c.instructions_issue_behind_a_quiet_history.ensures.issued;
      completed = c.instructions_without_accesses_complete.ensures.completed;
      happens = c.instructions_without_accesses_complete.ensures.happens;
    } in
    let faults = fault machine u v word i k of is next c.operations_do_as_their_class.ensures why outcome in
    over-faulted paged laws c.courses_end.ensures.at_issue machine root placement start until from first course fetched caches before after u v issued on kept issuing c.steps_are_alike.ensures.faulted why faults.1 at same faults.0
