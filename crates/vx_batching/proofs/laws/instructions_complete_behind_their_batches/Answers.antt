use Rattle.vx_batching.proofs.Ending.{completed-at, completes}
use Rattle.std.proofs.Common.{max}
use Rattle.vx_batching.specs.Batching.{next_times, all_done}
use Rattle.vx_batching.proofs.Later.{with_its_commit}
use Rattle.vx_batching.proofs.Passing.{trims-off}
use Rattle.vx_batching.proofs.laws.instructions_complete_behind_their_batches.Goals as goal

pub returns-clause-completed : goal.returns-clause-completed
returns-clause-completed c start history s retired issued f last own looked committed before done issue so stop none =
    completed-at start history s retired issued f issue last own looked committed before done so stop none

pub returns-clause-happens : goal.returns-clause-happens
returns-clause-happens c start history s retired issued f last own looked committed before done issue so stop none =
    completes start history s retired issued f issue last own looked committed before done so stop none

pub returns-clause-trimmed_completed : goal.returns-clause-trimmed_completed
returns-clause-trimmed_completed c start history s retired issued f own b rest looked committed before done next issue so stop none trimmed is =
    completed-at start history s retired issued f issue (with_its_commit start history own (next_times start history issued f own b)) own next
    (max committed (max next (all_done (next_times start history issued f own b).accesses))) committed (max done (all_done (next_times start history issued f own b).accesses))
    (trims-off start history retired issued f own b rest looked committed before done next so is trimmed) stop none

pub returns-clause-trimmed_happens : goal.returns-clause-trimmed_happens
returns-clause-trimmed_happens c start history s retired issued f own b rest looked committed before done next issue so stop none trimmed is =
    completes start history s retired issued f issue (with_its_commit start history own (next_times start history issued f own b)) own next
    (max committed (max next (all_done (next_times start history issued f own b).accesses))) committed (max done (all_done (next_times start history issued f own b).accesses))
    (trims-off start history retired issued f own b rest looked committed before done next so is trimmed) stop none
