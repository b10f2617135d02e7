use Rattle.std.proofs.Common.{◌+◌, [], refl}
use Rattle.vx_pipe.proofs.Retired.{goes, over, e, f}
use Rattle.vx_pipe.proofs.laws.retiring_instructions_go_on.Goals as goal

pub returns-clause-goes : goal.returns-clause-goes
returns-clause-goes c start until from first course issued completed commits jumps changes caches cells u window r early =
    let state = c.episodes_go_on.ensures.state start until from course.completed r.history r.now r.after r.on.under_way r.steps in
    goes start until from first course issued completed commits jumps changes caches cells u window r state c.happenings_are_counted.ensures.commits
    (λ none. c.courses_go_on.ensures.next start until from course r.history r.now (e start until from first course issued completed commits jumps changes caches cells u window r state) (f start until from first course issued completed commits jumps changes caches cells u window r state) r.after issued completed
    r.on window refl refl r.steps r.issued_is r.completed_is none)
    early

pub returns-clause-ends : goal.returns-clause-ends
returns-clause-ends c start until from first course issued completed commits jumps changes caches cells after u pc window r late at kept =
    let state = c.episodes_go_on.ensures.state start until from course.completed r.history r.now r.after r.on.under_way r.steps in
    over start until from first course issued completed commits jumps changes caches cells u window r state after pc at (c.continued_is_the_step.ensures r.now.state r.after r.steps)
    (c.courses_end.ensures.completes start until from course r.history r.now (e start until from first course issued completed commits jumps changes caches cells u window r state) (f start until from first course issued completed commits jumps changes caches cells u window r state) r.before [] issued (completed + 1)
    r.on window refl refl r.issued_is r.happens r.none_ends late)
    kept
