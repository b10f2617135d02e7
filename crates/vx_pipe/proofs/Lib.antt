-- What was learned of these proofs.
-- - Laws first, over plain values (plain_instructions_are_done, retiring_instructions_go_on): states before and after as variables, cells as states, and
--   the course as a record; the code's functions then only name their own parts. All of them checked at the first or second try.
-- - One record between two steps (IsRetiring): what is known once an instruction's values are done, whatever its kind; going on and ending are proved
--   from it once.
-- - A walk that can't end in time changes nothing, so the fetch behind the end needs no look-up of its own: it is the plain fetch, made only where begin
--   and walk time come by the last cycle.
-- - A contract over a generic memory tells that its place is the same only if rest tells it: equal contents don't.
-- - A single clause with a name has no goal returns-clause-NAME: leave the name out, and the goal is returns.
-- - An arm in one lemma file over plain variables (AccessArm): the callees' clauses stand in it word for word as premises, so that each answer is one
--   call, with _ for what a fact shows. The requires is an episode for the calls' bounds, the ensures is all of them: what comes next is the same for
--   both, since what was written to the output doesn't tell it (next-any).
-- - A fate of which only is_good is tested leaves two cases; that it isn't unknown comes from the lemma, and the code needs no arm for it.
-- - An arm's contract in two parts: requires says that some episode stands so (an existential record), from which the bounds and the tables come, and
--   ensures speaks of every such episode. The loop keeps both as its invariant: the next record is the last one with its going taken through the second
--   part. A dispatch by class over such arms proves with no answer.
-- - Every answer one call of a lemma over plain values, with the callees' clauses as its arguments (issued-at, turning-at, plays-placed): the engine's
--   loop, its turn and episode checked at the first try.
-- - A for over a range that can't be gone through bounds a loop whose measure is an argument over the whole history: the invariant has the counter as
--   what completed, and the end is unreachable!().
-- - What a law's record hides (plays.result) comes back by the equation that the record and another one share (episode .. ≡ Some ..).
pub mod AccessArm
pub mod AccessBatch
pub mod AccessBounds
pub mod AccessFates
pub mod AccessSteps
pub mod AccessTruths
pub mod Accessing
pub mod Beating
pub mod Behind
pub mod Bounds
pub mod Calculating
pub mod Come
pub mod Completing
pub mod Episodes
pub mod Fetched
pub mod Footprints
pub mod Kept
pub mod Outcomes
pub mod Outputs
pub mod PlainArm
pub mod Plainly
pub mod Playing
pub mod RefusedArm
pub mod Retired
pub mod Retires
pub mod Stopping
pub mod TransferAhead
pub mod TransferArm
pub mod TransferBatch
pub mod TransferCourse
pub mod TransferElements
pub mod TransferFates
pub mod TransferFetch
pub mod TransferFetched
pub mod TransferItems
pub mod TransferLoop
pub mod TransferMoving
pub mod TransferOne
pub mod TransferOver
pub mod TransferPassing
pub mod TransferReaches
pub mod TransferServed
pub mod TransferSoon
pub mod TransferSteps
pub mod TransferStops
pub mod TransferValues
pub mod Turns
