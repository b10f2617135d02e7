-- What was learned of these proofs.
-- - The loop's invariant is a record over the recursion's accumulator (IsReached), with one equation "the whole is the recursion from here on" (whole).
--   Each way on is one lemma with the next equation as a premise (goes-through), so that a batch that is cut off is the same step with nothing left
--   behind it.
-- - The commit of an accumulator is stated of the accumulator (commit_is, also of an empty one), beside that of its newest item: then a step is one
--   lemma over plain cycles (commit-more), and an empty accumulator is no case.
-- - What is still to come is a list in front (IsMore p batches own: batches ≡ later ++ own, and each of later passes p). One induction gives it for each
--   p: any batch, one that starts behind a cycle, one that never starts. All that is said of lists of accesses, walks, commits and stops follows by
--   flat_map-append and filter-append, with no induction of its own.
-- - "Never before" as a Bool (is_from k cycle, true of Never): a latest is so once one of its cycles is.
-- - A choice on a Bool that is only known by an equation (is_trimmed): ap (λ t. elim t as (λ _. T) [ .. ]) e over the definition's own cases carries it
--   in.
-- - A variable named as a definition hides it (reached), and the message names the pattern; a proof's variable so for the invariant avoids that.
pub mod Ending
pub mod Flight
pub mod Happening
pub mod Judging
pub mod Later
pub mod Lists
pub mod Passing
pub mod Slicing
pub mod Started
pub mod Starting
pub mod Stopping
pub mod Stuck
pub mod Times
pub mod Walking
