-- What was learned of these proofs.
-- - A recursion from an accumulator with a bound (run_on, fetched_on): a second recursion from the end (first_instructions n), unfoldable, and one lemma
--   run (n + suc bound) [] s ≡ run bound (first (suc n)) .., by induction on n with the bound as a variable. One step and the stop are a lemma each (ap
--   of an elim on the test), so no proof unfolds both recursions, and the bound is one omega at the last use.
-- - A fact of all before from the last: carry it in the invariant's record (how many completed, the last retire), and let each step add one; of the
--   tests that none ends the episode, list_any over the appended list gives those before by or_parts.
-- - "Comes by then" as a Bool test (is_by last c ≡ true, or just that it comes) goes through latest from the outside in: one lemma by cases for
--   later_of, one for later. No cycle needs a name, and Never drops out by itself.
-- - Big values (entry_of): lemmas take a variable with an equation to them, or only project a field; all lemmas here checked at the first or second try
--   in some seconds.
-- - Where an item stands in an appended list: before-first p q (what stands before an item that the second part lacks is in the first part), by
--   induction with cc for the heads and tails; the parts' tests by one lemma each over any q : What → Bool.
pub mod Changing
pub mod Counting
pub mod Fetches
pub mod GoesOn
pub mod Parts
pub mod Retiring
pub mod Running
