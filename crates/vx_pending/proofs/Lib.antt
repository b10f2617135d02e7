-- What was learned of these proofs.
-- What helped with the laws of vx_pending, by which a step doesn't depend on some bytes (1,700 lines, 15 seconds):
-- - What a byte is after a write, as a function of the pages' numbers and lengths alone (written_among): two memories with the same pages then have the
--   same byte there by a path in each argument, and no induction over both at once is needed.
-- - A fold over accesses as a fold over the memory alone (stored), joined to the state's by refl in two lines (stores-are).
-- - Whether a byte lies in some span stays the Bool of the definition (list_any); filter-append and list_any-append cut it into an instruction's done
--   elements and the rest as an ||, and the three cases of that are the proof.
-- - A relation between outcomes by their variants (OutcomesAlike), ⊥ in a catch-all: each class of instruction gives one line, and subst along the one
--   equation in which both differ (what comes next, the first failure, a loaded number).
-- - A function by cases that a lemma computes with is an abbrev; a where block can't call the function that it belongs to: pass the recursive call as an
--   argument.
pub mod Pages
pub mod Between
pub mod Stored
pub mod Next
pub mod Within
pub mod Loads
pub mod Prefixes
pub mod Steps
pub mod Footprints
pub mod Outcomes
