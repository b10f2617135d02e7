-- What was learned of these proofs.
-- - What comes from a cycle on (is_from n c: at n or later, or never) is the other half of is_by: is_from (k + 1) c ≡ true is is_by k c ≡ false. One
--   item of a latest that comes from n on makes all of it come so, so nothing else of an equation of timing is looked at: issue, batches, walks, queue,
--   commits, stops and retire follow from one item each.
-- - "Nothing by then" and "no earlier than" are one lemma: all that happens comes from k + 1 on where the issue does; what is in the list at k
--   contradicts it.
-- - A law over an instruction e and its footprint f by two equations (e ≡ entry_of .., f ≡ footprint ..): lemmas speak of the terms themselves, where
--   all computes, and one next-of with the claim as λ e f. .. takes them to the variables.
-- - A result in a record of equations, field by field: state the general end once over what; Completes, Reaches and Stops make it compute, and subst
--   along λ j. record { .. } puts in figures that are the same.
-- - A choice that computes away (the fetch behind began or not): name its test as a variable, fetched-if b, and give each side its equation; a walk that
--   hasn't ended is filtered away, so both sides are one list.
-- - Laws of lower crates as small records (Cited.antt), filled from c.LAW.ensures once in each Answers.antt. 1,300 lines of lemmas checked at the first
--   or second try, in 20 seconds each.
pub mod Lists
pub mod From
pub mod Late
pub mod Completing
pub mod Behind
pub mod Cited
pub mod Changing
pub mod GoingOn
pub mod Flight
pub mod AtEnd
