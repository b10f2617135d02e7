-- What was learned of these proofs.
-- - What comes by a cycle stays a Bool: is_by k (latest cycles) ≡ list_all (is_by k) cycles is one equation, so a latest is taken apart, put together
--   and moved to a later cycle by list_all-append and and_parts alone. A latest is a given cycle where it is by that one and not by the one before
--   (tight).
-- - An entry of a history is taken as entry_completed .. of variables for its fetch, its issue, its beats and its batches, with what is known of them as
--   records; the real ones come in at the last call. No goal then prints an equation of timing.
-- - An accumulator whose last item tells of all (all_batches): the invariant is a function of the cycle, "where the last has passed by k, all have"
--   (ArePassing), and a step uses it at the k of the step. It needs no record of when each batch started.
-- - A definition's choice over an equation (f.stop ≡ None, f.batches ≡ []): write the term once under λ i. with the equations at i in their places, and
--   go on from where it computes; the record itself is never rewritten.
-- - Some 1,100 lines of lemmas checked at the first or second try, in 20 seconds each time, by rt check --only LAW --allow-holes, with an Answers.antt
--   that does no more than use the file in work.
pub mod Accesses
pub mod Beating
pub mod Going
pub mod Issue
pub mod Over
pub mod Passing
pub mod Readiness
pub mod Times
