-- What was learned of these proofs.
-- - What walks set, in any order, is one equation of Bool: is_dirty n (after_walks R walks) ≡ is_dirty n R || list_any (dirties R n) walks. Walks that
--   are filtered, another port's or later ones then drop out by list_any-append.
-- - Each P xs as an abbrev by recursion computes, so h.0 and h.1 are its parts. What is known of one item inside before ++ last ∷ after is proved of
--   each item of the list and taken there.
-- - Facts of batches over any below : ℕ → List Access serve scalar and vector accesses alike; the classes of instructions come in once, as four records.
-- - That all before have retired goes backwards (each retire is by the next one's), so no law that anything ever comes is needed.
pub mod Chains
pub mod Entries
pub mod Fates
pub mod Fetches
pub mod Happens
pub mod Instructions
pub mod Lists
pub mod Moves
pub mod Pages
pub mod Ranges
pub mod Times
pub mod Walks
pub mod Whole
