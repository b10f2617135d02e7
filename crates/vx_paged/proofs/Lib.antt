-- What was learned of these proofs.
-- What helped with vx_paged, whose pages stand in frames of physical memory (1,700 lines of proof, 30 seconds):
-- - Bytes by a function of the place (bytes_from memory start count, unfoldable): the memory that is shown is a map over the pages, a byte that is put
--   changes the function, and a word that is written is held against it place by place. No page is ever computed.
-- - A page by its number is an Option from one list (framed), and no place in it: what an access finds is one ap along "the page of a number is that of
--   its frame". The place comes in where a search ends, and where two pages are told apart.
-- - "The words outside of the pages' frames" as a list with those inside made 0 (blanked): one equation says that all else stays, and a write within
--   leaves it by one induction.
-- - That a placement says what a residency does is two equations of maps; cc takes the head and the tail apart.
-- - A mask's bits by a table of Bools (names_all width, refl at each of four widths) and one lookup lemma.
-- - The facts of a call's steps as a record over plain variables (Begun), the same record at the definition's terms by subst along each equation, and
--   the answer is one record of the callees' clauses.
-- - A length's range comes by a call whose answer isn't used: let _length = bytes.len();.
-- - In a trait's method self is the struct's view: subst what is known of its fields along c.self.view_is once, and go on with that.
pub mod Accesses
pub mod Booted
pub mod Found
pub mod InTurn
pub mod Joined
pub mod Left
pub mod Masks
pub mod Placing
pub mod Ranges
pub mod Shown
pub mod Staying
pub mod Stored
pub mod Turns
pub mod Walked
pub mod Words
pub mod Written
