-- What was learned of these proofs.
-- - The code keeps less than the definitions' machine (no residency, no flat memory): a relation StandsFor of system, physical memory and machine, and
--   each method says (m : Machine) → StandsFor old m → Moves old new m (next m). Ways join by one lemma, so that a round is three of them. A loop's
--   invariant is a function of the machine too; what a method requires is that there is some machine (IsSystem), and the loop gives it back by the
--   invariant at that machine.
-- - A fact of a state that needn't hold at the end (a process that is over may be in any state) is a field under a premise (over ≡ None → IsWellFormed
--   ..): every way on has the premise at hand, and the ways to an end give it by absurd.
-- - A stand-in is tried by a false clause (ensures { self.new.clock ≡ 7 }) in two methods above it: both must be left open.
-- - A requirement with one named clause is a record of one field: f-requires g c = record { stands = .. }.
pub mod Advancing
pub mod Booting
pub mod Playing
pub mod Rounds
pub mod Services
pub mod Stops
pub mod Taking
pub mod Timed
pub mod UnderWay
