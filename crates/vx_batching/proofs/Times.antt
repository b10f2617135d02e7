-- Cycles: what comes by another one, what comes from another one on, and the latest of some.
use Rattle.std.proofs.Common.{◌≡◌, ℕ, ◌+◌, ◌≤◌, max, Bool, true, false, List, [], ◌∷◌, ◌++◌, refl, sym, ap, ◌∙◌, arith}
use Rattle.std.specs.Prelude.{nat_le, map}
use Rattle.std.specs.List.{list_all}
use Rattle.std.proofs.lemmas.Bool.{and_parts, false≢true, leb-true, le-leb}
use Rattle.vx_episode.specs.Cycles.{Cycle, behind, later_of, latest, is_by}
use Rattle.vx_episode.specs.Cycles.Cycle.{At, Never}
use Rattle.vx_episode.specs.Footprint.{Access}
use Rattle.vx_episode.specs.History.{AccessTimes}
use Rattle.vx_batching.specs.Batching.{all_done}

pub at-cycle : (a b : ℕ) → At a ≡ At b → a ≡ b
at-cycle a b e = cc

pub never-at : (a : ℕ) → Never ≡ At a → false ≡ true
never-at a e = absurd (cc)

-- ---- the latest of some

pub none-later : (c : Cycle) → later_of (At 0) c ≡ c
none-later (At c) = ap At (omega arith)
none-later Never = refl

pub later_of-never : (c : Cycle) → later_of c Never ≡ Never
later_of-never (At c) = refl
later_of-never Never = refl

later_of-assoc : (a b c : Cycle) → later_of (later_of a b) c ≡ later_of a (later_of b c)
later_of-assoc (At a) (At b) (At c) = ap At (omega arith)
later_of-assoc (At a) (At b) Never = refl
later_of-assoc (At a) Never c = refl
later_of-assoc Never b c = refl

pub latest-append : (xs ys : List Cycle) → latest (xs ++ ys) ≡ later_of (latest xs) (latest ys)
latest-append [] ys = sym (none-later (latest ys))
latest-append (x ∷ xs) ys = ap (later_of x) (latest-append xs ys) ∙ sym (later_of-assoc x (latest xs) (latest ys))

-- accesses that were all queued are done by the greatest of their cycles
pub latest-done : (accesses : List AccessTimes) → latest (map (λ (a : AccessTimes). At a.done) accesses) ≡ At (all_done accesses)
latest-done [] = refl
latest-done (a ∷ accesses) = ap (later_of (At a.done)) (latest-done accesses)

-- those that never are, never
pub latest-missing : (missing : List Access) → (missing ≡ [] → false ≡ true) → latest (map (λ (a : Access). Never) missing) ≡ Never
latest-missing [] some = absurd (false≢true (some refl))
latest-missing (a ∷ missing) some = refl

-- ---- by a cycle

pub by-more : (k n : ℕ) → k ≤ n → (c : Cycle) → is_by k c ≡ true → is_by n c ≡ true
by-more k n few (At c) h = let some = leb-true c k h in le-leb c n (omega arith)
by-more k n few Never h = absurd (false≢true h)

pub at-by : (k n : ℕ) (c : Cycle) → c ≡ At k → k ≤ n → is_by n c ≡ true
at-by k n c e few = ap (is_by n) e ∙ le-leb k n few

pub by-at : (k n : ℕ) (c : Cycle) → c ≡ At k → is_by n c ≡ true → k ≤ n
by-at k n c e h = leb-true k n (sym (ap (is_by n) e) ∙ h)

pub record ComesBy (k : ℕ) (c : Cycle) : Type 0 where
  pub cycle : ℕ
  pub is : c ≡ At cycle
  pub by : cycle ≤ k

pub comes : (k : ℕ) (c : Cycle) → is_by k c ≡ true → ComesBy k c
comes k (At c) h = record { cycle = c; is = refl; by = leb-true c k h }
comes k Never h = absurd (false≢true h)

later-comes : (k : ℕ) (a b : Cycle) → ComesBy k a → ComesBy k b → ComesBy k (later_of a b)
later-comes k a b x y =
    let first = x.by in
    let second = y.by in
    record { cycle = max x.cycle y.cycle; is = (λ i. later_of (x.is i) (y.is i)); by = omega arith }

pub latest-comes : (k : ℕ) (cycles : List Cycle) → list_all (is_by k) cycles ≡ true → ComesBy k (latest cycles)
latest-comes k [] h = record { cycle = 0; is = refl; by = omega arith }
latest-comes k (c ∷ cycles) h =
    let parts = and_parts (is_by k c) (list_all (is_by k) cycles) h in
    later-comes k c (latest cycles) (comes k c parts.0) (latest-comes k cycles parts.1)

-- ---- from a cycle on

-- it comes at a cycle or later, or never
abbrev pub is_from : (first : ℕ) → Cycle → Bool
is_from first (At cycle) = nat_le first cycle
is_from first Never = true

pub from-behind : (k : ℕ) (c : Cycle) → is_from k c ≡ true → is_from (k + 1) (behind c) ≡ true
from-behind k (At c) h = let some = leb-true k c h in le-leb (k + 1) (c + 1) (omega arith)
from-behind k Never h = refl

pub from-first : (k : ℕ) (a b : Cycle) → is_from k a ≡ true → is_from k (later_of a b) ≡ true
from-first k (At a) (At b) h = let some = leb-true k a h in le-leb k (max a b) (omega arith)
from-first k (At a) Never h = refl
from-first k Never b h = refl

pub from-second : (k : ℕ) (a b : Cycle) → is_from k b ≡ true → is_from k (later_of a b) ≡ true
from-second k (At a) (At b) h = let some = leb-true k b h in le-leb k (max a b) (omega arith)
from-second k (At a) Never h = refl
from-second k Never b h = refl

pub from-at : (k n : ℕ) (c : Cycle) → c ≡ At n → k ≤ n → is_from k c ≡ true
from-at k n c e few = ap (is_from k) e ∙ le-leb k n few

pub at-from : (k n : ℕ) (c : Cycle) → c ≡ At n → is_from k c ≡ true → k ≤ n
at-from k n c e h = leb-true k n (sym (ap (is_from k) e) ∙ h)
