-- Cycles that come by another one.
use Rattle.std.proofs.Common.{◌≡◌, ℕ, ◌+◌, ◌≤◌, max, Bool, true, false, List, [], ◌∷◌, ◌++◌, refl, sym, ap, ◌∙◌, inl, inr, arith}
use Rattle.std.specs.Prelude.{◌&&◌, nat_le, map, filter, flat_map, if◌then◌else◌}
use Rattle.std.specs.List.{list_all}
use Rattle.std.proofs.lemmas.Bool.{cases_Bool, and_parts, and_from, false≢true, leb-true, leb-false, le-leb, lt-leb}
use Rattle.std.proofs.lemmas.List.Folds.{list_all-append}
use Rattle.vx_episode.specs.Cycles.{Cycle, later, behind, later_of, latest, is_by}
use Rattle.vx_episode.specs.Cycles.Cycle.{At, Never}

-- ---- lists of which all pass a test

pub all-both : {A : Type 0} (p : A → Bool) (xs ys : List A) → list_all p xs ≡ true → list_all p ys ≡ true → list_all p (xs ++ ys) ≡ true
all-both p xs ys h k = list_all-append p xs ys ∙ and_from (list_all p xs) (list_all p ys) h k

pub all-parts : {A : Type 0} (p : A → Bool) (xs ys : List A) → list_all p (xs ++ ys) ≡ true → (list_all p xs ≡ true) × (list_all p ys ≡ true)
all-parts p xs ys h = and_parts (list_all p xs) (list_all p ys) (sym (list_all-append p xs ys) ∙ h)

pub all-more : {A : Type 0} (p q : A → Bool) → ((a : A) → p a ≡ true → q a ≡ true) → (xs : List A) → list_all p xs ≡ true → list_all q xs ≡ true
all-more p q each [] h = refl
all-more p q each (x ∷ xs) h =
    let parts = and_parts (p x) (list_all p xs) h in
    and_from (q x) (list_all q xs) (each x parts.0) (all-more p q each xs parts.1)

pub all-if : {A : Type 0} (p : A → Bool) (b : Bool) (xs ys : List A) → list_all p xs ≡ true → list_all p ys ≡ true → list_all p (if b then xs else ys) ≡ true
all-if p true xs ys h k = h
all-if p false xs ys h k = k

pub all-filter : {A : Type 0} (p q : A → Bool) (xs : List A) → list_all p xs ≡ true → list_all p (filter q xs) ≡ true
all-filter p q [] h = refl
all-filter p q (x ∷ xs) h =
    let parts = and_parts (p x) (list_all p xs) h in
    all-if p (q x) (x ∷ filter q xs) (filter q xs) (and_from (p x) (list_all p (filter q xs)) parts.0 (all-filter p q xs parts.1)) (all-filter p q xs parts.1)

pub all-flat_map : {A B : Type 0} (p : B → Bool) (f : A → List B) (xs : List A) → list_all (λ x. list_all p (f x)) xs ≡ true → list_all p (flat_map f xs) ≡ true
all-flat_map p f [] h = refl
all-flat_map p f (x ∷ xs) h =
    let parts = and_parts (list_all p (f x)) (list_all (λ x. list_all p (f x)) xs) h in
    all-both p (f x) (flat_map f xs) parts.0 (all-flat_map p f xs parts.1)

-- all pass, so a filter keeps all
pub filter-all : {A : Type 0} (p : A → Bool) (xs : List A) → list_all p xs ≡ true → filter p xs ≡ xs
filter-all p [] h = refl
filter-all p (x ∷ xs) h =
    let parts = and_parts (p x) (list_all p xs) h in
    rw parts.0 (ap (λ rest. x ∷ rest) (filter-all p xs parts.1))

-- ---- cycles

and-false : (b : Bool) → false ≡ (b && false)
and-false true = refl
and-false false = refl

max-le : (a b k : ℕ) → nat_le (max a b) k ≡ (nat_le a k && nat_le b k)
max-le a b k = elim (cases_Bool (nat_le a k)) [
  | inl first ↦ elim (cases_Bool (nat_le b k)) [
    | inl second ↦ let l = leb-true a k first in let r = leb-true b k second in rw (first, second, le-leb (max a b) k (omega arith)) refl
    | inr second ↦ let r = leb-false b k second in rw (first, second, lt-leb (max a b) k (omega arith)) refl
  ]
  | inr first ↦ let l = leb-false a k first in rw (first, lt-leb (max a b) k (omega arith)) refl
]

by-later_of : (k : ℕ) (a b : Cycle) → is_by k (later_of a b) ≡ (is_by k a && is_by k b)
by-later_of k (At a) (At b) = max-le a b k
by-later_of k (At a) Never = and-false (nat_le a k)
by-later_of k Never b = refl

-- the latest of some cycles comes by a cycle where each of them does
pub by-latest : (k : ℕ) (cycles : List Cycle) → is_by k (latest cycles) ≡ list_all (is_by k) cycles
by-latest k [] = le-leb 0 k (omega arith)
by-latest k (cycle ∷ cycles) = by-later_of k cycle (latest cycles) ∙ ap (λ b. is_by k cycle && b) (by-latest k cycles)

pub by-more : (k n : ℕ) → k ≤ n → (c : Cycle) → is_by k c ≡ true → is_by n c ≡ true
by-more k n few (At c) h = let some = leb-true c k h in le-leb c n (omega arith)
by-more k n few Never h = absurd (false≢true h)

pub all-by-more : (k n : ℕ) → k ≤ n → (cycles : List Cycle) → list_all (is_by k) cycles ≡ true → list_all (is_by n) cycles ≡ true
all-by-more k n few cycles h = all-more (is_by k) (is_by n) (by-more k n few) cycles h

pub le-more : (k n a : ℕ) → k ≤ n → nat_le a k ≡ true → nat_le a n ≡ true
le-more k n a few h = let some = leb-true a k h in le-leb a n (omega arith)

-- one cycle later
pub behind-by : (k : ℕ) (c : Cycle) → is_by k c ≡ true → is_by (k + 1) (behind c) ≡ true
behind-by k (At c) h = let some = leb-true c k h in le-leb (c + 1) (k + 1) (omega arith)
behind-by k Never h = absurd (false≢true h)

pub by-later : (n k : ℕ) (c : Cycle) → is_by k (later n c) ≡ true → is_by k c ≡ true
by-later n k (At c) h = let some = leb-true (c + n) k h in le-leb c k (omega arith)
by-later n k Never h = absurd (false≢true h)

pub by-shorter : (m n k : ℕ) → m ≤ n → (c : Cycle) → is_by k (later n c) ≡ true → is_by k (later m c) ≡ true
by-shorter m n k few (At c) h = let some = leb-true (c + n) k h in le-leb (c + m) k (omega arith)
by-shorter m n k few Never h = absurd (false≢true h)

pub all-behind : (k : ℕ) (cycles : List Cycle) → list_all (is_by k) cycles ≡ true → list_all (is_by (k + 1)) (map behind cycles) ≡ true
all-behind k [] h = refl
all-behind k (c ∷ cycles) h =
    let parts = and_parts (is_by k c) (list_all (is_by k) cycles) h in
    and_from (is_by (k + 1) (behind c)) (list_all (is_by (k + 1)) (map behind cycles)) (behind-by k c parts.0) (all-behind k cycles parts.1)

pub behind-all : (k : ℕ) (cycles : List Cycle) → list_all (is_by k) (map behind cycles) ≡ true → list_all (is_by k) cycles ≡ true
behind-all k [] h = refl
behind-all k (c ∷ cycles) h =
    let parts = and_parts (is_by k (behind c)) (list_all (is_by k) (map behind cycles)) h in
    and_from (is_by k c) (list_all (is_by k) cycles) (by-later 1 k c parts.0) (behind-all k cycles parts.1)

-- what comes at a cycle comes by it
pub at-by : (k : ℕ) (c : Cycle) → c ≡ At k → is_by k c ≡ true
at-by k c e = ap (is_by k) e ∙ le-leb k k (omega arith)

pub latest-at : (k : ℕ) (cycles : List Cycle) → latest cycles ≡ At k → list_all (is_by k) cycles ≡ true
latest-at k cycles e = sym (by-latest k cycles) ∙ at-by k (latest cycles) e

-- what comes by a cycle, comes
pub record ComesBy (k : ℕ) (c : Cycle) : Type 0 where
  pub cycle : ℕ
  pub is : c ≡ At cycle
  pub by : cycle ≤ k

pub comes : (k : ℕ) (c : Cycle) → is_by k c ≡ true → ComesBy k c
comes k (At c) h = record { cycle = c; is = refl; by = leb-true c k h }
comes k Never h = absurd (false≢true h)

pub latest-comes : (k : ℕ) (cycles : List Cycle) → list_all (is_by k) cycles ≡ true → ComesBy k (latest cycles)
latest-comes k cycles h = comes k (latest cycles) (by-latest k cycles ∙ h)

-- nothing waits for what never comes
pub later_of-never : (c : Cycle) → later_of c Never ≡ Never
later_of-never (At c) = refl
later_of-never Never = refl
