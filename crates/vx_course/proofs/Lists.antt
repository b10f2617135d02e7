-- Lists of which all pass a test.
use Rattle.std.proofs.Common.{◌≡◌, ℕ, ◌+◌, Bool, true, false, List, [], ◌∷◌, ◌++◌, refl, sym, ap, ◌∙◌, arith}
use Rattle.std.specs.Prelude.{nat_le, filter, flat_map, reverse, if◌then◌else◌}
use Rattle.std.specs.List.{list_all, list_any}
use Rattle.std.proofs.lemmas.Bool.{and_parts, and_from, or_from, leb-true, lt-leb}
use Rattle.std.proofs.lemmas.List.Folds.{list_all-append}
use mathlib.Core.List.{reverse_aux}

pub all-both : {A : Type 0} (p : A → Bool) (xs ys : List A) → list_all p xs ≡ true → list_all p ys ≡ true → list_all p (xs ++ ys) ≡ true
all-both p xs ys h k = list_all-append p xs ys ∙ and_from (list_all p xs) (list_all p ys) h k

pub all-parts : {A : Type 0} (p : A → Bool) (xs ys : List A) → list_all p (xs ++ ys) ≡ true → (list_all p xs ≡ true) × (list_all p ys ≡ true)
all-parts p xs ys h = and_parts (list_all p xs) (list_all p ys) (sym (list_all-append p xs ys) ∙ h)

pub all-more : {A : Type 0} (p q : A → Bool) → ((a : A) → p a ≡ true → q a ≡ true) → (xs : List A) → list_all p xs ≡ true → list_all q xs ≡ true
all-more p q each [] h = refl
all-more p q each (x ∷ xs) h =
    let parts = and_parts (p x) (list_all p xs) h in
    and_from (q x) (list_all q xs) (each x parts.0) (all-more p q each xs parts.1)

pub all-each : {A : Type 0} (p : A → Bool) → ((a : A) → p a ≡ true) → (xs : List A) → list_all p xs ≡ true
all-each p each [] = refl
all-each p each (x ∷ xs) = and_from (p x) (list_all p xs) (each x) (all-each p each xs)

pub all-if : {A : Type 0} (p : A → Bool) (b : Bool) (xs ys : List A) → list_all p xs ≡ true → list_all p ys ≡ true → list_all p (if b then xs else ys) ≡ true
all-if p true xs ys h k = h
all-if p false xs ys h k = k

pub all-filter : {A : Type 0} (p q : A → Bool) (xs : List A) → list_all p xs ≡ true → list_all p (filter q xs) ≡ true
all-filter p q [] h = refl
all-filter p q (x ∷ xs) h =
    let parts = and_parts (p x) (list_all p xs) h in
    all-if p (q x) (x ∷ filter q xs) (filter q xs) (and_from (p x) (list_all p (filter q xs)) parts.0 (all-filter p q xs parts.1)) (all-filter p q xs parts.1)

pub all-flat_map : {A B : Type 0} (p : B → Bool) (f : A → List B) (xs : List A) → list_all (λ x. list_all p (f x)) xs ≡ true → list_all p (flat_map f xs) ≡ true
all-flat_map p f [] h = refl
all-flat_map p f (x ∷ xs) h =
    let parts = and_parts (list_all p (f x)) (list_all (λ x. list_all p (f x)) xs) h in
    all-both p (f x) (flat_map f xs) parts.0 (all-flat_map p f xs parts.1)

all-aux : {A : Type 0} (p : A → Bool) (xs ys : List A) → list_all p xs ≡ true → list_all p ys ≡ true → list_all p (reverse_aux xs ys) ≡ true
all-aux p [] ys h k = k
all-aux p (x ∷ xs) ys h k =
    let parts = and_parts (p x) (list_all p xs) h in
    all-aux p xs (x ∷ ys) parts.1 (and_from (p x) (list_all p ys) parts.0 k)

pub all-reverse : {A : Type 0} (p : A → Bool) (xs : List A) → list_all p xs ≡ true → list_all p (reverse xs) ≡ true
all-reverse p xs h = all-aux p xs [] h refl

-- all pass, so a filter keeps all
pub filter-all : {A : Type 0} (p : A → Bool) (xs : List A) → list_all p xs ≡ true → filter p xs ≡ xs
filter-all p [] h = refl
filter-all p (x ∷ xs) h =
    let parts = and_parts (p x) (list_all p xs) h in
    rw parts.0 (ap (λ rest. x ∷ rest) (filter-all p xs parts.1))

-- what all pass that another test refuses: a filter by that keeps none, and none passes it
pub filter-none : {A : Type 0} (p q : A → Bool) → ((a : A) → p a ≡ true → q a ≡ false) → (xs : List A) → list_all p xs ≡ true → filter q xs ≡ []
filter-none p q each [] h = refl
filter-none p q each (x ∷ xs) h =
    let parts = and_parts (p x) (list_all p xs) h in
    let here : q x ≡ false = each x parts.0 in
    rw here (filter-none p q each xs parts.1)

pub any-none : {A : Type 0} (p q : A → Bool) → ((a : A) → p a ≡ true → q a ≡ false) → (xs : List A) → list_all p xs ≡ true → list_any q xs ≡ false
any-none p q each [] h = refl
any-none p q each (x ∷ xs) h =
    let parts = and_parts (p x) (list_all p xs) h in
    or_from (q x) (list_any q xs) (each x parts.0) (any-none p q each xs parts.1)

-- one in the middle
pub all-middle : {A : Type 0} (p : A → Bool) (xs ys : List A) (x : A) → list_all p (xs ++ x ∷ ys) ≡ true → p x ≡ true
all-middle p xs ys x h = (and_parts (p x) (list_all p ys) (all-parts p xs (x ∷ ys) h).1).0

-- ---- numbers

pub le-refused : (last n : ℕ) → nat_le (last + 1) n ≡ true → nat_le n last ≡ false
le-refused last n h = let few = leb-true (last + 1) n h in lt-leb n last (omega arith)
