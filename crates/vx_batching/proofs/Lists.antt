-- Lists: all of which pass a test, what a filter keeps, and the greatest of some cycles.
use Rattle.std.proofs.Common.{◌≡◌, ℕ, ◌≤◌, max, Bool, true, false, List, [], ◌∷◌, ◌++◌, refl, sym, ap, ◌∙◌, arith}
use Rattle.std.specs.Prelude.{nat_le, map, filter, flat_map, reverse, if◌then◌else◌}
use Rattle.std.specs.List.{list_all}
use Rattle.std.proofs.lemmas.Bool.{and_parts, and_from, leb-true, le-leb}
use Rattle.std.proofs.lemmas.List.{map-append, reverse-append}
use Rattle.std.proofs.lemmas.List.Folds.{list_all-append}
use Rattle.vx_episode.specs.Episode.{greatest}
use Rattle.vx_episode.specs.History.{AccessTimes}
use Rattle.vx_batching.specs.Batching.{all_done}

pub all-both : {A : Type 0} (p : A → Bool) (xs ys : List A) → list_all p xs ≡ true → list_all p ys ≡ true → list_all p (xs ++ ys) ≡ true
all-both p xs ys h k = list_all-append p xs ys ∙ and_from (list_all p xs) (list_all p ys) h k

pub all-parts : {A : Type 0} (p : A → Bool) (xs ys : List A) → list_all p (xs ++ ys) ≡ true → (list_all p xs ≡ true) × (list_all p ys ≡ true)
all-parts p xs ys h = and_parts (list_all p xs) (list_all p ys) (sym (list_all-append p xs ys) ∙ h)

pub all-more : {A : Type 0} (p q : A → Bool) → ((a : A) → p a ≡ true → q a ≡ true) → (xs : List A) → list_all p xs ≡ true → list_all q xs ≡ true
all-more p q each [] h = refl
all-more p q each (x ∷ xs) h =
    let parts = and_parts (p x) (list_all p xs) h in
    and_from (q x) (list_all q xs) (each x parts.0) (all-more p q each xs parts.1)

pub all-if : {A : Type 0} (p : A → Bool) (b : Bool) (xs ys : List A) → list_all p xs ≡ true → list_all p ys ≡ true → list_all p (if b then xs else ys) ≡ true
all-if p true xs ys h k = h
all-if p false xs ys h k = k

pub all-filter : {A : Type 0} (p q : A → Bool) (xs : List A) → list_all p xs ≡ true → list_all p (filter q xs) ≡ true
all-filter p q [] h = refl
all-filter p q (x ∷ xs) h =
    let parts = and_parts (p x) (list_all p xs) h in
    all-if p (q x) (x ∷ filter q xs) (filter q xs) (and_from (p x) (list_all p (filter q xs)) parts.0 (all-filter p q xs parts.1)) (all-filter p q xs parts.1)

pub all-map : {A B : Type 0} (p : B → Bool) (f : A → B) (xs : List A) → list_all (λ x. p (f x)) xs ≡ true → list_all p (map f xs) ≡ true
all-map p f [] h = refl
all-map p f (x ∷ xs) h =
    let parts = and_parts (p (f x)) (list_all (λ x. p (f x)) xs) h in
    and_from (p (f x)) (list_all p (map f xs)) parts.0 (all-map p f xs parts.1)

pub all-flat_map : {A B : Type 0} (p : B → Bool) (f : A → List B) (xs : List A) → list_all (λ x. list_all p (f x)) xs ≡ true → list_all p (flat_map f xs) ≡ true
all-flat_map p f [] h = refl
all-flat_map p f (x ∷ xs) h =
    let parts = and_parts (list_all p (f x)) (list_all (λ x. list_all p (f x)) xs) h in
    all-both p (f x) (flat_map f xs) parts.0 (all-flat_map p f xs parts.1)

pub reverse-more : {A : Type 0} (x : A) (xs : List A) → reverse (x ∷ xs) ≡ reverse xs ++ (x ∷ [])
reverse-more x xs = reverse-append (x ∷ []) xs

pub all-reverse : {A : Type 0} (p : A → Bool) (xs : List A) → list_all p xs ≡ true → list_all p (reverse xs) ≡ true
all-reverse p [] h = refl
all-reverse p (x ∷ xs) h =
    let parts = and_parts (p x) (list_all p xs) h in
    ap (list_all p) (reverse-more x xs) ∙ all-both p (reverse xs) (x ∷ []) (all-reverse p xs parts.1) (and_from (p x) true parts.0 refl)

-- all pass, so a filter keeps all; none does, so it keeps none
pub filter-all : {A : Type 0} (p : A → Bool) (xs : List A) → list_all p xs ≡ true → filter p xs ≡ xs
filter-all p [] h = refl
filter-all p (x ∷ xs) h =
    let parts = and_parts (p x) (list_all p xs) h in
    rw parts.0 (ap (λ rest. x ∷ rest) (filter-all p xs parts.1))

not-both : (a b : Bool) → (a ≡ true → b ≡ true → false ≡ true) → a ≡ true → b ≡ false
not-both a true h e = sym (h e refl)
not-both a false h e = refl

pub filter-none : {A : Type 0} (p q : A → Bool) → ((a : A) → q a ≡ true → p a ≡ true → false ≡ true) → (xs : List A) → list_all q xs ≡ true → filter p xs ≡ []
filter-none p q apart [] h = refl
filter-none p q apart (x ∷ xs) h =
    let parts = and_parts (q x) (list_all q xs) h in
    let out : p x ≡ false = not-both (q x) (p x) (apart x) parts.0 in
    rw out (filter-none p q apart xs parts.1)

-- ---- numbers

pub le-more : (k n a : ℕ) → k ≤ n → nat_le a k ≡ true → nat_le a n ≡ true
le-more k n a few h = let some = leb-true a k h in le-leb a n (omega arith)

pub greatest-append : (xs ys : List ℕ) → greatest (xs ++ ys) ≡ max (greatest xs) (greatest ys)
greatest-append [] ys = omega arith
greatest-append (x ∷ xs) ys = let rest = greatest-append xs ys in omega arith

pub done-append : (xs ys : List AccessTimes) → all_done (xs ++ ys) ≡ max (all_done xs) (all_done ys)
done-append xs ys = ap greatest (map-append (λ (a : AccessTimes). a.done) xs ys) ∙ greatest-append (map (λ (a : AccessTimes). a.done) xs) (map (λ (a : AccessTimes). a.done) ys)
