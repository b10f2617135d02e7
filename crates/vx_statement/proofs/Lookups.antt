-- Look-ups in mapped lists.
use Rattle.std.proofs.Common.{◌≡◌, ℕ, ◌+◌, Bool, true, false, not, cond, List, [], ◌∷◌, map, find, Option, Some, None, option_map, refl, sym, ap, ◌∙◌}
use Rattle.std.proofs.lemmas.List.{length-map}
use Rattle.std.specs.List.{position, prefix_len}

found : {A B : Type 0} (f : A → B) (b : Bool) (x : A) (r : Option B) (s : Option A) → r ≡ option_map f s → cond b (Some (f x)) r ≡ option_map f (cond b (Some x) s)
found f true x r s e = refl
found f false x r s e = e

pub find-map : {A B : Type 0} (f : A → B) (p : B → Bool) (xs : List A) → find p (map f xs) ≡ option_map f (find (λ x. p (f x)) xs)
find-map f p [] = refl
find-map f p (x ∷ xs) = found f (p (f x)) x _ _ (find-map f p xs)

prefix_len-map : {A B : Type 0} (f : A → B) (p : B → Bool) (xs : List A) → prefix_len p (map f xs) ≡ prefix_len (λ x. p (f x)) xs
prefix_len-map f p [] = refl
prefix_len-map f p (x ∷ xs) = ap (λ (n : ℕ). cond (p (f x)) (1 + n) 0) (prefix_len-map f p xs)

pub position-map : {A B : Type 0} (f : A → B) (p : B → Bool) (xs : List A) → position p (map f xs) ≡ position (λ x. p (f x)) xs
position-map f p xs = rw (prefix_len-map f (λ y. not (p y)) xs, length-map xs f) refl

undone : {A B : Type 0} (f : A → B) (g : B → A) → ((x : A) → g (f x) ≡ x) → (o : Option A) → option_map g (option_map f o) ≡ o
undone f g same None = refl
undone f g same (Some x) = ap Some (same x)

-- what is found among mapped items, mapped back
pub found-back : {A B : Type 0} (f : A → B) (g : B → A) → ((x : A) → g (f x) ≡ x) → (p : B → Bool) (xs : List A) (ys : List B) (r : Option B) → ys ≡ map f xs → r ≡ find p ys → option_map g r ≡ find (λ x. p (f x)) xs
found-back f g same p xs ys r e h =
    ap (option_map g) (h ∙ ap (find p) e ∙ find-map f p xs) ∙ undone f g same (find (λ x. p (f x)) xs)

-- what is found among items, mapped
pub found-forth : {A B : Type 0} (f : A → B) (p : B → Bool) (xs : List A) (ys : List B) (r : Option A) → map f xs ≡ ys → r ≡ find (λ x. p (f x)) xs → option_map f r ≡ find p ys
found-forth f p xs ys r e h = ap (option_map f) h ∙ sym (find-map f p xs) ∙ ap (find p) e
