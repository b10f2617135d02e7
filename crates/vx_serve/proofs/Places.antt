-- An item that is placed behind those whose numbers aren't greater, and the order of a list with it at its end.
use Rattle.std.proofs.Common.{◌≡◌, ℕ, Bool, true, false, cond, inl, inr, List, [], ◌∷◌, ◌++◌, refl, ap, ◌∙◌, arith}
use Rattle.std.proofs.Math.Numerals.{one-add}
use Rattle.std.specs.Prelude.{nat_le, map, insert}
use Rattle.std.specs.List.{prefix_len}
use Rattle.std.proofs.lemmas.Bool.{cases_Bool, cases_lt, le-leb, lt-leb}
use Rattle.vx_episode.specs.Ordered.{placed, ordered}

module _ {A : Type 0} (number : A → ℕ) where
  abbrev pub behind : A → List A → List A
  behind a [] = a ∷ []
  behind a (b ∷ items) = cond (nat_le (number b) (number a)) (b ∷ behind a items) (a ∷ b ∷ items)

  -- it doesn't matter which of two is placed first
  commute : (x a : A) (items : List A) → placed number x (behind a items) ≡ behind a (placed number x items)
  commute x a [] = refl
  commute x a (y ∷ items) =
      elim (cases_lt (number a) (number y)) [
        | inl a_below_y ↦
            let ya = lt-leb (number y) (number a) a_below_y in
            elim (cases_lt (number a) (number x)) [
              | inl a_below_x ↦
                  let xa = lt-leb (number x) (number a) a_below_x in
                  elim (cases_lt (number y) (number x)) [
                    | inl y_below_x ↦ let xy = lt-leb (number x) (number y) y_below_x in simp (ya, xa, xy)
                    | inr x_to_y ↦ let xy = le-leb (number x) (number y) x_to_y in simp (ya, xa, xy)
                  ]
              | inr x_to_a ↦
                  let xa = le-leb (number x) (number a) x_to_a in
                  let xy = le-leb (number x) (number y) (omega arith) in
                  simp (ya, xa, xy)
            ]
        | inr y_to_a ↦
            let ya = le-leb (number y) (number a) y_to_a in
            elim (cases_lt (number y) (number x)) [
              | inl y_below_x ↦
                  let xy = lt-leb (number x) (number y) y_below_x in
                  simp (ya, xy) (ap (λ (rest : List A). y ∷ rest) (commute x a items))
              | inr x_to_y ↦
                  let xy = le-leb (number x) (number y) x_to_y in
                  let xa = le-leb (number x) (number a) (omega arith) in
                  simp (ya, xy, xa)
            ]
      ]

  -- an item more at the end
  pub ordered-behind : (items : List A) (a : A) → ordered number (items ++ a ∷ []) ≡ behind a (ordered number items)
  ordered-behind [] a = refl
  ordered-behind (x ∷ items) a = ap (placed number x) (ordered-behind items a) ∙ commute x a (ordered number items)

  abbrev is_up_to : A → A → Bool
  is_up_to a b = nat_le (number b) (number a)

  -- its place
  pub insert-behind : (a : A) (items : List A) → insert items (prefix_len (is_up_to a) items) a ≡ behind a items
  insert-behind a [] = refl
  insert-behind a (b ∷ items) =
      elim (cases_Bool (nat_le (number b) (number a))) [
        | inl is ↦ rw (is, one-add) (ap (λ (rest : List A). b ∷ rest) (insert-behind a items))
        | inr fails ↦ rw fails refl
      ]

-- the same of what has the same numbers
pub map-behind : {A B : Type 0} (number : A → ℕ) (other : B → ℕ) (f : A → B) → ((a : A) → other (f a) ≡ number a) → (a : A) (items : List A) → map f (behind number a items) ≡ behind other (f a) (map f items)
map-behind number other f same a [] = refl
map-behind number other f same a (b ∷ items) =
    elim (cases_Bool (nat_le (number b) (number a))) [
      | inl is ↦ let there : nat_le (other (f b)) (other (f a)) ≡ true = (λ i. nat_le (same b i) (same a i)) ∙ is in
          simp (is, there) (ap (λ rest. f b ∷ rest) (map-behind number other f same a items))
      | inr fails ↦ let there : nat_le (other (f b)) (other (f a)) ≡ false = (λ i. nat_le (same b i) (same a i)) ∙ fails in
          simp (fails, there)
    ]
