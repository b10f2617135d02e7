-- Lists in the order of a number of their items. This project's own.
use Rattle.std.specs.Prelude.{ℕ, nat_le, List, [], ◌∷◌, if◌then◌else◌}

-- an item before the first whose number isn't less
abbrev pub placed : {A : Type 0} → (A → ℕ) → A → List A → List A
placed number a [] = a ∷ []
placed number a (b ∷ items) = if nat_le (number a) (number b) then a ∷ b ∷ items else b ∷ placed number a items

-- the items in rising order of their numbers; those of one number as they stood
abbrev pub ordered : {A : Type 0} → (A → ℕ) → List A → List A
ordered number [] = []
ordered number (a ∷ items) = placed number a (ordered number items)
