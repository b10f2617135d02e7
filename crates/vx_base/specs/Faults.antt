-- Counts of calls and of faults. This project's own.
use Rattle.std.specs.Prelude.{◌≡◌, ℕ, ◌+◌, ◌-◌, ◌^◌, ◌<◌, ◌⊎◌, min, Bool, List, nat_eq}
use Rattle.std.specs.List.{list_any}

-- the count rose, or stands at the end of its type, where a rise can't be seen
abbrev pub Rises : ℕ → ℕ → Type 0
Rises before after = (before < after) ⊎ (after ≡ 2 ^ 64 - 1)

-- a count that rose by one, or that stands still at the end of its type
abbrev pub one_more : ℕ → ℕ
one_more count = min (count + 1) (2 ^ 64 - 1)

-- the call that comes after so many is one of those that fail, by their numbers from 1
abbrev pub is_listed_next : ℕ → List ℕ → Bool
is_listed_next calls fails = list_any (λ n. nat_eq n (one_more calls)) fails
