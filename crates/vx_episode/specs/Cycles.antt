-- Cycles at which something comes, or never does: what waits for what never comes never comes itself. This project's own.
use Rattle.std.specs.Prelude.{ℕ, ◌+◌, max, Bool, false, nat_le, List, [], ◌∷◌}

pub data Cycle : Type 0 where
  At : (cycle : ℕ) → Cycle
  Never : Cycle

-- so many cycles later
abbrev pub later : ℕ → Cycle → Cycle
later n (At cycle) = At (cycle + n)
later n Never = Never

-- one cycle behind
abbrev pub behind : Cycle → Cycle
behind cycle = later 1 cycle

abbrev pub later_of : Cycle → Cycle → Cycle
later_of (At a) (At b) = At (max a b)
later_of (At a) Never = Never
later_of Never b = Never

-- the latest of some cycles
abbrev pub latest : List Cycle → Cycle
latest [] = At 0
latest (cycle ∷ cycles) = later_of cycle (latest cycles)

-- it comes by that cycle
abbrev pub is_by : (last : ℕ) → Cycle → Bool
is_by last (At cycle) = nat_le cycle last
is_by last Never = false

-- the cycle, where it comes
abbrev pub cycles_of : Cycle → List ℕ
cycles_of (At cycle) = cycle ∷ []
cycles_of Never = []
