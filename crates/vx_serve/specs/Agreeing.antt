-- What is known of the accesses of a batch by a cycle. This project's own.
use Rattle.std.specs.Prelude.{◌≡◌, ◌≢◌, ℕ, ◌<◌, ◌≤◌, ◌⊎◌, Bool, true, false, nat_le, List, [], ◌∷◌, All}
use Rattle.vx_episode.specs.Batches.{Fate}
use Rattle.vx_episode.specs.Batches.Fate.{Good, Fails, Unknown}
use Rattle.vx_episode.specs.Footprint.{Access}

abbrev pub is_known_by : (last : ℕ) → Fate → Bool
is_known_by last (Good cycle word) = nat_le cycle last
is_known_by last (Fails cycle is_away) = nat_le cycle last
is_known_by last Unknown = false

-- two fates that are equal, or none of which is known by a cycle
abbrev pub AgreeAt : (last : ℕ) → Fate → Fate → Type 0
AgreeAt last fate other = (fate ≡ other) ⊎ ((is_known_by last fate ≡ false) × (is_known_by last other ≡ false))

abbrev pub AgreeBy : (last : ℕ) → (fate other : Access → Fate) → List Access → Type 0
AgreeBy last fate other accesses = All (λ (a : Access). AgreeAt last (fate a) (other a)) accesses

-- where the lower of two accesses isn't known by a cycle and the higher one is, their words differ
abbrev pub IsApart : (last : ℕ) → (lower higher : Fate) → Type 0
IsApart last (Good cycle word) (Good known place) = last < cycle → known ≤ last → word ≢ place
IsApart last lower higher = Unit {0}

abbrev pub AreApart : (last : ℕ) → (Access → Fate) → List Access → Type 0
AreApart last fate [] = Unit {0}
AreApart last fate (a ∷ accesses) = All (λ (b : Access). IsApart last (fate a) (fate b)) accesses × AreApart last fate accesses

-- a fate that is known by a cycle, or not at all
abbrev pub IsCutAt : (last : ℕ) → Fate → Type 0
IsCutAt last fate = (is_known_by last fate ≡ true) ⊎ (fate ≡ Unknown)
