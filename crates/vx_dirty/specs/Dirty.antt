-- A page that was written to: RISC-V Privileged 1.12, section 4.4 (Sv39: the bit D).
use Rattle.std.specs.Prelude.{ℕ, Bool, false}
use Rattle.std.specs.Option.{option_map_or}
use Rattle.vx_tables.specs.Residency.{Place, PlacedPage, Residency, placed}
use Rattle.vx_tables.specs.Residency.Place.{Away, Present}

-- a page is in a frame, and D is set
abbrev pub is_dirty_at : Place → Bool
is_dirty_at Away = false
is_dirty_at (Present frame accessed dirty) = dirty

-- the page of that number is mapped and in a frame, and D is set
abbrev pub is_dirty : (number : ℕ) → Residency → Bool
is_dirty number residency = option_map_or (λ (p : PlacedPage). is_dirty_at p.place) (placed number residency) false
