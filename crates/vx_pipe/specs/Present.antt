-- Residencies all of whose pages are in frames. This project's own.
use Rattle.std.specs.Prelude.{All}
use Rattle.vx_tables.specs.Residency.{Place, PlacedPage, Residency}
use Rattle.vx_tables.specs.Residency.Place.{Away, Present}

-- a page is in a frame
abbrev pub IsPresent : Place → Type 0
IsPresent Away = ⊥
IsPresent (Present frame accessed dirty) = Unit {0}

-- each page is
abbrev pub ArePresent : Residency → Type 0
ArePresent residency = All (λ (p : PlacedPage). IsPresent p.place) residency
