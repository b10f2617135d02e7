-- When a placement says what a residency does, and which frames have one page alone. This project's own.
use Rattle.std.specs.Prelude.{◌≡◌, ℕ, Bool, List, map, length, All, Option, Some, None}
use Rattle.vx_episode.specs.Show.{IsAlone}
use Rattle.vx_image.specs.Pages.{Memory, MappedPage}
use Rattle.vx_tables.specs.Residency.{Place, PlacedPage, Residency, pages_of, placed}
use Rattle.vx_tables.specs.Residency.Place.{Away, Present}
use Rattle.vx_paged.specs.Framed.{entries_of}
use Rattle.vx_paged.specs.declared.placement.FramedPage.{FramedPage}

-- the frame of a page that is present
abbrev pub frame_of : Place → Option ℕ
frame_of Away = None
frame_of (Present frame accessed dirty) = Some frame

-- the same pages in the same order, each present in the frame that the placement says
pub record IsPlacedAs (placement : List FramedPage) (residency : Residency) : Type 0 where
  pub entries : pages_of residency ≡ entries_of placement
  pub frames : map (λ (p : PlacedPage). frame_of p.place) residency ≡ map (λ (p : FramedPage). Some p.frame) placement

-- every page that is present is alone in its frame, where no table is
abbrev pub AreAlone : (first : ℕ) → Residency → Type 0
AreAlone first residency =
    (number : ℕ) (p : PlacedPage) (frame : ℕ) (accessed dirty : Bool) → placed number residency ≡ Some p → p.place ≡ Present frame accessed dirty → IsAlone first residency number frame

-- each page has its bytes
abbrev pub IsWhole : Memory → Type 0
IsWhole memory = All (λ (page : MappedPage). length page.bytes ≡ 4096) memory
