-- Where the mapped pages of a process are, and what that says of an address: RISC-V Privileged 1.12, section 4.4 (Sv39: pages
-- of 4,096 bytes, the bits A and D). That a mapped page may be away is this project's own.
use Rattle.std.specs.Prelude.{◌≡◌, ℕ, suc, ◌<◌, ◌/◌, Bool, true, false, ◌||◌, ◌==◌, List, [], ◌∷◌, map, All, Option, Some, None, option_map, if◌then◌else◌}
use Rattle.std.specs.Option.{option_map_or}
use Rattle.vx_base.specs.Permissions.{grants}
use Rattle.vx_base.specs.declared.machine.Want.{Want}
use Rattle.vx_base.specs.declared.machine.Want.TheVariants.{Fetch, Load, Store}
use Rattle.vx_base.specs.declared.perm.PageEntry.{PageEntry}
use Rattle.vx_image.specs.Images.{entry_of_page}
use Rattle.vx_image.specs.Pages.{Memory, page_of}
use Rattle.vx_tables.specs.declared.walked.Walked.{Walked}
use Rattle.vx_tables.specs.declared.walked.Walked.TheVariants as walked

-- a page is in no frame, or it is in one and has the bits A and D
pub data Place : Type 0 where
  Away : Place
  Present : (frame : ℕ) (accessed dirty : Bool) → Place

-- a mapped page, and where it is
pub record PlacedPage : Type 0 where
  pub entry : PageEntry
  pub place : Place

-- the mapped pages of a process in rising order, and where they are
abbrev pub Residency : Type 0
Residency = List PlacedPage

abbrev pub pages_of : Residency → List PageEntry
pages_of residency = map (λ (p : PlacedPage). p.entry) residency

-- it is of the pages of this memory
abbrev pub IsOf : Residency → Memory → Type 0
IsOf residency memory = pages_of residency ≡ map entry_of_page memory

-- these pages at boot, with A and D not set: in no frame, or in successive frames from one on
abbrev pub place_at_boot : (frame : Option ℕ) → Place
place_at_boot None = Away
place_at_boot (Some frame) = Present frame false false

abbrev pub at_boot : (frame : Option ℕ) → List PageEntry → Residency
at_boot frame [] = []
at_boot frame (e ∷ entries) = record { entry = e; place = place_at_boot frame } ∷ at_boot (option_map suc frame) entries

-- the page of that number
abbrev pub placed : ℕ → Residency → Option PlacedPage
placed number [] = None
placed number (p ∷ residency) = if p.entry.page == number then Some p else placed number residency

-- the residency with the page of that number there
abbrev pub moved : (number : ℕ) → Place → PlacedPage → PlacedPage
moved number place p = if p.entry.page == number then record p { place = place } else p

abbrev pub with_place : (number : ℕ) → Place → Residency → Residency
with_place number place residency = map (moved number place) residency

abbrev pub is_store : Want → Bool
is_store Fetch = false
is_store Load = false
is_store Store = true

-- what an access finds at a place with these permissions, and whether D is set then
abbrev pub found_at : (permissions : ℕ) → Want → Place → Walked
found_at permissions want Away = walked.Away
found_at permissions want (Present frame accessed dirty) =
    if grants permissions want then walked.Leaf frame (record { bits = permissions }) (dirty || is_store want) else walked.Denied

-- the page map: what an access at an address finds
unfoldable pub page_map : Residency → (address : ℕ) → Want → Walked
page_map residency address want =
    option_map_or (λ (p : PlacedPage). found_at p.entry.perm.bits want p.place) (placed (page_of address) residency) walked.Denied

-- the place of a page once an access found it: A is set, and for a store D
abbrev pub touched : (permissions : ℕ) → Want → Place → Place
touched permissions want Away = Away
touched permissions want (Present frame accessed dirty) =
    if grants permissions want then Present frame true (dirty || is_store want) else Present frame accessed dirty

-- the residency once an access at an address was looked for
unfoldable pub after_walk : Residency → (address : ℕ) → Want → Residency
after_walk residency address want =
    option_map_or (λ (p : PlacedPage). with_place (page_of address) (touched p.entry.perm.bits want p.place) residency) (placed (page_of address) residency) residency

-- every page that is present is in one of so many frames
abbrev pub IsBelow : (frames : ℕ) → Place → Type 0
IsBelow frames Away = Unit {0}
IsBelow frames (Present frame accessed dirty) = frame < frames

abbrev pub AreBelow : (frames : ℕ) → Residency → Type 0
AreBelow frames residency = All (λ (p : PlacedPage). IsBelow frames p.place) residency
