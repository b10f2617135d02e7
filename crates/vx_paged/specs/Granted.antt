-- In which frame an access is let through. This project's own.
use Rattle.std.specs.Prelude.{◌≡◌, ℕ, ◌<◌, ◌^◌, true, ◌&&◌, List, Some}
use Rattle.vx_base.specs.Permissions.{grants}
use Rattle.vx_base.specs.declared.machine.Want.{Want}
use Rattle.vx_image.specs.Pages.{page_of, is_canonical}
use Rattle.vx_paged.specs.Framed.{framed}
use Rattle.vx_paged.specs.declared.placement.FramedPage.{FramedPage}

-- the page of the address is in this frame, and the access is let through there
pub record IsGrantedIn (placement : List FramedPage) (address : ℕ) (want : Want) (frame : ℕ) : Type 0 where
  pub page : FramedPage
  pub found : framed (page_of address) placement ≡ Some page
  pub in_frame : page.frame ≡ frame
  pub permitted : (is_canonical address && grants page.entry.perm.bits want) ≡ true

-- an access to an address of the page of that number is let through, in this frame
abbrev pub Serves : List FramedPage → Want → (number frame : ℕ) → Type 0
Serves placement want number frame = (address : ℕ) → address < 2 ^ 64 → page_of address ≡ number → IsGrantedIn placement address want frame
