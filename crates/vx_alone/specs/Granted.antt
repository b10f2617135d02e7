-- Where an access is let through. This project's own.
use Rattle.std.specs.Prelude.{◌≡◌, ℕ, ◌+◌, ◌-◌, ◌*◌, ◌%◌, ◌<◌, ◌≤◌, ◌^◌, true, List}
use Rattle.vx_base.specs.declared.machine.Want.{Want}
use Rattle.vx_base.specs.declared.perm.PageEntry.{PageEntry}
use Rattle.vx_image.specs.Pages.{page_of, permits}
use Rattle.vx_image.specs.Kept.{pages_of, IsPlaceOf}

-- the entry at a place is that of the address's page, and the access is let through there
pub record IsGrantedAt (entries : List PageEntry) (address : ℕ) (want : Want) (k : ℕ) : Type 0 where
  pub place : IsPlaceOf entries (page_of address) k
  pub permitted : (bytes : List ℕ) → permits (pages_of entries bytes) address want ≡ true

-- an access is let through to the byte at this index
pub record IsGrantedTo (entries : List PageEntry) (address : ℕ) (want : Want) (index : ℕ) : Type 0 where
  pub place : ℕ
  pub granted : IsGrantedAt entries address want place
  pub byte : index ≡ 4096 * place + address % 4096

-- an access to an address of the page of that number is let through, to a byte whose index the address is that far above
abbrev pub Serves : (entries : List PageEntry) → Want → (number above : ℕ) → Type 0
Serves entries want number above = (address : ℕ) → address < 2 ^ 64 → page_of address ≡ number → (above ≤ address) × IsGrantedTo entries address want (address - above)
