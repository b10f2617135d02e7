-- A batch of one access, of an item.
use Rattle.std.proofs.Common.{◌≡◌, List, [], ◌∷◌, map, refl}
use Rattle.vx_episode.specs.Batches.{Fate}
use Rattle.vx_episode.specs.Footprint.{Access}
use Rattle.vx_look.specs.LookUps.{AreOf}
use Rattle.vx_vaddr.specs.declared.item.Item.{Item}

-- the access
pub record IsOne (item : Item) (accesses : List Access) : Type 0 where
  pub access : Access
  pub is : accesses ≡ access ∷ []
  pub address : access.address ≡ item.address
  pub width : access.width ≡ item.width

pub one-of : (item : Item) (accesses : List Access) → AreOf (item ∷ []) accesses → IsOne item accesses
one-of item [] h = absurd (let is : [] ≡ item.address ∷ [] = h.addresses in cc)
one-of item (a ∷ []) h =
    let addresses : a.address ∷ [] ≡ item.address ∷ [] = h.addresses in
    let widths : a.width ∷ [] ≡ item.width ∷ [] = h.widths in
    record { access = a; is = refl; address = cc; width = cc }
one-of item (a ∷ b ∷ accesses) h =
    absurd (let is : a.address ∷ b.address ∷ map (λ (a : Access). a.address) accesses ≡ item.address ∷ [] = h.addresses in cc)

pub first-of : (x y : Fate) → x ∷ [] ≡ y ∷ [] → x ≡ y
first-of x y is = cc
