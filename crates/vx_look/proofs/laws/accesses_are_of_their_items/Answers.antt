use Rattle.std.proofs.Common.{◌≡◌, ℕ, List, [], ◌∷◌, map, refl, ap, ◌∙◌}
use Rattle.vx_episode.specs.Footprint.{Access, moved_access}
use Rattle.vx_flat.specs.Transfers.{Direction}
use Rattle.vx_flat.specs.Transfers.Direction.{Loading, Storing}
use Rattle.vx_look.proofs.laws.accesses_are_of_their_items.Goals as goal
use Rattle.vx_vaddr.specs.Items.{access_of_item, accesses_of_items}
use Rattle.vx_vaddr.specs.declared.item.Item.{Item}
use Rattle.vx_vector.specs.Accesses.{Movement}

address-same : (direction : Direction) (m : Movement) (i : Item) → (moved_access direction m (access_of_item i)).address ≡ i.address
address-same Loading m i = refl
address-same Storing m i = refl

width-same : (direction : Direction) (m : Movement) (i : Item) → (moved_access direction m (access_of_item i)).width ≡ i.width
width-same Loading m i = refl
width-same Storing m i = refl

module _ (direction : Direction) (m : Movement) (told : Access → ℕ) (of : Item → ℕ) (each : (i : Item) → told (moved_access direction m (access_of_item i)) ≡ of i) where
  all-same : (items : List Item) → map told (map (moved_access direction m) (accesses_of_items items)) ≡ map of items
  all-same [] = refl
  all-same (i ∷ items) = ap (λ (n : ℕ). n ∷ map told (map (moved_access direction m) (accesses_of_items items))) (each i) ∙ ap (λ (ns : List ℕ). of i ∷ ns) (all-same items)

pub returns : goal.returns
returns c direction m items = record {
  addresses = all-same direction m (λ (a : Access). a.address) (λ (i : Item). i.address) (address-same direction m) items;
  widths = all-same direction m (λ (a : Access). a.width) (λ (i : Item). i.width) (width-same direction m) items;
}
