-- The items of an element: their widths, and that the accesses of its batch are of them.
use Rattle.std.proofs.Common.{◌≡◌, ℕ, ◌/◌, ◌<◌, Bool, true, false, List, [], ◌∷◌, map, sym, subst, ◌∙◌, arith}
use Rattle.std.specs.Prelude.{All, if◌then◌else◌}
use Rattle.std.specs.List.{range_with_len}
use Rattle.std.proofs.lemmas.Bool.Decides.{nat_tests}
use Rattle.std.proofs.lemmas.List.Elements.{All-head, All-tail, All-cons}
use Rattle.vx_episode.specs.Footprint.{moved_access}
use Rattle.vx_flat.specs.Transfers.{Direction, Transfer}
use Rattle.vx_look.specs.LookUps.{AreOf}
use Rattle.vx_vaddr.specs.Items.{access_of_item, accesses_of_items}
use Rattle.vx_vaddr.specs.declared.item.Item.{Item}
use Rattle.vx_vector.specs.Accesses.{Access, Movement, access_bits, access_bytes, access_of, fields_of, takes_part, accesses_of_element}
use Rattle.vx_vstate.specs.Registers.{is_byte_width}
use Rattle.vx_pipe.specs.Transfers.{element_batch}
use Rattle.vx_pipe.proofs.TransferElements.{accesses-are}

-- ---- widths

abbrev HasWidth : Access → Type 0
HasWidth a = 0 < a.width

fields-wide : (m : Movement) (i : ℕ) (fields : List ℕ) → 0 < access_bytes m → All HasWidth (map (access_of m i) fields)
fields-wide m i [] some = λ k d lt. absurd (omega arith)
fields-wide m i (f ∷ fields) some = All-cons HasWidth (access_of m i f) (map (access_of m i) fields) some (fields-wide m i fields some)

wide-if : (b : Bool) (accesses : List Access) → All HasWidth accesses → All HasWidth (if b then accesses else [])
wide-if true accesses all = all
wide-if false accesses all = λ k d lt. absurd (omega arith)

items-wide : (items : List Item) (accesses : List Access) → accesses_of_items items ≡ accesses → All HasWidth accesses → All (λ (item : Item). 0 < item.width) items
items-wide [] accesses e all = λ k d lt. absurd (omega arith)
items-wide (item ∷ items) [] e all = absurd (cc)
items-wide (item ∷ items) (a ∷ accesses) e all =
    let head : access_of_item item ≡ a = cc in
    let tail : accesses_of_items items ≡ accesses = cc in
    All-cons (λ (item : Item). 0 < item.width) item items (subst HasWidth (sym head) (All-head HasWidth a accesses all)) (items-wide items accesses tail (All-tail HasWidth a accesses all))

some-bytes : (bits : ℕ) → is_byte_width bits ≡ true → 0 < bits / 8
some-bytes bits h = grind (arith, nat_tests, h)

pub element-wide : (m : Movement) (i : ℕ) (items : List Item) → is_byte_width (access_bits m) ≡ true → accesses_of_items items ≡ accesses_of_element m i → All (λ (item : Item). 0 < item.width) items
element-wide m i items width e =
    items-wide items (accesses_of_element m i) e
    (wide-if (takes_part m i) (map (access_of m i) (range_with_len 0 (fields_of m))) (fields-wide m i (range_with_len 0 (fields_of m)) (some-bytes (access_bits m) width)))

-- ---- the batch's accesses

abbrev pub AreOfItems : Type 0
AreOfItems = (direction : Direction) (m : Movement) (items : List Item) → AreOf items (map (moved_access direction m) (accesses_of_items items))

pub batch-of : AreOfItems → (t : Transfer) (i : ℕ) (items : List Item) → accesses_of_items items ≡ accesses_of_element t.movement i → AreOf items (element_batch t i).accesses
batch-of law t i items e =
    subst (λ (accesses : List Access). AreOf items (map (moved_access t.direction t.movement) accesses)) (e ∙ sym (accesses-are t.movement i)) (law t.direction t.movement items)
