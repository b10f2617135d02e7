-- Batches of several accesses, a walk at a time.
use Rattle.std.proofs.Common.{◌≡◌, ℕ, zero, suc, ◌+◌, ◌<◌, true, false, List, [], ◌∷◌, ◌++◌, map, length, get_or, refl, sym, ap, subst, ◌∙◌, arith}
use Rattle.std.specs.Prelude.{Option}
use Rattle.std.proofs.lemmas.List.{length-map}
use Rattle.vx_base.specs.declared.machine.Want.{Want}
use Rattle.vx_cells.specs.Cells.{CellsState}
use Rattle.vx_image.specs.Pages.{page_of}
use Rattle.vx_episode.specs.Batches.{Fate as Meant, is_unknown, fate_of, walk_behind, walks_with}
use Rattle.vx_episode.specs.Footprint.{Access}
use Rattle.vx_episode.specs.History.{History, Walk, BatchTimes, fetch_walks, walks_of_batches, after_walks}
use Rattle.vx_episode.specs.Instructions.{walk_time}
use Rattle.vx_episode.specs.Organisation.{Start}
use Rattle.vx_look.proofs.Going.{IsWalked-more}
use Rattle.vx_look.proofs.Judging.{fate, fate-behind, walks_with-known, walks_with-unknown}
use Rattle.vx_serve.specs.Fates.{told}
use Rattle.vx_look.specs.LookUps.{AreGoing, AreOf, updated, no_access}
use Rattle.vx_serve.specs.declared.fate.Fate.{Fate}
use Rattle.vx_tables.specs.Caches.{Fill, filled_by}
use Rattle.vx_tables.specs.Walking.{Walks}
use Rattle.vx_tables.specs.declared.walked.Walked.{Walked}
use Rattle.vx_tlb.specs.Kept.{StandsFor}
use Rattle.vx_tlb.specs.declared.tlb.Kept.{Kept}
use Rattle.vx_vaddr.specs.declared.item.Item.{Item}

-- two lists of which the same is told
module _ (X Y Z : Type 0) (f : X → Z) (g : Y → Z) where
  pub same-length : (xs : List X) (ys : List Y) → map f xs ≡ map g ys → length xs ≡ length ys
  same-length xs ys is = sym (length-map xs f) ∙ ap length is ∙ length-map ys g

  pub at-each : (xs : List X) (ys : List Y) → map f xs ≡ map g ys → (k : ℕ) (x : X) (y : Y) → k < length xs → f (get_or xs k x) ≡ g (get_or ys k y)
  at-each [] ys is k x y lt = absurd (omega (arith, lt))
  at-each (u ∷ xs) [] is k x y lt = let no : f u ∷ map f xs ≡ [] = is in absurd (cc no)
  at-each (u ∷ xs) (v ∷ ys) is zero x y lt = let both : f u ∷ map f xs ≡ g v ∷ map g ys = is in cc both
  at-each (u ∷ xs) (v ∷ ys) is (suc k) x y lt =
      let both : f u ∷ map f xs ≡ g v ∷ map g ys = is in
      let rest : map f xs ≡ map g ys = cc both in
      at-each xs ys rest k x y (omega arith)

  pub by-each : (xs : List X) (ys : List Y) → length xs ≡ length ys → ((k : ℕ) (x : X) (y : Y) → k < length xs → f (get_or xs k x) ≡ g (get_or ys k y)) → map f xs ≡ map g ys
  by-each [] [] same each = refl
  by-each [] (v ∷ ys) same each = absurd (omega (arith, same))
  by-each (u ∷ xs) [] same each = absurd (omega (arith, same))
  by-each (u ∷ xs) (v ∷ ys) same each =
      let first : f u ≡ g v = each 0 u v (omega arith) in
      let fewer : length xs ≡ length ys = omega (arith, same) in
      let rest : map f xs ≡ map g ys = by-each xs ys fewer (λ k x y lt. each (suc k) x y (omega arith)) in
      ap (λ (z : Z). z ∷ map f xs) first ∙ ap (λ (zs : List Z). g v ∷ zs) rest

abbrev no_item : Item
no_item = record { element = 0; field = 0; address = 0; width = 0; register = 0; byte = 0 }

module _ (items : List Item) (accesses : List Access) (of : AreOf items accesses) where
  pub of-length : length accesses ≡ length items
  of-length = same-length Access Item ℕ (λ (a : Access). a.address) (λ (i : Item). i.address) accesses items of.addresses

  pub address-at : (k : ℕ) (a : Access) (e : Item) → k < length items → (get_or accesses k a).address ≡ (get_or items k e).address
  address-at k a e lt =
      at-each Access Item ℕ (λ (a : Access). a.address) (λ (i : Item). i.address) accesses items of.addresses k a e (omega (arith, of-length))

  pub width-at : (k : ℕ) (a : Access) (e : Item) → k < length items → (get_or accesses k a).width ≡ (get_or items k e).width
  width-at k a e lt =
      at-each Access Item ℕ (λ (a : Access). a.width) (λ (i : Item). i.width) accesses items of.widths k a e (omega (arith, of-length))

  -- the fates are those of the accesses, where each is that of the access of its item
  pub fates-each : (g : Access → Meant) (known : List Fate) → length known ≡ length items
      → ((k : ℕ) (d : Fate) (e : Item) (a : Access) → k < length items → a.address ≡ (get_or items k e).address → a.width ≡ (get_or items k e).width → told (get_or known k d) ≡ g a)
      → map told known ≡ map g accesses
  fates-each g known count each =
      by-each Fate Access Meant told g known accesses (count ∙ sym of-length)
      (λ k d a lt.
      let within : k < length items = omega (arith, count) in
      each k d no_item (get_or accesses k a) within (address-at k a no_item within) (width-at k a no_item within))

  module _ (start : Start) (history : History) (earlier : List BatchTimes) (want : Want) (started root : ℕ) where
    module _ (walks : List Walk) (places : List (Option Kept)) (before between : CellsState) (known : List Fate) (last : ℕ)
        (going : AreGoing start history earlier want started accesses root walks places before between known last) (i : ℕ) (within : i < length items) where
      abbrev one : Access
      one = get_or accesses i no_access

      known-length : length known ≡ length accesses
      known-length = same-length Fate Access Meant told (fate_of start history earlier want started walks) known accesses going.fates

      pub fate-at : (k : ℕ) (d : Fate) (a : Access) → k < length items → told (get_or known k d) ≡ fate_of start history earlier want started walks (get_or accesses k a)
      fate-at k d a lt =
          at-each Fate Access Meant told (fate_of start history earlier want started walks) known accesses going.fates k d a (omega (arith, of-length, known-length))

      -- nothing is walked for an access of which something is known
      pub going-known : (d : Fate) → is_unknown (told (get_or known i d)) ≡ false
          → AreGoing start history earlier want started accesses root (walks_with start history earlier want started walks one) places before between known last
      going-known d is =
          let seen : is_unknown (fate start history earlier want started walks one) ≡ false = ap is_unknown (sym (fate-at i d no_access within)) ∙ is in
          subst (λ (ws : List Walk). AreGoing start history earlier want started accesses root ws places before between known last)
          (sym (walks_with-known start history earlier want started walks one seen)) going

      -- the walk of the page of one of which nothing is
      pub going-more : (d : Fate) (address : ℕ) (now : List (Option Kept)) (after : CellsState) (answered : Walked) (later : List Fate) (ended : ℕ) → is_unknown (told (get_or known i d)) ≡ true
          → one.address ≡ address → Walks between after (after_walks start.residency (walks ++ fetch_walks history ++ walks_of_batches earlier)) root address want answered
          → ((fills : List Fill) → StandsFor places fills → StandsFor now (filled_by (page_of address) answered fills))
          → ended ≡ last + walk_time start.machine → length later ≡ length known
          → ((k : ℕ) (d : Fate) (e : Item) (a : Access) → k < length items → a.address ≡ (get_or items k e).address → told (get_or later k d) ≡ updated (page_of address) ended answered a (told (get_or known k d)))
          → AreGoing start history earlier want started accesses root (walks_with start history earlier want started walks one) now before after later ended
      going-more d address now after answered later ended is at walked learned ends count settled =
          let w : Walk = walk_behind start history earlier want started walks one in
          let seen : is_unknown (fate start history earlier want started walks one) ≡ true = ap is_unknown (sym (fate-at i d no_access within)) ∙ is in
          let walk : Walks between after (after_walks start.residency (walks ++ fetch_walks history ++ walks_of_batches earlier)) root one.address want answered =
          subst (λ (n : ℕ). Walks between after (after_walks start.residency (walks ++ fetch_walks history ++ walks_of_batches earlier)) root n want answered) (sym at) walked in
          let answer : answered ≡ w.answer = walk.answer in
          let ends_there : ended ≡ w.ended = ends ∙ ap (λ (n : ℕ). n + walk_time start.machine) going.ended in
          let page : page_of address ≡ page_of one.address = ap page_of (sym at) in
          let pages : (k : ℕ) (d : Fate) (e : Item) (a : Access) → k < length items → a.address ≡ (get_or items k e).address → told (get_or later k d) ≡ updated (page_of one.address) w.ended w.answer a (told (get_or known k d)) =
          λ k d e a lt same. settled k d e a lt same
          ∙ ap (λ (n : ℕ). updated n ended answered a (told (get_or known k d))) page
          ∙ ap (λ (n : ℕ). updated (page_of one.address) n answered a (told (get_or known k d))) ends_there
          ∙ ap (λ (x : Walked). updated (page_of one.address) w.ended x a (told (get_or known k d))) answer in
          let total : length later ≡ length items = count ∙ known-length ∙ of-length in
          let fates : map told later ≡ map (fate_of start history earlier want started (w ∷ walks)) accesses =
          by-each Fate Access Meant told (fate_of start history earlier want started (w ∷ walks)) later accesses (total ∙ sym of-length)
          (λ k d a lt. fates-later w refl seen pages k d a (omega (arith, total))) in
          subst (λ (ws : List Walk). AreGoing start history earlier want started accesses root ws now before after later ended)
          (sym (walks_with-unknown start history earlier want started walks one seen))
          (record {
            walked = IsWalked-more start history earlier want started root walks one address places now before between after answered at going.walked walked learned;
            ended = ends_there;
            fates = fates;
          })
        where
          fates-later : (w : Walk) → w.address ≡ one.address → is_unknown (fate start history earlier want started walks one) ≡ true
              → ((k : ℕ) (d : Fate) (e : Item) (a : Access) → k < length items → a.address ≡ (get_or items k e).address → told (get_or later k d) ≡ updated (page_of one.address) w.ended w.answer a (told (get_or known k d)))
              → (k : ℕ) (d : Fate) (a : Access) → k < length items → told (get_or later k d) ≡ fate_of start history earlier want started (w ∷ walks) (get_or accesses k a)
          fates-later w own seen pages k d a lt =
              let there : Access = get_or accesses k a in
              pages k d no_item there lt (address-at k a no_item lt)
              ∙ ap (updated (page_of one.address) w.ended w.answer there) (fate-at k d a lt)
              ∙ sym (fate-behind start history earlier want started walks one there w seen (ap page_of own))
