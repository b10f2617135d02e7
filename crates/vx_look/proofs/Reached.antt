-- How far the walks of a batch are made.
use Rattle.std.proofs.Common.{◌≡◌, ℕ, suc, ◌+◌, ◌<◌, ◌≤◌, true, false, List, [], ◌∷◌, map, length, get_or, drop, refl, sym, ap, subst, ◌∙◌, arith, drop-cons}
use Rattle.std.specs.Prelude.{Option, Bool}
use Rattle.std.proofs.lemmas.List.{drop_all}
use Rattle.vx_base.specs.declared.machine.Want.{Want}
use Rattle.vx_cells.specs.Cells.{CellsState}
use Rattle.vx_episode.specs.Batches.{Fate as Meant, is_failing, fate_of, walks_with, walks_of}
use Rattle.vx_episode.specs.Footprint.{Access}
use Rattle.vx_episode.specs.History.{History, Walk, BatchTimes}
use Rattle.vx_episode.specs.Organisation.{Start}
use Rattle.vx_look.proofs.Batched.{at-each, same-length}
use Rattle.vx_look.proofs.Going.{IsWalked-none, IsWalked-all}
use Rattle.vx_serve.specs.Fates.{told}
use Rattle.vx_look.specs.LookUps.{AreGoing, AreLookedUp, AreLookedUpBy, AreReady, no_access}
use Rattle.vx_serve.specs.declared.fate.Fate.{Fate}
use Rattle.vx_tlb.specs.declared.tlb.Kept.{Kept}

-- the first so many accesses of a batch are walked for, and the walks of the others are those that follow
pub record IsReached (start : Start) (history : History) (earlier : List BatchTimes) (want : Want) (started : ℕ) (accesses : List Access) (root : ℕ) (places : List (Option Kept)) (before after : CellsState) (known : List Fate) (last i : ℕ) : Type 0 where
  pub walks : List Walk
  pub going : AreGoing start history earlier want started accesses root walks places before after known last
  pub rest : walks_of start history earlier want started [] accesses ≡ walks_of start history earlier want started walks (drop i accesses)

module _ (start : Start) (history : History) (earlier : List BatchTimes) (want : Want) (started root : ℕ) (accesses : List Access) where
  pub reached-none : (places : List (Option Kept)) (cells : CellsState) (known : List Fate) → AreReady start history earlier root places cells
      → map told known ≡ map (fate_of start history earlier want started []) accesses → IsReached start history earlier want started accesses root places cells cells known started 0
  reached-none places cells known ready fates = record {
    walks = [];
    going = record { walked = IsWalked-none start history earlier want started root places cells ready; ended = refl; fates = fates };
    rest = refl;
  }

  ended-by : (walks : List Walk) (places : List (Option Kept)) (before after : CellsState) (known : List Fate) (last : ℕ) → AreGoing start history earlier want started accesses root walks places before after known last
      → walks_of start history earlier want started [] accesses ≡ walks → AreLookedUp start history earlier want started accesses root places before after known last
  ended-by walks places before after known last going all =
      subst (λ (ws : List Walk). AreLookedUpBy start history earlier want started accesses ws root places before after known last) (sym all)
      (IsWalked-all start history earlier want started root walks accesses places before after known last going.walked going.ended going.fates)

  -- behind the last access
  pub reached-all : (places : List (Option Kept)) (before after : CellsState) (known : List Fate) (last i : ℕ) → IsReached start history earlier want started accesses root places before after known last i
      → length known ≤ i → AreLookedUp start history earlier want started accesses root places before after known last
  reached-all places before after known last i reached le =
      let count : length known ≡ length accesses = same-length Fate Access Meant told (fate_of start history earlier want started reached.walks) known accesses reached.going.fates in
      let none : drop i accesses ≡ [] = drop_all i accesses (omega (arith, count)) in
      ended-by reached.walks places before after known last reached.going
      (reached.rest ∙ ap (walks_of start history earlier want started reached.walks) none)

  -- the next access
  module _ (walks : List Walk) (a : Access) (others : List Access) where
    abbrev judged_walks : List Walk
    judged_walks = walks_with start history earlier want started walks a

    pub walks-stop : is_failing (fate_of start history earlier want started judged_walks a) ≡ true → walks_of start history earlier want started walks (a ∷ others) ≡ judged_walks
    walks-stop fails = ap (λ (b : Bool). elim b as (λ _. List Walk) [ true ↦ judged_walks | false ↦ walks_of start history earlier want started judged_walks others ]) fails

    pub walks-go : is_failing (fate_of start history earlier want started judged_walks a) ≡ false → walks_of start history earlier want started walks (a ∷ others) ≡ walks_of start history earlier want started judged_walks others
    walks-go goes = ap (λ (b : Bool). elim b as (λ _. List Walk) [ true ↦ judged_walks | false ↦ walks_of start history earlier want started judged_walks others ]) goes

  module _ (places now : List (Option Kept)) (before between after : CellsState) (known later : List Fate) (last ended i : ℕ)
      (reached : IsReached start history earlier want started accesses root places before between known last i) (within : i < length later)
      (going : AreGoing start history earlier want started accesses root (walks_with start history earlier want started reached.walks (get_or accesses i no_access)) now before after later ended) where
    abbrev one : Access
    one = get_or accesses i no_access

    abbrev with_one : List Walk
    with_one = walks_with start history earlier want started reached.walks one

    pub reached-rest : walks_of start history earlier want started [] accesses ≡ walks_of start history earlier want started reached.walks (one ∷ drop (suc i) accesses)
    reached-rest =
        let count : length later ≡ length accesses = same-length Fate Access Meant told (fate_of start history earlier want started with_one) later accesses going.fates in
        reached.rest ∙ ap (walks_of start history earlier want started reached.walks) (drop-cons accesses i no_access (omega (arith, count)))

    pub reached-fate : (d : Fate) → told (get_or later i d) ≡ fate_of start history earlier want started with_one one
    reached-fate d = at-each Fate Access Meant told (fate_of start history earlier want started with_one) later accesses going.fates i d no_access within

    pub reached-stop : (d : Fate) → is_failing (told (get_or later i d)) ≡ true → AreLookedUp start history earlier want started accesses root now before after later ended
    reached-stop d fails =
        ended-by with_one now before after later ended going
        (reached-rest ∙ walks-stop reached.walks one (drop (suc i) accesses) (ap is_failing (sym (reached-fate d)) ∙ fails))

    pub reached-go : (d : Fate) → is_failing (told (get_or later i d)) ≡ false → walks_of start history earlier want started [] accesses ≡ walks_of start history earlier want started with_one (drop (i + 1) accesses)
    reached-go d goes =
        reached-rest ∙ walks-go reached.walks one (drop (suc i) accesses) (ap is_failing (sym (reached-fate d)) ∙ goes)
        ∙ ap (λ (n : ℕ). walks_of start history earlier want started with_one (drop n accesses)) (next i)
      where
        next : (k : ℕ) → suc k ≡ k + 1
        next k = omega arith

    pub reached-more : (d : Fate) → is_failing (told (get_or later i d)) ≡ false → IsReached start history earlier want started accesses root now before after later ended (i + 1)
    reached-more d goes = record { walks = with_one; going = going; rest = reached-go d goes }
