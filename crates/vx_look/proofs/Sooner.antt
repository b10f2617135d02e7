-- How far the walks of a batch are made, of those that end by a cycle.
use Rattle.std.proofs.Common.{◌≡◌, ℕ, suc, ◌+◌, ◌<◌, ◌≤◌, true, false, inl, inr, List, [], ◌∷◌, map, length, get_or, drop, refl, sym, ap, subst, ◌∙◌, arith}
use Rattle.std.specs.Prelude.{Option, Bool, ◌||◌, not, nat_le, if◌then◌else◌}
use Rattle.std.proofs.lemmas.Bool.{cases_Bool, leb-false, false≢true}
use Rattle.std.proofs.lemmas.List.{drop_all}
use Rattle.vx_base.specs.declared.machine.Want.{Want}
use Rattle.vx_cells.specs.Cells.{CellsState}
use Rattle.vx_episode.specs.Batches.{Fate as Meant, is_failing, is_unknown, fate_of, walks_end, walk_behind, walks_with, walks_of}
use Rattle.vx_episode.specs.Footprint.{Access}
use Rattle.vx_episode.specs.History.{History, Walk, BatchTimes}
use Rattle.vx_episode.specs.Instructions.{walk_time}
use Rattle.vx_episode.specs.Organisation.{Start}
use Rattle.vx_look.proofs.Batched.{at-each, same-length}
use Rattle.vx_look.proofs.Going.{IsWalked-none, IsWalked-all}
use Rattle.vx_look.proofs.Judging.{fate, walks_with-known, walks_with-unknown}
use Rattle.vx_look.proofs.Late.{IsSame, late-all}
use Rattle.vx_look.proofs.Reached.{reached-go, reached-rest, reached-fate, walks-stop}
use Rattle.vx_look.specs.Aheads.{AgreeAt, ended_by, AreLookedAhead}
use Rattle.vx_serve.specs.Fates.{told}
use Rattle.vx_look.specs.LookUps.{AreGoing, AreLookedUpBy, AreReady, no_access}
use Rattle.vx_serve.specs.declared.fate.Fate.{Fate}
use Rattle.vx_tlb.specs.declared.tlb.Kept.{Kept}

-- the walks so far end by the cycle
pub record IsAhead (start : Start) (history : History) (earlier : List BatchTimes) (want : Want) (started : ℕ) (accesses : List Access) (last root : ℕ) (places : List (Option Kept)) (before after : CellsState) (known : List Fate) (ended i : ℕ) : Type 0 where
  pub walks : List Walk
  pub going : AreGoing start history earlier want started accesses root walks places before after known ended
  pub rest : walks_of start history earlier want started [] accesses ≡ walks_of start history earlier want started walks (drop i accesses)
  pub made : ended_by last walks ≡ walks

module _ (start : Start) (history : History) (earlier : List BatchTimes) (want : Want) (started last root : ℕ) (accesses : List Access) where
  abbrev all : List Walk
  all = walks_of start history earlier want started [] accesses

  pub ahead-none : (places : List (Option Kept)) (cells : CellsState) (known : List Fate) → AreReady start history earlier root places cells
      → map told known ≡ map (fate_of start history earlier want started []) accesses → IsAhead start history earlier want started accesses last root places cells cells known started 0
  ahead-none places cells known ready fates = record {
    walks = [];
    going = record { walked = IsWalked-none start history earlier want started root places cells ready; ended = refl; fates = fates };
    rest = refl;
    made = refl;
  }

  -- the walks that were made are all that end by the cycle
  ahead-by : (walks : List Walk) (places : List (Option Kept)) (before after : CellsState) (known : List Fate) (ended : ℕ) → AreGoing start history earlier want started accesses root walks places before after known ended
      → ended_by last walks ≡ walks → IsSame start history earlier want started last walks all → AreLookedAhead start history earlier want started accesses last root places before after known ended
  ahead-by walks places before after known ended going made same =
      let is : ended_by last all ≡ walks = same.made ∙ made in
      record {
        looked = subst (λ (ws : List Walk). AreLookedUpBy start history earlier want started accesses ws root places before after known ended) (sym is)
            (IsWalked-all start history earlier want started root walks accesses places before after known ended going.walked going.ended going.fates);
        agree = λ a. subst (λ (ws : List Walk). AgreeAt last (fate_of start history earlier want started ws a) (fate_of start history earlier want started all a)) (sym is) (same.agree a);
      }

  same-all : (walks : List Walk) → all ≡ walks → IsSame start history earlier want started last walks all
  same-all walks is =
      subst (λ (ws : List Walk). IsSame start history earlier want started last walks ws) (sym is) (record { made = refl; agree = λ b. inl refl })

  -- behind the last access
  pub ahead-all : (places : List (Option Kept)) (before after : CellsState) (known : List Fate) (ended i : ℕ) → IsAhead start history earlier want started accesses last root places before after known ended i
      → length known ≤ i → AreLookedAhead start history earlier want started accesses last root places before after known ended
  ahead-all places before after known ended i ahead le =
      let count : length known ≡ length accesses = same-length Fate Access Meant told (fate_of start history earlier want started ahead.walks) known accesses ahead.going.fates in
      let none : drop i accesses ≡ [] = drop_all i accesses (omega (arith, count)) in
      ahead-by ahead.walks places before after known ended ahead.going ahead.made
      (same-all ahead.walks (ahead.rest ∙ ap (walks_of start history earlier want started ahead.walks) none))

  -- where the next walk would end behind the cycle
  pub ahead-late : (places : List (Option Kept)) (before after : CellsState) (known : List Fate) (ended i time : ℕ) (u : Bool) → IsAhead start history earlier want started accesses last root places before after known ended i
      → time ≡ walk_time start.machine → (u || nat_le (ended + time) last) ≡ false → AreLookedAhead start history earlier want started accesses last root places before after known ended
  ahead-late places before after known ended i time u ahead takes by =
      let late : last < ended + time = leb-false (ended + time) last (not-either u (nat_le (ended + time) last) by) in
      let takes_so : last < ended + walk_time start.machine = subst (λ (n : ℕ). last < ended + n) takes late in
      let there : last < walks_end started ahead.walks + walk_time start.machine = subst (λ (n : ℕ). last < n + walk_time start.machine) ahead.going.ended takes_so in
      ahead-by ahead.walks places before after known ended ahead.going ahead.made
      (subst (λ (ws : List Walk). IsSame start history earlier want started last ahead.walks ws) (sym ahead.rest)
      (late-all start history earlier want started last ahead.walks (drop i accesses) there))
    where
      not-either : (a b : Bool) → (a || b) ≡ false → b ≡ false
      not-either true b is = absurd (false≢true (sym is))
      not-either false b is = is

  -- the walks with that of the next access end by the cycle
  made-with : (walks : List Walk) (a : Access) (ended : ℕ) → ended ≡ walks_end started walks → ended_by last walks ≡ walks → (not (is_unknown (fate start history earlier want started walks a)) || nat_le (ended + walk_time start.machine) last) ≡ true
      → ended_by last (walks_with start history earlier want started walks a) ≡ walks_with start history earlier want started walks a
  made-with walks a ended ends made by =
      elim (cases_Bool (is_unknown (fate start history earlier want started walks a))) [
        | inr known ↦ subst (λ (ws : List Walk). ended_by last ws ≡ ws) (sym (walks_with-known start history earlier want started walks a known)) made
        | inl unknown ↦
            let w : Walk = walk_behind start history earlier want started walks a in
            let soon : nat_le (ended + walk_time start.machine) last ≡ true = ap (λ (b : Bool). not b || nat_le (ended + walk_time start.machine) last) (sym unknown) ∙ by in
            let there : nat_le w.ended last ≡ true = ap (λ (n : ℕ). nat_le (n + walk_time start.machine) last) (sym ends) ∙ soon in
            subst (λ (ws : List Walk). ended_by last ws ≡ ws) (sym (walks_with-unknown start history earlier want started walks a unknown))
            (ap (λ (b : Bool). if b then w ∷ ended_by last walks else ended_by last walks) there ∙ ap (λ (ws : List Walk). w ∷ ws) made)
      ]

  module _ (places now : List (Option Kept)) (before between after : CellsState) (known later : List Fate) (ended longer i time : ℕ)
      (ahead : IsAhead start history earlier want started accesses last root places before between known ended i) (within : i < length later)
      (going : AreGoing start history earlier want started accesses root (walks_with start history earlier want started ahead.walks (get_or accesses i no_access)) now before after later longer)
      (same : length later ≡ length known) (takes : time ≡ walk_time start.machine) (d : Fate) (by : (not (is_unknown (told (get_or known i d))) || nat_le (ended + time) last) ≡ true) where
    abbrev one : Access
    one = get_or accesses i no_access

    made : ended_by last (walks_with start history earlier want started ahead.walks one) ≡ walks_with start history earlier want started ahead.walks one
    made =
        let here : told (get_or known i d) ≡ fate_of start history earlier want started ahead.walks one =
        at-each Fate Access Meant told (fate_of start history earlier want started ahead.walks) known accesses ahead.going.fates i d no_access (omega (arith, same)) in
        made-with ahead.walks one ended ahead.going.ended ahead.made
        (ap (λ (n : ℕ). not (is_unknown (fate_of start history earlier want started ahead.walks one)) || nat_le (ended + n) last) (sym takes) ∙ ap (λ (f : Meant). not (is_unknown f) || nat_le (ended + time) last) (sym here) ∙ by)

    pub ahead-stop : (e : Fate) → is_failing (told (get_or later i e)) ≡ true → AreLookedAhead start history earlier want started accesses last root now before after later longer
    ahead-stop e fails =
        let is : all ≡ walks_with start history earlier want started ahead.walks one =
        reached-rest start history earlier want started root accesses places now before between after known later ended longer i (record { walks = ahead.walks; going = ahead.going; rest = ahead.rest }) within going
        ∙ walks-stop start history earlier want started root accesses ahead.walks one (drop (suc i) accesses)
        (ap is_failing (sym (reached-fate start history earlier want started root accesses places now before between after known later ended longer i (record { walks = ahead.walks; going = ahead.going; rest = ahead.rest }) within going e)) ∙ fails) in
        ahead-by (walks_with start history earlier want started ahead.walks one) now before after later longer going made (same-all (walks_with start history earlier want started ahead.walks one) is)

    pub ahead-more : (e : Fate) → is_failing (told (get_or later i e)) ≡ false → IsAhead start history earlier want started accesses last root now before after later longer (i + 1)
    ahead-more e goes = record {
      walks = walks_with start history earlier want started ahead.walks one;
      going = going;
      rest = reached-go start history earlier want started root accesses places now before between after known later ended longer i (record { walks = ahead.walks; going = ahead.going; rest = ahead.rest }) within going e goes;
      made = made;
    }
