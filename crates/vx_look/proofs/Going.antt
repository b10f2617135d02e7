-- Walks one behind another, and what they leave.
use Rattle.std.proofs.Common.{◌≡◌, ℕ, ◌+◌, true, false, List, [], ◌∷◌, ◌++◌, map, refl, sym, ap, subst, ◌∙◌}
use Rattle.std.specs.Prelude.{Option}
use Rattle.vx_base.specs.declared.machine.Want.{Want}
use Rattle.vx_base.specs.declared.perm.PageEntry.{PageEntry}
use Rattle.vx_cells.specs.Cells.{CellsState}
use Rattle.vx_image.specs.Pages.{page_of}
use Rattle.vx_episode.specs.Batches.{Fate as Meant, is_unknown, fate_walked, fate_of, walks_end, walk_behind, walks_of}
use Rattle.vx_episode.specs.Footprint.{Access}
use Rattle.vx_episode.specs.History.{History, Walk, BatchTimes, fetch_walks, walks_of_batches, fills_of, after_walks}
use Rattle.vx_episode.specs.Instructions.{walk_time}
use Rattle.vx_episode.specs.Organisation.{Start}
use Rattle.vx_look.proofs.Caught.{filled-below, page_map-below}
use Rattle.vx_look.proofs.Judging.{fate, fate-own, walks_with-known, walks_with-unknown, walks_of-one}
use Rattle.vx_look.proofs.Orders.{after_walks-joined, after_walks-swapped, pages_of-after_walks}
use Rattle.vx_serve.specs.Fates.{told}
use Rattle.vx_look.specs.Filled.{IsFoundBelow}
use Rattle.vx_look.specs.LookUps.{AreReady, AreLookedUp, AreLookedUpBy, IsWalked}
use Rattle.vx_serve.specs.declared.fate.Fate.{Fate}
use Rattle.vx_tables.specs.Caches.{Fill, filled_by}
use Rattle.vx_tables.specs.Residency.{Residency, pages_of}
use Rattle.vx_tables.specs.Tables.{AreHeld, SameBut, table_count}
use Rattle.vx_tables.specs.Walking.{Walks}
use Rattle.vx_tables.specs.declared.walked.Walked.{Walked}
use Rattle.vx_tlb.specs.Kept.{StandsFor}
use Rattle.vx_tlb.specs.declared.tlb.Kept.{Kept}

-- what stays, where a walk's pages are those of the start
pub others-start : (residency : Residency) (walks : List Walk) (root : ℕ) (before after : List ℕ) → SameBut root (table_count (pages_of (after_walks residency walks))) before after → SameBut root (table_count (pages_of residency)) before after
others-start residency walks root before after others =
    subst (λ (ps : List PageEntry). SameBut root (table_count ps) before after) (pages_of-after_walks residency walks) others

after_walks-middle : (residency : Residency) (walks fetched others : List Walk) → after_walks residency (walks ++ fetched ++ others) ≡ after_walks residency (fetched ++ walks ++ others)
after_walks-middle residency walks fetched others =
    after_walks-joined residency (walks ++ fetched) others
    ∙ after_walks-swapped (after_walks residency others) walks fetched
    ∙ sym (after_walks-joined residency (fetched ++ walks) others)

module _ (start : Start) (history : History) (earlier : List BatchTimes) (want : Want) (started root : ℕ) where
  pub IsWalked-none : (places : List (Option Kept)) (cells : CellsState) → AreReady start history earlier root places cells → IsWalked start history earlier root [] places cells cells
  IsWalked-none places cells ready = record { kept = ready.kept; held = ready.held; below = λ below. below; frames = refl; cycle = refl; others = λ word out. refl }

  pub IsWalked-more : (walks : List Walk) (a : Access) (address : ℕ) (places now : List (Option Kept)) (before between after : CellsState) (answered : Walked) → a.address ≡ address → IsWalked start history earlier root walks places before between
      → Walks between after (after_walks start.residency (walks ++ fetch_walks history ++ walks_of_batches earlier)) root address want answered
      → ((fills : List Fill) → StandsFor places fills → StandsFor now (filled_by (page_of address) answered fills))
      → IsWalked start history earlier root (walk_behind start history earlier want started walks a ∷ walks) now before after
  IsWalked-more walks a address places now before between after answered at done walked learned =
      let all : List Walk = walks ++ fetch_walks history ++ walks_of_batches earlier in
      let walk : Walks between after (after_walks start.residency all) root a.address want answered =
      subst (λ (n : ℕ). Walks between after (after_walks start.residency all) root n want answered) (sym at) walked in
      let kept : StandsFor now (filled_by (page_of a.address) answered (fills_of (walks ++ walks_of_batches earlier))) =
      subst (λ (n : ℕ). StandsFor now (filled_by (page_of n) answered (fills_of (walks ++ walks_of_batches earlier)))) (sym at) (learned (fills_of (walks ++ walks_of_batches earlier)) done.kept) in
      record {
        kept = subst (λ (w : Walked). StandsFor now (filled_by (page_of a.address) w (fills_of (walks ++ walks_of_batches earlier)))) walk.answer kept;
        held = walk.held;
        below = λ below.
            filled-below before.frames (page_of a.address) (walk_behind start history earlier want started walks a).answer (fills_of (walks ++ walks_of_batches earlier))
            (subst (λ (n : ℕ). IsFoundBelow n (walk_behind start history earlier want started walks a).answer) done.frames (page_map-below between.frames (after_walks start.residency all) a.address want done.held.pages))
            (done.below below);
        frames = walk.makes.frames ∙ done.frames;
        cycle = walk.makes.cycle ∙ done.cycle;
        others = λ word out. others-start start.residency all root between.contents after.contents walk.others word out ∙ done.others word out;
      }

  pub IsWalked-all : (walks : List Walk) (accesses : List Access) (places : List (Option Kept)) (before after : CellsState) (known : List Fate) (last : ℕ) → IsWalked start history earlier root walks places before after
      → last ≡ walks_end started walks → map told known ≡ map (fate_of start history earlier want started walks) accesses
      → AreLookedUpBy start history earlier want started accesses walks root places before after known last
  IsWalked-all walks accesses places before after known last done ends fates = record {
    ended = ends;
    fates = fates;
    kept = done.kept;
    held = subst (λ (r : Residency). AreHeld after root r) (after_walks-middle start.residency walks (fetch_walks history) (walks_of_batches earlier)) done.held;
    below = done.below;
    frames = done.frames;
    cycle = done.cycle;
    others = done.others;
  }

  -- ---- a batch of one access

  pub one-known : (a : Access) (places : List (Option Kept)) (cells : CellsState) (f : Fate) → told f ≡ fate_of start history earlier want started [] a → is_unknown (told f) ≡ false
      → AreReady start history earlier root places cells → AreLookedUp start history earlier want started (a ∷ []) root places cells cells (f ∷ []) started
  one-known a places cells f is known ready =
      let seen : is_unknown (fate start history earlier want started [] a) ≡ false = ap is_unknown (sym is) ∙ known in
      let all : walks_of start history earlier want started [] (a ∷ []) ≡ [] =
      walks_of-one start history earlier want started [] a ∙ walks_with-known start history earlier want started [] a seen in
      subst (λ (ws : List Walk). AreLookedUpBy start history earlier want started (a ∷ []) ws root places cells cells (f ∷ []) started) (sym all)
      (IsWalked-all [] (a ∷ []) places cells cells (f ∷ []) started (IsWalked-none places cells ready) refl (ap (λ (x : Meant). x ∷ []) is))

  pub one-walked : (a : Access) (address : ℕ) (places now : List (Option Kept)) (before after : CellsState) (f g : Fate) (answered : Walked) (last : ℕ) → a.address ≡ address
      → told f ≡ fate_of start history earlier want started [] a → is_unknown (told f) ≡ true
      → AreReady start history earlier root places before
      → Walks before after (after_walks start.residency (fetch_walks history ++ walks_of_batches earlier)) root address want answered
      → ((fills : List Fill) → StandsFor places fills → StandsFor now (filled_by (page_of address) answered fills))
      → told g ≡ fate_walked a last answered → last ≡ started + walk_time start.machine
      → AreLookedUp start history earlier want started (a ∷ []) root now before after (g ∷ []) last
  one-walked a address places now before after f g answered last at is unknown ready walked learned told_g ends =
      let w : Walk = walk_behind start history earlier want started [] a in
      let seen : is_unknown (fate start history earlier want started [] a) ≡ true = ap is_unknown (sym is) ∙ unknown in
      let all : walks_of start history earlier want started [] (a ∷ []) ≡ w ∷ [] =
      walks_of-one start history earlier want started [] a ∙ walks_with-unknown start history earlier want started [] a seen in
      let done : IsWalked start history earlier root (w ∷ []) now before after =
      IsWalked-more [] a address places now before before after answered at (IsWalked-none places before ready) walked learned in
      let walk : Walks before after (after_walks start.residency (fetch_walks history ++ walks_of_batches earlier)) root a.address want answered =
      subst (λ (n : ℕ). Walks before after (after_walks start.residency (fetch_walks history ++ walks_of_batches earlier)) root n want answered) (sym at) walked in
      let answer : answered ≡ w.answer = walk.answer in
      let known : told g ≡ fate_of start history earlier want started (w ∷ []) a =
      told_g ∙ ap (λ (n : ℕ). fate_walked a n answered) ends ∙ ap (fate_walked a w.ended) answer ∙ sym (fate-own start history earlier want started [] a w seen refl) in
      subst (λ (ws : List Walk). AreLookedUpBy start history earlier want started (a ∷ []) ws root now before after (g ∷ []) last) (sym all)
      (IsWalked-all (w ∷ []) (a ∷ []) now before after (g ∷ []) last done ends (ap (λ (x : Meant). x ∷ []) known))
