-- Walks for data go as if the walk of the instruction's own fetch weren't there: it is for no store.
use Rattle.std.proofs.Common.{◌≡◌, ℕ, ◌+◌, true, false, List, [], ◌∷◌, ◌++◌, refl, sym, ap, ◌∙◌, append_assoc}
use Rattle.std.specs.Prelude.{Option, Some, None, IfSome, if◌then◌else◌}
use Rattle.std.specs.Option.{option_to_list}
use Rattle.vx_base.specs.declared.machine.Want.{Want}
use Rattle.vx_tables.specs.Residency.{Residency, page_map, after_walk, is_store}
use Rattle.vx_episode.specs.Batches.{is_failing, is_unknown, fate_of, walk_behind, walks_with, walks_of, walks_end}
use Rattle.vx_episode.specs.Footprint.{Access}
use Rattle.vx_episode.specs.History.{History, Entry, Walk, BatchTimes, fetch_walks, walks_of_batches, after_walks}
use Rattle.vx_episode.specs.Instructions.{walk_time}
use Rattle.vx_episode.specs.Organisation.{Start}

-- the law of walks in another order
abbrev pub ComesFirst : Type 0
ComesFirst = (residency : Residency) (some others : List Walk) (w : Walk) → after_walks residency (some ++ w ∷ others) ≡ after_walks residency (w ∷ (some ++ others))

abbrev pub SetsNothing : Type 0
SetsNothing = (residency : Residency) (address other : ℕ) (want wanted : Want) → is_store wanted ≡ false
    → page_map (after_walk residency other wanted) address want ≡ page_map residency address want

module _ (first : ComesFirst) (nothing : SetsNothing) where
  -- an answer without a walk that is for no store
  without-walk : (residency : Residency) (some fetches others : List Walk) (fetched : Option Walk) (address : ℕ) (want : Want) → IfSome fetched (λ (w : Walk). is_store w.want ≡ false)
      → page_map (after_walks residency ((some ++ (option_to_list fetched ++ fetches)) ++ others)) address want ≡ page_map (after_walks residency ((some ++ fetches) ++ others)) address want
  without-walk residency some fetches others None address want h = refl
  without-walk residency some fetches others (Some w) address want h =
      ap (λ (ws : List Walk). page_map (after_walks residency ws) address want) (append_assoc some (w ∷ fetches) others)
      ∙ ap (λ (r : Residency). page_map r address want) (first residency some (fetches ++ others) w)
      ∙ nothing (after_walks residency (some ++ (fetches ++ others))) address w.address want w.want h
      ∙ ap (λ (ws : List Walk). page_map (after_walks residency ws) address want) (sym (append_assoc some fetches others))

  module _ (start : Start) (history : History) (e : Entry) (before : List BatchTimes) (want : Want) (started : ℕ) (loads : IfSome e.fetch.walk (λ (w : Walk). is_store w.want ≡ false)) where
    answer-same : (walks : List Walk) (address : ℕ) → page_map (after_walks start.residency (walks ++ fetch_walks (e ∷ history) ++ walks_of_batches before)) address want ≡ page_map (after_walks start.residency (walks ++ fetch_walks history ++ walks_of_batches before)) address want
    answer-same walks address = without-walk start.residency walks (fetch_walks history) (walks_of_batches before) e.fetch.walk address want loads

    behind-same : (walks : List Walk) (a : Access) → walk_behind start (e ∷ history) before want started walks a ≡ walk_behind start history before want started walks a
    behind-same walks a =
        (λ i. record {
          address = a.address;
          want = want;
          begun = walks_end started walks;
          ended = walks_end started walks + walk_time start.machine;
          answer = answer-same walks a.address i;
        })

    with-same : (walks : List Walk) (a : Access) → walks_with start (e ∷ history) before want started walks a ≡ walks_with start history before want started walks a
    with-same walks a = ap (λ (w : Walk). if is_unknown (fate_of start history before want started walks a) then w ∷ walks else walks) (behind-same walks a)

    pub walks-same : (walks : List Walk) (accesses : List Access) → walks_of start (e ∷ history) before want started walks accesses ≡ walks_of start history before want started walks accesses
    walks-same walks [] = refl
    walks-same walks (a ∷ accesses) =
        (λ i. elim (is_failing (fate_of start history before want started (with-same walks a i) a)) as (λ _. List Walk) [
          | true ↦ with-same walks a i
          | false ↦ walks_of start (e ∷ history) before want started (with-same walks a i) accesses
        ])
        ∙ ap (λ (ws : List Walk). elim (is_failing (fate_of start history before want started (walks_with start history before want started walks a) a)) as (λ _. List Walk) [ true ↦ walks_with start history before want started walks a | false ↦ ws ])
        (walks-same (walks_with start history before want started walks a) accesses)
