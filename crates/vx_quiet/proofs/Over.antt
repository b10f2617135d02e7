-- What a quiet history did is over by any later cycle.
use Rattle.std.proofs.Common.{◌≡◌, ℕ, ◌+◌, ◌≤◌, max, Bool, true, false, List, [], ◌∷◌, ◌++◌, refl, ap, ◌∙◌, arith}
use Rattle.std.specs.Prelude.{nat_le, map, filter, if◌then◌else◌}
use Rattle.std.specs.List.{list_all}
use Rattle.std.proofs.lemmas.Bool.{and_parts, leb-true}
use Rattle.std.proofs.lemmas.Grind.{flat_map-append}
use Rattle.std.proofs.lemmas.List.{map-append}
use Rattle.vx_episode.specs.Episode.{greatest, clock_behind, residency_by, trap_cycles}
use Rattle.vx_episode.specs.History.{History, Entry, Walk, BatchTimes, AccessTimes, batches_of, accesses_of, queued_by, walks_of_batches, data_walks, fetch_walks, after_walks}
use Rattle.vx_episode.specs.Instructions.{residency_now}
use Rattle.vx_episode.specs.Organisation.{Start}
use Rattle.vx_quiet.specs.Quiet.{IsQuiet, ended_by}
use Rattle.vx_quiet.proofs.Times.{all-both, all-more, filter-all, le-more}

-- ---- lists

filter-if : {A : Type 0} (b : Bool) (x : A) (xs ys zs : List A) → xs ≡ ys ++ zs → (if b then x ∷ xs else xs) ≡ (if b then x ∷ ys else ys) ++ zs
filter-if true x xs ys zs e = ap (λ rest. x ∷ rest) e
filter-if false x xs ys zs e = e

filter-append : {A : Type 0} (p : A → Bool) (xs ys : List A) → filter p (xs ++ ys) ≡ filter p xs ++ filter p ys
filter-append p [] ys = refl
filter-append p (x ∷ xs) ys = filter-if (p x) x (filter p (xs ++ ys)) (filter p xs) (filter p ys) (filter-append p xs ys)

greatest-append : (xs ys : List ℕ) → greatest (xs ++ ys) ≡ max (greatest xs) (greatest ys)
greatest-append [] ys = omega arith
greatest-append (x ∷ xs) ys = let rest = greatest-append xs ys in omega arith

-- ---- walks

walks-over : (last : ℕ) (walks : List Walk) (r : ℕ) → r ≤ last → list_all (λ (w : Walk). nat_le w.ended r) walks ≡ true → ended_by last walks ≡ walks
walks-over last walks r few h = filter-all (λ (w : Walk). nat_le w.ended last) walks (all-more (λ (w : Walk). nat_le w.ended r) (λ (w : Walk). nat_le w.ended last) (λ w one. le-more r last w.ended few one) walks h)

module _ (start : Start) (history : History) (r last : ℕ) (q : IsQuiet start history r) (few : r ≤ last) where
  pub walks-kept : ended_by last (fetch_walks history ++ data_walks history) ≡ fetch_walks history ++ data_walks history
  walks-kept = walks-over last (fetch_walks history ++ data_walks history) r few (all-both (λ (w : Walk). nat_le w.ended r) (fetch_walks history) (data_walks history) q.fetches_ended q.data_ended)

  fetches-split : (newer : History) → ended_by last (fetch_walks (newer ++ history)) ≡ ended_by last (fetch_walks newer) ++ fetch_walks history
  fetches-split newer =
      ap (ended_by last) (flat_map-append _ newer history)
      ∙ filter-append (λ (w : Walk). nat_le w.ended last) (fetch_walks newer) (fetch_walks history)
      ∙ ap (λ (walks : List Walk). ended_by last (fetch_walks newer) ++ walks) (walks-over last (fetch_walks history) r few q.fetches_ended)

  batches-split : (newer : History) → batches_of (newer ++ history) ≡ batches_of newer ++ batches_of history
  batches-split newer = flat_map-append (λ (e : Entry). e.batches) newer history

  data-split : (newer : History) → ended_by last (data_walks (newer ++ history)) ≡ ended_by last (data_walks newer) ++ data_walks history
  data-split newer =
      ap (λ (batches : List BatchTimes). ended_by last (walks_of_batches batches)) (batches-split newer)
      ∙ ap (ended_by last) (flat_map-append (λ (b : BatchTimes). b.walks) (batches_of newer) (batches_of history))
      ∙ filter-append (λ (w : Walk). nat_le w.ended last) (data_walks newer) (data_walks history)
      ∙ ap (λ (walks : List Walk). ended_by last (data_walks newer) ++ walks) (walks-over last (data_walks history) r few q.data_ended)

  pub residency-split : (newer : History) → residency_by start last (newer ++ history) ≡ after_walks start.residency ((ended_by last (fetch_walks newer) ++ fetch_walks history) ++ (ended_by last (data_walks newer) ++ data_walks history))
  residency-split newer =
      ap (after_walks start.residency) (filter-append (λ (w : Walk). nat_le w.ended last) (fetch_walks (newer ++ history)) (data_walks (newer ++ history)))
      ∙ (λ i. after_walks start.residency (fetches-split newer i ++ data-split newer i))

  pub residency-same : residency_by start last history ≡ residency_now start history
  residency-same = ap (after_walks start.residency) walks-kept

  -- ---- accesses

  pub queued-kept : queued_by last (accesses_of (batches_of history)) ≡ accesses_of (batches_of history)
  queued-kept =
      filter-all (λ (a : AccessTimes). nat_le a.queued last) (accesses_of (batches_of history))
      (all-more (λ (a : AccessTimes). nat_le a.queued r) (λ (a : AccessTimes). nat_le a.queued last) (λ a one. le-more r last a.queued few one) (accesses_of (batches_of history)) q.queued)

  greatest-done : (accesses : List AccessTimes) → list_all (λ (a : AccessTimes). nat_le a.done r) accesses ≡ true → greatest (map (λ (a : AccessTimes). a.done) accesses) ≤ last
  greatest-done [] h = omega arith
  greatest-done (a ∷ accesses) h =
      let parts = and_parts (nat_le a.done r) (list_all (λ (a : AccessTimes). nat_le a.done r) accesses) h in
      let first = leb-true a.done r parts.0 in
      let rest = greatest-done accesses parts.1 in
      omega arith

  pub done-by : greatest (map (λ (a : AccessTimes). a.done) (accesses_of (batches_of history))) ≤ last
  done-by = greatest-done (accesses_of (batches_of history)) q.done

  queued-split : (newer : History) → queued_by last (accesses_of (batches_of (newer ++ history))) ≡ queued_by last (accesses_of (batches_of newer)) ++ accesses_of (batches_of history)
  queued-split newer =
      ap (λ (batches : List BatchTimes). queued_by last (accesses_of batches)) (batches-split newer)
      ∙ ap (queued_by last) (flat_map-append (λ (b : BatchTimes). b.accesses) (batches_of newer) (batches_of history))
      ∙ filter-append (λ (a : AccessTimes). nat_le a.queued last) (accesses_of (batches_of newer)) (accesses_of (batches_of history))
      ∙ ap (λ (accesses : List AccessTimes). queued_by last (accesses_of (batches_of newer)) ++ accesses) queued-kept

  clock-of : (n o all : ℕ) → o ≤ last → all ≡ max n o → max last all + trap_cycles ≡ max last n + trap_cycles
  clock-of n o all over e = omega arith

  pub clock-split : (newer : History) → clock_behind last (newer ++ history) ≡ clock_behind last newer
  clock-split newer =
      let done : AccessTimes → ℕ = λ (a : AccessTimes). a.done in
      let mine : List AccessTimes = queued_by last (accesses_of (batches_of newer)) in
      let theirs : List AccessTimes = accesses_of (batches_of history) in
      let all : List AccessTimes = queued_by last (accesses_of (batches_of (newer ++ history))) in
      let e : greatest (map done all) ≡ max (greatest (map done mine)) (greatest (map done theirs)) =
      ap (λ (accesses : List AccessTimes). greatest (map done accesses)) (queued-split newer) ∙ ap greatest (map-append done mine theirs) ∙ greatest-append (map done mine) (map done theirs) in
      clock-of (greatest (map done mine)) (greatest (map done theirs)) (greatest (map done all)) done-by e

-- of no newer ones
pub clock-same : (start : Start) (history : History) (r last : ℕ) → IsQuiet start history r → r ≤ last → clock_behind last history ≡ last + trap_cycles
clock-same start history r last q few =
    let most : max last 0 ≡ last = omega arith in
    clock-split start history r last q few [] ∙ ap (λ (n : ℕ). n + trap_cycles) most
