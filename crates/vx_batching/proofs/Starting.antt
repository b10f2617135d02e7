-- When the next batch starts, behind those that were gone through.
use Rattle.std.proofs.Common.{◌≡◌, ℕ, ◌+◌, ◌≤◌, ◌<◌, max, Bool, true, false, List, [], ◌∷◌, ◌++◌, refl, ap, ◌∙◌, arith}
use Rattle.std.specs.Prelude.{map, filter, if◌then◌else◌}
use Rattle.std.specs.List.{list_all}
use Rattle.std.proofs.lemmas.Bool.{and_parts, and_from, le-leb}
use Rattle.std.proofs.lemmas.List.{append_assoc}
use Rattle.vx_tables.specs.Residency.{is_store}
use Rattle.vx_episode.specs.Batches.{start_cycle}
use Rattle.vx_episode.specs.Cycles.{Cycle, behind, later_of, latest, is_by}
use Rattle.vx_episode.specs.Cycles.Cycle.{At, Never}
use Rattle.vx_episode.specs.Footprint.{Batch, Footprint}
use Rattle.vx_episode.specs.History.{History, BatchTimes, last_retire, word_ready, stops, passed, last_passed, commit_before_last, batches_of}
use Rattle.vx_episode.specs.Organisation.{Start}
use Rattle.vx_quiet.specs.Quiet.{IsQuiet}
use Rattle.vx_batching.specs.Batching.{IsReached}
use Rattle.vx_batching.proofs.Lists.{all-both, all-if}
use Rattle.vx_batching.proofs.Times.{ComesBy, comes, at-cycle, at-by, by-more, latest-append, latest-comes}

-- ---- cycles

pub behind-by : (k : ℕ) (c : Cycle) → is_by k c ≡ true → is_by (k + 1) (behind c) ≡ true
behind-by k c h =
    let some = comes k c h in
    let by = some.by in
    ap (λ (c : Cycle). is_by (k + 1) (behind c)) some.is ∙ le-leb (some.cycle + 1) (k + 1) (omega arith)

-- the latest of four groups of cycles behind one
latest-of : (t p q n k : ℕ) (xs ys zs ws : List Cycle) → latest xs ≡ At p → latest ys ≡ At q → latest (zs ++ ws) ≡ At n → max t (max (max p q) n) ≡ k → latest (At t ∷ xs ++ ys ++ zs ++ ws) ≡ At k
latest-of t p q n k xs ys zs ws x y z e =
    ap (λ (cs : List Cycle). later_of (At t) (latest cs)) (append_assoc (xs ++ ys) zs ws)
    ∙ ap (later_of (At t)) (latest-append (xs ++ ys) (zs ++ ws) ∙ ap (λ (c : Cycle). later_of c (latest (zs ++ ws))) (latest-append xs ys) ∙ (λ i. later_of (later_of (x i) (y i)) (z i)))
    ∙ ap At e

-- ---- the batches before the instruction

none-comes : (k : ℕ) → ComesBy k (latest [])
none-comes k = record { cycle = 0; is = refl; by = omega arith }

one-behind : (r : ℕ) (c : Cycle) → is_by r c ≡ true → ComesBy (r + 1) (latest (map behind (c ∷ [])))
one-behind r c h = latest-comes (r + 1) (behind c ∷ []) (and_from (is_by (r + 1) (behind c)) true (behind-by r c h) refl)

passed-before : (r : ℕ) (batches : List BatchTimes) → list_all (λ (b : BatchTimes). is_by r (passed b)) batches ≡ true → ComesBy (r + 1) (latest (map behind (last_passed batches)))
passed-before r [] h = none-comes (r + 1)
passed-before r (b ∷ batches) h = one-behind r (passed b) (and_parts (is_by r (passed b)) (list_all (λ (b : BatchTimes). is_by r (passed b)) batches) h).0

commit-behind : (r : ℕ) (l : BatchTimes) (batches : List BatchTimes) → list_all (λ (b : BatchTimes). is_by r b.committed) batches ≡ true → ComesBy (r + 1) (latest (map behind (commit_before_last (l ∷ batches))))
commit-behind r l [] h = none-comes (r + 1)
commit-behind r l (b ∷ batches) h = one-behind r b.committed (and_parts (is_by r b.committed) (list_all (λ (b : BatchTimes). is_by r b.committed) batches) h).0

commit-before : (r : ℕ) (batches : List BatchTimes) → list_all (λ (b : BatchTimes). is_by r b.committed) batches ≡ true → ComesBy (r + 1) (latest (map behind (commit_before_last batches)))
commit-before r [] h = none-comes (r + 1)
commit-before r (b ∷ batches) h = commit-behind r b batches (and_parts (is_by r b.committed) (list_all (λ (b : BatchTimes). is_by r b.committed) batches) h).1

-- ---- those of the instruction

pub kept-none : (b : Bool) {A : Type 0} (x : A) (xs : List A) → (if b then x ∷ xs else xs) ≡ [] → (b ≡ false) × (xs ≡ [])
kept-none true x xs e = absurd (cc)
kept-none false x xs e = (refl, e)

pub passed-at : (l : BatchTimes) (looked : ℕ) → stops l ≡ false → l.looked_up ≡ At looked → passed l ≡ At looked
passed-at l looked off is = ap (λ (b : Bool). if b then Never else l.looked_up) off ∙ is

at-behind : (c : Cycle) (n : ℕ) → c ≡ At n → latest (map behind (c ∷ [])) ≡ At (n + 1)
at-behind c n e = ap (λ (c : Cycle). latest (behind c ∷ [])) e ∙ ap At (omega arith)

module _ (start : Start) (history : History) (r t : ℕ) (f : Footprint) (q : IsQuiet start history r) (after : r < t) where
  words-by : (places : List ℕ) → list_all (is_by (r + 1)) (map (word_ready start.cycle history) places) ≡ true
  words-by [] = refl
  words-by (place ∷ places) =
      and_from (is_by (r + 1) (word_ready start.cycle history place)) (list_all (is_by (r + 1)) (map (word_ready start.cycle history) places))
      (by-more r (r + 1) (omega arith) (word_ready start.cycle history place) (q.words place)) (words-by places)

  others-by : (b : Batch) → ComesBy (r + 1) (latest (map (word_ready start.cycle history) b.sources ++ (if is_store f.want then behind (last_retire start.cycle history) ∷ [] else [])))
  others-by b =
      let words : List Cycle = map (word_ready start.cycle history) b.sources in
      let retire : Cycle = behind (last_retire start.cycle history) in
      let last : is_by (r + 1) retire ≡ true = behind-by r (last_retire start.cycle history) (at-by r r (last_retire start.cycle history) q.last (omega arith)) in
      let store : List Cycle = if is_store f.want then retire ∷ [] else [] in
      latest-comes (r + 1) (words ++ store)
      (all-both (is_by (r + 1)) words store (words-by b.sources) (all-if (is_by (r + 1)) (is_store f.want) (retire ∷ []) [] (and_from (is_by (r + 1) retire) true last refl) refl))

  start-from : (before : List BatchTimes) (b : Batch) (p k : ℕ) → latest (map behind (last_passed before)) ≡ At p → (q : ℕ) → latest (map behind (commit_before_last before)) ≡ At q → ((n : ℕ) → n ≤ r + 1 → max (t + 1) (max (max p q) n) ≡ k)
      → start_cycle start history before (At t) f.want b ≡ At k
  start-from before b p k x q y e =
      let rest = others-by b in
      latest-of (t + 1) p q rest.cycle k (map behind (last_passed before)) (map behind (commit_before_last before)) (map (word_ready start.cycle history) b.sources)
      (if is_store f.want then behind (last_retire start.cycle history) ∷ [] else []) x y rest.is (e rest.cycle rest.by)

pub starts : (start : Start) (history : History) (r t : ℕ) (f : Footprint) (own : List BatchTimes) (b : Batch) (bs : List Batch) (looked committed before done : ℕ) → IsReached start history r t f own (b ∷ bs) looked committed before done
    → start_cycle start history (own ++ batches_of history) (At t) f.want b ≡ At (max looked before + 1)
starts start history r t f [] b bs looked committed before done reached =
    let l : t ≡ looked = at-cycle t looked reached.looked_is in
    let c : 0 ≡ before = at-cycle 0 before reached.before_is in
    let after = reached.behind_retire in
    let p = passed-before r (batches_of history) reached.quiet.looked_up in
    let q = commit-before r (batches_of history) reached.quiet.committed in
    let p-by = p.by in
    let q-by = q.by in
    start-from start history r t f reached.quiet reached.behind_retire (batches_of history) b p.cycle (max looked before + 1) p.is q.cycle q.is (λ n few. omega arith)
starts start history r t f (l ∷ []) b bs looked committed before done reached =
    let c : r + 1 ≡ before = at-cycle (r + 1) before reached.before_is in
    let after = reached.behind_retire in
    let from = reached.looked_from in
    let off = kept-none (stops l) l [] reached.none_stops in
    let q = commit-behind r l (batches_of history) reached.quiet.committed in
    let q-by = q.by in
    start-from start history r t f reached.quiet reached.behind_retire (l ∷ batches_of history) b (looked + 1) (max looked before + 1) (at-behind (passed l) looked (passed-at l looked off.0 reached.looked_is)) q.cycle q.is (λ n few. omega arith)
starts start history r t f (l ∷ m ∷ own) b bs looked committed before done reached =
    let after = reached.behind_retire in
    let from = reached.looked_from in
    let off = kept-none (stops l) l (filter stops (m ∷ own)) reached.none_stops in
    start-from start history r t f reached.quiet reached.behind_retire (l ∷ m ∷ own ++ batches_of history) b (looked + 1) (max looked before + 1) (at-behind (passed l) looked (passed-at l looked off.0 reached.looked_is))
    (before + 1) (at-behind m.committed before reached.before_is) (λ n few. omega arith)
