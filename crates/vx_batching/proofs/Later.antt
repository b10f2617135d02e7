-- The batches behind some: there are more, and those behind the next one start behind the last commit, or never.
use Rattle.std.proofs.Common.{◌≡◌, ℕ, ◌+◌, ◌≤◌, max, Bool, true, false, ◌⊎◌, inl, inr, List, [], ◌∷◌, ◌++◌, refl, sym, ap, ◌∙◌, arith}
use Rattle.std.specs.Prelude.{◌&&◌, nat_le, map, if◌then◌else◌}
use Rattle.std.specs.List.{list_all}
use Rattle.std.proofs.lemmas.Bool.{cases_Bool, and_parts, and_from, leb-true, leb-false, le-leb}
use Rattle.std.proofs.lemmas.List.{append_assoc, map-append}
use Rattle.vx_tables.specs.Residency.{is_store}
use Rattle.vx_episode.specs.Batches.{start_cycle, commit_cycle, batch_started, batch_times, all_batches}
use Rattle.vx_episode.specs.Cycles.{Cycle, behind, later_of, latest}
use Rattle.vx_episode.specs.Cycles.Cycle.{At, Never}
use Rattle.vx_episode.specs.Footprint.{Access, Batch, Footprint}
use Rattle.vx_episode.specs.History.{History, Walk, BatchTimes, AccessTimes, last_retire, word_ready, passed, batches_of, accesses_of, missing_of, done_cycles, batch_done}
use Rattle.vx_episode.specs.Organisation.{Start}
use Rattle.vx_batching.proofs.Judging.{is_queued_between}
use Rattle.vx_batching.proofs.Lists.{all-both, all-more}
use Rattle.vx_batching.proofs.Passing.{ends_of}
use Rattle.vx_batching.proofs.Started.{IsStarted, is-started, its_end}
use Rattle.vx_batching.proofs.Times.{is_from, from-first, from-second, from-behind, latest-append}
use Rattle.vx_batching.proofs.Walking.{is_between}

-- ---- more batches, each of which passes a test

pub record IsMore (p : BatchTimes → Bool) (batches own : List BatchTimes) : Type 0 where
  pub later : List BatchTimes
  pub are : batches ≡ later ++ own
  pub each : list_all p later ≡ true

pub no-more : (p : BatchTimes → Bool) (own : List BatchTimes) → IsMore p own own
no-more p own = record { later = []; are = refl; each = refl }

pub one-more : (p : BatchTimes → Bool) (batches own : List BatchTimes) (b : BatchTimes) → p b ≡ true → IsMore p batches (b ∷ own) → IsMore p batches own
one-more p batches own b h more = record {
  later = more.later ++ (b ∷ []);
  are = more.are ∙ sym (append_assoc more.later (b ∷ []) own);
  each = all-both p more.later (b ∷ []) more.each (and_from (p b) true h refl);
}

pub more-if : (p : BatchTimes → Bool) (own : List BatchTimes) (trimmed : Bool) (xs ys : List BatchTimes) → IsMore p xs own → IsMore p ys own → IsMore p (elim trimmed as (λ _. List BatchTimes) [ true ↦ xs | false ↦ ys ]) own
more-if p own true xs ys h k = h
more-if p own false xs ys h k = k

abbrev pub is_any : BatchTimes → Bool
is_any b = true

-- all batches are those that were gone through, and more
pub all-more-batches : (start : Start) (history : History) (t : ℕ) (f : Footprint) (bs : List Batch) (own : List BatchTimes) → IsMore is_any (all_batches start history own (At t) f bs) own
all-more-batches start history t f [] own = no-more is_any own
all-more-batches start history t f (b ∷ bs) own =
    let times : BatchTimes = batch_times start history (own ++ batches_of history) (At t) f b in
    let now : BatchTimes = record times { committed = commit_cycle start history (ends_of (times ∷ own)) (batch_done (times ∷ own)) } in
    more-if is_any own times.is_trimmed (now ∷ own) (all_batches start history (now ∷ own) (At t) f bs)
    (one-more is_any (now ∷ own) own now refl (no-more is_any (now ∷ own)))
    (one-more is_any (all_batches start history (now ∷ own) (At t) f bs) own now refl (all-more-batches start history t f bs (now ∷ own)))

-- ---- commits don't fall

swap-later : (x y m n : Cycle) → later_of (later_of x y) (later_of m n) ≡ later_of (later_of x m) (later_of y n)
swap-later (At x) (At y) (At m) (At n) = ap At (omega arith)
swap-later (At x) (At y) (At m) Never = refl
swap-later (At x) (At y) Never n = refl
swap-later (At x) Never (At m) n = refl
swap-later (At x) Never Never n = refl
swap-later Never y m n = refl

latest-dones : (xs ys : List AccessTimes) (ms ns : List Access) → latest (done_cycles (xs ++ ys) (ms ++ ns)) ≡ later_of (latest (done_cycles xs ms)) (latest (done_cycles ys ns))
latest-dones xs ys ms ns =
    let at : AccessTimes → Cycle = λ (a : AccessTimes). At a.done in
    let out : Access → Cycle = λ (a : Access). Never in
    latest-append (map at (xs ++ ys)) (map out (ms ++ ns))
    ∙ (λ i. later_of (latest (map-append at xs ys i)) (latest (map-append out ms ns i)))
    ∙ (λ i. later_of (latest-append (map at xs) (map at ys) i) (latest-append (map out ms) (map out ns) i))
    ∙ swap-later (latest (map at xs)) (latest (map at ys)) (latest (map out ms)) (latest (map out ns))
    ∙ (λ i. later_of (sym (latest-append (map at xs) (map out ms)) i) (sym (latest-append (map at ys) (map out ns)) i))

from-either : (k : ℕ) (a b : Cycle) → is_from k (later_of a b) ≡ true → (is_from k a ≡ true) ⊎ (is_from k b ≡ true)
from-either k (At a) (At b) h = by-order k a b h
  where
    by-order : (k a b : ℕ) → nat_le k (max a b) ≡ true → (nat_le k a ≡ true) ⊎ (nat_le k b ≡ true)
    by-order k a b h =
        elim (cases_Bool (nat_le k a)) [
          | inl first ↦ inl first
          | inr first ↦ let low = leb-false k a first in let some = leb-true k (max a b) h in inr (le-leb k b (omega arith))
        ]
from-either k (At a) Never h = inr refl
from-either k Never b h = inl refl

-- the latest of more
from-grown : (k : ℕ) (retire looked earlier dones done : Cycle) → is_from k (later_of retire (later_of earlier done)) ≡ true → is_from k (later_of retire (later_of looked (later_of earlier (later_of dones done)))) ≡ true
from-grown k retire looked earlier dones done h =
    let rest : Cycle = later_of earlier (later_of dones done) in
    elim (from-either k retire (later_of earlier done) h) [
      | inl first ↦ from-first k retire (later_of looked rest) first
      | inr second ↦ from-second k retire (later_of looked rest) (from-second k looked rest (elim (from-either k earlier done second) [
        | inl first ↦ from-first k earlier (later_of dones done) first
        | inr last ↦ from-second k earlier (later_of dones done) (from-second k dones done last)
      ]))
    ]

module _ (start : Start) (history : History) where
  abbrev pub commit_of : List BatchTimes → Cycle
  commit_of own = commit_cycle start history (ends_of own) (batch_done own)

  abbrev pub with_its_commit : List BatchTimes → BatchTimes → BatchTimes
  with_its_commit own b = record b { committed = commit_of (b ∷ own) }

  pub commit-grows : (k : ℕ) (own : List BatchTimes) (b : BatchTimes) → is_from k (commit_of own) ≡ true → is_from k (commit_of (b ∷ own)) ≡ true
  commit-grows k own b h =
      let retire : Cycle = behind (last_retire start.cycle history) in
      let before : is_from k (later_of retire (later_of (latest (ends_of own)) (latest (batch_done own)))) ≡ true =
      ap (λ (c : Cycle). is_from k (later_of retire c)) (sym (latest-append (ends_of own) (batch_done own))) ∙ h in
      ap (λ (c : Cycle). is_from k (later_of retire (later_of b.looked_up c)))
      (latest-append (ends_of own) (batch_done (b ∷ own)) ∙ ap (later_of (latest (ends_of own))) (latest-dones b.accesses (accesses_of own) b.missing (missing_of own)))
      ∙ from-grown k retire b.looked_up (latest (ends_of own)) (latest (done_cycles b.accesses b.missing)) (latest (batch_done own)) before

  -- ---- batches that start behind a cycle

  -- one whose accesses are queued, and whose walks begin, behind a cycle
  abbrev pub is_late : (last : ℕ) → BatchTimes → Bool
  is_late last b = list_all (λ (a : AccessTimes). nat_le (last + 1) a.queued) b.accesses && list_all (λ (w : Walk). nat_le (last + 1) w.begun && nat_le (last + 1) w.ended) b.walks

  late-access : (k n last : ℕ) → n ≤ k → (a : AccessTimes) → is_queued_between k last a ≡ true → nat_le n a.queued ≡ true
  late-access k n last few a h =
      let parts = and_parts (nat_le k a.queued) (nat_le a.queued last) h in
      let some = leb-true k a.queued parts.0 in
      le-leb n a.queued (omega arith)

  late-walk : (k n last : ℕ) → n ≤ k → (w : Walk) → is_between k last w ≡ true → (nat_le n w.begun && nat_le n w.ended) ≡ true
  late-walk k n last few w h =
      let parts = and_parts (nat_le k w.begun && nat_le k w.ended) (nat_le w.ended last) h in
      let both = and_parts (nat_le k w.begun) (nat_le k w.ended) parts.0 in
      let begun = leb-true k w.begun both.0 in
      let ended = leb-true k w.ended both.1 in
      and_from (nat_le n w.begun) (nat_le n w.ended) (le-leb n w.begun (omega arith)) (le-leb n w.ended (omega arith))

  late-started : (last : ℕ) (before : List BatchTimes) (f : Footprint) (b : Batch) (c : Cycle) → is_from (last + 1) c ≡ true → is_late last (batch_started start history before f b c) ≡ true
  late-started last before f b (At k) h =
      let times : BatchTimes = batch_started start history before f b (At k) in
      let s : IsStarted k (its_end start history before f b k) times = is-started start history before f b k in
      let few : last + 1 ≤ k = leb-true (last + 1) k h in
      and_from (list_all (λ (a : AccessTimes). nat_le (last + 1) a.queued) times.accesses) (list_all (λ (w : Walk). nat_le (last + 1) w.begun && nat_le (last + 1) w.ended) times.walks)
      (all-more (is_queued_between k (its_end start history before f b k)) (λ (a : AccessTimes). nat_le (last + 1) a.queued) (late-access k (last + 1) (its_end start history before f b k) few) times.accesses s.accesses)
      (all-more (is_between k (its_end start history before f b k)) (λ (w : Walk). nat_le (last + 1) w.begun && nat_le (last + 1) w.ended) (late-walk k (last + 1) (its_end start history before f b k) few) times.walks s.walks)
  late-started last before f b Never h = refl

  -- behind two batches
  late-start : (last t : ℕ) (f : Footprint) (x y : BatchTimes) (others : List BatchTimes) (b : Batch) → is_from last y.committed ≡ true → is_from (last + 1) (start_cycle start history (x ∷ y ∷ others) (At t) f.want b) ≡ true
  late-start last t f x y others b h =
      let rest : Cycle = latest (map (word_ready start.cycle history) b.sources ++ (if is_store f.want then behind (last_retire start.cycle history) ∷ [] else [])) in
      from-second (last + 1) (At (t + 1)) (later_of (behind (passed x)) (later_of (behind y.committed) rest))
      (from-second (last + 1) (behind (passed x)) (later_of (behind y.committed) rest)
      (from-first (last + 1) (behind y.committed) rest (from-behind last y.committed h)))

  pub all-late : (last t : ℕ) (f : Footprint) (bs : List Batch) (x y : BatchTimes) (own : List BatchTimes) → is_from last x.committed ≡ true → is_from last y.committed ≡ true → is_from last (commit_of (x ∷ y ∷ own)) ≡ true
      → IsMore (is_late last) (all_batches start history (x ∷ y ∷ own) (At t) f bs) (x ∷ y ∷ own)
  all-late last t f [] x y own hx hy h = no-more (is_late last) (x ∷ y ∷ own)
  all-late last t f (b ∷ bs) x y own hx hy h =
      let acc : List BatchTimes = x ∷ y ∷ own in
      let times : BatchTimes = batch_times start history (acc ++ batches_of history) (At t) f b in
      let now : BatchTimes = with_its_commit acc times in
      let late : is_late last now ≡ true = late-started last (acc ++ batches_of history) f b (start_cycle start history (acc ++ batches_of history) (At t) f.want b) (late-start last t f x y (own ++ batches_of history) b hy) in
      let commit : is_from last (commit_of (times ∷ acc)) ≡ true = commit-grows last acc times h in
      more-if (is_late last) acc times.is_trimmed (now ∷ acc) (all_batches start history (now ∷ acc) (At t) f bs)
      (one-more (is_late last) (now ∷ acc) acc now late (no-more (is_late last) (now ∷ acc)))
      (one-more (is_late last) (all_batches start history (now ∷ acc) (At t) f bs) acc now late
      (all-late last t f bs now x (y ∷ own) commit hx commit))
