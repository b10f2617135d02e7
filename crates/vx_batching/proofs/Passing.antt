-- A batch that doesn't stop is gone through.
use Rattle.std.proofs.Common.{◌≡◌, ℕ, ◌+◌, ◌≤◌, max, Bool, true, false, List, [], ◌∷◌, ◌++◌, sym, ap, ◌∙◌, arith}
use Rattle.std.specs.Prelude.{◌&&◌, nat_le, map, filter, None, if◌then◌else◌, is_some}
use Rattle.std.specs.List.{list_all}
use Rattle.std.proofs.lemmas.Bool.{and_parts, and_from}
use Rattle.vx_episode.specs.Batches.{commit_cycle, with_commit, all_batches}
use Rattle.vx_episode.specs.Cycles.{Cycle, behind, later_of, latest, is_by}
use Rattle.vx_episode.specs.Cycles.Cycle.{At, Never}
use Rattle.vx_episode.specs.Footprint.{Access, Batch, Footprint}
use Rattle.vx_episode.specs.History.{History, Walk, BatchTimes, AccessTimes, last_retire, stops, batches_of, accesses_of, missing_of, done_cycles, batch_done, walks_of_batches}
use Rattle.vx_episode.specs.Organisation.{Start}
use Rattle.vx_batching.specs.Batching.{IsReached, next_times, all_done}
use Rattle.vx_batching.proofs.Judging.{is_queued_between}
use Rattle.vx_batching.proofs.Lists.{all-both, all-more, le-more, done-append}
use Rattle.vx_batching.proofs.Started.{IsStarted, times-started}
use Rattle.vx_batching.proofs.Starting.{starts}
use Rattle.vx_batching.proofs.Times.{at-cycle, at-by, by-more, latest-append, latest-done}
use Rattle.vx_batching.proofs.Walking.{is_between}

-- ---- the commit

pub done-latest : (accesses : List AccessTimes) (missing : List Access) → missing ≡ [] → latest (done_cycles accesses missing) ≡ At (all_done accesses)
done-latest accesses missing none =
    latest-append (map (λ (a : AccessTimes). At a.done) accesses) (map (λ (a : Access). Never) missing)
    ∙ (λ i. later_of (latest-done accesses i) (latest (map (λ (a : Access). Never) (none i))))
    ∙ ap At (omega arith)

commit-more : (c looked dones done : ℕ) (retire earlier : Cycle) → later_of retire (later_of earlier (At done)) ≡ At c → later_of retire (later_of (At looked) (later_of earlier (At (max dones done)))) ≡ At (max c (max looked dones))
commit-more c looked dones done (At k) (At l) e = let is : max k (max l done) ≡ c = at-cycle (max k (max l done)) c e in ap At (omega arith)
commit-more c looked dones done (At k) Never e = absurd (cc)
commit-more c looked dones done Never earlier e = absurd (cc)

-- the end of the look-ups of some batches
abbrev pub ends_of : List BatchTimes → List Cycle
ends_of own = map (λ (b : BatchTimes). b.looked_up) own

commit-at : (start : Start) (history : History) (own : List BatchTimes) (b : BatchTimes) (looked committed : ℕ) → b.looked_up ≡ At looked → b.missing ≡ [] → missing_of own ≡ [] → commit_cycle start history (ends_of own) (batch_done own) ≡ At committed
    → commit_cycle start history (ends_of (b ∷ own)) (batch_done (b ∷ own)) ≡ At (max committed (max looked (all_done b.accesses)))
commit-at start history own b looked committed is none others e =
    let retire : Cycle = behind (last_retire start.cycle history) in
    let earlier : Cycle = latest (ends_of own) in
    let done : ℕ = all_done (accesses_of own) in
    let before : later_of retire (later_of earlier (At done)) ≡ At committed =
    ap (λ (c : Cycle). later_of retire (later_of earlier c)) (sym (done-latest (accesses_of own) (missing_of own) others)) ∙ ap (later_of retire) (sym (latest-append (ends_of own) (batch_done own))) ∙ e in
    let none-more : missing_of (b ∷ own) ≡ [] = (λ i. none i ++ others i) in
    let dones : latest (batch_done (b ∷ own)) ≡ At (max (all_done b.accesses) done) = done-latest (accesses_of (b ∷ own)) (missing_of (b ∷ own)) none-more ∙ ap At (done-append b.accesses (accesses_of own)) in
    ap (λ (c : Cycle). later_of retire (later_of b.looked_up c)) (latest-append (ends_of own) (batch_done (b ∷ own)))
    ∙ (λ i. later_of retire (later_of (is i) (later_of earlier (dones i))))
    ∙ commit-more committed looked (all_done b.accesses) done retire earlier before

-- ---- what is within

queued-one : (first last : ℕ) (a : AccessTimes) → is_queued_between first last a ≡ true → nat_le a.queued last ≡ true
queued-one first last a h = (and_parts (nat_le first a.queued) (nat_le a.queued last) h).1

ended-one : (first last : ℕ) (w : Walk) → is_between first last w ≡ true → nat_le w.ended last ≡ true
ended-one first last w h = (and_parts (nat_le first w.begun && nat_le first w.ended) (nat_le w.ended last) h).1

pub started-queued : (started looked : ℕ) (b : BatchTimes) → IsStarted started looked b → list_all (λ (a : AccessTimes). nat_le a.queued looked) b.accesses ≡ true
started-queued started looked b s = all-more (is_queued_between started looked) (λ (a : AccessTimes). nat_le a.queued looked) (queued-one started looked) b.accesses s.accesses

pub started-walked : (started looked : ℕ) (b : BatchTimes) → IsStarted started looked b → list_all (λ (w : Walk). nat_le w.ended looked) b.walks ≡ true
started-walked started looked b s = all-more (is_between started looked) (λ (w : Walk). nat_le w.ended looked) (ended-one started looked) b.walks s.walks

-- ---- one batch more

pub next-started : (start : Start) (history : History) (r t : ℕ) (f : Footprint) (own : List BatchTimes) (b : Batch) (bs : List Batch) (looked committed before done next : ℕ) → IsReached start history r t f own (b ∷ bs) looked committed before done
    → (next_times start history t f own b).looked_up ≡ At next → IsStarted (max looked before + 1) next (next_times start history t f own b)
next-started start history r t f own b bs looked committed before done next reached is =
    times-started start history (own ++ batches_of history) (At t) f b (max looked before + 1) next (starts start history r t f own b bs looked committed before done reached) is

-- whatever comes behind it
pub goes-through : (start : Start) (history : History) (r t : ℕ) (f : Footprint) (own : List BatchTimes) (b : Batch) (bs rest : List Batch) (looked committed before done next : ℕ) → IsReached start history r t f own (b ∷ bs) looked committed before done
    → stops (next_times start history t f own b) ≡ false → (next_times start history t f own b).missing ≡ [] → (next_times start history t f own b).looked_up ≡ At next
    → all_batches start history own (At t) f (b ∷ bs) ≡ all_batches start history (with_commit start history own (next_times start history t f own b)) (At t) f rest
    → IsReached start history r t f (with_commit start history own (next_times start history t f own b)) rest next
    (max committed (max next (all_done (next_times start history t f own b).accesses))) committed (max done (all_done (next_times start history t f own b).accesses))
goes-through start history r t f own b bs rest looked committed before done next reached off none is step =
    let times : BatchTimes = next_times start history t f own b in
    let dones : ℕ = all_done times.accesses in
    let now : ℕ = max committed (max next dones) in
    let commit : commit_cycle start history (ends_of (times ∷ own)) (batch_done (times ∷ own)) ≡ At now = commit-at start history own times next committed is none reached.none_missing reached.commit_is in
    let s : IsStarted (max looked before + 1) next times = next-started start history r t f own b bs looked committed before done next reached is in
    let behind-looked = s.from in
    let from = reached.looked_from in
    let after = reached.committed_from in
    let done-few = reached.done_by in
    let few = reached.committed_by in
    let later : looked ≤ next = omega arith in
    let more : committed ≤ now = omega arith in
    let next-by : next ≤ now = omega arith in
    record {
      quiet = reached.quiet;
      behind_retire = reached.behind_retire;
      whole = reached.whole ∙ step;
      none_stops = ap (λ (b : Bool). if b then record times { committed = commit_cycle start history (ends_of (times ∷ own)) (batch_done (times ∷ own)) } ∷ filter stops own else filter stops own) off ∙ reached.none_stops;
      none_missing = (λ i. none i ++ reached.none_missing i);
      looked_is = is;
      committed_is = commit;
      before_is = reached.committed_is;
      done_is = done-append times.accesses (accesses_of own) ∙ ap (λ (n : ℕ). max dones n) reached.done_is ∙ omega arith;
      commit_is = commit;
      looked_from = omega arith;
      committed_from = omega arith;
      done_by = omega arith;
      before_by = more;
      committed_by = omega arith;
      all_looked_up = and_from (is_by now times.looked_up) (list_all (λ (b : BatchTimes). is_by now b.looked_up) own) (at-by next now times.looked_up is next-by)
          (all-more (λ (b : BatchTimes). is_by committed b.looked_up) (λ (b : BatchTimes). is_by now b.looked_up) (λ b h. by-more committed now more b.looked_up h) own reached.all_looked_up);
      all_committed = and_from (is_by now (commit_cycle start history (ends_of (times ∷ own)) (batch_done (times ∷ own)))) (list_all (λ (b : BatchTimes). is_by now b.committed) own)
          (at-by now now (commit_cycle start history (ends_of (times ∷ own)) (batch_done (times ∷ own))) commit (omega arith))
          (all-more (λ (b : BatchTimes). is_by committed b.committed) (λ (b : BatchTimes). is_by now b.committed) (λ b h. by-more committed now more b.committed h) own reached.all_committed);
      committed_before = reached.all_committed;
      queued = all-both (λ (a : AccessTimes). nat_le a.queued next) times.accesses (accesses_of own) (started-queued (max looked before + 1) next times s)
          (all-more (λ (a : AccessTimes). nat_le a.queued looked) (λ (a : AccessTimes). nat_le a.queued next) (λ a h. le-more looked next a.queued later h) (accesses_of own) reached.queued);
      walked = all-both (λ (w : Walk). nat_le w.ended next) times.walks (walks_of_batches own) (started-walked (max looked before + 1) next times s)
          (all-more (λ (w : Walk). nat_le w.ended looked) (λ (w : Walk). nat_le w.ended next) (λ w h. le-more looked next w.ended later h) (walks_of_batches own) reached.walked);
    }

-- ---- one that passes, and one that is cut off

stop-passes : (b : BatchTimes) → b.failure ≡ None → b.is_trimmed ≡ false → stops b ≡ false
stop-passes b e off = (λ i. if off i then false else is_some (e i))

stop-trimmed : (b : BatchTimes) → b.is_trimmed ≡ true → stops b ≡ false
stop-trimmed b on = ap (λ (t : Bool). if t then false else is_some b.failure) on

module _ (start : Start) (history : History) (r t : ℕ) (f : Footprint) (own : List BatchTimes) (b : Batch) (bs : List Batch) (looked committed before done next : ℕ) (reached : IsReached start history r t f own (b ∷ bs) looked committed before done)
    (is : (next_times start history t f own b).looked_up ≡ At next) where
  abbrev its_times : BatchTimes
  its_times = next_times start history t f own b

  abbrev with_it : List BatchTimes
  with_it = with_commit start history own its_times

  pub passes : its_times.failure ≡ None → its_times.missing ≡ [] → IsReached start history r t f with_it bs next (max committed (max next (all_done its_times.accesses))) committed (max done (all_done its_times.accesses))
  passes e none =
      let s : IsStarted (max looked before + 1) next its_times = next-started start history r t f own b bs looked committed before done next reached is in
      let off : its_times.is_trimmed ≡ false = s.kept e in
      goes-through start history r t f own b bs bs looked committed before done next reached (stop-passes its_times e off) none is
      (ap (λ (t' : Bool). elim t' as (λ _. List BatchTimes) [ true ↦ with_it | false ↦ all_batches start history with_it (At t) f bs ]) off)

  pub trims-off : its_times.is_trimmed ≡ true → IsReached start history r t f with_it [] next (max committed (max next (all_done its_times.accesses))) committed (max done (all_done its_times.accesses))
  trims-off on =
      let s : IsStarted (max looked before + 1) next its_times = next-started start history r t f own b bs looked committed before done next reached is in
      goes-through start history r t f own b bs [] looked committed before done next reached (stop-trimmed its_times on) (s.waited on) is
      (ap (λ (t' : Bool). elim t' as (λ _. List BatchTimes) [ true ↦ with_it | false ↦ all_batches start history with_it (At t) f bs ]) on)
