-- What of an instruction is under way at the cycle at which its episode ends: its accesses that were queued by then, and its walks
-- that ended by then.
use Rattle.std.proofs.Common.{◌≡◌, ℕ, ◌+◌, ◌≤◌, max, Bool, true, false, List, [], ◌∷◌, ◌++◌, refl, ap, ◌∙◌, arith}
use Rattle.std.specs.Prelude.{◌&&◌, nat_le, filter, Some}
use Rattle.std.specs.List.{list_all}
use Rattle.std.proofs.lemmas.Bool.{and_parts, leb-true}
use Rattle.std.proofs.lemmas.Grind.{flat_map-append}
use Rattle.std.proofs.lemmas.List.Elements.{filter-append}
use Rattle.vx_flat.specs.State.{Flat}
use Rattle.vx_episode.specs.Batches.{all_batches, retired_batches}
use Rattle.vx_episode.specs.Commits.{timed}
use Rattle.vx_episode.specs.Cycles.{Cycle, is_by}
use Rattle.vx_episode.specs.Cycles.Cycle.{At}
use Rattle.vx_episode.specs.Footprint.{Batch, Footprint}
use Rattle.vx_episode.specs.History.{History, Walk, BatchTimes, AccessTimes, Failure, accesses_of, queued_by, walks_of_batches}
use Rattle.vx_episode.specs.Organisation.{Start}
use Rattle.vx_quiet.specs.Quiet.{ended_by}
use Rattle.vx_batching.specs.Batching.{IsReached, next_times, all_done}
use Rattle.vx_batching.proofs.Ending.{accesses-retired, entry-batches}
use Rattle.vx_batching.proofs.Later.{IsMore, no-more, more-if, with_its_commit, is_late, all-late, commit_of, commit-grows}
use Rattle.vx_batching.proofs.Lists.{all-both, all-more, all-flat_map, le-more, filter-all, filter-none, done-append}
use Rattle.vx_batching.proofs.Passing.{next-started, started-queued, started-walked}
use Rattle.vx_batching.proofs.Started.{IsStarted}
use Rattle.vx_batching.proofs.Stopping.{stuck, stuck-batches, stuck-accesses}
use Rattle.vx_batching.proofs.Stuck.{idle-walks}
use Rattle.vx_batching.proofs.Times.{is_from, from-at, by-at}

-- ---- lists

apart : (last n : ℕ) → nat_le (last + 1) n ≡ true → nat_le n last ≡ true → false ≡ true
apart last n h k = let some = leb-true (last + 1) n h in let few = leb-true n last k in absurd (omega arith)

-- what a filter keeps of three parts, of which it keeps nothing of the first, and all of the last
kept-of : {A : Type 0} (p out : A → Bool) → ((a : A) → out a ≡ true → p a ≡ true → false ≡ true) → (later here own : List A) → list_all out later ≡ true → list_all p own ≡ true → filter p (later ++ (here ++ own)) ≡ filter p here ++ own
kept-of p out each later here own none all =
    filter-append p later (here ++ own)
    ∙ (λ i. filter-none p out each later none i ++ filter-append p here own i)
    ∙ ap (λ xs. filter p here ++ xs) (filter-all p own all)

late-accesses : (start : Start) (history : History) (last : ℕ) (later : List BatchTimes) → list_all (is_late start history last) later ≡ true → list_all (λ (a : AccessTimes). nat_le (last + 1) a.queued) (accesses_of later) ≡ true
late-accesses start history last later h =
    all-flat_map (λ (a : AccessTimes). nat_le (last + 1) a.queued) (λ (b : BatchTimes). b.accesses) later
    (all-more (is_late start history last) (λ (b : BatchTimes). list_all (λ (a : AccessTimes). nat_le (last + 1) a.queued) b.accesses)
    (λ b one. (and_parts (list_all (λ (a : AccessTimes). nat_le (last + 1) a.queued) b.accesses) (list_all (λ (w : Walk). nat_le (last + 1) w.begun && nat_le (last + 1) w.ended) b.walks) one).0) later h)

late-walks : (start : Start) (history : History) (last : ℕ) (later : List BatchTimes) → list_all (is_late start history last) later ≡ true → list_all (λ (w : Walk). nat_le (last + 1) w.begun && nat_le (last + 1) w.ended) (walks_of_batches later) ≡ true
late-walks start history last later h =
    all-flat_map (λ (w : Walk). nat_le (last + 1) w.begun && nat_le (last + 1) w.ended) (λ (b : BatchTimes). b.walks) later
    (all-more (is_late start history last) (λ (b : BatchTimes). list_all (λ (w : Walk). nat_le (last + 1) w.begun && nat_le (last + 1) w.ended) b.walks)
    (λ b one. (and_parts (list_all (λ (a : AccessTimes). nat_le (last + 1) a.queued) b.accesses) (list_all (λ (w : Walk). nat_le (last + 1) w.begun && nat_le (last + 1) w.ended) b.walks) one).1) later h)

walks-retired : (c : Cycle) (own : List BatchTimes) → walks_of_batches (retired_batches c own) ≡ walks_of_batches own
walks-retired c [] = refl
walks-retired c (b ∷ own) = refl

queued-more : (k n : ℕ) → k ≤ n → (accesses : List AccessTimes) → list_all (λ (a : AccessTimes). nat_le a.queued k) accesses ≡ true → list_all (λ (a : AccessTimes). nat_le a.queued n) accesses ≡ true
queued-more k n few accesses h = all-more (λ (a : AccessTimes). nat_le a.queued k) (λ (a : AccessTimes). nat_le a.queued n) (λ a one. le-more k n a.queued few one) accesses h

ended-more : (k n : ℕ) → k ≤ n → (walks : List Walk) → list_all (λ (w : Walk). nat_le w.ended k) walks ≡ true → list_all (λ (w : Walk). nat_le w.ended n) walks ≡ true
ended-more k n few walks h = all-more (λ (w : Walk). nat_le w.ended k) (λ (w : Walk). nat_le w.ended n) (λ w one. le-more k n w.ended few one) walks h

most-done : (done : ℕ) (all here own : List AccessTimes) → all ≡ here ++ own → all_done own ≡ done → all_done all ≡ max done (all_done here)
most-done done all here own e is = ap all_done e ∙ done-append here own ∙ ap (λ (n : ℕ). max (all_done here) n) is ∙ omega arith

-- ---- at a commit

module _ (start : Start) (history : History) (s : Flat) (r t : ℕ) (f : Footprint) (issue : (timed start history s f).issued ≡ At t) (l : BatchTimes) (own : List BatchTimes) (b : Batch) (bs : List Batch) (looked committed before done : ℕ)
    (so : IsReached start history r t f (l ∷ own) (b ∷ bs) looked committed before done) where
  abbrev its_batches : List BatchTimes
  its_batches = (timed start history s f).batches

  abbrev its_times : BatchTimes
  its_times = next_times start history t f (l ∷ own) b

  abbrev now : BatchTimes
  now = with_its_commit start history (l ∷ own) its_times

  late : IsMore (is_late start history committed) (all_batches start history (l ∷ own) (At t) f (b ∷ bs)) (now ∷ l ∷ own)
  late =
      let grown : is_from committed (commit_of start history (its_times ∷ l ∷ own)) ≡ true =
      commit-grows start history committed (l ∷ own) its_times (from-at committed committed (commit_of start history (l ∷ own)) so.commit_is (omega arith)) in
      more-if (is_late start history committed) (now ∷ l ∷ own) its_times.is_trimmed (now ∷ l ∷ own) (all_batches start history (now ∷ l ∷ own) (At t) f bs)
      (no-more (is_late start history committed) (now ∷ l ∷ own))
      (all-late start history committed t f bs now l own grown (from-at committed committed l.committed so.committed_is (omega arith)) grown)

  all-are : its_batches ≡ retired_batches (timed start history s f).retired (late.later ++ now ∷ l ∷ own)
  all-are = entry-batches start history s r t f issue (l ∷ own) (b ∷ bs) looked committed before done so ∙ ap (retired_batches (timed start history s f).retired) late.are

  looked-by : looked ≤ committed
  looked-by = by-at looked committed l.looked_up so.looked_is (and_parts (is_by committed l.looked_up) (list_all (λ (b : BatchTimes). is_by committed b.looked_up) own) so.all_looked_up).0

  accesses-are : accesses_of its_batches ≡ accesses_of late.later ++ (its_times.accesses ++ accesses_of (l ∷ own))
  accesses-are =
      ap accesses_of all-are ∙ accesses-retired (timed start history s f).retired (late.later ++ now ∷ l ∷ own)
      ∙ flat_map-append (λ (b : BatchTimes). b.accesses) late.later (now ∷ l ∷ own)

  walks-are : walks_of_batches its_batches ≡ walks_of_batches late.later ++ (its_times.walks ++ walks_of_batches (l ∷ own))
  walks-are =
      ap walks_of_batches all-are ∙ walks-retired (timed start history s f).retired (late.later ++ now ∷ l ∷ own)
      ∙ flat_map-append (λ (b : BatchTimes). b.walks) late.later (now ∷ l ∷ own)

  pub reached-queued : queued_by committed (accesses_of its_batches) ≡ queued_by committed its_times.accesses ++ accesses_of (l ∷ own)
  reached-queued =
      ap (queued_by committed) accesses-are
      ∙ kept-of (λ (a : AccessTimes). nat_le a.queued committed) (λ (a : AccessTimes). nat_le (committed + 1) a.queued) (λ a h k. apart committed a.queued h k) (accesses_of late.later) its_times.accesses (accesses_of (l ∷ own))
      (late-accesses start history committed late.later late.each) (queued-more looked committed looked-by (accesses_of (l ∷ own)) so.queued)

  pub reached-done : all_done (queued_by committed (accesses_of its_batches)) ≡ max done (all_done (queued_by committed its_times.accesses))
  reached-done = most-done done (queued_by committed (accesses_of its_batches)) (queued_by committed its_times.accesses) (accesses_of (l ∷ own)) reached-queued so.done_is

  pub reached-walks : ended_by committed (walks_of_batches its_batches) ≡ ended_by committed its_times.walks ++ walks_of_batches (l ∷ own)
  reached-walks =
      ap (ended_by committed) walks-are
      ∙ kept-of (λ (w : Walk). nat_le w.ended committed) (λ (w : Walk). nat_le (committed + 1) w.begun && nat_le (committed + 1) w.ended)
      (λ w h k. apart committed w.ended (and_parts (nat_le (committed + 1) w.begun) (nat_le (committed + 1) w.ended) h).1 k) (walks_of_batches late.later) its_times.walks (walks_of_batches (l ∷ own))
      (late-walks start history committed late.later late.each) (ended-more looked committed looked-by (walks_of_batches (l ∷ own)) so.walked)

  pub reached-begun : (later : List Walk) × ((walks_of_batches its_batches ≡ later ++ (its_times.walks ++ walks_of_batches (l ∷ own))) × (list_all (λ (w : Walk). nat_le (committed + 1) w.begun) later ≡ true))
  reached-begun = (
    walks_of_batches late.later,
    (
      walks-are,
      all-more (λ (w : Walk). nat_le (committed + 1) w.begun && nat_le (committed + 1) w.ended) (λ (w : Walk). nat_le (committed + 1) w.begun) (λ w h. (and_parts (nat_le (committed + 1) w.begun) (nat_le (committed + 1) w.ended) h).0) (walks_of_batches late.later)
          (late-walks start history committed late.later late.each),
    ),
  )

-- ---- at a stop

module _ (start : Start) (history : History) (s : Flat) (r t : ℕ) (f : Footprint) (issue : (timed start history s f).issued ≡ At t) (own : List BatchTimes) (b : Batch) (bs : List Batch) (looked committed before done next last : ℕ)
    (so : IsReached start history r t f own (b ∷ bs) looked committed before done) (failing : Failure) (fails : (next_times start history t f own b).failure ≡ Some failing) (off : (next_times start history t f own b).is_trimmed ≡ false)
    (is : (next_times start history t f own b).looked_up ≡ At next) where
  abbrev stop_batches : List BatchTimes
  stop_batches = (timed start history s f).batches

  abbrev stop_times : BatchTimes
  stop_times = next_times start history t f own b

  begins : IsStarted (max looked before + 1) next stop_times
  begins = next-started start history r t f own b bs looked committed before done next so is

  pub stopped-accesses : accesses_of stop_batches ≡ stop_times.accesses ++ accesses_of own
  stopped-accesses = stuck-accesses start history s r t f issue own b bs looked committed before done next so failing fails off is

  pub stopped-walks : walks_of_batches stop_batches ≡ stop_times.walks ++ walks_of_batches own
  stopped-walks =
      let more = stuck start history s r t f issue own b bs looked committed before done next so failing fails off is in
      let mine : List BatchTimes = with_its_commit start history own stop_times ∷ own in
      ap walks_of_batches (stuck-batches start history s r t f issue own b bs looked committed before done next so failing fails off is)
      ∙ walks-retired (timed start history s f).retired (more.later ++ mine)
      ∙ flat_map-append (λ (b : BatchTimes). b.walks) more.later mine
      ∙ ap (λ (xs : List Walk). xs ++ (stop_times.walks ++ walks_of_batches own)) (idle-walks start history more.later more.each)

  pub stopped-queued : next ≤ last → queued_by last (accesses_of stop_batches) ≡ stop_times.accesses ++ accesses_of own
  stopped-queued few =
      let from = begins.from in
      let earlier : looked ≤ last = omega arith in
      ap (queued_by last) stopped-accesses
      ∙ filter-all (λ (a : AccessTimes). nat_le a.queued last) (stop_times.accesses ++ accesses_of own)
      (all-both (λ (a : AccessTimes). nat_le a.queued last) stop_times.accesses (accesses_of own)
      (queued-more next last few stop_times.accesses (started-queued (max looked before + 1) next stop_times begins))
      (queued-more looked last earlier (accesses_of own) so.queued))

  pub stopped-done : next ≤ last → all_done (queued_by last (accesses_of stop_batches)) ≡ max done (all_done stop_times.accesses)
  stopped-done few = most-done done (queued_by last (accesses_of stop_batches)) stop_times.accesses (accesses_of own) (stopped-queued few) so.done_is

  pub stopped-ended : next ≤ last → ended_by last (walks_of_batches stop_batches) ≡ stop_times.walks ++ walks_of_batches own
  stopped-ended few =
      let from = begins.from in
      let earlier : looked ≤ last = omega arith in
      ap (ended_by last) stopped-walks
      ∙ filter-all (λ (w : Walk). nat_le w.ended last) (stop_times.walks ++ walks_of_batches own)
      (all-both (λ (w : Walk). nat_le w.ended last) stop_times.walks (walks_of_batches own)
      (ended-more next last few stop_times.walks (started-walked (max looked before + 1) next stop_times begins))
      (ended-more looked last earlier (walks_of_batches own) so.walked))

-- ---- at a completion

module _ (start : Start) (history : History) (s : Flat) (r t : ℕ) (f : Footprint) (issue : (timed start history s f).issued ≡ At t) (own : List BatchTimes) (looked committed before done last : ℕ)
    (so : IsReached start history r t f own [] looked committed before done) where
  abbrev done_batches : List BatchTimes
  done_batches = (timed start history s f).batches

  whole-batches : done_batches ≡ retired_batches (timed start history s f).retired own
  whole-batches = entry-batches start history s r t f issue own [] looked committed before done so

  pub completed-accesses : accesses_of done_batches ≡ accesses_of own
  completed-accesses = ap accesses_of whole-batches ∙ accesses-retired (timed start history s f).retired own

  pub completed-walks : walks_of_batches done_batches ≡ walks_of_batches own
  completed-walks = ap walks_of_batches whole-batches ∙ walks-retired (timed start history s f).retired own

  pub completed-queued : looked ≤ last → queued_by last (accesses_of done_batches) ≡ accesses_of own
  completed-queued few = ap (queued_by last) completed-accesses ∙ filter-all (λ (a : AccessTimes). nat_le a.queued last) (accesses_of own) (queued-more looked last few (accesses_of own) so.queued)

  pub completed-done : looked ≤ last → all_done (queued_by last (accesses_of done_batches)) ≡ done
  completed-done few = ap all_done (completed-queued few) ∙ so.done_is

  pub completed-ended : looked ≤ last → ended_by last (walks_of_batches done_batches) ≡ walks_of_batches own
  completed-ended few = ap (ended_by last) completed-walks ∙ filter-all (λ (w : Walk). nat_le w.ended last) (walks_of_batches own) (ended-more looked last few (walks_of_batches own) so.walked)
