-- A batch of one access: what it comes to, by what is known of the access, and what the instruction does then.
use Rattle.std.proofs.Common.{◌≡◌, ℕ, ◌+◌, ◌<◌, ◌≤◌, max, Bool, false, List, [], ◌∷◌, ◌++◌, Some, None, refl, sym, ap, subst, ◌∙◌, arith}
use Rattle.vx_base.specs.declared.machine.Want.{Want}
use Rattle.vx_flat.specs.State.{Flat}
use Rattle.vx_episode.specs.Batches.{Fate, Judged, all_batches, batch_judged, batch_started, fate_of, never_queued, queue_cycle, retired_batches, trims, walks_end, walks_of, with_commit}
use Rattle.vx_episode.specs.Batches.Fate.{Good, Fails}
use Rattle.vx_episode.specs.Commits.{happening, happenings_of, timed, why_stopped}
use Rattle.vx_episode.specs.Commits.What.{Completes, Stops}
use Rattle.vx_episode.specs.Cycles.Cycle.{At}
use Rattle.vx_episode.specs.Footprint.{Access, Batch, Footprint}
use Rattle.vx_episode.specs.History.{History, Entry, Walk, BatchTimes, AccessTimes, Failure, accesses_of, batches_of, data_walks, last_retire, queued_by, walks_of_batches}
use Rattle.vx_episode.specs.Organisation.{Start}
use Rattle.vx_quiet.specs.Quiet.{IsQuiet, ended_by}
use Rattle.vx_batching.specs.Batching.{IsReached, all_done, completed_behind, next_times, reached, stopped_behind}
use Rattle.vx_serve.specs.Serving.{done_by, served_of}
use Rattle.vx_pipe.specs.Accessing.{IsAccessing}

-- what vx_batching says
pub record BatchLaws : Type 0 where
  pub begins : (start : Start) (history : History) (retired issued : ℕ) (f : Footprint) → IsQuiet start history retired → retired < issued
      → IsReached start history retired issued f [] f.batches issued (retired + 1) 0 0
  pub times : (start : Start) (history : History) (retired issued : ℕ) (f : Footprint) (own : List BatchTimes) (b : Batch) (rest : List Batch) (looked committed before done : ℕ)
      → IsReached start history retired issued f own (b ∷ rest) looked committed before done
      → next_times start history issued f own b ≡ batch_started start history (own ++ batches_of history) f b (At (max looked before + 1))
  pub passes : (start : Start) (history : History) (retired issued : ℕ) (f : Footprint) (own : List BatchTimes) (b : Batch) (rest : List Batch) (looked committed before done next : ℕ)
      → IsReached start history retired issued f own (b ∷ rest) looked committed before done
      → (next_times start history issued f own b).failure ≡ None → (next_times start history issued f own b).missing ≡ []
      → (next_times start history issued f own b).looked_up ≡ At next
      → IsReached start history retired issued f (with_commit start history own (next_times start history issued f own b)) rest next
      (max committed (max next (all_done (next_times start history issued f own b).accesses))) committed
      (max done (all_done (next_times start history issued f own b).accesses))
  pub completed : (start : Start) (history : History) (s : Flat) (retired issued : ℕ) (f : Footprint) (last : BatchTimes) (own : List BatchTimes) (looked committed before done : ℕ)
      → (timed start history s f).issued ≡ At issued → IsReached start history retired issued f (last ∷ own) [] looked committed before done → f.stop ≡ None → f.groups ≡ []
      → (timed start history s f).completed ≡ At (completed_behind issued f looked done)
  pub happens : (start : Start) (history : History) (s : Flat) (retired issued : ℕ) (f : Footprint) (last : BatchTimes) (own : List BatchTimes) (looked committed before done : ℕ)
      → (timed start history s f).issued ≡ At issued → IsReached start history retired issued f (last ∷ own) [] looked committed before done → f.stop ≡ None → f.groups ≡ []
      → happenings_of (last_retire start.cycle history) (timed start history s f)
      ≡ reached (timed start history s f) own ++ happening (timed start history s f) Completes (completed_behind issued f looked done + 1) ∷ []
  pub completed_done : (start : Start) (history : History) (s : Flat) (retired issued : ℕ) (f : Footprint) (own : List BatchTimes) (looked committed before done end : ℕ)
      → (timed start history s f).issued ≡ At issued → IsReached start history retired issued f own [] looked committed before done → looked ≤ end
      → all_done (queued_by end (accesses_of (timed start history s f).batches)) ≡ done
  pub completed_walks : (start : Start) (history : History) (s : Flat) (retired issued : ℕ) (f : Footprint) (own : List BatchTimes) (looked committed before done end : ℕ)
      → (timed start history s f).issued ≡ At issued → IsReached start history retired issued f own [] looked committed before done → looked ≤ end
      → ended_by end (walks_of_batches (timed start history s f).batches) ≡ walks_of_batches own
  pub completed_all_walks : (start : Start) (history : History) (s : Flat) (retired issued : ℕ) (f : Footprint) (own : List BatchTimes) (looked committed before done : ℕ)
      → (timed start history s f).issued ≡ At issued → IsReached start history retired issued f own [] looked committed before done
      → walks_of_batches (timed start history s f).batches ≡ walks_of_batches own
  pub stops : (start : Start) (history : History) (s : Flat) (retired issued : ℕ) (f : Footprint) (own : List BatchTimes) (b : Batch) (rest : List Batch) (looked committed before done next : ℕ) (failing : Failure)
      → (timed start history s f).issued ≡ At issued → IsReached start history retired issued f own (b ∷ rest) looked committed before done
      → (next_times start history issued f own b).failure ≡ Some failing → (next_times start history issued f own b).is_trimmed ≡ false
      → (next_times start history issued f own b).looked_up ≡ At next → f.stop ≡ None
      → happenings_of (last_retire start.cycle history) (timed start history s f)
      ≡ reached (timed start history s f) own
      ++ happening (timed start history s f) (Stops (why_stopped (timed start history s f) failing) b.from failing.element)
      (stopped_behind retired next failing.element ((next_times start history issued f own b).accesses ++ accesses_of own)) ∷ []
  pub stopped_done : (start : Start) (history : History) (s : Flat) (retired issued : ℕ) (f : Footprint) (own : List BatchTimes) (b : Batch) (rest : List Batch) (looked committed before done next end : ℕ) (failing : Failure)
      → (timed start history s f).issued ≡ At issued → IsReached start history retired issued f own (b ∷ rest) looked committed before done
      → (next_times start history issued f own b).failure ≡ Some failing → (next_times start history issued f own b).is_trimmed ≡ false
      → (next_times start history issued f own b).looked_up ≡ At next → next ≤ end
      → all_done (queued_by end (accesses_of (timed start history s f).batches)) ≡ max done (all_done (next_times start history issued f own b).accesses)
  pub stopped_walks : (start : Start) (history : History) (s : Flat) (retired issued : ℕ) (f : Footprint) (own : List BatchTimes) (b : Batch) (rest : List Batch) (looked committed before done next end : ℕ) (failing : Failure)
      → (timed start history s f).issued ≡ At issued → IsReached start history retired issued f own (b ∷ rest) looked committed before done
      → (next_times start history issued f own b).failure ≡ Some failing → (next_times start history issued f own b).is_trimmed ≡ false
      → (next_times start history issued f own b).looked_up ≡ At next → next ≤ end
      → ended_by end (walks_of_batches (timed start history s f).batches) ≡ (next_times start history issued f own b).walks ++ walks_of_batches own
  pub stopped_all_walks : (start : Start) (history : History) (s : Flat) (retired issued : ℕ) (f : Footprint) (own : List BatchTimes) (b : Batch) (rest : List Batch) (looked committed before done next : ℕ) (failing : Failure)
      → (timed start history s f).issued ≡ At issued → IsReached start history retired issued f own (b ∷ rest) looked committed before done
      → (next_times start history issued f own b).failure ≡ Some failing → (next_times start history issued f own b).is_trimmed ≡ false
      → (next_times start history issued f own b).looked_up ≡ At next
      → walks_of_batches (timed start history s f).batches ≡ (next_times start history issued f own b).walks ++ walks_of_batches own

-- the batch of an access
abbrev pub one : Access → Batch
one a = record { from = 0; after = 1; accesses = a ∷ []; sources = [] }

-- ---- what the batch comes to

module _ (start : Start) (history : History) (before : List BatchTimes) (f : Footprint) (started : ℕ) (a : Access) where
  abbrev pub own-walks : List Walk
  own-walks = walks_of start history before f.want started [] (a ∷ [])

  abbrev pub own-fate : Fate
  own-fate = fate_of start history before f.want started own-walks a

  abbrev judged-as : Fate → List Judged
  judged-as x = record { access = a; fate = x; queued = queue_cycle [] x } ∷ []

  -- the batch, where the access has this fate
  abbrev times-as : Fate → BatchTimes
  times-as x = batch_judged start history before started f (one a) own-walks (judged-as x)

  abbrev pub started-then : BatchTimes
  started-then = batch_started start history before f (one a) (At started)

  as-judged : started-then ≡ times-as own-fate
  as-judged = refl

  pub good-failure : (cycle word : ℕ) → own-fate ≡ Good cycle word → started-then.failure ≡ None
  good-failure cycle word e = ap (λ (x : Fate). (times-as x).failure) e

  pub good-missing : (cycle word : ℕ) → f.is_fault_only_first ≡ false → own-fate ≡ Good cycle word → started-then.missing ≡ []
  good-missing cycle word trims-not e = ap (λ (x : Fate). (times-as x).missing) e ∙ ap (λ (b : Bool). never_queued (trims b None) (judged-as (Good cycle word))) trims-not

  abbrev pub failed : (is_away : Bool) → Failure
  failed is_away = record { element = a.element; address = a.address; is_away = is_away }

  pub bad-failure : (cycle : ℕ) (is_away : Bool) → own-fate ≡ Fails cycle is_away → started-then.failure ≡ Some (failed is_away)
  bad-failure cycle is_away e = ap (λ (x : Fate). (times-as x).failure) e

  pub bad-trimmed : (cycle : ℕ) (is_away : Bool) → f.is_fault_only_first ≡ false → own-fate ≡ Fails cycle is_away → started-then.is_trimmed ≡ false
  bad-trimmed cycle is_away trims-not e = ap (λ (x : Fate). (times-as x).is_trimmed) e ∙ ap (λ (b : Bool). trims b (Some (failed is_away))) trims-not

  pub bad-accesses : (cycle : ℕ) (is_away : Bool) → own-fate ≡ Fails cycle is_away → started-then.accesses ≡ []
  bad-accesses cycle is_away e = ap (λ (x : Fate). (times-as x).accesses) e

-- ---- the instruction

module _ (laws : BatchLaws) (start : Start) (history : History) (s : Flat) (f : Footprint) (retired issued : ℕ) (want : Want) (a : Access) (accessing : IsAccessing f want a) (quiet : IsQuiet start history retired) (behind : retired < issued)
    (issued-is : (timed start history s f).issued ≡ At issued) (looked : ℕ) (ended : looked ≡ walks_end (issued + 1) (own-walks start history (batches_of history) f (issued + 1) a)) where
  abbrev e : Entry
  e = timed start history s f

  abbrev pub walks : List Walk
  walks = own-walks start history (batches_of history) f (issued + 1) a

  abbrev pub fate : Fate
  fate = own-fate start history (batches_of history) f (issued + 1) a

  abbrev batch : BatchTimes
  batch = started-then start history (batches_of history) f (issued + 1) a

  begun : IsReached start history retired issued f [] (one a ∷ []) issued (retired + 1) 0 0
  begun = subst (λ (bs : List Batch). IsReached start history retired issued f [] bs issued (retired + 1) 0 0) accessing.batches (laws.begins start history retired issued f quiet behind)

  abbrev next : BatchTimes
  next = next_times start history issued f [] (one a)

  next-is : next ≡ batch
  next-is =
      let now : max issued 0 + 1 ≡ issued + 1 = omega arith in
      laws.times start history retired issued f [] (one a) [] issued (retired + 1) 0 0 begun ∙ ap (λ (c : ℕ). batch_started start history (batches_of history) f (one a) (At c)) now

  next-looked : next.looked_up ≡ At looked
  next-looked = ap (λ (b : BatchTimes). b.looked_up) next-is ∙ ap At (sym ended)

  abbrev pub served : List AccessTimes
  served = served_of start.machine (accesses_of (batches_of history)) (fate_of start history (batches_of history) f.want (issued + 1) walks) (a ∷ [])

  next-done : all_done next.accesses ≡ done_by served
  next-done = ap (λ (b : BatchTimes). all_done b.accesses) next-is

  -- ---- where it is good

  module _ (cycle word : ℕ) (good : fate ≡ Good cycle word) where
    passed : IsReached start history retired issued f (with_commit start history [] next) [] looked (max (retired + 1) (max looked (all_done next.accesses))) (retired + 1) (max 0 (all_done next.accesses))
    passed =
        laws.passes start history retired issued f [] (one a) [] issued (retired + 1) 0 0 looked begun
        (ap (λ (b : BatchTimes). b.failure) next-is ∙ good-failure start history (batches_of history) f (issued + 1) a cycle word good)
        (ap (λ (b : BatchTimes). b.missing) next-is ∙ good-missing start history (batches_of history) f (issued + 1) a cycle word accessing.never_trims good)
        next-looked

    done-by-then : (span looked done : ℕ) → span ≡ 1 → issued + 1 ≤ looked → max (issued + span) (max looked (max 0 done)) ≡ max looked done
    done-by-then span looked done one from = omega arith

    completed-then : issued + 1 ≤ looked → completed_behind issued f looked (max 0 (all_done next.accesses)) ≡ max looked (done_by served)
    completed-then from = done-by-then f.latency looked (all_done next.accesses) accessing.latency from ∙ ap (λ (d : ℕ). max looked d) next-done

    pub completed-at : issued + 1 ≤ looked → e.completed ≡ At (max looked (done_by served))
    completed-at from =
        laws.completed start history s retired issued f _ [] looked (max (retired + 1) (max looked (all_done next.accesses))) (retired + 1) (max 0 (all_done next.accesses)) issued-is passed accessing.stop accessing.groups
        ∙ ap At (completed-then from)

    pub happens : issued + 1 ≤ looked → happenings_of (last_retire start.cycle history) e ≡ happening e Completes (max looked (done_by served) + 1) ∷ []
    happens from =
        laws.happens start history s retired issued f _ [] looked (max (retired + 1) (max looked (all_done next.accesses))) (retired + 1) (max 0 (all_done next.accesses)) issued-is passed accessing.stop accessing.groups
        ∙ ap (λ (c : ℕ). happening e Completes (c + 1) ∷ []) (completed-then from)

    batches-are : e.batches ≡ record next { committed = e.retired } ∷ []
    batches-are = (λ i. retired_batches e.retired (all_batches start history [] (issued-is i) f f.batches)) ∙ ap (retired_batches e.retired) passed.whole

    pub data-are : data_walks (e ∷ history) ≡ walks ++ data_walks history
    data-are = ap (λ (bs : List BatchTimes). walks_of_batches (bs ++ batches_of history)) batches-are ∙ ap (λ (b : BatchTimes). b.walks ++ data_walks history) next-is

    pub accesses-are : accesses_of (batches_of (e ∷ history)) ≡ served ++ accesses_of (batches_of history)
    accesses-are = ap (λ (bs : List BatchTimes). accesses_of (bs ++ batches_of history)) batches-are ∙ ap (λ (b : BatchTimes). b.accesses ++ accesses_of (batches_of history)) next-is

    pub walked : (end : ℕ) → looked ≤ end → ended_by end (walks_of_batches e.batches) ≡ walks_of_batches e.batches
    walked end by =
        laws.completed_walks start history s retired issued f _ looked (max (retired + 1) (max looked (all_done next.accesses))) (retired + 1) (max 0 (all_done next.accesses)) end issued-is passed by
        ∙ sym (laws.completed_all_walks start history s retired issued f _ looked (max (retired + 1) (max looked (all_done next.accesses))) (retired + 1) (max 0 (all_done next.accesses)) issued-is passed)

    pub all-done : (end : ℕ) → looked ≤ end → all_done (queued_by end (accesses_of e.batches)) ≡ done_by served
    all-done end by =
        let none : max 0 (all_done next.accesses) ≡ all_done next.accesses = omega arith in
        laws.completed_done start history s retired issued f _ looked (max (retired + 1) (max looked (all_done next.accesses))) (retired + 1) (max 0 (all_done next.accesses)) end issued-is passed by
        ∙ none ∙ next-done

  -- ---- where it fails

  module _ (cycle : ℕ) (is_away : Bool) (bad : fate ≡ Fails cycle is_away) (first : a.element ≡ 0) where
    abbrev pub failing : Failure
    failing = failed start history (batches_of history) f (issued + 1) a is_away

    next-failure : next.failure ≡ Some failing
    next-failure = ap (λ (b : BatchTimes). b.failure) next-is ∙ bad-failure start history (batches_of history) f (issued + 1) a cycle is_away bad

    next-trimmed : next.is_trimmed ≡ false
    next-trimmed = ap (λ (b : BatchTimes). b.is_trimmed) next-is ∙ bad-trimmed start history (batches_of history) f (issued + 1) a cycle is_away accessing.never_trims bad

    next-accesses : next.accesses ≡ []
    next-accesses = ap (λ (b : BatchTimes). b.accesses) next-is ∙ bad-accesses start history (batches_of history) f (issued + 1) a cycle is_away bad

    stop-cycle : issued + 1 ≤ looked → stopped_behind retired looked a.element (next.accesses ++ []) ≡ looked
    stop-cycle from =
        let none : max looked (max (retired + 1) 0) ≡ looked = omega arith in
        ap (λ (xs : List AccessTimes). stopped_behind retired looked a.element (xs ++ [])) next-accesses ∙ none

    pub stops-happens : issued + 1 ≤ looked → happenings_of (last_retire start.cycle history) e ≡ happening e (Stops (why_stopped e failing) 0 0) looked ∷ []
    stops-happens from =
        laws.stops start history s retired issued f [] (one a) [] issued (retired + 1) 0 0 looked failing issued-is begun next-failure next-trimmed next-looked accessing.stop
        ∙ ap (λ (c : ℕ). happening e (Stops (why_stopped e failing) 0 a.element) c ∷ []) (stop-cycle from)
        ∙ ap (λ (n : ℕ). happening e (Stops (why_stopped e failing) 0 n) looked ∷ []) first

    pub stops-done : all_done (queued_by looked (accesses_of e.batches)) ≡ 0
    stops-done =
        laws.stopped_done start history s retired issued f [] (one a) [] issued (retired + 1) 0 0 looked looked failing issued-is begun next-failure next-trimmed next-looked (omega arith)
        ∙ ap (λ (xs : List AccessTimes). max 0 (all_done xs)) next-accesses

    pub stops-walks : ended_by looked (walks_of_batches e.batches) ≡ walks ++ []
    stops-walks =
        laws.stopped_walks start history s retired issued f [] (one a) [] issued (retired + 1) 0 0 looked looked failing issued-is begun next-failure next-trimmed next-looked (omega arith)
        ∙ ap (λ (b : BatchTimes). b.walks ++ []) next-is

    pub stops-all-walks : walks_of_batches e.batches ≡ walks ++ []
    stops-all-walks =
        laws.stopped_all_walks start history s retired issued f [] (one a) [] issued (retired + 1) 0 0 looked failing issued-is begun next-failure next-trimmed next-looked
        ∙ ap (λ (b : BatchTimes). b.walks ++ []) next-is
