-- A vector load or store that stops at an element: the episode is over.
use Rattle.std.proofs.Common.{◌≡◌, ℕ, ◌+◌, ◌-◌, ◌<◌, ◌≤◌, max, Bool, true, false, List, [], ◌∷◌, ◌++◌, Some, None, length, refl, sym, ap, subst, ◌∙◌, inl, inr, arith}
use Rattle.std.specs.Prelude.{Option, ◌&&◌, ◌||◌, not, nat_lt, if◌then◌else◌}
use Rattle.std.specs.List.{list_all, list_any}
use Rattle.std.proofs.lemmas.Bool.{cases_Bool, ltb-true, ltb-false}
use Rattle.vx_base.specs.declared.machine.Fault.{Fault}
use Rattle.vx_cells.specs.Cells.{CellsState}
use Rattle.vx_flat.specs.Continued.{continued}
use Rattle.vx_flat.specs.Outcome.Outcome.{Faulted}
use Rattle.vx_flat.specs.Process.{Process}
use Rattle.vx_flat.specs.Splits.{IsWellFormed}
use Rattle.vx_flat.specs.State.{Flat}
use Rattle.vx_flat.specs.Step.{step}
use Rattle.vx_flat.specs.Transfers.{Transfer}
use Rattle.vx_image.specs.Pages.{Memory}
use Rattle.vx_tlb.specs.declared.tlb.Kept.{Kept}
use Rattle.vx_episode.specs.Commits.{Happening, ends, entry_of, happening, happenings_of, timed, why_stopped}
use Rattle.vx_episode.specs.Commits.What.{Stops}
use Rattle.vx_episode.specs.Cycles.Cycle.{At}
use Rattle.vx_episode.specs.Episode.{stopped_at, trap_cycles}
use Rattle.vx_episode.specs.Footprint.{Batch, Footprint, ended_by, footprint}
use Rattle.vx_episode.specs.History.{History, Entry, Walk, AccessTimes, BatchTimes, Failure, accesses_of, after_walks, batches_of, data_walks, fetch_walks, last_retire, queued_by, walks_of_batches}
use Rattle.vx_episode.specs.Organisation.{Organisation, Start}
use Rattle.vx_episode.specs.declared.ended.Ended.{Ended}
use Rattle.vx_episode.specs.declared.ended.Ended.TheVariants as ended
use Rattle.vx_quiet.specs.Quiet as quiet
use Rattle.vx_batching.specs.Batching.{IsReached, all_done, next_times, reached, stopped_behind}
use Rattle.vx_ending.specs.Counts.{changes_in, commits_in}
use Rattle.vx_course.specs.Course.{Course, EndsAs, IsOnCourse, clock_by, ending_of, fetch_behind, walk_behind}
use Rattle.vx_paged.specs.Framed.{IsPlacement}
use Rattle.vx_paged.specs.Left.{rest_of}
use Rattle.vx_paged.specs.declared.placement.FramedPage.{FramedPage}
use Rattle.vx_pending.specs.Alike.{AreAlike, StandsFor, with_memory}
use Rattle.vx_serve.specs.Stamps.{BankStamps}
use Rattle.vx_pipe.specs.Going.{AreKept, IsEpisodeOn, IsIssuing, IsOver}
use Rattle.vx_pipe.specs.Left.{HasCome}
use Rattle.vx_pipe.specs.Moving.{IsMoving}
use Rattle.vx_pipe.specs.Passing.{IsStopped}
use Rattle.vx_pipe.specs.declared.passing.Passing.{Passing}
use Rattle.vx_pipe.proofs.Come.{come-faulted}
use Rattle.vx_pipe.proofs.Completing.{StepLaws}
use Rattle.vx_pipe.proofs.Kept.{PagedLaws}
use Rattle.vx_pipe.specs.Ending.{KeptBehind}
use Rattle.vx_pipe.proofs.Stopping.{faults}
use Rattle.vx_pipe.proofs.TransferCourse.{issued-is, kept-walks}
use Rattle.vx_pipe.proofs.TransferOver.{over-by, walks-with}

pub record StopLaws : Type 0 where
  pub happens : (start : Start) (history : History) (s : Flat) (retired issued : ℕ) (f : Footprint) (own : List BatchTimes) (b : Batch) (rest : List Batch) (looked committed before done next : ℕ) (failing : Failure)
      → (timed start history s f).issued ≡ At issued → IsReached start history retired issued f own (b ∷ rest) looked committed before done
      → (next_times start history issued f own b).failure ≡ Some failing → (next_times start history issued f own b).is_trimmed ≡ false
      → (next_times start history issued f own b).looked_up ≡ At next → f.stop ≡ None
      → happenings_of (last_retire start.cycle history) (timed start history s f)
      ≡ reached (timed start history s f) own
      ++ happening (timed start history s f) (Stops (why_stopped (timed start history s f) failing) b.from failing.element)
      (stopped_behind retired next failing.element ((next_times start history issued f own b).accesses ++ accesses_of own)) ∷ []
  pub of_one : (start : Start) (history : History) (retired issued : ℕ) (f : Footprint) (own : List BatchTimes) (b : Batch) (rest : List Batch) (looked committed before done next : ℕ) (element : ℕ)
      → IsReached start history retired issued f own (b ∷ rest) looked committed before done
      → (next_times start history issued f own b).looked_up ≡ At next
      → list_all (λ (a : AccessTimes). nat_lt a.access.element element) (accesses_of own) ≡ true
      → list_all (λ (a : AccessTimes). not (nat_lt a.access.element element)) (next_times start history issued f own b).accesses ≡ true
      → stopped_behind retired next element ((next_times start history issued f own b).accesses ++ accesses_of own) ≡ max next (max committed done)
  pub none_ends : (start : Start) (history : History) (retired issued : ℕ) (f : Footprint) (own : List BatchTimes) (rest : List Batch) (looked committed before done until : ℕ) (e : Entry)
      → IsReached start history retired issued f own rest looked committed before done → committed < until → list_any (ends until) (reached e own) ≡ false
  pub done : (start : Start) (history : History) (s : Flat) (retired issued : ℕ) (f : Footprint) (own : List BatchTimes) (b : Batch) (rest : List Batch) (looked committed before done next end : ℕ) (failing : Failure)
      → (timed start history s f).issued ≡ At issued → IsReached start history retired issued f own (b ∷ rest) looked committed before done
      → (next_times start history issued f own b).failure ≡ Some failing → (next_times start history issued f own b).is_trimmed ≡ false
      → (next_times start history issued f own b).looked_up ≡ At next → next ≤ end
      → all_done (queued_by end (accesses_of (timed start history s f).batches)) ≡ max done (all_done (next_times start history issued f own b).accesses)
  pub walks : (start : Start) (history : History) (s : Flat) (retired issued : ℕ) (f : Footprint) (own : List BatchTimes) (b : Batch) (rest : List Batch) (looked committed before done next end : ℕ) (failing : Failure)
      → (timed start history s f).issued ≡ At issued → IsReached start history retired issued f own (b ∷ rest) looked committed before done
      → (next_times start history issued f own b).failure ≡ Some failing → (next_times start history issued f own b).is_trimmed ≡ false
      → (next_times start history issued f own b).looked_up ≡ At next → next ≤ end
      → quiet.ended_by end (walks_of_batches (timed start history s f).batches) ≡ (next_times start history issued f own b).walks ++ walks_of_batches own
  pub stops : (start : Start) (until : ℕ) (from : Process) (course : Course) (history : History) (now : Process) (e : Entry) (f : Footprint) (before after : List Happening) (why : Ended) (first element issued cycle : ℕ)
      → IsOnCourse start until from course history now → start.machine.window ≡ 1
      → e ≡ entry_of start history now.state → f ≡ footprint start.machine start.has_vectors start.residency now.state → e.issued ≡ At issued
      → happenings_of (last_retire start.cycle history) e ≡ before ++ happening e (Stops why first element) cycle ∷ after → list_any (ends until) before ≡ false
      → EndsAs start until from (ending_of start history e (walk_behind start history e (continued now.state).pc (fetch_behind f issued)) cycle why (stopped_at why element now)
      (course.commits + commits_in before + (if nat_lt first element then 1 else 0)) course.completed
      (course.changed || changes_in before || (nat_lt first element && f.changes_vectors)))
  pub faulted : (s : Flat) (m : Memory) (fault : Fault) (u : Flat) → IsWellFormed s → AreAlike s m → step (with_memory m s) ≡ Faulted fault u → (t : Flat) × (step s ≡ Faulted fault t) × StandsFor u t

lt-self : (i : ℕ) → nat_lt i i ≡ false
lt-self i =
    elim (cases_Bool (nat_lt i i)) [
      | inl holds ↦ absurd (omega (arith, ltb-true i i holds))
      | inr fails ↦ fails
    ]

lt-same : (a b c d : ℕ) → (a < b → c < d) → (c < d → a < b) → nat_lt a b ≡ nat_lt c d
lt-same a b c d one other =
    elim (cases_Bool (nat_lt a b)) [
      | inl first ↦ elim (cases_Bool (nat_lt c d)) [
        | inl second ↦ first ∙ sym second
        | inr fails ↦ absurd (omega (arith, one (ltb-true a b first), ltb-false c d fails))
      ]
      | inr none ↦ elim (cases_Bool (nat_lt c d)) [
        | inl second ↦ absurd (omega (arith, other (ltb-true c d second), ltb-false a b none))
        | inr fails ↦ none ∙ sym fails
      ]
    ]

why-there : (is_away : Bool) (away why : Ended) → is_away ≡ false → (if is_away then away else why) ≡ why
why-there true away why h = absurd (cc)
why-there false away why h = refl

or-none : (a b : Bool) → (a || b || false) ≡ (a || b)
or-none true b = refl
or-none false true = refl
or-none false false = refl

module _ (paged : PagedLaws) (laws : StepLaws) (batching : StopLaws) (machine : Organisation) (root : ℕ) (placement : List FramedPage) (start : Start) (until : ℕ) (from : Process) (first : CellsState) (course : Course) (fetched : ℕ) (loads new fetches : List (Option Kept)) (stamps free : BankStamps) (before middle between after : CellsState) (u v : Flat) (issued : ℕ) (t : Transfer) (k : ℕ) (n : Passing)
    (on : IsEpisodeOn machine root placement start) (kept : IsPlacement placement) (i : IsIssuing start until from first course fetched (record { loads = loads; fetches = fetches; stamps = stamps }) before u) where
  abbrev f : Footprint
  f = footprint start.machine start.has_vectors start.residency i.now.state

  abbrev e : Entry
  e = entry_of start i.history i.now.state

  module _ (is-moving : IsMoving f t) (is : issued ≡ max fetched (course.retired + 1)) (st : IsStopped start i.history e course.retired issued f t k n root new before middle) where
    abbrev times : BatchTimes
    times = next_times start i.history issued f st.own st.b

    abbrev last : ℕ
    last = max n.looked n.committed

    its-issue : e.issued ≡ At issued
    its-issue = issued-is paged laws machine root placement start until from first course fetched loads new fetches stamps free before middle after u v issued t k n on kept i is

    last-is : stopped_behind course.retired n.looked st.failing.element (times.accesses ++ accesses_of st.own) ≡ last
    last-is =
        let same : max n.looked (max n.committed st.done) ≡ last = omega (arith, st.reached.done_by) in
        ap (λ (j : ℕ). stopped_behind course.retired n.looked j (times.accesses ++ accesses_of st.own)) st.element
        ∙ batching.of_one start i.history course.retired issued f st.own st.b st.rest st.looked n.committed n.before st.done n.looked k st.reached st.looked_up st.below st.above ∙ same

    happens-as : (fault : Fault) (s : Flat) → step i.now.state ≡ Faulted fault s
        → happenings_of (last_retire start.cycle i.history) e ≡ reached e st.own ++ happening e (Stops (ended.Faulted fault) k k) last ∷ []
    happens-as fault s steps =
        let why : why_stopped e st.failing ≡ ended.Faulted fault = why-there st.failing.is_away _ (ended_by (step e.state)) st.there ∙ ap ended_by steps in
        batching.happens start i.history i.now.state course.retired issued f st.own st.b st.rest st.looked n.committed n.before st.done n.looked st.failing its-issue st.reached st.fails st.trims_not st.looked_up is-moving.stop
        ∙ (λ j. reached e st.own ++ happening e (Stops (why j) (st.from j) (st.element j)) (last-is j) ∷ [])

    none-by : (own : List BatchTimes) → IsReached start i.history course.retired issued f own (st.b ∷ st.rest) st.looked n.committed n.before st.done → (0 < length own → n.committed < until) → list_any (ends until) (reached e own) ≡ false
    none-by [] so early = refl
    none-by (b ∷ own) so early = batching.none_ends start i.history course.retired issued f (b ∷ own) (st.b ∷ st.rest) st.looked n.committed n.before st.done until e so (early (omega arith))

    clock-is : clock_by last (accesses_of e.batches) ≡ max (max n.looked n.committed) n.done + trap_cycles
    clock-is =
        ap (λ (d : ℕ). max last d + trap_cycles)
        (batching.done start i.history i.now.state course.retired issued f st.own st.b st.rest st.looked n.committed n.before st.done n.looked last st.failing its-issue st.reached st.fails st.trims_not st.looked_up (omega arith) ∙ st.all_done)

    walks-are : walks_of_batches (times ∷ st.own ++ batches_of i.history) ≡ quiet.ended_by last (walks_of_batches e.batches) ++ data_walks i.history
    walks-are =
        walks-with times.walks st.own i.history
        ∙ ap (λ (ws : List Walk). ws ++ data_walks i.history)
        (sym (batching.walks start i.history i.now.state course.retired issued f st.own st.b st.rest st.looked n.committed n.before st.done n.looked last st.failing its-issue st.reached st.fails st.trims_not st.looked_up (omega arith)))

    middle-kept : AreKept start (after_walks start.residency (fetch_walks (e ∷ i.history) ++ (quiet.ended_by last (walks_of_batches e.batches) ++ data_walks i.history))) first middle
    middle-kept =
        subst (λ (ws : List Walk). AreKept start (after_walks start.residency (fetch_walks (e ∷ i.history) ++ ws)) first middle) walks-are
        (kept-walks paged laws machine root placement start until from first course fetched loads new fetches stamps free before middle after u v issued t k n on kept i
        (walks_of_batches (times ∷ st.own ++ batches_of i.history)) st.ready.held st.frames st.cycle st.others)

    pub over-stopped : (bank_time pc clock : ℕ) (fault : Fault) (next : Course) → start.machine.bank_time ≡ bank_time → (continued i.now.state).pc ≡ pc → (t.movement.at.vstart < k → n.committed < until)
        → step u ≡ Faulted fault v → KeptBehind root bank_time pc (issued + 1) last fetches middle between → rest_of placement after ≡ rest_of placement between
        → clock ≡ max (max n.looked n.committed) n.done + trap_cycles → next.commits ≡ course.commits + (k - t.movement.at.vstart) → next.completed ≡ course.completed → next.changed ≡ (course.changed || nat_lt t.movement.at.vstart k)
        → IsOver start until from first (ended.Faulted fault) clock next after v
    over-stopped bank_time pc clock fault next time at early steps behind-kept same clock-then commits-then completed-then changed-then =
        let there : step (with_memory u.memory i.now.state) ≡ Faulted fault v = ap step (sym i.stands.is) ∙ steps in
        let found : (s : Flat) × (step i.now.state ≡ Faulted fault s) × StandsFor v s = batching.faulted i.now.state u.memory fault v i.formed i.stands.alike there in
        let many : length st.own ≡ k - t.movement.at.vstart = omega (arith, st.count) in
        let none : list_any (ends until) (reached e st.own) ≡ false = none-by st.own st.reached (λ some. early (omega (arith, many, some))) in
        let ends-as = batching.stops start until from course i.history i.now e f (reached e st.own) [] (ended.Faulted fault) k k issued last i.on (ap (λ (m : Organisation). m.window) on.machine_is ∙ on.window) refl refl its-issue (happens-as fault found.0 found.1) none in
        let commits-are : course.commits + (k - t.movement.at.vstart) ≡ course.commits + commits_in (reached e st.own) + (if nat_lt k k then 1 else 0) =
        (let zero-more : course.commits + (k - t.movement.at.vstart) ≡ course.commits + commits_in (reached e st.own) + 0 = omega (arith, st.counted.commits e, many) in
        zero-more ∙ ap (λ (b : Bool). course.commits + commits_in (reached e st.own) + (if b then 1 else 0)) (sym (lt-self k))) in
        let some-same : nat_lt t.movement.at.vstart k ≡ nat_lt 0 (length st.own) = lt-same t.movement.at.vstart k 0 (length st.own) (λ less. omega (arith, less, many)) (λ less. omega (arith, less, many)) in
        let changed-are : (course.changed || nat_lt t.movement.at.vstart k) ≡ (course.changed || changes_in (reached e st.own) || (nat_lt k k && f.changes_vectors)) =
        ap (λ (b : Bool). course.changed || b) (some-same ∙ sym (st.counted.changes e is-moving.changes_is))
        ∙ sym (or-none course.changed (changes_in (reached e st.own)))
        ∙ ap (λ (b : Bool). course.changed || changes_in (reached e st.own) || (b && f.changes_vectors)) (sym (lt-self k)) in
        over-by paged machine root placement start until from first course fetched loads fetches stamps before middle between after u v issued on kept i new free bank_time pc last (ended.Faulted fault) (stopped_at (ended.Faulted fault) k i.now) _ _ _ clock next
        time at is-moving.jumps_is ends-as middle-kept behind-kept same (clock-then ∙ sym clock-is) (commits-then ∙ commits-are) completed-then (changed-then ∙ changed-are)
        (subst (λ (s : Flat). StandsFor v s) (sym (faults i.now fault found.0 i.on.under_way.is_not_over found.1)) found.2)
        (subst (λ (c : ℕ). HasCome from (stopped_at (ended.Faulted fault) k i.now) (ended.Faulted fault) c) (sym completed-then) (come-faulted start until from course.completed i.history i.now i.on.under_way fault found.0 k found.1))
