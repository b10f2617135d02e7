-- A vector load or store in front of an element of which the slice ends: the episode is over.
use Rattle.std.proofs.Common.{◌≡◌, ℕ, suc, ◌+◌, ◌-◌, ◌<◌, ◌≤◌, max, Bool, true, false, List, [], ◌∷◌, ◌++◌, Some, length, refl, sym, ap, subst, ◌∙◌, arith}
use Rattle.std.specs.Prelude.{Option, ◌||◌, unwrap_or}
use Rattle.std.specs.List.{list_any}
use Rattle.vx_cells.specs.Cells.{CellsState}
use Rattle.vx_flat.specs.Continued.{continued}
use Rattle.vx_flat.specs.Prefix.{prefix_at}
use Rattle.vx_flat.specs.Process.{Process}
use Rattle.vx_flat.specs.Splits.{IsWellFormed}
use Rattle.vx_flat.specs.State.{Flat}
use Rattle.vx_flat.specs.Transfers.{Transfer}
use Rattle.vx_image.specs.Pages.{Memory}
use Rattle.vx_tables.specs.Residency.{pages_of}
use Rattle.vx_tables.specs.Tables.{AreHeld, SameBut, table_count}
use Rattle.vx_tlb.specs.declared.tlb.Kept.{Kept}
use Rattle.vx_episode.specs.Batches.{batch_started}
use Rattle.vx_episode.specs.Commits.{Happening, ends, entry_of, happening, happenings_of, not_last, timed}
use Rattle.vx_episode.specs.Commits.What.{Reaches}
use Rattle.vx_episode.specs.Cycles.Cycle.{At}
use Rattle.vx_episode.specs.Episode.{trap_cycles, within}
use Rattle.vx_episode.specs.Footprint.{Batch, Footprint, footprint}
use Rattle.vx_episode.specs.History.{History, Entry, Walk, BatchTimes, accesses_of, after_walks, batches_of, data_walks, fetch_walks, last_retire, queued_by, walks_of_batches}
use Rattle.vx_episode.specs.Organisation.{Organisation, Start}
use Rattle.vx_episode.specs.declared.ended.Ended.TheVariants.{Slice}
use Rattle.vx_quiet.specs.Quiet as quiet
use Rattle.vx_batching.specs.Batching.{IsReached, all_done, next_times, reached}
use Rattle.vx_ending.specs.Counts.{commits_in}
use Rattle.vx_course.specs.Course.{Course, EndsAs, IsOnCourse, clock_by, ending_of, fetch_behind, walk_behind}
use Rattle.vx_paged.specs.Framed.{IsPlacement}
use Rattle.vx_paged.specs.Left.{rest_of}
use Rattle.vx_paged.specs.declared.placement.FramedPage.{FramedPage}
use Rattle.vx_pending.specs.Alike.{AreAlike, StandsFor, with_memory}
use Rattle.vx_serve.specs.Stamps.{BankStamps}
use Rattle.vx_pipe.specs.Going.{AreKept, IsEpisodeOn, IsIssuing, IsOver}
use Rattle.vx_pipe.specs.Left.{HasCome}
use Rattle.vx_pipe.specs.Moving.{IsMoving}
use Rattle.vx_pipe.specs.Passing.{AreCounted, EndsBefore, IsAhead, IsPassing}
use Rattle.vx_pipe.specs.Transfers.{element_batch}
use Rattle.vx_pipe.specs.declared.passing.Passing.{Passing}
use Rattle.vx_pipe.proofs.Come.{come-within}
use Rattle.vx_pipe.proofs.Completing.{StepLaws}
use Rattle.vx_pipe.proofs.Kept.{PagedLaws}
use Rattle.vx_pipe.specs.Ending.{KeptBehind}
use Rattle.vx_pipe.proofs.TransferCourse.{issued-is, kept-walks}
use Rattle.vx_pipe.proofs.TransferLoop.{AddCommits, CommitMore, one-less}
use Rattle.vx_pipe.proofs.TransferOver.{over-by, walks-with}
use Rattle.vx_pipe.proofs.TransferSteps.{BatchStarts}

pub record ReachLaws : Type 0 where
  pub starts : BatchStarts
  pub more : CommitMore
  pub add : AddCommits
  pub happens : (start : Start) (history : History) (s : Flat) (retired issued : ℕ) (f : Footprint) (last : BatchTimes) (own : List BatchTimes) (b : Batch) (rest : List Batch) (looked committed before done : ℕ)
      → (timed start history s f).issued ≡ At issued → IsReached start history retired issued f (last ∷ own) (b ∷ rest) looked committed before done
      → (follows : List Happening) × (happenings_of (last_retire start.cycle history) (timed start history s f)
      ≡ reached (timed start history s f) own ++ happening (timed start history s f) (Reaches last.after) committed ∷ follows)
  pub none_ends : (start : Start) (history : History) (retired issued : ℕ) (f : Footprint) (own : List BatchTimes) (rest : List Batch) (looked committed before done until : ℕ) (e : Entry)
      → IsReached start history retired issued f own rest looked committed before done → before < until → list_any (ends until) (reached e (not_last own)) ≡ false
  pub done : (start : Start) (history : History) (s : Flat) (retired issued : ℕ) (f : Footprint) (last : BatchTimes) (own : List BatchTimes) (b : Batch) (rest : List Batch) (looked committed before done : ℕ)
      → (timed start history s f).issued ≡ At issued → IsReached start history retired issued f (last ∷ own) (b ∷ rest) looked committed before done
      → all_done (queued_by committed (accesses_of (timed start history s f).batches))
      ≡ max done (all_done (queued_by committed (next_times start history issued f (last ∷ own) b).accesses))
  pub walks : (start : Start) (history : History) (s : Flat) (retired issued : ℕ) (f : Footprint) (last : BatchTimes) (own : List BatchTimes) (b : Batch) (rest : List Batch) (looked committed before done : ℕ)
      → (timed start history s f).issued ≡ At issued → IsReached start history retired issued f (last ∷ own) (b ∷ rest) looked committed before done
      → quiet.ended_by committed (walks_of_batches (timed start history s f).batches)
      ≡ quiet.ended_by committed (next_times start history issued f (last ∷ own) b).walks ++ walks_of_batches (last ∷ own)
  pub reaches : (start : Start) (until : ℕ) (from : Process) (course : Course) (history : History) (now : Process) (e : Entry) (f : Footprint) (before after : List Happening) (element issued cycle : ℕ)
      → IsOnCourse start until from course history now → start.machine.window ≡ 1
      → e ≡ entry_of start history now.state → f ≡ footprint start.machine start.has_vectors start.residency now.state → e.issued ≡ At issued
      → happenings_of (last_retire start.cycle history) e ≡ before ++ happening e (Reaches element) cycle ∷ after → list_any (ends until) before ≡ false → until ≤ cycle
      → EndsAs start until from (ending_of start history e (walk_behind start history e (continued now.state).pc (fetch_behind f issued)) cycle Slice (within element now)
      (course.commits + commits_in before + 1) course.completed (course.changed || f.changes_vectors))
  pub prefix : (s : Flat) (m : Memory) (k : ℕ) (u : Flat) → IsWellFormed s → AreAlike s m → prefix_at k (with_memory m s) ≡ Some u → (t : Flat) × (prefix_at k s ≡ Some t) × StandsFor u t
  pub formed : (s t : Flat) (k : ℕ) → IsWellFormed s → k < s.v.vlen → prefix_at k s ≡ Some t → IsWellFormed t

or-true : (b : Bool) → true ≡ (b || true)
or-true true = refl
or-true false = refl

module _ (paged : PagedLaws) (laws : StepLaws) (batching : ReachLaws) (machine : Organisation) (root : ℕ) (placement : List FramedPage) (start : Start) (until : ℕ) (from : Process) (first : CellsState) (course : Course) (fetched : ℕ) (loads new ahead fetches : List (Option Kept)) (stamps free : BankStamps) (before middle looking between after : CellsState) (u v : Flat) (issued : ℕ) (t : Transfer) (k : ℕ) (rest : List Batch) (n : Passing)
    (on : IsEpisodeOn machine root placement start) (kept : IsPlacement placement) (i : IsIssuing start until from first course fetched (record { loads = loads; fetches = fetches; stamps = stamps }) before u) where
  abbrev f : Footprint
  f = footprint start.machine start.has_vectors start.residency i.now.state

  abbrev e : Entry
  e = entry_of start i.history i.now.state

  abbrev b : Batch
  b = element_batch t k

  module _ (is-moving : IsMoving f t) (is : issued ≡ max fetched (course.retired + 1)) (late : until ≤ n.committed) (own : List BatchTimes) (done-behind : ℕ)
      (so : IsReached start i.history course.retired issued f own (b ∷ rest) n.looked n.committed n.before n.done)
      (a : IsAhead start i.history e (own ++ batches_of i.history) f (max n.looked n.before + 1) b n.committed root middle looking done-behind)
      (frames : middle.frames ≡ before.frames) (cycle : middle.cycle ≡ before.cycle) (others : SameBut root (table_count (pages_of start.residency)) before.contents middle.contents) where
    its-issue : e.issued ≡ At issued
    its-issue = issued-is paged laws machine root placement start until from first course fetched loads new fetches stamps free before middle after u v issued t k n on kept i is

    times-are : batch_started start i.history (own ++ batches_of i.history) f b (At (max n.looked n.before + 1)) ≡ next_times start i.history issued f own b
    times-are = sym (batching.starts start i.history course.retired issued f own b rest n.looked n.committed n.before n.done so)

    -- what was looked up of the element, and the walks that have ended
    abbrev ahead-walks : List Walk
    ahead-walks = quiet.ended_by n.committed (next_times start i.history issued f own b).walks

    looking-held : AreHeld looking root (after_walks start.residency (fetch_walks (e ∷ i.history) ++ (ahead-walks ++ walks_of_batches (own ++ batches_of i.history))))
    looking-held =
        subst (λ (x : BatchTimes). AreHeld looking root (after_walks start.residency (fetch_walks (e ∷ i.history) ++ (quiet.ended_by n.committed x.walks ++ walks_of_batches (own ++ batches_of i.history))))) times-are a.held

    done-is : done-behind ≡ all_done (queued_by n.committed (next_times start i.history issued f own b).accesses)
    done-is = a.done_is ∙ ap (λ (x : BatchTimes). all_done (queued_by n.committed x.accesses)) times-are

    looking-kept : (walks : List Walk) → ahead-walks ++ walks_of_batches (own ++ batches_of i.history) ≡ walks → AreKept start (after_walks start.residency (fetch_walks (e ∷ i.history) ++ walks)) first looking
    looking-kept walks same =
        subst (λ (ws : List Walk). AreKept start (after_walks start.residency (fetch_walks (e ∷ i.history) ++ ws)) first looking) same
        (kept-walks paged laws machine root placement start until from first course fetched loads new fetches stamps free before looking after u v issued t k n on kept i
        (ahead-walks ++ walks_of_batches (own ++ batches_of i.history)) looking-held (a.frames ∙ frames) (a.cycle ∙ cycle) (λ word out. a.others word out ∙ others word out))

  -- the state within the instruction
  within-is : (s : Flat) → prefix_at k i.now.state ≡ Some s → (within k i.now).state ≡ s
  within-is s is = ap (λ (o : Option Flat). unwrap_or o i.now.state) is

  module _ (is-moving : IsMoving f t) (is : issued ≡ max fetched (course.retired + 1)) (late : until ≤ n.committed) (last : BatchTimes) (own : List BatchTimes) (ends-at : last.after ≡ k) (count : t.movement.at.vstart + suc (length own) ≡ k) (counted : AreCounted (last ∷ own)) (early : t.movement.at.vstart + 1 < k → n.before < until) (done-behind : ℕ)
      (so : IsReached start i.history course.retired issued f (last ∷ own) (b ∷ rest) n.looked n.committed n.before n.done)
      (a : IsAhead start i.history e ((last ∷ own) ++ batches_of i.history) f (max n.looked n.before + 1) b n.committed root middle looking done-behind)
      (frames : middle.frames ≡ before.frames) (cycle : middle.cycle ≡ before.cycle) (others : SameBut root (table_count (pages_of start.residency)) before.contents middle.contents) where
    abbrev all : List BatchTimes
    all = last ∷ own

    its : e.issued ≡ At issued
    its = its-issue is-moving is late all done-behind so a frames cycle others

    none-by : (list : List BatchTimes) → IsReached start i.history course.retired issued f (last ∷ list) (b ∷ rest) n.looked n.committed n.before n.done → (0 < length list → n.before < until) → list_any (ends until) (reached e list) ≡ false
    none-by [] reaches soon = refl
    none-by (x ∷ list) reaches soon = batching.none_ends start i.history course.retired issued f (last ∷ x ∷ list) (b ∷ rest) n.looked n.committed n.before n.done until e reaches (soon (omega arith))

    clock-is : clock_by n.committed (accesses_of e.batches) ≡ max n.committed done-behind + trap_cycles
    clock-is =
        let over : max n.committed (max n.done done-behind) ≡ max n.committed done-behind = omega (arith, so.done_by) in
        ap (λ (d : ℕ). max n.committed d + trap_cycles)
        (batching.done start i.history i.now.state course.retired issued f last own b rest n.looked n.committed n.before n.done its so
        ∙ ap (λ (d : ℕ). max n.done d) (sym (done-is is-moving is late all done-behind so a frames cycle others)))
        ∙ ap (λ (m : ℕ). m + trap_cycles) over

    walks-are : quiet.ended_by n.committed (next_times start i.history issued f all b).walks ++ walks_of_batches (all ++ batches_of i.history) ≡ quiet.ended_by n.committed (walks_of_batches e.batches) ++ data_walks i.history
    walks-are =
        walks-with (quiet.ended_by n.committed (next_times start i.history issued f all b).walks) all i.history
        ∙ ap (λ (ws : List Walk). ws ++ data_walks i.history) (sym (batching.walks start i.history i.now.state course.retired issued f last own b rest n.looked n.committed n.before n.done its so))

    over-at : (bank_time pc clock : ℕ) (next : Course) → start.machine.bank_time ≡ bank_time → (continued i.now.state).pc ≡ pc → prefix_at k u ≡ Some v → k < i.now.state.v.vlen
        → KeptBehind root bank_time pc (issued + 1) n.committed fetches looking between → rest_of placement after ≡ rest_of placement between
        → clock ≡ max n.committed done-behind + trap_cycles → next.commits ≡ course.commits + (k - t.movement.at.vstart) → next.completed ≡ course.completed → next.changed ≡ true
        → IsOver start until from first Slice clock next after v
    over-at bank_time pc clock next time at is-prefix low behind-kept same clock-then commits-then completed-then changed-then =
        let there : prefix_at k (with_memory u.memory i.now.state) ≡ Some v = ap (prefix_at k) (sym i.stands.is) ∙ is-prefix in
        let found : (s : Flat) × (prefix_at k i.now.state ≡ Some s) × StandsFor v s = batching.prefix i.now.state u.memory k v i.formed i.stands.alike there in
        let happened = batching.happens start i.history i.now.state course.retired issued f last own b rest n.looked n.committed n.before n.done its so in
        let none : list_any (ends until) (reached e own) ≡ false = none-by own so (λ some. early (omega (arith, count, some))) in
        let ends-as = batching.reaches start until from course i.history i.now e f (reached e own) happened.0 k issued n.committed i.on (ap (λ (m : Organisation). m.window) on.machine_is ∙ on.window) refl refl its
        (happened.1 ∙ ap (λ (j : ℕ). reached e own ++ happening e (Reaches j) n.committed ∷ happened.0) ends-at) none late in
        let less : commits_in (reached e own) ≡ length own = one-less batching.more batching.add start i.history course.retired issued f last own (b ∷ rest) n.looked n.committed n.before n.done e so (counted.commits e) in
        let commits-are : course.commits + (k - t.movement.at.vstart) ≡ course.commits + commits_in (reached e own) + 1 = omega (arith, less, count) in
        over-by paged machine root placement start until from first course fetched loads fetches stamps before looking between after u v issued on kept i ahead free bank_time pc n.committed Slice (within k i.now) _ _ _ clock next
        time at is-moving.jumps_is ends-as
        (looking-kept is-moving is late all done-behind so a frames cycle others (quiet.ended_by n.committed (walks_of_batches e.batches) ++ data_walks i.history) walks-are)
        behind-kept same (clock-then ∙ sym clock-is) (commits-then ∙ commits-are) completed-then (changed-then ∙ or-true course.changed ∙ ap (λ (x : Bool). course.changed || x) (sym is-moving.changes_is))
        (subst (λ (s : Flat). StandsFor v s) (sym (within-is found.0 found.1)) found.2)
        (subst (λ (c : ℕ). HasCome from (within k i.now) Slice c) (sym completed-then)
        (come-within start until from course.completed i.history i.now i.on.under_way k (subst (λ (s : Flat). IsWellFormed s) (sym (within-is found.0 found.1)) (batching.formed i.now.state found.0 k i.formed low found.1))))

  by-own : (is-moving : IsMoving f t) (is : issued ≡ max fetched (course.retired + 1)) (late : until ≤ n.committed) (list : List BatchTimes) → EndsBefore k list → t.movement.at.vstart + length list ≡ k → t.movement.at.vstart < k → AreCounted list → (t.movement.at.vstart + 1 < k → n.before < until) → (done-behind : ℕ)
      → IsReached start i.history course.retired issued f list (b ∷ rest) n.looked n.committed n.before n.done
      → IsAhead start i.history e (list ++ batches_of i.history) f (max n.looked n.before + 1) b n.committed root middle looking done-behind
      → middle.frames ≡ before.frames → middle.cycle ≡ before.cycle → SameBut root (table_count (pages_of start.residency)) before.contents middle.contents
      → (bank_time pc clock : ℕ) (next : Course) → start.machine.bank_time ≡ bank_time → (continued i.now.state).pc ≡ pc → prefix_at k u ≡ Some v → k < i.now.state.v.vlen
      → KeptBehind root bank_time pc (issued + 1) n.committed fetches looking between → rest_of placement after ≡ rest_of placement between
      → clock ≡ max n.committed done-behind + trap_cycles → next.commits ≡ course.commits + (k - t.movement.at.vstart) → next.completed ≡ course.completed → next.changed ≡ true
      → IsOver start until from first Slice clock next after v
  by-own is-moving is late [] ends-at count some counted early done-behind so a frames cycle others = absurd (omega (arith, count, some))
  by-own is-moving is late (last ∷ own) ends-at count some counted early done-behind so a frames cycle others =
      over-at is-moving is late last own ends-at count counted early done-behind so a frames cycle others

  pub over-reached : (is-moving : IsMoving f t) (is : issued ≡ max fetched (course.retired + 1)) (late : until ≤ n.committed) (some : t.movement.at.vstart < k) (early : t.movement.at.vstart + 1 < k → n.before < until) (done-behind : ℕ)
      (p : IsPassing start i.history e course.retired issued f t k (b ∷ rest) n root new free before middle)
      → IsAhead start i.history e (p.own ++ batches_of i.history) f (max n.looked n.before + 1) b n.committed root middle looking done-behind
      → (bank_time pc clock : ℕ) (next : Course) → start.machine.bank_time ≡ bank_time → (continued i.now.state).pc ≡ pc → prefix_at k u ≡ Some v → k < i.now.state.v.vlen
      → KeptBehind root bank_time pc (issued + 1) n.committed fetches looking between → rest_of placement after ≡ rest_of placement between
      → clock ≡ max n.committed done-behind + trap_cycles → next.commits ≡ course.commits + (k - t.movement.at.vstart) → next.completed ≡ course.completed → next.changed ≡ true
      → IsOver start until from first Slice clock next after v
  over-reached is-moving is late some early done-behind p a =
      by-own is-moving is late p.own p.ends p.count some p.counted early done-behind p.transferring.reached a p.transferring.frames p.transferring.cycle p.transferring.others
