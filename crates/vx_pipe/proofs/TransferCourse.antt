-- A vector load or store that goes from element to element, from its issue to its retire.
use Rattle.std.proofs.Common.{◌≡◌, ℕ, ◌+◌, ◌-◌, ◌<◌, ◌≤◌, max, true, false, List, [], ◌∷◌, ◌++◌, None, length, refl, sym, ap, subst, ◌∙◌, arith}
use Rattle.std.specs.Prelude.{Option}
use Rattle.std.specs.List.{list_any}
use Rattle.vx_cells.specs.Cells.{CellsState}
use Rattle.vx_flat.specs.Outcome.Outcome.{Next}
use Rattle.vx_flat.specs.Process.{Process}
use Rattle.vx_flat.specs.State.{Flat}
use Rattle.vx_flat.specs.Step.{step, upcoming}
use Rattle.vx_flat.specs.Transfers.{Transfer}
use Rattle.vx_tables.specs.Residency.{pages_of}
use Rattle.vx_tables.specs.Tables.{AreHeld, SameBut, table_count}
use Rattle.vx_tlb.specs.Kept as tlb
use Rattle.vx_tlb.specs.declared.tlb.Kept.{Kept}
use Rattle.vx_episode.specs.Batches.{all_batches, retired_batches}
use Rattle.vx_episode.specs.Commits.{ends, entry_of, happening, happenings_of, not_last, timed}
use Rattle.vx_episode.specs.Commits.What.{Completes}
use Rattle.vx_episode.specs.Cycles.Cycle.{At}
use Rattle.vx_episode.specs.Episode.{trap_cycles}
use Rattle.vx_episode.specs.Footprint.{Batch, Footprint, footprint, footprint_of}
use Rattle.vx_episode.specs.History.{History, Entry, Walk, AccessTimes, BatchTimes, accesses_of, after_walks, batches_of, data_walks, fetch_walks, fills_of, last_retire, queued_by, walks_of_batches}
use Rattle.vx_episode.specs.Organisation.{Organisation, Start}
use Rattle.vx_quiet.specs.Quiet.{ended_by}
use Rattle.vx_batching.specs.Batching.{IsReached, all_done, completed_behind, reached}
use Rattle.vx_course.specs.Course.{Course, clock_by}
use Rattle.vx_paged.specs.Framed.{IsPlacement}
use Rattle.vx_paged.specs.Left.{rest_of}
use Rattle.vx_paged.specs.Placed.{AreAlone}
use Rattle.vx_paged.specs.declared.placement.FramedPage.{FramedPage}
use Rattle.vx_pending.specs.Alike.{StandsExactlyFor, with_memory}
use Rattle.vx_serve.specs.Stamps.{AreBy, BankStamps}
use Rattle.vx_serve.specs.Stamps as banks
use Rattle.vx_pipe.specs.Going.{AreKept, IsEpisodeOn, IsIssuing, fetches_with}
use Rattle.vx_pipe.specs.Moving.{IsMoving}
use Rattle.vx_pipe.specs.Passing.{IsThrough}
use Rattle.vx_pipe.specs.Retiring.{IsRetiring}
use Rattle.vx_pipe.specs.declared.passing.Passing.{Passing}
use Rattle.vx_pipe.proofs.Completing.{StepLaws, footprint-shown}
use Rattle.vx_pipe.proofs.Fetched.{kept-by}
use Rattle.vx_pipe.proofs.Kept.{PagedLaws, kept-through}

-- what vx_batching says of an instruction whose batches were all gone through
pub record EndLaws : Type 0 where
  pub completed : (start : Start) (history : History) (s : Flat) (retired issued : ℕ) (f : Footprint) (last : BatchTimes) (own : List BatchTimes) (looked committed before done : ℕ)
      → (timed start history s f).issued ≡ At issued → IsReached start history retired issued f (last ∷ own) [] looked committed before done → f.stop ≡ None → f.groups ≡ []
      → (timed start history s f).completed ≡ At (completed_behind issued f looked done)
  pub happens : (start : Start) (history : History) (s : Flat) (retired issued : ℕ) (f : Footprint) (last : BatchTimes) (own : List BatchTimes) (looked committed before done : ℕ)
      → (timed start history s f).issued ≡ At issued → IsReached start history retired issued f (last ∷ own) [] looked committed before done → f.stop ≡ None → f.groups ≡ []
      → happenings_of (last_retire start.cycle history) (timed start history s f)
      ≡ reached (timed start history s f) own ++ happening (timed start history s f) Completes (completed_behind issued f looked done + 1) ∷ []
  pub none_ends : (start : Start) (history : History) (retired issued : ℕ) (f : Footprint) (own : List BatchTimes) (rest : List Batch) (looked committed before done until : ℕ) (e : Entry)
      → IsReached start history retired issued f own rest looked committed before done → before < until → list_any (ends until) (reached e (not_last own)) ≡ false
  pub done : (start : Start) (history : History) (s : Flat) (retired issued : ℕ) (f : Footprint) (own : List BatchTimes) (looked committed before done end : ℕ)
      → (timed start history s f).issued ≡ At issued → IsReached start history retired issued f own [] looked committed before done → looked ≤ end
      → all_done (queued_by end (accesses_of (timed start history s f).batches)) ≡ done
  pub walked : (start : Start) (history : History) (s : Flat) (retired issued : ℕ) (f : Footprint) (own : List BatchTimes) (looked committed before done end : ℕ)
      → (timed start history s f).issued ≡ At issued → IsReached start history retired issued f own [] looked committed before done → looked ≤ end
      → ended_by end (walks_of_batches (timed start history s f).batches) ≡ walks_of_batches own
  pub all_walks : (start : Start) (history : History) (s : Flat) (retired issued : ℕ) (f : Footprint) (own : List BatchTimes) (looked committed before done : ℕ)
      → (timed start history s f).issued ≡ At issued → IsReached start history retired issued f own [] looked committed before done
      → walks_of_batches (timed start history s f).batches ≡ walks_of_batches own

completes-at : (issued latency looked done : ℕ) → latency ≡ 1 → issued + 1 ≤ looked → max (issued + latency) (max looked done) ≡ max looked done
completes-at issued latency looked done one late = omega arith

module _ (paged : PagedLaws) (laws : StepLaws) (machine : Organisation) (root : ℕ) (placement : List FramedPage) (start : Start) (until : ℕ) (from : Process) (first : CellsState) (course : Course) (fetched : ℕ) (loads new fetches : List (Option Kept)) (stamps free : BankStamps) (before middle after : CellsState) (u v : Flat) (issued : ℕ) (t : Transfer) (k : ℕ) (n : Passing)
    (on : IsEpisodeOn machine root placement start) (kept : IsPlacement placement) (i : IsIssuing start until from first course fetched (record { loads = loads; fetches = fetches; stamps = stamps }) before u) where
  abbrev pub f : Footprint
  f = footprint start.machine start.has_vectors start.residency i.now.state

  abbrev pub e : Entry
  e = entry_of start i.history i.now.state

  pub moving : IsMoving (footprint_of machine u (upcoming u)) t → IsMoving f t
  moving is =
      subst (λ (g : Footprint). IsMoving g t)
      (ap (λ (m : Organisation). footprint_of m u (upcoming u)) (sym on.machine_is) ∙ sym (footprint-shown laws machine root placement start i.now.state u on i.formed i.stands)) is

  pub issued-is : issued ≡ max fetched (course.retired + 1) → e.issued ≡ At issued
  issued-is is = laws.issued start i.history i.now.state f course.retired fetched i.on.quiet (ap (λ (m : Organisation). m.window) on.machine_is ∙ on.window) i.ended ∙ ap At (sym is)

  -- what is kept of physical memory, where a list of walks for data was made
  pub kept-walks : (walks : List Walk) → AreHeld middle root (after_walks start.residency (fetch_walks (e ∷ i.history) ++ walks)) → middle.frames ≡ before.frames → middle.cycle ≡ before.cycle
      → SameBut root (table_count (pages_of start.residency)) before.contents middle.contents → AreKept start (after_walks start.residency (fetch_walks (e ∷ i.history) ++ walks)) first middle
  kept-walks walks held frames cycle others =
      kept-by start (after_walks start.residency (fetches_with e i.history ++ data_walks i.history)) (after_walks start.residency (fetch_walks (e ∷ i.history) ++ walks)) first before middle i.cells_are
      (subst (λ (r : ℕ). AreHeld middle r (after_walks start.residency (fetch_walks (e ∷ i.history) ++ walks))) (sym on.root_is) held) frames cycle
      (subst (λ (r : ℕ). SameBut r (table_count (pages_of start.residency)) before.contents middle.contents) (sym on.root_is) others)

  module _ (batching : EndLaws) (is-moving : IsMoving f t) (is : issued ≡ max fetched (course.retired + 1)) (late : issued + 1 ≤ n.looked)
      (through : IsThrough start i.history e course.retired issued f t k n root new free before middle) where
    abbrev batches : List BatchTimes
    batches = through.last ∷ through.own

    abbrev so : IsReached start i.history course.retired issued f batches [] n.looked n.committed n.before n.done
    so = through.transferring.reached

    abbrev pub completed : ℕ
    completed = max n.looked n.done

    at : completed_behind issued f n.looked n.done ≡ completed
    at = completes-at issued f.latency n.looked n.done is-moving.latency late

    abbrev retired-batch : BatchTimes
    retired-batch = record through.last { committed = e.retired }

    batches-are : e.batches ≡ retired-batch ∷ through.own
    batches-are = (λ j. retired_batches e.retired (all_batches start i.history [] (issued-is is j) f f.batches)) ∙ ap (retired_batches e.retired) so.whole

    data-are : walks_of_batches (batches ++ batches_of i.history) ≡ data_walks (e ∷ i.history)
    data-are = ap (λ (bs : List BatchTimes). walks_of_batches (bs ++ batches_of i.history)) (sym batches-are)

    accesses-are : accesses_of (batches ++ batches_of i.history) ≡ accesses_of (batches_of (e ∷ i.history))
    accesses-are = ap (λ (bs : List BatchTimes). accesses_of (bs ++ batches_of i.history)) (sym batches-are)

    none-by : (own : List BatchTimes) → IsReached start i.history course.retired issued f (through.last ∷ own) [] n.looked n.committed n.before n.done → (0 < length own → n.before < until) → list_any (ends until) (reached e own) ≡ false
    none-by [] reaches early = refl
    none-by (b ∷ own) reaches early = batching.none_ends start i.history course.retired issued f (through.last ∷ b ∷ own) [] n.looked n.committed n.before n.done until e reaches (early (omega arith))

    clock-is : clock_by (completed + 1) (accesses_of e.batches) ≡ completed + 1 + trap_cycles
    clock-is =
        let most : n.looked ≤ completed + 1 = omega arith in
        let over : max (completed + 1) n.done ≡ completed + 1 = omega arith in
        ap (λ (d : ℕ). max (completed + 1) d + trap_cycles)
        (batching.done start i.history i.now.state course.retired issued f batches n.looked n.committed n.before n.done (completed + 1) (issued-is is) so most)
        ∙ ap (λ (c : ℕ). c + trap_cycles) over

    kept-then : AreKept start (after_walks start.residency (fetch_walks (e ∷ i.history) ++ data_walks (e ∷ i.history))) first middle
    kept-then =
        subst (λ (ws : List Walk). AreKept start (after_walks start.residency (fetch_walks (e ∷ i.history) ++ ws)) first middle) data-are
        (kept-walks (walks_of_batches (batches ++ batches_of i.history)) through.transferring.ready.held through.transferring.frames through.transferring.cycle through.transferring.others)

    pub retiring-transfer : (k < t.movement.at.vstart + 65536) → (t.movement.at.vstart < k → n.before < until) → AreBy (completed + 1) free.stamps → step u ≡ Next v → rest_of placement after ≡ rest_of placement middle
        → IsRetiring start until from first course issued completed (k - t.movement.at.vstart) false true (record { loads = new; fetches = fetches; stamps = free }) after v
    retiring-transfer few early by steps same =
        let there : step (with_memory u.memory i.now.state) ≡ Next v = ap step (sym i.stands.is) ∙ steps in
        let stepped : (t : Flat) × (step i.now.state ≡ Next t) × StandsExactlyFor v t = laws.next i.now.state u.memory v i.formed i.stands.alike there in
        let most : n.looked ≤ completed + 1 = omega arith in
        let many : length through.own ≡ k - t.movement.at.vstart = omega (arith, through.count) in
        record {
          history = i.history;
          now = i.now;
          after = stepped.0;
          on = i.on;
          steps = stepped.1;
          issued_is = issued-is is;
          completed_is = batching.completed start i.history i.now.state course.retired issued f through.last through.own n.looked n.committed n.before n.done (issued-is is) so is-moving.stop is-moving.groups ∙ ap At at;
          before = reached e through.own;
          happens = batching.happens start i.history i.now.state course.retired issued f through.last through.own n.looked n.committed n.before n.done (issued-is is) so is-moving.stop is-moving.groups
              ∙ ap (λ (c : ℕ). reached e through.own ++ happening e Completes (c + 1) ∷ []) at;
          none_ends = none-by through.own so (λ some. early (omega (arith, many, some, through.count)));
          commits_are = through.commits e ∙ many;
          jumps_is = is-moving.jumps_is;
          changes_is = is-moving.changes_is;
          loads = subst (λ (ws : List Walk). tlb.StandsFor new (fills_of ws)) data-are through.transferring.ready.kept;
          fetches = i.fetches;
          banks = subst (λ (xs : List AccessTimes). banks.StandsFor free start.machine xs) accesses-are through.transferring.stands;
          stamps = by;
          walked = batching.walked start i.history i.now.state course.retired issued f batches n.looked n.committed n.before n.done (completed + 1) (issued-is is) so most
              ∙ sym (batching.all_walks start i.history i.now.state course.retired issued f batches n.looked n.committed n.before n.done (issued-is is) so);
          clock = clock-is;
          cells_are = kept-through paged placement start (fetch_walks (e ∷ i.history) ++ data_walks (e ∷ i.history)) first middle after kept on.placed
              (subst (λ (r : ℕ). AreAlone r start.residency) (sym on.root_is) on.alone) same kept-then;
          stands = laws.exact v stepped.0 stepped.2;
          formed = laws.formed i.now.state stepped.0 i.formed stepped.1;
          few = omega (arith, i.few, few);
        }
