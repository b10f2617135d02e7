-- An instruction without accesses, from its issue to its retire.
use Rattle.std.proofs.Common.{◌≡◌, ℕ, ◌+◌, max, Bool, List, [], ◌∷◌, ◌++◌, None, refl, sym, ap, subst, ◌∙◌, arith}
use Rattle.vx_cells.specs.Cells.{CellsState}
use Rattle.vx_flat.specs.Outcome.Outcome.{Next}
use Rattle.vx_flat.specs.Process.{Process}
use Rattle.vx_flat.specs.Splits.{IsWellFormed}
use Rattle.vx_flat.specs.State.{Flat}
use Rattle.vx_flat.specs.Step.{step, upcoming}
use Rattle.vx_image.specs.Pages.{Memory}
use Rattle.vx_tables.specs.Residency.{Residency}
use Rattle.vx_tlb.specs.Kept as tlb
use Rattle.vx_episode.specs.Batches.{all_batches, retired_batches}
use Rattle.vx_episode.specs.Commits.{entry_of, happening, happenings_of, timed}
use Rattle.vx_episode.specs.Commits.What.{Completes}
use Rattle.vx_episode.specs.Cycles.Cycle.{At}
use Rattle.vx_episode.specs.Episode.{trap_cycles}
use Rattle.vx_episode.specs.Footprint.{Batch, Footprint, footprint, footprint_of}
use Rattle.vx_episode.specs.History.{History, Entry, Walk, AccessTimes, BatchTimes, accesses_of, batches_of, data_walks, fetch_walks, fills_of, after_walks, last_retire, walks_of_batches}
use Rattle.vx_episode.specs.Organisation.{Organisation, Start}
use Rattle.vx_quiet.specs.Quiet.{IsQuiet, completed_at, ended_by}
use Rattle.vx_course.specs.Course.{Course, clock_by}
use Rattle.vx_paged.specs.Framed.{IsPlacement}
use Rattle.vx_paged.specs.Left.{rest_of}
use Rattle.vx_paged.specs.Placed.{AreAlone}
use Rattle.vx_paged.specs.declared.placement.FramedPage.{FramedPage}
use Rattle.vx_pending.specs.Alike.{AreAlike, StandsExactlyFor, StandsFor, with_memory}
use Rattle.vx_serve.specs.Stamps as banks
use Rattle.vx_pipe.specs.Going.{AreKept, Caches, IsEpisodeOn, IsIssuing, fetches_with}
use Rattle.vx_pipe.specs.Plain.{IsWithoutAccesses}
use Rattle.vx_pipe.specs.Retiring.{IsRetiring}
use Rattle.vx_pipe.proofs.Footprints.{footprint-is}
use Rattle.vx_pipe.proofs.Kept.{PagedLaws, kept-through, present}

-- what vx_pending and vx_flat say of steps, and vx_quiet of instructions without accesses
pub record StepLaws : Type 0 where
  pub next : (s : Flat) (m : Memory) (u : Flat) → IsWellFormed s → AreAlike s m → step (with_memory m s) ≡ Next u → (t : Flat) × (step s ≡ Next t) × StandsExactlyFor u t
  pub exact : (u t : Flat) → StandsExactlyFor u t → StandsFor u t
  pub formed : (s t : Flat) → IsWellFormed s → step s ≡ Next t → IsWellFormed t
  pub footprints : (machine : Organisation) (has_vectors : Bool) (residency : Residency) (s : Flat) (m : Memory) → IsWellFormed s → AreAlike s m → footprint machine has_vectors residency (with_memory m s) ≡ footprint machine has_vectors residency s
  pub issued : (start : Start) (history : History) (s : Flat) (f : Footprint) (retired fetched : ℕ) → IsQuiet start history retired → start.machine.window ≡ 1
      → (timed start history s f).fetch.ended ≡ At fetched → (timed start history s f).issued ≡ At (max fetched (retired + 1))
  pub completed : (start : Start) (history : History) (s : Flat) (f : Footprint) (retired fetched : ℕ) → IsQuiet start history retired → start.machine.window ≡ 1
      → f.stop ≡ None → f.batches ≡ [] → (timed start history s f).fetch.ended ≡ At fetched
      → (timed start history s f).completed ≡ At (completed_at (max fetched (retired + 1)) f)
  pub happens : (start : Start) (history : History) (s : Flat) (f : Footprint) (retired completed : ℕ) → IsQuiet start history retired → start.machine.window ≡ 1
      → f.stop ≡ None → f.batches ≡ [] → (timed start history s f).completed ≡ At completed
      → happenings_of (last_retire start.cycle history) (timed start history s f) ≡ happening (timed start history s f) Completes (completed + 1) ∷ []

pub no-batches : (start : Start) (history : History) (s : Flat) (f : Footprint) → f.batches ≡ [] → (timed start history s f).batches ≡ []
no-batches start history s f none =
    ap (λ (bs : List Batch). retired_batches (timed start history s f).retired (all_batches start history [] (timed start history s f).issued f bs)) none

-- ---- what an entry without batches adds

module _ (start : Start) (history : History) (e : Entry) (none : e.batches ≡ []) where
  pub data-same : data_walks history ≡ data_walks (e ∷ history)
  data-same = ap (λ (bs : List BatchTimes). walks_of_batches (bs ++ batches_of history)) (sym none)

  pub accesses-same : accesses_of (batches_of history) ≡ accesses_of (batches_of (e ∷ history))
  accesses-same = ap (λ (bs : List BatchTimes). accesses_of (bs ++ batches_of history)) (sym none)

  pub walked-same : (last : ℕ) → ended_by last (walks_of_batches e.batches) ≡ walks_of_batches e.batches
  walked-same last = subst (λ (bs : List BatchTimes). ended_by last (walks_of_batches bs) ≡ walks_of_batches bs) (sym none) refl

  pub clock-same : (last : ℕ) → clock_by last (accesses_of e.batches) ≡ last + trap_cycles
  clock-same last = subst (λ (bs : List BatchTimes). clock_by last (accesses_of bs) ≡ last + trap_cycles) (sym none) (let it : max last 0 ≡ last = omega arith in ap (λ (n : ℕ). n + trap_cycles) it)

-- ---- the footprint of what is shown is that of the process

pub footprint-shown : (laws : StepLaws) (machine : Organisation) (root : ℕ) (placement : List FramedPage) (start : Start) (s u : Flat) → IsEpisodeOn machine root placement start → IsWellFormed s → StandsFor u s
    → footprint start.machine start.has_vectors start.residency s ≡ footprint_of start.machine u (upcoming u)
footprint-shown laws machine root placement start s u on formed stands =
    sym (laws.footprints start.machine start.has_vectors start.residency s u.memory formed stands.alike)
    ∙ ap (λ (t : Flat). footprint start.machine start.has_vectors start.residency t) (sym stands.is)
    ∙ ap (λ (b : Bool). footprint start.machine b start.residency u) on.vectors
    ∙ footprint-is start.machine start.residency u (present placement start.residency on.placed.frames)

module _ (paged : PagedLaws) (laws : StepLaws) (machine : Organisation) (root : ℕ) (placement : List FramedPage) (start : Start) (until : ℕ) (from : Process) (first : CellsState) (course : Course) (fetched : ℕ) (caches : Caches) (before after : CellsState) (u v : Flat) (span issued : ℕ) (jumps changes : Bool)
    (on : IsEpisodeOn machine root placement start) (kept : IsPlacement placement) (i : IsIssuing start until from first course fetched caches before u) where
  abbrev f : Footprint
  f = footprint start.machine start.has_vectors start.residency i.now.state

  abbrev e : Entry
  e = entry_of start i.history i.now.state

  retiring-as : IsWithoutAccesses f span jumps changes → start.machine.window ≡ 1 → issued ≡ max fetched (course.retired + 1) → ((t : Flat) × (step i.now.state ≡ Next t) × StandsExactlyFor v t) → rest_of placement after ≡ rest_of placement before
      → IsRetiring start until from first course issued (issued + span) 0 jumps changes caches after v
  retiring-as plain window is stepped same =
      let none : e.batches ≡ [] = no-batches start i.history i.now.state f plain.batches in
      let completes : e.completed ≡ At (issued + span) =
      laws.completed start i.history i.now.state f course.retired fetched i.on.quiet window plain.stop plain.batches i.ended
      ∙ ap (λ (n : ℕ). At (completed_at n f)) (sym is) ∙ ap At (plain.completes issued) in
      record {
        history = i.history;
        now = i.now;
        after = stepped.0;
        on = i.on;
        steps = stepped.1;
        issued_is = laws.issued start i.history i.now.state f course.retired fetched i.on.quiet window i.ended ∙ ap At (sym is);
        completed_is = completes;
        before = [];
        happens = laws.happens start i.history i.now.state f course.retired (issued + span) i.on.quiet window plain.stop plain.batches completes;
        none_ends = refl;
        commits_are = refl;
        jumps_is = plain.jumps_is;
        changes_is = plain.changes_is;
        loads = subst (λ (ws : List Walk). tlb.StandsFor caches.loads (fills_of ws)) (data-same start i.history e none) i.loads;
        fetches = i.fetches;
        banks = subst (λ (xs : List AccessTimes). banks.StandsFor caches.stamps start.machine xs) (accesses-same start i.history e none) i.banks;
        stamps = λ bank. omega (arith, i.stamps bank, is);
        walked = walked-same start i.history e none (issued + span + 1);
        clock = clock-same start i.history e none (issued + span + 1);
        cells_are = subst (λ (ws : List Walk). AreKept start (after_walks start.residency (fetch_walks (e ∷ i.history) ++ ws)) first after) (data-same start i.history e none)
            (kept-through paged placement start (fetches_with e i.history ++ data_walks i.history) first before after kept on.placed (subst (λ (r : ℕ). AreAlone r start.residency) (sym on.root_is) on.alone) same i.cells_are);
        stands = laws.exact v stepped.0 stepped.2;
        formed = laws.formed i.now.state stepped.0 i.formed stepped.1;
        few = omega (arith, i.few);
      }

  -- an instruction that completes without an access
  pub retiring : IsWithoutAccesses (footprint_of machine u (upcoming u)) span jumps changes → issued ≡ max fetched (course.retired + 1) → step u ≡ Next v → rest_of placement after ≡ rest_of placement before
      → IsRetiring start until from first course issued (issued + span) 0 jumps changes caches after v
  retiring plain is steps same =
      let there : footprint_of machine u (upcoming u) ≡ f =
      ap (λ (m : Organisation). footprint_of m u (upcoming u)) (sym on.machine_is) ∙ sym (footprint-shown laws machine root placement start i.now.state u on i.formed i.stands) in
      let stepped : step (with_memory u.memory i.now.state) ≡ Next v = ap step (sym i.stands.is) ∙ steps in
      retiring-as (subst (λ (g : Footprint). IsWithoutAccesses g span jumps changes) there plain) (ap (λ (m : Organisation). m.window) on.machine_is ∙ on.window) is
      (laws.next i.now.state u.memory v i.formed i.stands.alike stepped) same
