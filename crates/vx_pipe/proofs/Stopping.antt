-- An instruction that stops its episode at its issue.
use Rattle.std.proofs.Common.{◌≡◌, ℕ, ◌+◌, max, Bool, true, eqb, List, [], ◌++◌, Some, None, refl, sym, ap, subst, ◌∙◌}
use Rattle.std.specs.Prelude.{Option, if◌then◌else◌, option_to_list, unwrap_or, option_and_then}
use Rattle.std.proofs.lemmas.Bool.{eq-eqb}
use Rattle.vx_base.specs.declared.machine.Fault.{Fault}
use Rattle.vx_cells.specs.Cells.{CellsState}
use Rattle.vx_flat.specs.Outcome.{Outcome}
use Rattle.vx_flat.specs.Outcome.Outcome.{Faulted}
use Rattle.vx_flat.specs.Prefix.{prefix_of, transfer_next}
use Rattle.vx_flat.specs.Process.{Process, after, stepped}
use Rattle.vx_flat.specs.Splits.{IsWellFormed}
use Rattle.vx_flat.specs.State.{Flat}
use Rattle.vx_flat.specs.Step.{step, upcoming}
use Rattle.vx_flat.specs.Transfers.{Transfer}
use Rattle.vx_flat.specs.declared.end.End.{End}
use Rattle.vx_image.specs.Pages.{Memory}
use Rattle.vx_episode.specs.Commits.{entry_of}
use Rattle.vx_episode.specs.Cycles.Cycle.{At}
use Rattle.vx_episode.specs.Episode.{stopped_at, trap_cycles, within}
use Rattle.vx_episode.specs.Footprint.{Footprint, footprint, footprint_of}
use Rattle.vx_episode.specs.History.{History, Entry, after_walks, data_walks, fetch_walks}
use Rattle.vx_episode.specs.Organisation.{Organisation, Start}
use Rattle.vx_episode.specs.declared.ended.Ended.{Ended}
use Rattle.vx_episode.specs.declared.ended.Ended.TheVariants as ended
use Rattle.vx_hart.specs.Asking.{is_service}
use Rattle.vx_course.specs.Course.{Course, EndsAs, IsOnCourse}
use Rattle.vx_paged.specs.Framed.{IsPlacement}
use Rattle.vx_paged.specs.Left.{rest_of}
use Rattle.vx_paged.specs.Placed.{AreAlone}
use Rattle.vx_paged.specs.declared.placement.FramedPage.{FramedPage}
use Rattle.vx_pending.specs.Alike.{AreAlike, StandsFor, with_memory}
use Rattle.vx_pipe.specs.Going.{Caches, IsEpisodeOn, IsIssuing, IsOver, fetches_with}
use Rattle.vx_pipe.specs.Left.{HasCome}
use Rattle.vx_pipe.specs.Plain.{IsStopping}
use Rattle.vx_pipe.proofs.Come.{come-faulted, come-service}
use Rattle.vx_pipe.proofs.Completing.{StepLaws, footprint-shown}
use Rattle.vx_pipe.proofs.Kept.{PagedLaws, kept-through}

-- ---- the process at a stop

-- a process that waits at its vstart is as it was
pub waits : (p : Process) → (within p.state.v.vstart p).state ≡ p.state
waits p =
    let here : eqb p.state.v.vstart p.state.v.vstart ≡ true = eq-eqb p.state.v.vstart p.state.v.vstart refl in
    ap (λ (b : Bool). unwrap_or (if b then Some p.state else option_and_then (λ (t : Transfer). prefix_of t p.state.v.vstart p.state) (transfer_next p.state (upcoming p.state))) p.state) here

-- one that faulted is in the state of the fault
pub faults : (p : Process) (fault : Fault) (t : Flat) → p.over ≡ None → step p.state ≡ Faulted fault t → (stepped p).state ≡ t
faults p fault t over is =
    ap (λ (o : Option End). (elim o as (λ _. Process) [ None ↦ after p (step p.state) | Some e ↦ p ]).state) over
    ∙ ap (λ (r : Outcome). (after p r).state) is

-- ---- the episode is over at the issue

-- what vx_course says of such an end
abbrev pub AtIssue : Type 0
AtIssue = (start : Start) (until : ℕ) (from : Process) (course : Course) (history : History) (now : Process) (e : Entry) (f : Footprint) (why : Ended) (fetched issued : ℕ)
    → IsOnCourse start until from course history now → start.machine.window ≡ 1
    → e ≡ entry_of start history now.state → f ≡ footprint start.machine start.has_vectors start.residency now.state
    → f.stop ≡ Some why → f.batches ≡ [] → e.fetch.ended ≡ At fetched → issued ≡ max fetched (course.retired + 1)
    → EndsAs start until from (record {
      ended = why;
      last = issued;
      clock = issued + trap_cycles;
      process = stopped_at why now.state.v.vstart now;
      residency = after_walks start.residency (option_to_list e.fetch.walk ++ fetch_walks history ++ data_walks history);
      commits = course.commits;
      completed = course.completed;
      changed_vectors = course.changed;
    })

module _ (paged : PagedLaws) (laws : StepLaws) (at_issue : AtIssue) (machine : Organisation) (root : ℕ) (placement : List FramedPage) (start : Start) (until : ℕ) (from : Process) (first : CellsState) (course : Course) (fetched : ℕ) (caches : Caches) (before after : CellsState) (u v : Flat) (issued : ℕ) (why : Ended)
    (on : IsEpisodeOn machine root placement start) (kept : IsPlacement placement) (i : IsIssuing start until from first course fetched caches before u) where
  over-as : IsStopping (footprint_of machine u (upcoming u)) why → issued ≡ max fetched (course.retired + 1) → rest_of placement after ≡ rest_of placement before → StandsFor v (stopped_at why i.now.state.v.vstart i.now).state
      → HasCome from (stopped_at why i.now.state.v.vstart i.now) why course.completed → IsOver start until from first why (issued + trap_cycles) course after v
  over-as stop is same stands come =
      let there : footprint_of machine u (upcoming u) ≡ footprint start.machine start.has_vectors start.residency i.now.state =
      ap (λ (m : Organisation). footprint_of m u (upcoming u)) (sym on.machine_is) ∙ sym (footprint-shown laws machine root placement start i.now.state u on i.formed i.stands) in
      let stops : IsStopping (footprint start.machine start.has_vectors start.residency i.now.state) why = subst (λ (g : Footprint). IsStopping g why) there stop in
      let e : Entry = entry_of start i.history i.now.state in
      record {
        ending = record {
          ended = why;
          last = issued;
          clock = issued + trap_cycles;
          process = stopped_at why i.now.state.v.vstart i.now;
          residency = after_walks start.residency (option_to_list (entry_of start i.history i.now.state).fetch.walk ++ fetch_walks i.history ++ data_walks i.history);
          commits = course.commits;
          completed = course.completed;
          changed_vectors = course.changed;
        };
        ends = at_issue start until from course i.history i.now (entry_of start i.history i.now.state) (footprint start.machine start.has_vectors start.residency i.now.state) why fetched issued
            i.on (ap (λ (m : Organisation). m.window) on.machine_is ∙ on.window) refl refl stops.stop stops.batches i.ended is;
        ended_is = refl;
        clock_is = refl;
        commits_are = refl;
        completed_are = refl;
        changed_is = refl;
        walks = option_to_list (entry_of start i.history i.now.state).fetch.walk ++ fetch_walks i.history ++ data_walks i.history;
        walked = refl;
        cells_are = kept-through paged placement start (fetches_with (entry_of start i.history i.now.state) i.history ++ data_walks i.history) first before after kept on.placed
            (subst (λ (r : ℕ). AreAlone r start.residency) (sym on.root_is) on.alone) same i.cells_are;
        stands = stands;
        come = come;
      }

-- the same by what became of the instruction
module _ (paged : PagedLaws) (laws : StepLaws) (at_issue : AtIssue) (machine : Organisation) (root : ℕ) (placement : List FramedPage) (start : Start) (until : ℕ) (from : Process) (first : CellsState) (course : Course) (fetched : ℕ) (caches : Caches) (before after : CellsState) (u v : Flat) (issued : ℕ)
    (on : IsEpisodeOn machine root placement start) (kept : IsPlacement placement) (i : IsIssuing start until from first course fetched caches before u) where
  pub over-service : ((s : Flat) (m : Memory) → IsWellFormed s → AreAlike s m → upcoming (with_memory m s) ≡ upcoming s) → is_service (upcoming u) ≡ true
      → IsStopping (footprint_of machine u (upcoming u)) ended.Service → issued ≡ max fetched (course.retired + 1) → rest_of placement after ≡ rest_of placement before → v ≡ u
      → IsOver start until from first ended.Service (issued + trap_cycles) course after v
  over-service next asks stop is same here =
      let there : is_service (upcoming i.now.state) ≡ true =
      ap is_service (sym (next i.now.state u.memory i.formed i.stands.alike)) ∙ ap (λ (s : Flat). is_service (upcoming s)) (sym i.stands.is) ∙ asks in
      over-as paged laws at_issue machine root placement start until from first course fetched caches before after u v issued ended.Service on kept i stop is same
      (subst (λ (s : Flat). StandsFor v s) (sym (waits i.now)) (subst (λ (w : Flat). StandsFor w i.now.state) (sym here) i.stands))
      (come-service start until from course.completed i.history i.now i.on.under_way (waits i.now) i.formed there)

  pub over-faulted : ((s : Flat) (m : Memory) (fault : Fault) (u : Flat) → IsWellFormed s → AreAlike s m → step (with_memory m s) ≡ Faulted fault u → (t : Flat) × (step s ≡ Faulted fault t) × StandsFor u t) → (fault : Fault)
      → IsStopping (footprint_of machine u (upcoming u)) (ended.Faulted fault) → issued ≡ max fetched (course.retired + 1) → rest_of placement after ≡ rest_of placement before → step u ≡ Faulted fault v
      → IsOver start until from first (ended.Faulted fault) (issued + trap_cycles) course after v
  over-faulted faulted fault stop is same steps =
      let there : step (with_memory u.memory i.now.state) ≡ Faulted fault v = ap step (sym i.stands.is) ∙ steps in
      let found : (t : Flat) × (step i.now.state ≡ Faulted fault t) × StandsFor v t = faulted i.now.state u.memory fault v i.formed i.stands.alike there in
      over-as paged laws at_issue machine root placement start until from first course fetched caches before after u v issued (ended.Faulted fault) on kept i stop is same
      (subst (λ (s : Flat). StandsFor v s) (sym (faults i.now fault found.0 i.on.under_way.is_not_over found.1)) found.2)
      (come-faulted start until from course.completed i.history i.now i.on.under_way fault found.0 i.now.state.v.vstart found.1)
