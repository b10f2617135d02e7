-- A scalar load or store by what the calls of its arm tell: it retires, or the episode is over.
use Rattle.std.proofs.Common.{◌≡◌, ℕ, ◌+◌, ◌≤◌, max, true, false, List, [], ◌∷◌, ◌++◌, Some, map, refl, sym, ap, subst, ◌∙◌, arith}
use Rattle.std.specs.Prelude.{Option, option_to_list}
use Rattle.vx_base.specs.declared.machine.Fault.{Fault}
use Rattle.vx_base.specs.declared.machine.Want.{Want}
use Rattle.vx_base.specs.declared.perm.PageEntry.{PageEntry}
use Rattle.vx_base.specs.Page.{byte_of_words}
use Rattle.vx_cells.specs.Cells.{CellsState}
use Rattle.vx_decode.specs.declared.instr.Instr.{Instr}
use Rattle.vx_flat.specs.Access.{access_address, access_width}
use Rattle.vx_flat.specs.Checks.{cause_of}
use Rattle.vx_flat.specs.Continued.{continued}
use Rattle.vx_flat.specs.Outcome.Outcome.{Next, Faulted}
use Rattle.vx_flat.specs.Process.{Process}
use Rattle.vx_flat.specs.Scalar.{next_pc}
use Rattle.vx_flat.specs.Splits.{IsWellFormed}
use Rattle.vx_flat.specs.State.{Flat}
use Rattle.vx_flat.specs.Step.{meaning, step, upcoming}
use Rattle.vx_flat.specs.declared.upcoming.Upcoming.TheVariants.{Instruction}
use Rattle.vx_hart.specs.Outcomes.{outcome_next, outcome_of}
use Rattle.vx_hart.specs.declared.progress.Progress.{Progress}
use Rattle.vx_image.specs.Images.{entry_of_page}
use Rattle.vx_image.specs.Pages.{Memory}
use Rattle.vx_rows.specs.Table.{class_of}
use Rattle.vx_rows.specs.declared.row.Class.{Class}
use Rattle.vx_tables.specs.Residency.{IsOf}
use Rattle.vx_tlb.specs.declared.tlb.Kept.{Kept}
use Rattle.vx_episode.specs.Batches.{Fate}
use Rattle.vx_episode.specs.Batches.Fate.{Fails}
use Rattle.vx_episode.specs.Commits.{entry_of}
use Rattle.vx_episode.specs.Cycles.Cycle.{At}
use Rattle.vx_episode.specs.Episode.{trap_cycles}
use Rattle.vx_episode.specs.Footprint.{Access, footprint_of}
use Rattle.vx_episode.specs.History.{AccessTimes, BatchTimes, Entry, History, accesses_of, after_walks, batches_of, data_walks, fetch_walks}
use Rattle.vx_episode.specs.Instructions.{fetch_times, residency_now}
use Rattle.vx_episode.specs.Organisation.{Organisation, Start}
use Rattle.vx_episode.specs.Show.{Registers}
use Rattle.vx_episode.specs.declared.ended.Ended.TheVariants as ended
use Rattle.vx_quiet.specs.Quiet.{ended_by}
use Rattle.vx_course.specs.Course.{Course}
use Rattle.vx_look.specs.LookUps.{AreLookedUp, AreReady}
use Rattle.vx_paged.specs.Framed.{IsPlacement, entries_of, shown, shown_page}
use Rattle.vx_paged.specs.Left.{rest_of}
use Rattle.vx_paged.specs.declared.placement.FramedPage.{FramedPage}
use Rattle.vx_pending.specs.Alike.{AreAlike, StandsFor, with_memory}
use Rattle.vx_serve.specs.Fates.{told}
use Rattle.vx_serve.specs.InTurn.{is_good}
use Rattle.vx_serve.specs.Serving.{Serves}
use Rattle.vx_serve.specs.Stamps.{AreBy, BankStamps}
use Rattle.vx_serve.specs.Stamps as banks
use Rattle.vx_serve.specs.declared.fate.Fate.{Fate as Known}
use Rattle.vx_serve.specs.declared.served.Served.{Served}
use Rattle.vx_pipe.specs.Accessing.{IsAccessing, IsAccessClass, wanted_as}
use Rattle.vx_pipe.specs.Going.{AreKept, IsEpisodeOn, IsIssuing, IsOver}
use Rattle.vx_pipe.specs.Playing.{shown_state}
use Rattle.vx_pipe.specs.Retiring.{IsRetiring}
use Rattle.vx_pipe.proofs.AccessBatch.{BatchLaws}
use Rattle.vx_pipe.proofs.AccessFates.{StayThere}
use Rattle.vx_pipe.proofs.AccessSteps.{access_as, accesses, completes, fault-told, fault_for, faults, last-by, means, passes}
use Rattle.vx_pipe.proofs.AccessTruths.{PagesStay}
use Rattle.vx_pipe.proofs.Accessing.{ShownLaw, StopsLaw, fails-there, fate, fate-is, good-there, kept-failed, over-access, ready, retiring-access, shown-looked}
use Rattle.vx_pipe.proofs.Completing.{StepLaws}
use Rattle.vx_pipe.proofs.Kept.{PagedLaws}
use Rattle.vx_pipe.proofs.TransferFetched.{ComesFirst, SetsNothing}

-- what the crates below say
pub record ArmLaws : Type 0 where
  pub paged : PagedLaws
  pub steps : StepLaws
  pub batching : BatchLaws
  pub comes : ComesFirst
  pub nothing : SetsNothing
  pub pages : PagesStay
  pub stay : StayThere
  pub shows : ShownLaw
  pub stops : StopsLaw
  pub next : (s : Flat) (m : Memory) → IsWellFormed s → AreAlike s m → upcoming (with_memory m s) ≡ upcoming s
  pub faulted : (s : Flat) (m : Memory) (fault : Fault) (u : Flat) → IsWellFormed s → AreAlike s m → step (with_memory m s) ≡ Faulted fault u → (t : Flat) × (step s ≡ Faulted fault t) × StandsFor u t

-- ---- the pages that are shown

entries-shown : (memory : ℕ → ℕ) (placement : List FramedPage) → map entry_of_page (map (shown_page memory) placement) ≡ entries_of placement
entries-shown memory [] = refl
entries-shown memory (p ∷ placement) = ap (λ (entries : List PageEntry). p.entry ∷ entries) (entries-shown memory placement)

pub shown-of : (placement : List FramedPage) (contents : List ℕ) → map entry_of_page (shown placement contents) ≡ entries_of placement
unfolding shown
shown-of placement contents = entries-shown (byte_of_words contents) placement

-- ---- the arm

module _ (l : ArmLaws) (machine : Organisation) (root : ℕ) (placement : List FramedPage) (start : Start) (until : ℕ) (from : Process) (first : CellsState) (course : Course) (fetched : ℕ) (loads new fetches : List (Option Kept)) (stamps free : BankStamps) (before middle after : CellsState)
    (registers changed : Registers) (output : List ℕ) (word : ℕ) (i : Instr) (c : Class) (known : Known) (looked : ℕ) (told-as : Progress) (why : Fault) (wanted : Want) (address width issued time : ℕ) where
  abbrev pub u : Flat
  u = shown_state registers placement before output

  abbrev pub v : Flat
  v = shown_state changed placement after output

  module _ (on : IsEpisodeOn machine root placement start) (kept : IsPlacement placement) (it : IsIssuing start until from first course fetched (record { loads = loads; fetches = fetches; stamps = stamps }) before u)
      (is : IsAccessClass c) (of : c ≡ class_of i.op) (next : upcoming u ≡ meaning u word (Some i)) (issued-is : issued ≡ max fetched (course.retired + 1))
      (wanted-is : wanted ≡ wanted_as c) (address-is : address ≡ access_address i registers.x) (width-is : width ≡ access_width i.op) (time-is : machine.bank_time ≡ time)
      (looks-up : (start : Start) (history : History) (earlier : List BatchTimes) (a : Access) → start.machine.bank_time ≡ time → a.address ≡ address → a.width ≡ width
      → AreReady start history earlier root loads before → AreLookedUp start history earlier wanted (issued + 1) (a ∷ []) root new before middle (known ∷ []) looked)
      (late : issued + 1 ≤ looked)
      (same : rest_of placement after ≡ rest_of placement middle)
      (outcome : outcome_of told-as why v ≡ outcome_next (shown_state registers placement middle output) (meaning (shown_state registers placement middle output) word (Some i))) where
    abbrev want : Want
    want = wanted_as c

    abbrev a : Access
    a = access_as c u i

    abbrev e : Entry
    e = entry_of start it.history it.now.state

    at : upcoming u ≡ Instruction i
    at = next ∙ means c is u i of word

    accessing : IsAccessing (footprint_of machine u (upcoming u)) want a
    accessing = accesses c is u i of machine at

    time-there : start.machine.bank_time ≡ time
    time-there = ap (λ (m : Organisation). m.bank_time) on.machine_is ∙ time-is

    ready-here : AreReady start (e ∷ it.history) (batches_of it.history) root loads before
    ready-here = subst (λ (r : ℕ). AreReady start (e ∷ it.history) (batches_of it.history) r loads before) on.root_is (ready l.paged l.steps l.batching l.comes l.nothing machine root placement start until from first course fetched loads new fetches stamps free before middle after u v issued want a on kept it)

    looks : AreLookedUp start (e ∷ it.history) (batches_of it.history) want (issued + 1) (a ∷ []) start.root new before middle (known ∷ []) looked
    looks =
        subst (λ (r : ℕ). AreLookedUp start (e ∷ it.history) (batches_of it.history) want (issued + 1) (a ∷ []) r new before middle (known ∷ []) looked) (sym on.root_is)
        (subst (λ (w : Want). AreLookedUp start (e ∷ it.history) (batches_of it.history) w (issued + 1) (a ∷ []) root new before middle (known ∷ []) looked) wanted-is
        (looks-up start (e ∷ it.history) (batches_of it.history) a time-there (sym address-is) (sym width-is) ready-here))

    of-shown : IsOf start.residency u.memory
    of-shown = on.placed.entries ∙ sym (shown-of placement before.contents)

    abbrev pub cause : Option ℕ
    cause = cause_of u.memory want (access_address i u.x) (access_width i.op)

    same-shown : shown placement middle.contents ≡ shown placement before.contents
    same-shown = shown-looked l.paged l.steps l.batching l.comes l.nothing machine root placement start until from first course fetched loads new fetches stamps free before middle after u v issued want a on kept it accessing issued-is known looked looks l.shows

    outcome-here : outcome_of told-as why v ≡ outcome_next u (meaning u word (Some i))
    outcome-here =
        outcome
        ∙ ap (λ (m : Memory). outcome_next (record u { memory = m }) (meaning (record u { memory = m }) word (Some i))) same-shown

    -- ---- it is let through

    pub retires : is_good (told known) ≡ true → (served : Served)
        → ((machine : Organisation) (earlier : List AccessTimes) (access : Access) (fate_of : Access → Fate) → banks.StandsFor stamps machine earlier → fate_of access ≡ told known → Serves free machine earlier fate_of (access ∷ []) served)
        → ((last : ℕ) → AreBy last stamps.stamps → served.done ≤ last → AreBy last free.stamps)
        → IsRetiring start until from first course issued (max looked served.done) 0 false false (record { loads = new; fetches = fetches; stamps = free }) after v
    retires good served serves by =
        let there = good-there l.paged l.steps l.batching l.comes l.nothing machine root placement start until from first course fetched loads new fetches stamps free before middle after u v issued want a on kept it accessing issued-is known looked looks l.pages l.stay of-shown good in
        let stepped : step u ≡ Next v = completes c is u v i of at word told-as why outcome-here there.3 in
        let served-here : Serves free start.machine (accesses_of (batches_of it.history)) (fate l.paged l.steps l.batching l.comes l.nothing machine root placement start until from first course fetched loads new fetches stamps free before middle after u v issued want a on kept it accessing issued-is) (a ∷ []) served =
        serves start.machine (accesses_of (batches_of it.history)) a (fate l.paged l.steps l.batching l.comes l.nothing machine root placement start until from first course fetched loads new fetches stamps free before middle after u v issued want a on kept it accessing issued-is) it.banks (fate-is l.paged l.steps l.batching l.comes l.nothing machine root placement start until from first course fetched loads new fetches stamps free before middle after u v issued want a on kept it accessing issued-is known looked looks) in
        let most : served.done ≤ max looked served.done + 1 = omega arith in
        let early : AreBy (max looked served.done + 1) stamps.stamps = λ bank. omega (arith, it.stamps bank, issued-is, late) in
        retiring-access l.paged l.steps l.batching l.comes l.nothing machine root placement start until from first course fetched loads new fetches stamps free before middle after u v issued want a on kept it accessing issued-is known looked looks served served-here there.0 there.1 there.2 late (by (max looked served.done + 1) early most) stepped same

    -- ---- it fails

    module _ (bad : is_good (told known) ≡ false) where
      there : (cycle : ℕ) × (n : ℕ) × (told known ≡ Fails cycle false) × (cause ≡ Some n)
      there = fails-there l.paged l.steps l.batching l.comes l.nothing machine root placement start until from first course fetched loads new fetches stamps free before middle after u v issued want a on kept it accessing issued-is known looked looks l.pages l.stay of-shown bad

      abbrev fault : Fault
      fault = fault_for c is u v i of at word told-as why outcome-here there.1

      pub kept-then : AreKept start (residency_now start (e ∷ it.history)) first after
      kept-then = kept-failed l.paged l.steps l.batching l.comes l.nothing machine root placement start until from first course fetched loads new fetches stamps free before middle after u v issued want a on kept it accessing issued-is known looked looks there.0 there.2 refl late same

      pub is-over : (last : CellsState) (pc : ℕ) → pc ≡ next_pc registers.pc
          → AreKept start (after_walks start.residency ((ended_by looked (option_to_list (fetch_times start (e ∷ it.history) pc (At (issued + 1))).walk) ++ fetch_walks (e ∷ it.history)) ++ data_walks (e ∷ it.history))) first last
          → shown placement last.contents ≡ shown placement after.contents
          → IsOver start until from first (ended.Faulted why) (looked + trap_cycles) course last (shown_state changed placement last output)
      is-over last pc pc-is left shown-last =
          let faults-here : step u ≡ Faulted fault v = faults c is u v i of at word told-as why outcome-here there.1 there.3 in
          let same-why : why ≡ fault = last-by told-as why v u fault (fault-told c is u v i of at word told-as why outcome-here there.1 there.3) in
          let step-there : step (with_memory u.memory it.now.state) ≡ Faulted fault v = ap step (sym it.stands.is) ∙ faults-here in
          let found : (t : Flat) × (step it.now.state ≡ Faulted fault t) × StandsFor v t = l.faulted it.now.state u.memory fault v it.formed it.stands.alike step-there in
          let next-there : upcoming it.now.state ≡ Instruction i = sym (l.next it.now.state u.memory it.formed it.stands.alike) ∙ ap upcoming (sym it.stands.is) ∙ at in
          let pc-there : pc ≡ (continued it.now.state).pc =
          pc-is ∙ ap (λ (s : Flat). next_pc s.pc) it.stands.is ∙ sym (passes c is it.now.state i of fault found.0 next-there found.1) in
          let over : IsOver start until from first (ended.Faulted fault) (looked + trap_cycles) course last v =
          over-access l.paged l.steps l.batching l.comes l.nothing machine root placement start until from first course fetched loads new fetches stamps free before middle after u v issued want a on kept it accessing issued-is known looked looks there.0 there.2 refl late fault found.0 found.1 l.stops last pc pc-there left found.2 in
          subst (λ (m : Memory). IsOver start until from first (ended.Faulted why) (looked + trap_cycles) course last (record v { memory = m })) (sym shown-last)
          (subst (λ (f : Fault). IsOver start until from first (ended.Faulted f) (looked + trap_cycles) course last v) (sym same-why) over)
