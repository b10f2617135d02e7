-- A scalar load or store that doesn't fail, from its issue to its retire.
use Rattle.std.proofs.Common.{◌≡◌, ℕ, ◌+◌, ◌<◌, ◌≤◌, max, Bool, true, false, ◌&&◌, ◌||◌, List, [], ◌∷◌, ◌++◌, Some, None, refl, sym, ap, subst, ◌∙◌, arith, append_assoc}
use Rattle.std.specs.Prelude.{Option, IfSome, if◌then◌else◌, nat_lt, option_to_list}
use Rattle.std.specs.List.{list_any}
use Rattle.std.proofs.lemmas.Bool.{false≢true}
use Rattle.std.proofs.lemmas.Grind.{flat_map-append}
use Rattle.std.proofs.lemmas.List.{append-nil}
use Rattle.std.proofs.lemmas.List.Elements.{All-head}
use Rattle.vx_base.specs.declared.machine.Fault.{Fault}
use Rattle.vx_base.specs.declared.machine.Want.{Want}
use Rattle.vx_base.specs.declared.machine.Want.TheVariants.{Load, Store}
use Rattle.vx_cells.specs.Cells.{CellsState}
use Rattle.vx_decode.specs.declared.instr.Instr.{Instr}
use Rattle.vx_flat.specs.Checks.{cause_of}
use Rattle.vx_flat.specs.Continued.{continued}
use Rattle.vx_flat.specs.Outcome.{Outcome}
use Rattle.vx_flat.specs.Outcome.Outcome.{Next, Faulted}
use Rattle.vx_flat.specs.Process.{Process}
use Rattle.vx_flat.specs.State.{Flat, register}
use Rattle.vx_flat.specs.Step.{step, upcoming}
use Rattle.vx_image.specs.Pages.{is_canonical, page_of}
use Rattle.vx_base.specs.declared.machine.Want.TheVariants.{Fetch}
use Rattle.vx_tables.specs.Caches.{look_up}
use Rattle.vx_tables.specs.Residency.{IsOf, Residency, is_store, pages_of}
use Rattle.vx_tables.specs.Tables.{AreHeld, SameBut, table_count}
use Rattle.vx_tables.specs.declared.look.Look.{Look}
use Rattle.vx_tables.specs.declared.look.Look.TheVariants.{Hit, Denied, Miss}
use Rattle.vx_tlb.specs.Kept as tlb
use Rattle.vx_tlb.specs.declared.tlb.Kept.{Kept}
use Rattle.vx_episode.specs.Batches.{Fate, fate_of}
use Rattle.vx_episode.specs.Batches.Fate.{Good, Fails, Unknown}
use Rattle.vx_episode.specs.Commits.{Happening, ends, entry_of, happening, happenings_of}
use Rattle.vx_episode.specs.Commits.What.{Completes, Stops}
use Rattle.vx_episode.specs.Cycles.{Cycle}
use Rattle.vx_episode.specs.Cycles.Cycle.{At, Never}
use Rattle.vx_episode.specs.Episode.{stopped_at, trap_cycles}
use Rattle.vx_episode.specs.Footprint.{Access, Footprint, ended_by as ended_with, footprint, footprint_of, loading, scalar_access, storing}
use Rattle.vx_episode.specs.History.{History, Entry, Walk, AccessTimes, BatchTimes, accesses_of, after_walks, batches_of, data_walks, fetch_walks, fills_of, last_retire, walks_of_batches}
use Rattle.vx_episode.specs.Instructions.{fetch_begin, fetch_by, fetch_times, residency_now}
use Rattle.vx_episode.specs.Organisation.{Organisation, Start, fetch_entries}
use Rattle.vx_episode.specs.declared.ended.Ended.{Ended}
use Rattle.vx_episode.specs.declared.ended.Ended.TheVariants as ended
use Rattle.vx_quiet.specs.Quiet.{ended_by}
use Rattle.vx_ending.specs.Counts.{changes_in, commits_in}
use Rattle.vx_course.specs.Course.{Course, Ending, EndsAs, IsOnCourse, clock_by, ending_of, fetch_behind, walk_behind}
use Rattle.vx_look.specs.LookUps.{AreLookedUp, AreLookedUpBy, AreReady}
use Rattle.vx_paged.specs.Framed.{IsPlacement, shown}
use Rattle.vx_paged.specs.Left.{rest_of}
use Rattle.vx_paged.specs.Placed.{AreAlone, IsPlacedAs}
use Rattle.vx_paged.specs.declared.placement.FramedPage.{FramedPage}
use Rattle.vx_pending.specs.Alike.{StandsExactlyFor, StandsFor, with_memory}
use Rattle.vx_serve.specs.Fates.{told}
use Rattle.vx_serve.specs.InTurn.{is_good}
use Rattle.vx_serve.specs.Serving.{Serves, failing_from, done_by, served_of}
use Rattle.vx_serve.specs.Stamps.{AreBy, BankStamps}
use Rattle.vx_serve.specs.Stamps as banks
use Rattle.vx_serve.specs.declared.fate.Fate.{Fate as Known}
use Rattle.vx_serve.specs.declared.served.Served.{Served}
use Rattle.vx_pipe.specs.Accessing.{IsAccessing}
use Rattle.vx_pipe.specs.Going.{AreKept, IsEpisodeOn, IsIssuing, IsOver, fetches_with}
use Rattle.vx_pipe.specs.Retiring.{IsRetiring}
use Rattle.vx_pipe.proofs.AccessBatch.{BatchLaws, accesses-are, all-done, completed-at, data-are, happens, own-walks, stops-all-walks, stops-done, stops-happens, stops-walks, walked}
use Rattle.vx_pipe.proofs.AccessFates.{Agrees, StayThere, fate-agrees, own-walks as walks-own}
use Rattle.vx_pipe.proofs.AccessTruths.{AreAnswered, PagesStay, first-answered}
use Rattle.vx_pipe.proofs.Come.{come-faulted}
use Rattle.vx_pipe.proofs.Completing.{StepLaws, footprint-shown}
use Rattle.vx_pipe.proofs.Fetched.{kept-by}
use Rattle.vx_pipe.proofs.Kept.{PagedLaws, kept-through, present}
use Rattle.vx_pipe.proofs.Stopping.{faults}
use Rattle.vx_pipe.proofs.TransferFates.{all-good}
use Rattle.vx_pipe.proofs.TransferFetched.{ComesFirst, SetsNothing, walks-same}

-- ---- the footprints

pub loading-is : (s : Flat) (i : Instr) → IsAccessing (loading s i) Load (scalar_access s i None)
loading-is s i = record { stop = refl; groups = refl; latency = refl; wants = refl; batches = refl; never_trims = refl; jumps_is = refl; changes_is = refl }

pub storing-is : (s : Flat) (i : Instr) → IsAccessing (storing s i) Store (scalar_access s i (Some (register s i.rs2)))
storing-is s i = record { stop = refl; groups = refl; latency = refl; wants = refl; batches = refl; never_trims = refl; jumps_is = refl; changes_is = refl }

-- ---- the walk of a fetch is for no store

fetched-by : (start : Start) (history : History) (pc begun : ℕ) (l : Look) → IfSome (fetch_by start history pc begun l).walk (λ (w : Walk). is_store w.want ≡ false)
fetched-by start history pc begun (Hit frame) = tt
fetched-by start history pc begun Denied = tt
fetched-by start history pc begun Miss = refl

fetched-if : (start : Start) (history : History) (pc begun : ℕ) (l : Look) (b : Bool) → IfSome (if b then fetch_by start history pc begun l else record { begun = At begun; ended = At begun; walk = None }).walk (λ (w : Walk). is_store w.want ≡ false)
fetched-if start history pc begun l true = fetched-by start history pc begun l
fetched-if start history pc begun l false = tt

pub fetch-loads : (start : Start) (history : History) (pc : ℕ) (c : Cycle) → IfSome (fetch_times start history pc c).walk (λ (w : Walk). is_store w.want ≡ false)
fetch-loads start history pc (At begun) = fetched-if start history pc begun (look_up fetch_entries (fills_of (fetch_walks history)) (page_of pc) Fetch) (is_canonical pc)
fetch-loads start history pc Never = tt

-- ---- fates

failing-as : (x : Fate) (cause : Option ℕ) → is_good x ≡ false → (failing_from 0 (x ∷ []) ≡ None → is_good x ≡ true) → Agrees cause x
    → (cycle : ℕ) × (n : ℕ) × (x ≡ Fails cycle false) × (cause ≡ Some n)
failing-as (Good cycle word) cause bad known h = absurd (cc)
failing-as (Fails cycle is_away) cause bad known h = (cycle, h.1.0, ap (λ (b : Bool). Fails cycle b) h.0, h.1.1)
failing-as Unknown cause bad known h = absurd (false≢true (known refl))

good-as : (x : Fate) (cause : Option ℕ) → is_good x ≡ true → Agrees cause x → (cycle : ℕ) × (word : ℕ) × (x ≡ Good cycle word) × (cause ≡ None)
good-as (Good cycle word) cause good h = (cycle, word, refl, h)
good-as (Fails cycle is_away) cause good h = absurd (cc)
good-as Unknown cause good h = absurd (cc)

same-or : (b : Bool) → b ≡ (b || false || false)
same-or true = refl
same-or false = refl

-- what vx_course says of an episode that ends at a stop
abbrev pub StopsLaw : Type 0
StopsLaw = (start : Start) (until : ℕ) (from : Process) (course : Course) (history : History) (now : Process) (e : Entry) (f : Footprint) (before after : List Happening) (why : Ended) (first element issued cycle : ℕ)
    → IsOnCourse start until from course history now → start.machine.window ≡ 1
    → e ≡ entry_of start history now.state → f ≡ footprint start.machine start.has_vectors start.residency now.state → e.issued ≡ At issued
    → happenings_of (last_retire start.cycle history) e ≡ before ++ happening e (Stops why first element) cycle ∷ after → list_any (ends until) before ≡ false
    → EndsAs start until from (ending_of start history e (walk_behind start history e (continued now.state).pc (fetch_behind f issued)) cycle why (stopped_at why element now)
    (course.commits + commits_in before + (if nat_lt first element then 1 else 0)) course.completed
    (course.changed || changes_in before || (nat_lt first element && f.changes_vectors)))

-- ---- from the issue to the retire

-- walks leave the memory that is shown
abbrev pub ShownLaw : Type 0
ShownLaw = (placement : List FramedPage) (first : ℕ) (residency : Residency) (before after : List ℕ) → IsPlacement placement → IsPlacedAs placement residency → AreAlone first residency
    → SameBut first (table_count (pages_of residency)) before after → shown placement after ≡ shown placement before

module _ (paged : PagedLaws) (laws : StepLaws) (batching : BatchLaws) (comes : ComesFirst) (nothing : SetsNothing) (machine : Organisation) (root : ℕ) (placement : List FramedPage) (start : Start) (until : ℕ) (from : Process) (first : CellsState) (course : Course) (fetched : ℕ) (loads new fetches : List (Option Kept)) (stamps free : BankStamps) (before middle after : CellsState) (u v : Flat) (issued : ℕ) (want : Want) (a : Access)
    (on : IsEpisodeOn machine root placement start) (kept : IsPlacement placement) (i : IsIssuing start until from first course fetched (record { loads = loads; fetches = fetches; stamps = stamps }) before u) where
  abbrev pub f : Footprint
  f = footprint start.machine start.has_vectors start.residency i.now.state

  abbrev pub e : Entry
  e = entry_of start i.history i.now.state

  abbrev pub earlier : List BatchTimes
  earlier = batches_of i.history

  -- what the look-up needs
  pub ready : AreReady start (e ∷ i.history) earlier start.root loads before
  ready = record { kept = i.loads; held = i.cells_are.held }

  module _ (accesses : IsAccessing (footprint_of machine u (upcoming u)) want a) (is : issued ≡ max fetched (course.retired + 1)) where
    pub accessing : IsAccessing f want a
    accessing =
        subst (λ (g : Footprint). IsAccessing g want a)
        (ap (λ (m : Organisation). footprint_of m u (upcoming u)) (sym on.machine_is) ∙ sym (footprint-shown laws machine root placement start i.now.state u on i.formed i.stands)) accesses

    pub issued-is : e.issued ≡ At issued
    issued-is = laws.issued start i.history i.now.state f course.retired fetched i.on.quiet (ap (λ (m : Organisation). m.window) on.machine_is ∙ on.window) i.ended ∙ ap At (sym is)

    abbrev pub walks : List Walk
    walks = own-walks start i.history earlier f (issued + 1) a

    abbrev pub fate : Access → Fate
    fate = fate_of start i.history earlier f.want (issued + 1) walks

    module _ (known : Known) (looked : ℕ) (looks : AreLookedUp start (e ∷ i.history) earlier want (issued + 1) (a ∷ []) start.root new before middle (known ∷ []) looked) where
      pub own : AreLookedUpBy start (e ∷ i.history) earlier f.want (issued + 1) (a ∷ []) walks start.root new before middle (known ∷ []) looked
      own =
          subst (λ (ws : List Walk). AreLookedUpBy start (e ∷ i.history) earlier f.want (issued + 1) (a ∷ []) ws start.root new before middle (known ∷ []) looked)
          (walks-same comes nothing start i.history e earlier f.want (issued + 1) (fetch-loads start i.history i.now.state.pc (fetch_begin start i.history)) [] (a ∷ []))
          (subst (λ (w : Want). AreLookedUp start (e ∷ i.history) earlier w (issued + 1) (a ∷ []) start.root new before middle (known ∷ []) looked) (sym accessing.wants) looks)

      -- the walks of the instruction's batch come to those so far
      abbrev pub residency-looked : Residency
      residency-looked = after_walks start.residency (fetch_walks (e ∷ i.history) ++ walks ++ data_walks i.history)

      pub alone-is : AreAlone start.root start.residency
      alone-is = subst (λ (r : ℕ). AreAlone r start.residency) (sym on.root_is) on.alone

      kept-looked : AreKept start residency-looked first middle
      kept-looked = kept-by start (after_walks start.residency (fetches_with e i.history ++ data_walks i.history)) residency-looked first before middle i.cells_are own.held own.frames own.cycle own.others

      -- and the instruction leaves what isn't the process's
      pub kept-done : rest_of placement after ≡ rest_of placement middle → AreKept start residency-looked first after
      kept-done same = kept-through paged placement start (fetch_walks (e ∷ i.history) ++ walks ++ data_walks i.history) first middle after kept on.placed alone-is same kept-looked

      pub shown-looked : ShownLaw → shown placement middle.contents ≡ shown placement before.contents
      shown-looked law = law placement start.root start.residency before.contents middle.contents kept on.placed alone-is own.others

      -- what is known of the access is its fate, as the serve needs it
      pub fate-is : fate a ≡ told known
      fate-is =
          let all : told known ∷ [] ≡ fate a ∷ [] = own.fates in
          let it : told known ≡ fate a = cc in
          sym it

      -- and it agrees with the flat machine
      pub agrees : PagesStay → StayThere → IsOf start.residency u.memory → Agrees (cause_of u.memory want a.address a.width) (told known)
      agrees pages stay of =
          let answered : AreAnswered start.residency (data_walks i.history) =
          subst (λ (h : History). AreAnswered start.residency (data_walks h)) (sym i.on.under_way.instructions) (first-answered start course.completed from.state) in
          let here : Agrees (cause_of u.memory f.want a.address a.width) (fate a) =
          fate-agrees pages stay start i.history earlier f.want (issued + 1) walks a u.memory (present placement start.residency on.placed.frames) of answered (walks-own start i.history earlier f.want (issued + 1) (a ∷ [])) in
          subst (λ (x : Fate). Agrees (cause_of u.memory want a.address a.width) x) fate-is
          (subst (λ (w : Want). Agrees (cause_of u.memory w a.address a.width) (fate a)) accessing.wants here)

      -- it is good, or it fails on a page that is present
      pub fails-there : PagesStay → StayThere → IsOf start.residency u.memory → is_good (told known) ≡ false
          → (cycle : ℕ) × (n : ℕ) × (told known ≡ Fails cycle false) × (cause_of u.memory want a.address a.width ≡ Some n)
      fails-there pages stay of bad =
          failing-as (told known) (cause_of u.memory want a.address a.width) bad
          (λ none. ap is_good (sym fate-is) ∙ All-head (λ (b : Access). is_good (fate b) ≡ true) a []
          (all-good start i.history earlier f.want (issued + 1) [] (a ∷ []) 0 (ap (λ (x : Fate). failing_from 0 (x ∷ [])) fate-is ∙ none)))
          (agrees pages stay of)

      pub good-there : PagesStay → StayThere → IsOf start.residency u.memory → is_good (told known) ≡ true
          → (cycle : ℕ) × (word : ℕ) × (told known ≡ Good cycle word) × (cause_of u.memory want a.address a.width ≡ None)
      good-there pages stay of good = good-as (told known) (cause_of u.memory want a.address a.width) good (agrees pages stay of)

      -- ---- where it fails

      module _ (cycle : ℕ) (bad : told known ≡ Fails cycle false) (lowest : a.element ≡ 0) (late : issued + 1 ≤ looked) where
        behind-retire : course.retired < issued
        behind-retire = omega (arith, is)

        its-failure : fate a ≡ Fails cycle false
        its-failure = fate-is ∙ bad

        all-walks : walks_of_batches e.batches ≡ walks
        all-walks =
            stops-all-walks batching start i.history i.now.state f course.retired issued want a accessing i.on.quiet behind-retire issued-is looked own.ended cycle false its-failure lowest
            ∙ append-nil walks

        walked-failed : ended_by looked (walks_of_batches e.batches) ≡ walks_of_batches e.batches
        walked-failed =
            stops-walks batching start i.history i.now.state f course.retired issued want a accessing i.on.quiet behind-retire issued-is looked own.ended cycle false its-failure lowest
            ∙ append-nil walks ∙ sym all-walks

        data-joined : data_walks (e ∷ i.history) ≡ walks_of_batches e.batches ++ data_walks i.history
        data-joined = flat_map-append (λ (b : BatchTimes). b.walks) e.batches (batches_of i.history)

        data-failed : data_walks (e ∷ i.history) ≡ walks ++ data_walks i.history
        data-failed = data-joined ∙ ap (λ (ws : List Walk). ws ++ data_walks i.history) all-walks

        -- what is kept then, as the fetch behind it needs it
        pub kept-failed : rest_of placement after ≡ rest_of placement middle → AreKept start (residency_now start (e ∷ i.history)) first after
        kept-failed same =
            subst (λ (ws : List Walk). AreKept start (after_walks start.residency ws) first after)
            (append_assoc (fetch_walks (e ∷ i.history)) walks (data_walks i.history) ∙ ap (λ (ws : List Walk). fetch_walks (e ∷ i.history) ++ ws) (sym data-failed)) (kept-done same)

        module _ (fault : Fault) (t : Flat) (faulted : step i.now.state ≡ Faulted fault t) where
          stops-then : happenings_of (last_retire start.cycle i.history) e ≡ happening e (Stops (ended.Faulted fault) 0 0) looked ∷ []
          stops-then =
              stops-happens batching start i.history i.now.state f course.retired issued want a accessing i.on.quiet behind-retire issued-is looked own.ended cycle false its-failure lowest late
              ∙ ap (λ (r : Outcome). happening e (Stops (ended_with r) 0 0) looked ∷ []) faulted

          abbrev ending-then : Ending
          ending-then =
              ending_of start i.history e (walk_behind start i.history e (continued i.now.state).pc (fetch_behind f issued)) looked (ended.Faulted fault) (stopped_at (ended.Faulted fault) 0 i.now)
              (course.commits + commits_in [] + (if nat_lt 0 0 then 1 else 0)) course.completed (course.changed || changes_in [] || (nat_lt 0 0 && f.changes_vectors))

          ends-then : StopsLaw → EndsAs start until from ending-then
          ends-then stops =
              stops start until from course i.history i.now e f [] [] (ended.Faulted fault) 0 0 issued looked i.on (ap (λ (m : Organisation). m.window) on.machine_is ∙ on.window) refl refl issued-is stops-then refl

          clock-then : looked + trap_cycles ≡ clock_by looked (accesses_of e.batches)
          clock-then =
              let over : looked ≡ max looked 0 = omega arith in
              ap (λ (n : ℕ). n + trap_cycles) over
              ∙ ap (λ (d : ℕ). max looked d + trap_cycles)
              (sym (stops-done batching start i.history i.now.state f course.retired issued want a accessing i.on.quiet behind-retire issued-is looked own.ended cycle false its-failure lowest))

          begun-then : issued + 1 ≡ fetch_behind f issued
          begun-then = sym (ap (λ (j : Bool). issued + (if j then 2 else 1)) accessing.jumps_is)

          abbrev walks-then : (pc : ℕ) → List Walk
          walks-then pc = ended_by looked (option_to_list (fetch_times start (e ∷ i.history) pc (At (issued + 1))).walk)

          abbrev behind-then : List Walk
          behind-then = ended_by looked (walk_behind start i.history e (continued i.now.state).pc (fetch_behind f issued))

          -- the episode is over at the end of the look-up, with the fetch behind it as far as that has ended
          pub over-access : StopsLaw → (last : CellsState) (pc : ℕ) → pc ≡ (continued i.now.state).pc
              → AreKept start (after_walks start.residency ((walks-then pc ++ fetch_walks (e ∷ i.history)) ++ data_walks (e ∷ i.history))) first last
              → StandsFor v t
              → IsOver start until from first (ended.Faulted fault) (looked + trap_cycles) course last v
          over-access stops last pc pc-is left stands =
              let behind-same : walks-then pc ≡ behind-then = λ j. ended_by looked (option_to_list (fetch_times start (e ∷ i.history) (pc-is j) (At (begun-then j))).walk) in
              let data-then : data_walks (e ∷ i.history) ≡ ended_by looked (walks_of_batches e.batches) ++ data_walks i.history = data-joined ∙ ap (λ (ws : List Walk). ws ++ data_walks i.history) (sym walked-failed) in
              let residency-is : after_walks start.residency ((walks-then pc ++ fetch_walks (e ∷ i.history)) ++ data_walks (e ∷ i.history))
              ≡ after_walks start.residency ((behind-then ++ option_to_list e.fetch.walk ++ fetch_walks i.history) ++ (ended_by looked (walks_of_batches e.batches) ++ data_walks i.history)) =
              ap (λ (ws : List Walk). after_walks start.residency ((ws ++ fetch_walks (e ∷ i.history)) ++ data_walks (e ∷ i.history))) behind-same
              ∙ (λ j. after_walks start.residency (sym (append_assoc behind-then (option_to_list e.fetch.walk) (fetch_walks i.history)) j ++ data-then j)) in
              record {
                ending = ending-then;
                ends = ends-then stops;
                ended_is = refl;
                clock_is = clock-then;
                commits_are = let none : course.commits ≡ course.commits + 0 + 0 = omega arith in none;
                completed_are = refl;
                changed_is = same-or course.changed;
                walks = (behind-then ++ option_to_list e.fetch.walk ++ fetch_walks i.history) ++ (ended_by looked (walks_of_batches e.batches) ++ data_walks i.history);
                walked = refl;
                cells_are = subst (λ (x : Residency). AreKept start x first last) residency-is left;
                stands = subst (λ (s : Flat). StandsFor v s) (sym (faults i.now fault t i.on.under_way.is_not_over faulted)) stands;
                come = come-faulted start until from course.completed i.history i.now i.on.under_way fault t 0 faulted;
              }

      module _ (served : Served) (serves : Serves free start.machine (accesses_of earlier) fate (a ∷ []) served) (cycle word : ℕ) (good : told known ≡ Good cycle word) (late : issued + 1 ≤ looked) (by : AreBy (max looked served.done + 1) free.stamps) where
        behind : course.retired < issued
        behind = omega (arith, is)

        its-fate : fate a ≡ Good cycle word
        its-fate = fate-is ∙ good

        abbrev completed : ℕ
        completed = max looked served.done

        same-done : max looked (done_by (served_of start.machine (accesses_of earlier) fate (a ∷ []))) ≡ completed
        same-done = ap (λ (d : ℕ). max looked d) (sym serves.done)

        data-is : data_walks (e ∷ i.history) ≡ walks ++ data_walks i.history
        data-is = data-are batching start i.history i.now.state f course.retired issued want a accessing i.on.quiet behind issued-is looked own.ended cycle word its-fate

        clock-is : clock_by (completed + 1) (accesses_of e.batches) ≡ completed + 1 + trap_cycles
        clock-is =
            let most : looked ≤ completed + 1 = omega arith in
            let over : max (completed + 1) served.done ≡ completed + 1 = omega arith in
            ap (λ (d : ℕ). max (completed + 1) d + trap_cycles)
            (all-done batching start i.history i.now.state f course.retired issued want a accessing i.on.quiet behind issued-is looked own.ended cycle word its-fate (completed + 1) most ∙ sym serves.done)
            ∙ ap (λ (n : ℕ). n + trap_cycles) over

        abbrev residency-then : Residency
        residency-then = after_walks start.residency (fetch_walks (e ∷ i.history) ++ data_walks (e ∷ i.history))

        held-then : AreHeld middle start.root residency-then
        held-then =
            subst (λ (ws : List Walk). AreHeld middle start.root (after_walks start.residency ws))
            (append_assoc (fetch_walks (e ∷ i.history)) walks (data_walks i.history) ∙ ap (λ (ws : List Walk). fetch_walks (e ∷ i.history) ++ ws) (sym data-is)) own.held

        kept-then : AreKept start residency-then first middle
        kept-then = kept-by start (after_walks start.residency (fetches_with e i.history ++ data_walks i.history)) residency-then first before middle i.cells_are held-then own.frames own.cycle own.others

        -- the instruction completes once its look-up has ended and its access is done
        pub retiring-access : step u ≡ Next v → rest_of placement after ≡ rest_of placement middle
            → IsRetiring start until from first course issued completed 0 false false (record { loads = new; fetches = fetches; stamps = free }) after v
        retiring-access steps same =
            let there : step (with_memory u.memory i.now.state) ≡ Next v = ap step (sym i.stands.is) ∙ steps in
            let stepped : (t : Flat) × (step i.now.state ≡ Next t) × StandsExactlyFor v t = laws.next i.now.state u.memory v i.formed i.stands.alike there in
            let most : looked ≤ completed + 1 = omega arith in
            record {
              history = i.history;
              now = i.now;
              after = stepped.0;
              on = i.on;
              steps = stepped.1;
              issued_is = issued-is;
              completed_is = completed-at batching start i.history i.now.state f course.retired issued want a accessing i.on.quiet behind issued-is looked own.ended cycle word its-fate late ∙ ap At same-done;
              before = [];
              happens = happens batching start i.history i.now.state f course.retired issued want a accessing i.on.quiet behind issued-is looked own.ended cycle word its-fate late
                  ∙ ap (λ (c : ℕ). happening e Completes (c + 1) ∷ []) same-done;
              none_ends = refl;
              commits_are = refl;
              jumps_is = accessing.jumps_is;
              changes_is = accessing.changes_is;
              loads = subst (λ (ws : List Walk). tlb.StandsFor new (fills_of ws)) (sym data-is) own.kept;
              fetches = i.fetches;
              banks = subst (λ (xs : List AccessTimes). banks.StandsFor free start.machine xs)
                  (sym (accesses-are batching start i.history i.now.state f course.retired issued want a accessing i.on.quiet behind issued-is looked own.ended cycle word its-fate)) serves.stands;
              stamps = by;
              walked = walked batching start i.history i.now.state f course.retired issued want a accessing i.on.quiet behind issued-is looked own.ended cycle word its-fate (completed + 1) most;
              clock = clock-is;
              cells_are = kept-through paged placement start (fetch_walks (e ∷ i.history) ++ data_walks (e ∷ i.history)) first middle after kept on.placed
                  (subst (λ (r : ℕ). AreAlone r start.residency) (sym on.root_is) on.alone) same kept-then;
              stands = laws.exact v stepped.0 stepped.2;
              formed = laws.formed i.now.state stepped.0 i.formed stepped.1;
              few = omega (arith, i.few);
            }
