-- An episode that ends within a vector load or store.
use Rattle.std.proofs.Common.{◌≡◌, ℕ, ◌+◌, Bool, true, false, List, [], ◌∷◌, ◌++◌, Some, None, refl, sym, ap, subst, ◌∙◌, append_assoc}
use Rattle.std.specs.Prelude.{Option, filter, is_none, ◌&&◌, nat_le, nat_lt, if◌then◌else◌, option_to_list}
use Rattle.std.proofs.lemmas.Grind.{flat_map-append}
use Rattle.vx_base.specs.declared.machine.Want.TheVariants.{Fetch}
use Rattle.vx_cells.specs.Cells.{CellsState}
use Rattle.vx_flat.specs.Continued.{behind, continued, good_done, passed_over}
use Rattle.vx_flat.specs.Outcome.{Outcome, faulted}
use Rattle.vx_flat.specs.Outcome.Outcome.{Next}
use Rattle.vx_flat.specs.Process.{Process}
use Rattle.vx_flat.specs.State.{Flat, completed, following}
use Rattle.vx_flat.specs.Step.{step, upcoming}
use Rattle.vx_flat.specs.Transfers.{Direction, Failure, Transfer, access_done, accesses_done, below_done, failure_of, first_failure, is_fault_only_first, transferred, transferred_by, trimmed}
use Rattle.vx_flat.specs.Transfers.Direction.{Loading, Storing}
use Rattle.vx_image.specs.Pages.{is_canonical, page_of}
use Rattle.vx_tables.specs.Caches.{look_up}
use Rattle.vx_tables.specs.Residency.{Residency}
use Rattle.vx_tables.specs.declared.look.Look.{Look}
use Rattle.vx_tables.specs.declared.look.Look.TheVariants.{Hit, Denied, Miss}
use Rattle.vx_tlb.specs.declared.tlb.Kept.{Kept}
use Rattle.vx_vector.specs.Accesses.{Access, access_list, accesses_between, movement_count}
use Rattle.vx_flat.specs.Scalar.{next_pc}
use Rattle.vx_episode.specs.Commits.{entry_of}
use Rattle.vx_episode.specs.Cycles.Cycle.{At, Never}
use Rattle.vx_episode.specs.Footprint.{Footprint, footprint}
use Rattle.vx_episode.specs.History.{History, Entry, Walk, BatchTimes, accesses_of, after_walks, batches_of, data_walks, fetch_walks, fills_of, walks_of_batches}
use Rattle.vx_episode.specs.Instructions.{fetch_at, fetch_by, fetch_times, fetch_walk}
use Rattle.vx_episode.specs.Organisation.{Organisation, Start, fetch_entries}
use Rattle.vx_episode.specs.declared.ended.Ended.{Ended}
use Rattle.vx_quiet.specs.Quiet.{ended_by}
use Rattle.vx_course.specs.Course.{Course, EndsAs, clock_by, ending_of, fetch_behind, walk_behind}
use Rattle.vx_paged.specs.Framed.{IsPlacement}
use Rattle.vx_paged.specs.Left.{rest_of}
use Rattle.vx_paged.specs.Placed.{AreAlone}
use Rattle.vx_paged.specs.declared.placement.FramedPage.{FramedPage}
use Rattle.vx_pending.specs.Alike as alike
use Rattle.vx_serve.specs.Stamps.{BankStamps}
use Rattle.vx_pipe.specs.Going.{AreKept, IsEpisodeOn, IsIssuing, IsOver}
use Rattle.vx_pipe.specs.Left.{HasCome}
use Rattle.vx_pipe.proofs.Kept.{PagedLaws, kept-through}
use Rattle.vx_pipe.specs.Ending.{KeptBehind}

-- ---- the pc behind a vector load or store, also where it fails

accesses-pc : (d : Direction) (accesses : List Access) (s : Flat) → (accesses_done d accesses s).pc ≡ s.pc
accesses-pc d [] s = refl
accesses-pc Loading (a ∷ accesses) s = accesses-pc Loading accesses (access_done Loading a s)
accesses-pc Storing (a ∷ accesses) s = accesses-pc Storing accesses (access_done Storing a s)

pub good-pc : (t : Transfer) (s : Flat) → (good_done t s).pc ≡ following s
good-pc t s = ap next_pc (accesses-pc t.direction (filter (λ (a : Access). is_none (failure_of t.direction s.memory a)) (access_list t.movement)) s)

fails-pc : (b : Bool) (t : Transfer) (s : Flat) (k cause address : ℕ) → (passed_over s (upcoming s)).pc ≡ following s
    → (behind s (if b then Next (completed (trimmed k (below_done t k s))) else faulted (below_done t k s) cause address)).pc ≡ following s
fails-pc true t s k cause address over = ap next_pc (accesses-pc t.direction (accesses_between t.movement 0 k) s)
fails-pc false t s k cause address over = over

by-failure : (t : Transfer) (s : Flat) (o : Option Failure) → (passed_over s (upcoming s)).pc ≡ following s → (behind s (transferred_by t s o)).pc ≡ following s
by-failure t s None over = ap next_pc (accesses-pc t.direction (accesses_between t.movement 0 (movement_count t.movement)) s)
by-failure t s (Some f) over = fails-pc (is_fault_only_first t.movement.addressing && nat_lt 0 f.access.element) t s f.access.element f.cause f.access.address over

pub continued-pc : (t : Transfer) (s : Flat) → step s ≡ transferred t s → passed_over s (upcoming s) ≡ good_done t s → (continued s).pc ≡ following s
continued-pc t s steps over =
    ap (λ (o : Outcome). (behind s o).pc) steps ∙ by-failure t s (first_failure t.direction s.memory (access_list t.movement)) (ap (λ (u : Flat). u.pc) over ∙ good-pc t s)

pub vlen-stays : (d : Direction) (accesses : List Access) (s : Flat) → (accesses_done d accesses s).v.vlen ≡ s.v.vlen
vlen-stays d [] s = refl
vlen-stays Loading (a ∷ accesses) s = vlen-stays Loading accesses (access_done Loading a s)
vlen-stays Storing (a ∷ accesses) s = vlen-stays Storing accesses (access_done Storing a s)

-- ---- the fetch behind it sets the same bits whatever its walk answers

module _ (start : Start) (one other : History) (pc begun last : ℕ) (some others : List Walk) where
  abbrev left : Bool → Look → Residency
  left b l = after_walks start.residency ((ended_by last (option_to_list (if b then fetch_by start one pc begun l else fetch_at start begun).walk) ++ some) ++ others)

  abbrev right : Bool → Look → Residency
  right b l = after_walks start.residency ((ended_by last (option_to_list (if b then fetch_by start other pc begun l else fetch_at start begun).walk) ++ some) ++ others)

  ends-alike : (c : Bool) → after_walks start.residency (((if c then fetch_walk start one pc begun ∷ [] else []) ++ some) ++ others) ≡ after_walks start.residency (((if c then fetch_walk start other pc begun ∷ [] else []) ++ some) ++ others)
  ends-alike true = refl
  ends-alike false = refl

  look-alike : (b : Bool) (l : Look) → left b l ≡ right b l
  look-alike false l = refl
  look-alike true (Hit frame) = refl
  look-alike true Denied = refl
  look-alike true Miss = ends-alike (nat_le (fetch_walk start one pc begun).ended last)

  pub fetches-alike : fetch_walks one ≡ fetch_walks other
      → after_walks start.residency ((ended_by last (option_to_list (fetch_times start one pc (At begun)).walk) ++ some) ++ others)
      ≡ after_walks start.residency ((ended_by last (option_to_list (fetch_times start other pc (At begun)).walk) ++ some) ++ others)
  fetches-alike same =
      look-alike (is_canonical pc) (look_up fetch_entries (fills_of (fetch_walks one)) (page_of pc) Fetch)
      ∙ ap (λ (ws : List Walk). right (is_canonical pc) (look_up fetch_entries (fills_of ws) (page_of pc) Fetch)) same

-- ---- the end

-- a batch with these walks
abbrev pub batch-with : List Walk → BatchTimes
batch-with walks = record { from = 0; after = 0; started = Never; looked_up = Never; committed = Never; walks = walks; accesses = []; missing = []; failure = None; is_trimmed = false }

pub walks-with : (some : List Walk) (own : List BatchTimes) (history : History) → some ++ walks_of_batches (own ++ batches_of history) ≡ (some ++ walks_of_batches own) ++ data_walks history
walks-with some own history =
    ap (λ (ws : List Walk). some ++ ws) (flat_map-append (λ (b : BatchTimes). b.walks) own (batches_of history)) ∙ sym (append_assoc some (walks_of_batches own) (data_walks history))

module _ (paged : PagedLaws) (machine : Organisation) (root : ℕ) (placement : List FramedPage) (start : Start) (until : ℕ) (from : Process) (first : CellsState) (course : Course) (fetched : ℕ) (loads fetches : List (Option Kept)) (stamps : BankStamps) (before middle between after : CellsState) (u v : Flat) (issued : ℕ)
    (on : IsEpisodeOn machine root placement start) (kept : IsPlacement placement) (i : IsIssuing start until from first course fetched (record { loads = loads; fetches = fetches; stamps = stamps }) before u) where
  abbrev pub f : Footprint
  f = footprint start.machine start.has_vectors start.residency i.now.state

  abbrev pub e : Entry
  e = entry_of start i.history i.now.state

  module _ (new : List (Option Kept)) (free : BankStamps) (bank_time pc last : ℕ) (why : Ended) (process : Process) (commits completed : ℕ) (changed : Bool) (clock : ℕ) (next : Course) where
    abbrev done : List Walk
    done = ended_by last (walks_of_batches e.batches)

    abbrev shown-entry : Entry
    shown-entry = record e { batches = batch-with done ∷ [] }

    pub over-by : start.machine.bank_time ≡ bank_time → (continued i.now.state).pc ≡ pc → f.jumps ≡ false
        → EndsAs start until from (ending_of start i.history e (walk_behind start i.history e (continued i.now.state).pc (fetch_behind f issued)) last why process commits completed changed)
        → AreKept start (after_walks start.residency (fetch_walks (e ∷ i.history) ++ (done ++ data_walks i.history))) first middle
        → KeptBehind root bank_time pc (issued + 1) last fetches middle between
        → rest_of placement after ≡ rest_of placement between → clock ≡ clock_by last (accesses_of e.batches) → next.commits ≡ commits → next.completed ≡ completed → next.changed ≡ changed
        → alike.StandsFor v process.state → HasCome from process why next.completed
        → IsOver start until from first why clock next after v
    over-by time at jumps ends middle-kept behind-kept same clock-is commits-is completed-is changed-is stands come =
        let begun : issued + 1 ≡ fetch_behind f issued = sym (ap (λ (j : Bool). issued + (if j then 2 else 1)) jumps) in
        let one = behind-kept start (shown-entry ∷ i.history) first on.root_is time i.fetches middle-kept in
        let two = kept-through paged placement start ((ended_by last (option_to_list (fetch_times start (shown-entry ∷ i.history) pc (At (issued + 1))).walk) ++ fetch_walks (shown-entry ∷ i.history)) ++ data_walks (shown-entry ∷ i.history)) first between after kept on.placed
        (subst (λ (r : ℕ). AreAlone r start.residency) (sym on.root_is) on.alone) same one in
        let there : after_walks start.residency ((ended_by last (option_to_list (fetch_times start (shown-entry ∷ i.history) pc (At (issued + 1))).walk) ++ fetch_walks (shown-entry ∷ i.history)) ++ data_walks (shown-entry ∷ i.history))
        ≡ after_walks start.residency ((ended_by last (walk_behind start i.history e (continued i.now.state).pc (fetch_behind f issued)) ++ option_to_list e.fetch.walk ++ fetch_walks i.history) ++ (done ++ data_walks i.history)) =
        fetches-alike start (shown-entry ∷ i.history) (e ∷ i.history) pc (issued + 1) last (fetch_walks (e ∷ i.history)) (done ++ data_walks i.history) refl
        ∙ (λ j. after_walks start.residency ((ended_by last (option_to_list (fetch_times start (e ∷ i.history) (sym at j) (At (begun j))).walk) ++ fetch_walks (e ∷ i.history)) ++ (done ++ data_walks i.history)))
        ∙ ap (λ (ws : List Walk). after_walks start.residency (ws ++ (done ++ data_walks i.history))) (sym (append_assoc (ended_by last (walk_behind start i.history e (continued i.now.state).pc (fetch_behind f issued))) (option_to_list e.fetch.walk) (fetch_walks i.history))) in
        record {
          ending = ending_of start i.history e (walk_behind start i.history e (continued i.now.state).pc (fetch_behind f issued)) last why process commits completed changed;
          ends = ends;
          ended_is = refl;
          clock_is = clock-is;
          commits_are = commits-is;
          completed_are = completed-is;
          changed_is = changed-is;
          walks = (ended_by last (walk_behind start i.history e (continued i.now.state).pc (fetch_behind f issued)) ++ option_to_list e.fetch.walk ++ fetch_walks i.history) ++ (done ++ data_walks i.history);
          walked = refl;
          cells_are = subst (λ (x : Residency). AreKept start x first after) there two;
          stands = stands;
          come = come;
        }
