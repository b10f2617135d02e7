-- The ends of a vector load or store, by what became of it.
use Rattle.std.proofs.Common.{◌≡◌, ℕ, ◌+◌, ◌-◌, ◌<◌, ◌≤◌, max, true, false, not, List, ◌∷◌, ◌++◌, Some, refl, sym, ap, subst, ◌∙◌, arith}
use Rattle.std.specs.Prelude.{Option}
use Rattle.vx_base.specs.declared.machine.Fault.{Fault}
use Rattle.vx_cells.specs.Cells.{CellsState}
use Rattle.vx_flat.specs.Outcome.Outcome.{Next, Faulted}
use Rattle.vx_flat.specs.Process.{Process}
use Rattle.vx_flat.specs.State.{Flat, following}
use Rattle.vx_flat.specs.Splits.{IsWellFormed}
use Rattle.vx_flat.specs.Continued.{continued}
use Rattle.vx_flat.specs.Prefix.{transfer_next}
use Rattle.vx_flat.specs.Vectors.{setting_at}
use Rattle.vx_decode.specs.Legal.{is_illegal}
use Rattle.vx_rows.specs.Table.{class_of}
use Rattle.vx_rows.specs.declared.row.Addressing.{Addressing}
use Rattle.vx_rows.specs.declared.row.Eew.{Eew}
use Rattle.vx_base.specs.declared.machine.Want.{Want}
use Rattle.vx_flat.specs.Step.{is_legal, meaning, performed, step, upcoming}
use Rattle.vx_flat.specs.declared.upcoming.Upcoming.TheVariants.{Illegal, Instruction}
use Rattle.vx_decode.specs.declared.instr.Instr.{Instr}
use Rattle.vx_image.specs.Pages.{Memory}
use Rattle.vx_pending.specs.Alike.{AreAlike, StandsFor, with_memory}
use Rattle.vx_vector.specs.Accesses.{accesses_between, movement_count}
use Rattle.vx_flat.specs.Transfers.{Direction, Transfer, below_done, first_failure, transfer, transferred, want_of}
use Rattle.vx_hart.specs.Outcomes.{outcome_next, outcome_of}
use Rattle.vx_hart.specs.declared.progress.Progress.{Progress}
use Rattle.vx_tables.specs.Residency.{IsOf, pages_of}
use Rattle.vx_tables.specs.Tables.{AreHeld, SameBut, table_count}
use Rattle.vx_tables.specs.Walking.{HaveTables}
use Rattle.vx_tlb.specs.Kept as tlb
use Rattle.vx_tlb.specs.declared.tlb.Kept.{Kept}
use Rattle.vx_episode.specs.Commits.{entry_of}
use Rattle.vx_episode.specs.Footprint.{Footprint, ended_by, footprint, footprint_of}
use Rattle.vx_episode.specs.Footprint as footprints
use Rattle.vx_episode.specs.Episode.{trap_cycles}
use Rattle.vx_episode.specs.declared.ended.Ended.TheVariants as ended
use Rattle.vx_quiet.specs.Quiet.{made_by}
use Rattle.vx_episode.specs.History.{History, Entry, Walk, BatchTimes, after_walks, batches_of, data_walks, fetch_walks, fills_of, walks_of_batches}
use Rattle.vx_episode.specs.Organisation.{Organisation, Start}
use Rattle.vx_course.specs.Course.{Course}
use Rattle.vx_paged.specs.Framed.{IsPlacement, IsWithin}
use Rattle.vx_paged.specs.Left.{Fits, rest_of}
use Rattle.vx_paged.specs.declared.placement.FramedPage.{FramedPage}
use Rattle.vx_serve.specs.Stamps.{AreBy, BankStamps}
use Rattle.vx_pipe.specs.Going.{Caches, IsEpisodeOn, IsIssuing, IsOver, fetches_with}
use Rattle.vx_pipe.specs.Moving.{IsMoving, class_by}
use Rattle.vx_pipe.specs.Passing.{IsPassing, IsSet, IsThrough}
use Rattle.vx_pipe.specs.Transfers.{element_batches}
use Rattle.vx_pipe.specs.Retiring.{IsRetiring}
use Rattle.vx_pipe.specs.declared.passing.Passing.{Passing}
use Rattle.vx_pipe.specs.Plain.{IsWithoutAccesses}
use Rattle.vx_pipe.proofs.Completing.{StepLaws, footprint-shown}
use Rattle.vx_pipe.proofs.TransferElements.{EndsBehindOne}
use Rattle.vx_pipe.proofs.TransferSteps.{BatchesBegin}
use Rattle.vx_pipe.proofs.Plainly.{halts-at, illegal-next}
use Rattle.vx_pipe.proofs.Stopping.{AtIssue, over-faulted}
use Rattle.vx_pipe.specs.Ending.{OthersBehind}
use Rattle.vx_pipe.proofs.TransferLoop.{no-batches-left}
use Rattle.vx_pipe.proofs.TransferOver.{batch-with, vlen-stays}
use Rattle.vx_pipe.proofs.TransferValues.{all-free, none-below}
use Rattle.vx_pipe.proofs.Kept.{PagedLaws}
use Rattle.vx_pipe.proofs.TransferCourse.{EndLaws, moving, retiring-transfer}
use Rattle.vx_pipe.proofs.TransferMoving.{comes-next, done-faulted, done-next, moves-so, moving-is, passing-so, pc-so, set-so, steps-so, transfer-so}

-- a placement that is left as it was is the same one
pub rest-same : ((one other : List FramedPage) (before after : CellsState) → rest_of other after ≡ rest_of one before → other ≡ one) → (one other : List FramedPage) (before after : CellsState) → rest_of other after ≡ rest_of one before → rest_of one after ≡ rest_of one before
rest-same law one other before after is = subst (λ (p : List FramedPage). rest_of p after ≡ rest_of one before) (law one other before after is) is

module _ (paged : PagedLaws) (laws : StepLaws) (batching : EndLaws) (machine : Organisation) (root : ℕ) (placement : List FramedPage) (start : Start) (until : ℕ) (from : Process) (first : CellsState) (course : Course) (fetched : ℕ) (loads new fetches : List (Option Kept)) (stamps free : BankStamps) (before middle after : CellsState) (u shown v : Flat) (issued : ℕ) (t : Transfer) (k : ℕ) (n : Passing)
    (on : IsEpisodeOn machine root placement start) (kept : IsPlacement placement) (i : IsIssuing start until from first course fetched (record { loads = loads; fetches = fetches; stamps = stamps }) before u) where
  abbrev e : Entry
  e = entry_of start i.history i.now.state

  pub arm-retiring : (p : Progress) (last : Fault) (completed commits : ℕ) → IsMoving (footprint_of machine u (upcoming u)) t → step u ≡ transferred t u → issued ≡ max fetched (course.retired + 1) → issued + 1 ≤ n.looked
      → IsThrough start i.history e course.retired issued (footprint start.machine start.has_vectors start.residency i.now.state) t k n root new free before middle → shown ≡ u → IsOf start.residency u.memory → outcome_of p last v ≡ Some (transferred t shown)
      → k < t.movement.at.vstart + 65536 → (t.movement.at.vstart < k → n.before < until) → AreBy (max n.looked n.done + 1) free.stamps → rest_of placement after ≡ rest_of placement middle
      → completed ≡ max n.looked n.done → commits ≡ k - t.movement.at.vstart
      → IsRetiring start until from first course issued completed commits false true (record { loads = new; fetches = fetches; stamps = free }) after v
  arm-retiring p last completed commits moves steps is late through same of outcome few early by rest completed-is commits-is =
      let r = through.completes u of in
      let there : transferred t shown ≡ Next r.0 = ap (transferred t) same ∙ r.1 in
      let here : v ≡ r.0 = done-next p last v r.0 (outcome ∙ ap Some there) in
      let so = retiring-transfer paged laws machine root placement start until from first course fetched loads new fetches stamps free before middle after u v issued t k n on kept i batching
      (moving paged laws machine root placement start until from first course fetched loads new fetches stamps free before middle after u v issued t k n on kept i moves) is late through few early by (steps ∙ r.1 ∙ ap Next (sym here)) rest in
      subst (λ (x : ℕ). IsRetiring start until from first course issued x commits false true (record { loads = new; fetches = fetches; stamps = free }) after v) (sym completed-is)
      (subst (λ (x : ℕ). IsRetiring start until from first course issued (max n.looked n.done) x false true (record { loads = new; fetches = fetches; stamps = free }) after v) (sym commits-is) so)

-- ---- an illegal one

illegal-performed : (u : Flat) (word : ℕ) → performed u (Illegal word) ≡ Faulted (record { cause = 2; tval = word; vstart = u.v.vstart }) u
unfolding performed
illegal-performed u word = refl

pub arm-illegal : (paged : PagedLaws) (laws : StepLaws) (at_issue : AtIssue) → ((s : Flat) (m : Memory) (fault : Fault) (u : Flat) → IsWellFormed s → AreAlike s m → step (with_memory m s) ≡ Faulted fault u → (t : Flat) × (step s ≡ Faulted fault t) × StandsFor u t)
    → (machine : Organisation) (root : ℕ) (placement : List FramedPage) (start : Start) (until : ℕ) (from : Process) (first : CellsState) (course : Course) (fetched : ℕ) (caches : Caches) (before after : CellsState) (u v : Flat) (issued word : ℕ) (instr : Instr) (p : Progress) (last fault : Fault)
    → (on : IsEpisodeOn machine root placement start) → IsPlacement placement → (i : IsIssuing start until from first course fetched caches before u) → issued ≡ max fetched (course.retired + 1)
    → upcoming u ≡ meaning u word (Some instr) → is_legal u instr ≡ false → outcome_of p last v ≡ outcome_next u (meaning u word (Some instr)) → ((f : Fault) (a b : Flat) → outcome_of p last a ≡ Some (Faulted f b) → fault ≡ f)
    → rest_of placement after ≡ rest_of placement before
    → IsOver start until from first (ended.Faulted fault) (issued + trap_cycles) course after v
arm-illegal paged laws at_issue faulted machine root placement start until from first course fetched caches before after u v issued word instr p last fault on kept i is next illegal outcome fault-is same =
    let means : meaning u word (Some instr) ≡ Illegal word = illegal-next u word instr illegal in
    let at : upcoming u ≡ Illegal word = next ∙ means in
    let why : Fault = record { cause = 2; tval = word; vstart = u.v.vstart } in
    let steps : step u ≡ Faulted (record { cause = 2; tval = word; vstart = u.v.vstart }) u = ap (performed u) at ∙ illegal-performed u word in
    let came : outcome_of p last v ≡ Some (Faulted (record { cause = 2; tval = word; vstart = u.v.vstart }) u) = outcome ∙ ap (outcome_next u) means ∙ ap Some (illegal-performed u word) in
    let told = done-faulted p last v u (Faulted (record { cause = 2; tval = word; vstart = u.v.vstart }) u) came (record { cause = 2; tval = word; vstart = u.v.vstart }) refl in
    subst (λ (f : Fault). IsOver start until from first (ended.Faulted f) (issued + trap_cycles) course after v) (sym (fault-is (record { cause = 2; tval = word; vstart = u.v.vstart }) v v told.1))
    (over-faulted paged laws at_issue machine root placement start until from first course fetched caches before after u v issued on kept i faulted (record { cause = 2; tval = word; vstart = u.v.vstart })
    (halts-at machine u (ended.Faulted (record { cause = 2; tval = word; vstart = u.v.vstart })) (ap ended_by steps) (ap (footprint_of machine u) at)) is same
    (steps ∙ ap (Faulted (record { cause = 2; tval = word; vstart = u.v.vstart })) (sym told.0)))

-- ---- one without an element to do

pub without-elements : (t : Transfer) (f : Footprint) → IsMoving f t → movement_count t.movement ≤ t.movement.at.vstart → IsWithoutAccesses f 1 false true
without-elements t f m none = record {
  stop = m.stop;
  batches = m.batches ∙ no-batches-left t (movement_count t.movement) t.movement.at.vstart none;
  completes = λ issued. let one : max (issued + 1) (issued + 1) ≡ issued + 1 = omega arith in (λ j. max (issued + m.latency j) (made_by issued f.unit (m.groups j))) ∙ one;
  jumps_is = m.jumps_is;
  changes_is = m.changes_is;
}

pub none-fails : (t : Transfer) (s : Flat) → movement_count t.movement ≤ t.movement.at.vstart → (u : Flat) × (transferred t s ≡ Next u)
none-fails t s none = all-free t s (ap (first_failure t.direction s.memory) (none-below t.movement (movement_count t.movement) none))

-- ---- what comes next

pub record IsNext (machine : Organisation) (u : Flat) (t : Transfer) (i : Instr) : Type 0 where
  pub at : upcoming u ≡ Instruction i
  pub moves : IsMoving (footprint_of machine u (upcoming u)) t
  pub steps : step u ≡ transferred t u
  pub next : transfer_next u (upcoming u) ≡ Some t

pub next-so : EndsBehindOne → (machine : Organisation) → machine.batch_limit ≡ 1 → (d : Direction) (a : Addressing) (e : Eew) (i : Instr) → class_of i.op ≡ class_by d a e → (u : Flat) (word : ℕ) → upcoming u ≡ meaning u word (Some i) → not (is_illegal i (setting_at u i)) ≡ true
    → (t : Transfer) → t ≡ transfer d a e u i → IsNext machine u t i
next-so law machine one d a e i is u word next legal t same =
    let at : upcoming u ≡ Instruction i = comes-next d a e i is u word next legal in
    record {
      at = at;
      moves = subst (λ (f : Footprint). IsMoving f t) (sym (moves-so d a e i is machine u at ∙ ap (footprints.moving machine) (sym same))) (moving-is law machine t one);
      steps = steps-so d a e i is u at ∙ ap (λ (x : Transfer). transferred x u) (sym same);
      next = transfer-so d a e i is u at ∙ ap Some (sym same);
    }

module _ (laws : StepLaws) (machine : Organisation) (root : ℕ) (placement : List FramedPage) (start : Start) (until : ℕ) (from : Process) (first : CellsState) (course : Course) (fetched : ℕ) (loads fetches : List (Option Kept)) (stamps : BankStamps) (before : CellsState) (u : Flat) (issued : ℕ) (t : Transfer)
    (on : IsEpisodeOn machine root placement start) (i : IsIssuing start until from first course fetched (record { loads = loads; fetches = fetches; stamps = stamps }) before u) where
  abbrev pub f : Footprint
  f = footprint start.machine start.has_vectors start.residency i.now.state

  abbrev pub mine : Entry
  mine = entry_of start i.history i.now.state

  pub moving-f : IsMoving (footprint_of machine u (upcoming u)) t → IsMoving f t
  moving-f is =
      subst (λ (g : Footprint). IsMoving g t)
      (ap (λ (m : Organisation). footprint_of m u (upcoming u)) (sym on.machine_is) ∙ sym (footprint-shown laws machine root placement start i.now.state u on i.formed i.stands)) is

  -- the loop's own beginning
  pub passing-at : BatchesBegin → IsMoving (footprint_of machine u (upcoming u)) t → course.retired < issued → (count v : ℕ) → t.movement.at.vstart ≡ v → count ≡ movement_count t.movement
      → IsPassing start i.history mine course.retired issued f t v (element_batches t (count - v) v) (record { looked = issued; committed = course.retired + 1; before = 0; done = 0 }) root loads stamps before before
  passing-at begin is behind count v at count-is =
      subst (λ (x : ℕ). IsPassing start i.history mine course.retired issued f t v (element_batches t (x - v) v) (record { looked = issued; committed = course.retired + 1; before = 0; done = 0 }) root loads stamps before before) (sym count-is)
      (subst (λ (x : ℕ). IsPassing start i.history mine course.retired issued f t x (element_batches t (movement_count t.movement - x) x) (record { looked = issued; committed = course.retired + 1; before = 0; done = 0 }) root loads stamps before before) at
      (passing-so machine root placement start until from first course fetched loads fetches stamps before u issued t on i begin (moving-f is) behind))

  pub set-at : (contents : List ℕ) (bank_time : ℕ) (want : Want) → IsMoving (footprint_of machine u (upcoming u)) t → machine.bank_time ≡ bank_time → want ≡ want_of t.direction → IsSet start i.history mine f t bank_time want t.movement
  set-at contents bank_time want is time wants =
      set-so machine root placement start until from first course fetched loads fetches stamps before u issued t on i contents bank_time want t.movement (moving-f is) time wants refl

  -- the pc behind it, also where it faults
  pub pc-behind : ((s : Flat) (m : Memory) → IsWellFormed s → AreAlike s m → upcoming (with_memory m s) ≡ upcoming s) → (d : Direction) (a : Addressing) (e : Eew) (instr : Instr) → class_of instr.op ≡ class_by d a e → upcoming u ≡ Instruction instr
      → (continued i.now.state).pc ≡ following u
  pc-behind law d a e instr is at =
      let here : upcoming i.now.state ≡ Instruction instr = sym (law i.now.state u.memory i.formed i.stands.alike) ∙ ap upcoming (sym i.stands.is) ∙ at in
      pc-so d a e instr is i.now.state here ∙ ap (λ (s : Flat). following s) (sym i.stands.is)

-- ---- what calls ask of physical memory

pub fits-held : (placement : List FramedPage) (root : ℕ) (before cells : CellsState) → HaveTables cells root → cells.frames ≡ before.frames → Fits placement before → Fits placement cells
fits-held placement root before cells tables frames fits = record { memory = tables.held.memory; within = subst (λ (n : ℕ). IsWithin n placement) (sym frames) fits.within }

pub tables-held : (paged : PagedLaws) (machine : Organisation) (root : ℕ) (placement : List FramedPage) (start : Start) (walks : List Walk) (middle after : CellsState) → IsEpisodeOn machine root placement start → IsPlacement placement
    → AreHeld middle root (after_walks start.residency walks) → rest_of placement after ≡ rest_of placement middle → HaveTables after root
tables-held paged machine root placement start walks middle after on kept held same = record {
  residency = after_walks start.residency walks;
  held = paged.held placement middle after root (after_walks start.residency walks) kept (paged.is_placed placement start.residency walks kept on.placed) (paged.alone placement root start.residency walks kept on.placed on.alone) held same;
}

-- which words the fetch behind it leaves
pub others-at : (start : Start) (root bank_time : ℕ) (history : History) (x : Entry) (own : List BatchTimes) (walks : List Walk) (fetches : List (Option Kept)) (middle between : CellsState) → start.machine.bank_time ≡ bank_time → tlb.StandsFor fetches (fills_of (fetch_walks (x ∷ history)))
    → AreHeld middle root (after_walks start.residency (fetch_walks (x ∷ history) ++ (walks ++ walks_of_batches (own ++ batches_of history)))) → OthersBehind root bank_time fetches middle between
    → SameBut root (table_count (pages_of start.residency)) middle.contents between.contents
others-at start root bank_time history x own walks fetches middle between time stands held law = law start (record x { batches = batch-with walks ∷ own } ∷ history) time stands held

-- the element that is reached is one of the registers
pub low-so : (t : Transfer) (k : ℕ) (s v : Flat) → v ≡ below_done t k s → v.v.vstart < v.v.vlen → k < s.v.vlen
low-so t k s v is low =
    let at : v.v.vstart ≡ k = ap (λ (x : Flat). x.v.vstart) is in
    let long : v.v.vlen ≡ s.v.vlen = ap (λ (x : Flat). x.v.vlen) is ∙ vlen-stays t.direction (accesses_between t.movement 0 k) s in
    omega (arith, low, at, long)

pub tables-issued : (paged : PagedLaws) (machine : Organisation) (root : ℕ) (placement : List FramedPage) (start : Start) (until : ℕ) (from : Process) (first : CellsState) (course : Course) (fetched : ℕ) (caches : Caches) (before after : CellsState) (u : Flat) → IsEpisodeOn machine root placement start → IsPlacement placement
    → IsIssuing start until from first course fetched caches before u → rest_of placement after ≡ rest_of placement before → HaveTables after root
tables-issued paged machine root placement start until from first course fetched caches before after u on kept i same =
    tables-held paged machine root placement start (fetches_with (entry_of start i.history i.now.state) i.history ++ data_walks i.history) before after on kept
    (subst (λ (r : ℕ). AreHeld before r (after_walks start.residency (fetches_with (entry_of start i.history i.now.state) i.history ++ data_walks i.history))) on.root_is i.cells_are.held) same
