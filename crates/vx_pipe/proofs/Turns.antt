-- From the beginning of an instruction to its issue: the fetch, and what stands at the pc.
use Rattle.std.proofs.Common.{◌≡◌, ℕ, ◌+◌, ◌^◌, ◌<◌, ◌≤◌, List, ◌++◌, Some, refl, sym, ap, subst, ◌∙◌, arith}
use Rattle.std.specs.Prelude.{Option}
use Rattle.vx_cells.specs.Cells.{CellsState}
use Rattle.vx_decode.specs.declared.instr.Instr.{Instr}
use Rattle.vx_flat.specs.Process.{Process}
use Rattle.vx_flat.specs.State.{Flat}
use Rattle.vx_flat.specs.Step.{meaning, upcoming}
use Rattle.vx_image.specs.Pages.{Memory}
use Rattle.vx_tables.specs.Residency.{pages_of}
use Rattle.vx_tables.specs.Tables.{AreHeld, SameBut, table_count}
use Rattle.vx_episode.specs.Commits.{entry_of}
use Rattle.vx_episode.specs.History.{History, after_walks, data_walks, fetch_walks, fills_of}
use Rattle.vx_episode.specs.Instructions.{residency_now}
use Rattle.vx_episode.specs.Organisation.{Organisation, Start}
use Rattle.vx_episode.specs.Show.{Registers}
use Rattle.vx_course.specs.Course.{Course}
use Rattle.vx_paged.specs.Framed.{IsPlacement, IsWithin, shown}
use Rattle.vx_paged.specs.Left.{Fits, rest_of}
use Rattle.vx_paged.specs.Placed.{AreAlone, IsPlacedAs}
use Rattle.vx_paged.specs.declared.placement.FramedPage.{FramedPage}
use Rattle.vx_serve.specs.Stamps.{BankStamps}
use Rattle.vx_tables.specs.Residency.{Residency}
use Rattle.vx_tlb.specs.Kept.{StandsFor}
use Rattle.vx_tlb.specs.declared.tlb.Kept.{Kept}
use Rattle.vx_pipe.specs.Going.{Caches, IsEpisodeOn, IsGoing, IsIssuing, fetches_with}
use Rattle.vx_pipe.specs.Playing.{shown_state}
use Rattle.vx_pipe.specs.Turning.{IsIssued, IsTakenOver, IsTurning}
use Rattle.vx_pipe.proofs.Bounds.{fits, late, turning-bounds}
use Rattle.vx_pipe.proofs.Kept.{PagedLaws, kept-through}

-- what the fetch says
abbrev pub Issues : (root bank_time pc begun fetched : ℕ) → (old new : List (Option Kept)) → (before after : CellsState) → Type 0
Issues root bank_time pc begun fetched old new before after =
    (start : Start) (until : ℕ) (from : Process) (first : CellsState) (course : Course) (loads : List (Option Kept)) (stamps : BankStamps) (u : Flat) → start.root ≡ root → start.machine.bank_time ≡ bank_time → course.begun ≡ begun → u.pc ≡ pc
    → IsGoing start until from first course (record { loads = loads; fetches = old; stamps = stamps }) before u
    → IsIssuing start until from first course fetched (record { loads = loads; fetches = new; stamps = stamps }) after u

abbrev pub LeavesOthers : (root bank_time : ℕ) → (old : List (Option Kept)) → (before after : CellsState) → Type 0
LeavesOthers root bank_time old before after =
    (start : Start) (history : History) → start.machine.bank_time ≡ bank_time → StandsFor old (fills_of (fetch_walks history)) → AreHeld before root (residency_now start history)
    → SameBut root (table_count (pages_of start.residency)) before.contents after.contents

-- and walks of the memory that is shown
abbrev pub ShownLaw : Type 0
ShownLaw = (placement : List FramedPage) (first : ℕ) (residency : Residency) (before after : List ℕ) → IsPlacement placement → IsPlacedAs placement residency → AreAlone first residency
    → SameBut first (table_count (pages_of residency)) before after → shown placement after ≡ shown placement before

module _ (paged : PagedLaws) (machine : Organisation) (root until : ℕ) (placement : List FramedPage) (start : Start) (from : Process) (first : CellsState) (course : Course) (fetched : ℕ) (caches : Caches) (before after : CellsState) (u : Flat)
    (on : IsEpisodeOn machine root placement start) (kept : IsPlacement placement) (i : IsIssuing start until from first course fetched caches before u) where
  -- reading memory leaves it so
  pub issuing-through : rest_of placement after ≡ rest_of placement before → IsIssuing start until from first course fetched caches after u
  issuing-through same = record {
    history = i.history;
    now = i.now;
    on = i.on;
    ended = i.ended;
    loads = i.loads;
    fetches = i.fetches;
    banks = i.banks;
    stamps = i.stamps;
    cells_are = kept-through paged placement start (fetches_with (entry_of start i.history i.now.state) i.history ++ data_walks i.history) first before after kept on.placed
        (subst (λ (r : ℕ). AreAlone r start.residency) (sym on.root_is) on.alone) same i.cells_are;
    stands = i.stands;
    formed = i.formed;
    few = i.few;
    near = i.near;
  }

rest-same : (placement now : List FramedPage) (before after : CellsState) → now ≡ placement → rest_of now after ≡ rest_of placement before → rest_of placement after ≡ rest_of placement before
rest-same placement now before after same is = subst (λ (p : List FramedPage). rest_of p after ≡ rest_of placement before) same is

module _ (paged : PagedLaws) (shows : ShownLaw) (machine : Organisation) (root until : ℕ) (placement now : List FramedPage) (course : Course) (fetched : ℕ) (loads old new : List (Option Kept)) (stamps : BankStamps) (before between after : CellsState) (registers : Registers) (bank_time : ℕ)
    (issues : Issues root bank_time registers.pc course.begun fetched old new before between) (others : LeavesOthers root bank_time old before between) (time : machine.bank_time ≡ bank_time)
    (same : now ≡ placement) (rest : rest_of now after ≡ rest_of placement between) (memory : shown now after.contents ≡ shown placement between.contents) (kept : IsPlacement placement) where
  shown-same : (start : Start) → IsEpisodeOn machine root placement start → (until : ℕ) (from : Process) (first : CellsState) (u : Flat) → IsGoing start until from first course (record { loads = loads; fetches = old; stamps = stamps }) before u
      → shown now after.contents ≡ shown placement before.contents
  shown-same start on until from first u g =
      memory ∙ shows placement root start.residency before.contents between.contents kept on.placed on.alone
      (others start g.history (ap (λ (m : Organisation). m.bank_time) on.machine_is ∙ time) g.fetches (subst (λ (r : ℕ). AreHeld before r (residency_now start g.history)) on.root_is g.cells_are.held))

  -- an episode that was at its beginning is at its issue
  pub issuing-at : (start : Start) (from : Process) (first : CellsState) (output : List ℕ) → IsEpisodeOn machine root placement start
      → IsGoing start until from first course (record { loads = loads; fetches = old; stamps = stamps }) before (shown_state registers placement before output)
      → IsIssuing start until from first course fetched (record { loads = loads; fetches = new; stamps = stamps }) after (shown_state registers now after output)
  issuing-at start from first output on g =
      let fetched-is : IsIssuing start until from first course fetched (record { loads = loads; fetches = new; stamps = stamps }) between (shown_state registers placement before output) =
      issues start until from first course loads stamps (shown_state registers placement before output) on.root_is (ap (λ (m : Organisation). m.bank_time) on.machine_is ∙ time) refl refl g in
      subst (λ (m : Memory). IsIssuing start until from first course fetched (record { loads = loads; fetches = new; stamps = stamps }) after (record { pc = registers.pc; x = registers.x; v = registers.v; memory = m; output = output }))
      (sym (shown-same start on until from first (shown_state registers placement before output) g))
      (issuing-through paged machine root until placement start from first course fetched (record { loads = loads; fetches = new; stamps = stamps }) between after (shown_state registers placement before output) on kept fetched-is
      (rest-same placement now between after same rest))

  pub on-now : (start : Start) → IsEpisodeOn machine root placement start → IsEpisodeOn machine root now start
  on-now start on = subst (λ (p : List FramedPage). IsEpisodeOn machine root p start) (sym same) on

  -- and the instruction is issued
  pub issued-at : (word : ℕ) (i : Instr) → ((output : List ℕ) → upcoming (shown_state registers placement between output) ≡ meaning (shown_state registers placement between output) word (Some i))
      → IsTurning machine root until placement course (record { loads = loads; fetches = old; stamps = stamps }) before registers
      → IsIssued machine root until now course fetched (record { loads = loads; fetches = new; stamps = stamps }) after registers word i
  issued-at word i next t = record {
    start = t.start;
    from = t.from;
    first = t.first;
    output = t.output;
    on = on-now t.start t.on;
    kept = subst (λ (p : List FramedPage). IsPlacement p) (sym same) kept;
    within = subst (λ (p : List FramedPage). IsWithin t.first.frames p) (sym same) t.within;
    cycle = t.cycle;
    issuing = issuing-at t.start t.from t.first t.output t.on t.going;
    next = subst (λ (m : Memory). upcoming (record { pc = registers.pc; x = registers.x; v = registers.v; memory = m; output = t.output }) ≡ meaning (record { pc = registers.pc; x = registers.x; v = registers.v; memory = m; output = t.output }) word (Some i))
        (sym memory) (next t.output);
  }

-- what is issued fits physical memory
pub issuing-fits : (start : Start) (until : ℕ) (from : Process) (first : CellsState) (course : Course) (fetched : ℕ) (caches : Caches) (cells : CellsState) (u : Flat) (placement : List FramedPage) → IsWithin first.frames placement
    → IsIssuing start until from first course fetched caches cells u → Fits placement cells
issuing-fits start until from first course fetched caches cells u placement within i =
    fits start (after_walks start.residency (fetches_with (entry_of start i.history i.now.state) i.history ++ data_walks i.history)) first cells placement within i.cells_are

-- ---- from instruction to instruction

module _ (machine next : Organisation) (root until : ℕ) (placement now : List FramedPage) (course after : Course) (caches later : Caches) (cells behind : CellsState) (registers changed : Registers)
    (t : IsTurning machine root until placement course caches cells registers) where
  pub turning-next : next ≡ machine → now ≡ placement
      → ((start : Start) (from : Process) (first : CellsState) (output : List ℕ) → IsEpisodeOn machine root placement start → IsGoing start until from first course caches cells (shown_state registers placement cells output)
      → IsGoing start until from first after later behind (shown_state changed now behind output))
      → IsTurning next root until now after later behind changed
  turning-next same placed goes = record {
    start = t.start;
    from = t.from;
    first = t.first;
    output = t.output;
    on = subst (λ (m : Organisation). IsEpisodeOn m root now t.start) (sym same) (subst (λ (p : List FramedPage). IsEpisodeOn machine root p t.start) (sym placed) t.on);
    kept = subst (λ (p : List FramedPage). IsPlacement p) (sym placed) t.kept;
    within = subst (λ (p : List FramedPage). IsWithin t.first.frames p) (sym placed) t.within;
    cycle = t.cycle;
    going = goes t.start t.from t.first t.output t.on t.going;
  }

  pub clock-bounded : until ≤ 2 ^ 42 → (clock : ℕ) → IsTakenOver clock course after → clock ≤ 2 ^ 43
  clock-bounded to clock over =
      let bounds = turning-bounds machine root until placement course caches cells registers t to in
      omega (arith, bounds.retired, over.soon)

pub on-same : (machine next : Organisation) (root : ℕ) (placement now : List FramedPage) (start : Start) → next ≡ machine → now ≡ placement → IsEpisodeOn machine root placement start → IsEpisodeOn next root now start
on-same machine next root placement now start same placed on = subst (λ (m : Organisation). IsEpisodeOn m root now start) (sym same) (subst (λ (p : List FramedPage). IsEpisodeOn machine root p start) (sym placed) on)

pub clock-later : (start : Start) (until : ℕ) (from : Process) (first : CellsState) (course after : Course) (caches : Caches) (cells : CellsState) (u : Flat) (clock : ℕ) → IsGoing start until from first course caches cells u → IsTakenOver clock course after
    → start.cycle + after.completed < clock
clock-later start until from first course after caches cells u clock g over =
    let behind = late start until from course g.history g.now g.on in
    omega (arith, behind, over.one, over.later)
