-- The bounds of an episode under way, and what its physical memory holds.
use Rattle.std.proofs.Common.{◌≡◌, ℕ, zero, suc, ◌+◌, ◌*◌, ◌^◌, ◌<◌, ◌≤◌, List, refl, sym, ap, subst, ◌∙◌, arith}
use Rattle.vx_cells.specs.Cells.{CellsState}
use Rattle.vx_decode.specs.declared.instr.Instr.{Instr}
use Rattle.vx_flat.specs.Process.{Process}
use Rattle.vx_flat.specs.State.{Flat}
use Rattle.vx_tables.specs.Residency.{Residency}
use Rattle.vx_tables.specs.Tables.{AreHeld}
use Rattle.vx_tables.specs.Walking.{HaveTables}
use Rattle.vx_episode.specs.Cycles.{Cycle}
use Rattle.vx_episode.specs.Cycles.Cycle.{At}
use Rattle.vx_episode.specs.History.{History, last_retire}
use Rattle.vx_episode.specs.Organisation.{Organisation, Start}
use Rattle.vx_episode.specs.Show.{Registers}
use Rattle.vx_ending.specs.UnderWay.{IsUnderWay, first_instructions}
use Rattle.vx_course.specs.Course.{Course, IsOnCourse}
use Rattle.vx_paged.specs.Framed.{IsWithin}
use Rattle.vx_paged.specs.Left.{Fits}
use Rattle.vx_paged.specs.declared.placement.FramedPage.{FramedPage}
use Rattle.vx_serve.specs.Stamps.{AreBy}
use Rattle.vx_pipe.specs.Going.{AreKept, Caches}
use Rattle.vx_pipe.specs.Turning.{IsIssued, IsTurning, cycle_limit}

-- an episode that is under way at most so far has counts and cycles that fit
pub record AreBounded (course : Course) (free : List ℕ) : Type 0 where
  pub retired : course.retired ≤ 2 ^ 42
  pub completed : course.completed ≤ course.retired
  pub commits : course.commits ≤ 2 ^ 58
  pub begun : course.begun ≤ course.retired + 1
  pub stamps : AreBy (2 ^ 62) free

same-cycle : (a b : ℕ) (c : Cycle) → c ≡ At a → c ≡ At b → a ≡ b
same-cycle a b c one other = let both : At a ≡ At b = sym one ∙ other in cc

none-yet : (start : Start) (s : Flat) → last_retire start.cycle (first_instructions start 0 s) ≡ At start.cycle
unfolding first_instructions
none-yet start s = refl

retired-at : (start : Start) (until : ℕ) (from : Process) (n : ℕ) (history : History) (now : Process) (retired : ℕ) → IsUnderWay start until from n history now → last_retire start.cycle history ≡ At retired
    → (0 < n → retired < until) → n ≡ 0 → retired ≡ start.cycle
retired-at start until from n history now retired way last early none =
    same-cycle retired start.cycle (last_retire start.cycle history) last
    (ap (last_retire start.cycle) (way.instructions ∙ ap (λ (m : ℕ). first_instructions start m from.state) none) ∙ none-yet start from.state)

-- the last retire isn't in front of the start, and not behind the end
pub late : (start : Start) (until : ℕ) (from : Process) (course : Course) (history : History) (now : Process) → IsOnCourse start until from course history now → start.cycle + course.completed ≤ course.retired
late start until from course history now on =
    let same : on.under_way.retired.cycle ≡ course.retired = same-cycle on.under_way.retired.cycle course.retired (last_retire start.cycle history) on.under_way.retired.is on.quiet.last in
    let late = on.under_way.retired.late in
    omega (arith, same, late)

by-count : (n start until retired : ℕ) → (0 < n → retired < until) → (n ≡ 0 → retired ≡ start) → (limit : ℕ) → start ≤ limit → until ≤ limit → retired ≤ limit
by-count zero start until retired early none limit from to = let it = none refl in omega (arith, it, from)
by-count (suc n) start until retired early none limit from to = let it = early (omega arith) in omega (arith, it, to)

pub retired-by : (start : Start) (until : ℕ) (from : Process) (course : Course) (history : History) (now : Process) → IsOnCourse start until from course history now → (limit : ℕ) → start.cycle ≤ limit → until ≤ limit → course.retired ≤ limit
retired-by start until from course history now on limit cycle to =
    let same : on.under_way.retired.cycle ≡ course.retired = same-cycle on.under_way.retired.cycle course.retired (last_retire start.cycle history) on.under_way.retired.is on.quiet.last in
    let early : 0 < course.completed → course.retired < until = λ some. (let it = on.under_way.retired.early some in omega (arith, it, same)) in
    by-count course.completed start.cycle until course.retired early (retired-at start until from course.completed history now course.retired on.under_way on.quiet.last early) limit cycle to

bounded : (start : Start) (until : ℕ) (from : Process) (course : Course) (history : History) (now : Process) (stamps : List ℕ) → IsOnCourse start until from course history now → course.commits ≤ 65536 * course.completed → AreBy course.retired stamps
    → start.cycle ≤ cycle_limit → until ≤ 2 ^ 42 → AreBounded course stamps
bounded start until from course history now stamps on few by cycle to =
    let retired = retired-by start until from course history now on (2 ^ 42) cycle to in
    let completed = late start until from course history now on in
    record {
      retired = retired;
      completed = omega (arith, completed);
      commits = omega (arith, few, completed, retired);
      begun = on.soon;
      stamps = λ bank. omega (arith, by bank, retired);
    }

tables : (start : Start) (residency : Residency) (first cells : CellsState) (root : ℕ) → start.root ≡ root → AreKept start residency first cells → HaveTables cells root
tables start residency first cells root is kept = record { residency = residency; held = subst (λ (r : ℕ). AreHeld cells r residency) is kept.held }

pub fits : (start : Start) (residency : Residency) (first cells : CellsState) (placement : List FramedPage) → IsWithin first.frames placement → AreKept start residency first cells → Fits placement cells
fits start residency first cells placement within kept = record { memory = kept.held.memory; within = subst (λ (n : ℕ). IsWithin n placement) (sym kept.frames) within }

-- ---- at an instruction

module _ (machine : Organisation) (root until : ℕ) (placement : List FramedPage) (course : Course) (caches : Caches) (cells : CellsState) (registers : Registers) (t : IsTurning machine root until placement course caches cells registers) where
  pub turning-bounds : until ≤ 2 ^ 42 → AreBounded course caches.stamps.stamps
  turning-bounds to = bounded t.start until t.from course t.going.history t.going.now caches.stamps.stamps t.going.on t.going.few t.going.stamps t.cycle to

  pub turning-tables : HaveTables cells root
  turning-tables = tables t.start _ t.first cells root t.on.root_is t.going.cells_are

  pub turning-fits : Fits placement cells
  turning-fits = fits t.start _ t.first cells placement t.within t.going.cells_are

-- ---- at one whose fetch has ended

module _ (machine : Organisation) (root until : ℕ) (placement : List FramedPage) (course : Course) (fetched : ℕ) (caches : Caches) (cells : CellsState) (registers : Registers) (word : ℕ) (i : Instr) (t : IsIssued machine root until placement course fetched caches cells registers word i) where
  pub issued-bounds : until ≤ 2 ^ 42 → AreBounded course caches.stamps.stamps
  issued-bounds to = bounded t.start until t.from course t.issuing.history t.issuing.now caches.stamps.stamps t.issuing.on t.issuing.few t.issuing.stamps t.cycle to

  pub issued-fetched : fetched ≤ course.begun + 4 * machine.bank_time
  issued-fetched = subst (λ (m : Organisation). fetched ≤ course.begun + 4 * m.bank_time) t.on.machine_is t.issuing.near

  pub issued-tables : HaveTables cells root
  issued-tables = tables t.start _ t.first cells root t.on.root_is t.issuing.cells_are

  pub issued-fits : Fits placement cells
  issued-fits = fits t.start _ t.first cells placement t.within t.issuing.cells_are
