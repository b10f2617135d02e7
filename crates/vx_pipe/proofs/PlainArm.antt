-- The arm of instructions without accesses.
use Rattle.std.proofs.Common.{◌≡◌, ℕ, ◌+◌, ◌^◌, ◌<◌, ◌≤◌, max, Bool, true, List, ◌∷◌, Some, sym, subst, arith}
use Rattle.vx_base.specs.declared.machine.Fault.{Fault}
use Rattle.vx_cells.specs.Cells.{CellsState}
use Rattle.vx_decode.specs.declared.instr.Instr.{Instr}
use Rattle.vx_flat.specs.Process.{Process}
use Rattle.vx_flat.specs.State.{Flat}
use Rattle.vx_flat.specs.Step.{meaning, upcoming}
use Rattle.vx_tables.specs.Tables.{AreHeld}
use Rattle.vx_tables.specs.Walking.{HaveTables}
use Rattle.vx_episode.specs.Commits.{entry_of}
use Rattle.vx_episode.specs.Instructions.{residency_now}
use Rattle.vx_episode.specs.Organisation.{Organisation, Start}
use Rattle.vx_episode.specs.Show.{Registers}
use Rattle.vx_course.specs.Course.{Course}
use Rattle.vx_paged.specs.Left.{rest_of}
use Rattle.vx_paged.specs.declared.placement.FramedPage.{FramedPage}
use Rattle.vx_rows.specs.declared.row.Class.{Class}
use Rattle.vx_rows.specs.declared.row.Class.TheVariants as class
use Rattle.vx_rows.specs.Table.{class_of}
use Rattle.vx_hart.specs.Outcomes.{outcome_next, outcome_of}
use Rattle.vx_hart.specs.declared.progress.Progress.TheVariants as progress
use Rattle.vx_paged.specs.Framed.{IsPlacement}
use Rattle.vx_pipe.specs.Classes.{changes_as, is_plain, jumps_as, span_of}
use Rattle.vx_pipe.specs.Going.{Caches, IsEpisodeOn, IsIssuing}
use Rattle.vx_pipe.specs.Retiring.{IsRetiring}
use Rattle.vx_pipe.specs.Turning.{IsIssued, IsTakenOver}
use Rattle.vx_pipe.proofs.Bounds.{issued-bounds, issued-fetched}

pub span-small : (c : Class) → span_of c ≤ 20
span-small class.Multiply = omega arith
span-small class.Divide = omega arith
span-small other = omega arith

-- what an instruction that retires leaves has the tables
pub retiring-tables : (start : Start) (root until : ℕ) (from : Process) (first : CellsState) (course : Course) (issued completed commits : ℕ) (jumps changes : Bool) (caches : Caches) (cells : CellsState) (u : Flat) → start.root ≡ root
    → IsRetiring start until from first course issued completed commits jumps changes caches cells u → HaveTables cells root
retiring-tables start root until from first course issued completed commits jumps changes caches cells u is r = record {
  residency = residency_now start (entry_of start r.history r.now.state ∷ r.history);
  held = subst (λ (x : ℕ). AreHeld cells x (residency_now start (entry_of start r.history r.now.state ∷ r.history))) is r.cells_are.held;
}

-- the rest stays, said of the placement as it was
pub rest-of : (placement now : List FramedPage) (before after : CellsState) → now ≡ placement → rest_of now after ≡ rest_of placement before → rest_of placement after ≡ rest_of placement before
rest-of placement now before after same is = subst (λ (p : List FramedPage). rest_of p after ≡ rest_of placement before) same is

module _ (machine : Organisation) (root until : ℕ) (placement : List FramedPage) (course : Course) (fetched : ℕ) (caches : Caches) (cells : CellsState) (registers : Registers) (word : ℕ) (i : Instr)
    (t : IsIssued machine root until placement course fetched caches cells registers word i) (to : until ≤ 2 ^ 42) (time : machine.bank_time ≤ 16) where
  pub retired-early : course.retired ≤ 2 ^ 42
  retired-early = (issued-bounds machine root until placement course fetched caches cells registers word i t to).retired

  pub fetched-soon : fetched ≤ course.retired + 65
  fetched-soon =
      let bounds = issued-bounds machine root until placement course fetched caches cells registers word i t to in
      let fetched-by = issued-fetched machine root until placement course fetched caches cells registers word i t in
      omega (arith, bounds.begun, fetched-by, time)

  pub commits-few : course.commits + 0 + 1 < 2 ^ 63
  commits-few = let bounds = issued-bounds machine root until placement course fetched caches cells registers word i t to in omega (arith, bounds.commits)

  pub count-few : course.completed < 2 ^ 62
  count-few = let bounds = issued-bounds machine root until placement course fetched caches cells registers word i t to in omega (arith, bounds.completed, bounds.retired)

-- the numbers of an instruction that was issued
module _ (course : Course) (fetched issued : ℕ) (retired : course.retired ≤ 2 ^ 42) (soon : fetched ≤ course.retired + 65) (is : issued ≡ max fetched (course.retired + 1)) where
  pub issued-later : course.retired < issued
  issued-later = omega (arith, is)

  pub issued-soon : issued ≤ course.retired + 66
  issued-soon = omega (arith, is, soon)

  pub issued-early : issued ≤ 2 ^ 43
  issued-early = omega (arith, is, soon, retired)

  pub taken-over : IsTakenOver (issued + 20) course course
  taken-over = record { one = omega arith; later = omega (arith, is); soon = omega (arith, is, soon) }

  pub completed-early : (span : ℕ) → span ≤ 20 → issued + span ≤ 2 ^ 60
  completed-early span small = omega (arith, issued-early, small)

  pub completed-soon : (span : ℕ) → span ≤ 20 → issued + span ≤ course.retired + 2 ^ 23
  completed-soon span small = omega (arith, issued-soon, small)

-- what the law says of one that completes, in the numbers that the code has
abbrev pub CompletesLaw : Type 0
CompletesLaw = (machine : Organisation) (root until : ℕ) (placement : List FramedPage) (start : Start) (from : Process) (first : CellsState) (course : Course) (fetched : ℕ) (caches : Caches) (before after : CellsState) (u v : Flat) (word : ℕ) (i : Instr) (c : Class) (issued : ℕ) (fault : Fault)
    → IsEpisodeOn machine root placement start → IsPlacement placement → IsIssuing start until from first course fetched caches before u
    → c ≡ class_of i.op → is_plain c ≡ true → upcoming u ≡ meaning u word (Some i) → issued ≡ max fetched (course.retired + 1) → rest_of placement after ≡ rest_of placement before
    → outcome_of progress.Completed fault v ≡ outcome_next u (meaning u word (Some i))
    → IsRetiring start until from first course issued (issued + span_of c) 0 (jumps_as c) (changes_as c i) caches after v

pub retiring-plain : CompletesLaw → (machine : Organisation) (root until : ℕ) (placement : List FramedPage) (start : Start) (from : Process) (first : CellsState) (course : Course) (fetched : ℕ) (caches : Caches) (before after : CellsState) (u v : Flat) (word : ℕ) (i : Instr) (c : Class)
    (issued span : ℕ) (fault : Fault) (jumps changes : Bool) (now : List FramedPage) → IsEpisodeOn machine root placement start → IsPlacement placement → IsIssuing start until from first course fetched caches before u
    → c ≡ class_of i.op → is_plain c ≡ true → upcoming u ≡ meaning u word (Some i) → issued ≡ max fetched (course.retired + 1) → now ≡ placement → rest_of now after ≡ rest_of placement before
    → outcome_of progress.Completed fault v ≡ outcome_next u (meaning u word (Some i))
    → span ≡ span_of c → jumps ≡ jumps_as c → changes ≡ changes_as c i
    → IsRetiring start until from first course issued (issued + span) 0 jumps changes caches after v
retiring-plain law machine root until placement start from first course fetched caches before after u v word i c issued span fault jumps changes now on kept issuing of is next at same rest outcome span-is jumps-is changes-is =
    subst (λ (n : ℕ). IsRetiring start until from first course issued (issued + n) 0 jumps changes caches after v) (sym span-is)
    (subst (λ (b : Bool). IsRetiring start until from first course issued (issued + span_of c) 0 b changes caches after v) (sym jumps-is)
    (subst (λ (b : Bool). IsRetiring start until from first course issued (issued + span_of c) 0 (jumps_as c) b caches after v) (sym changes-is)
    (law machine root until placement start from first course fetched caches before after u v word i c issued fault on kept issuing of is next at (rest-of placement now before after same rest) outcome)))
