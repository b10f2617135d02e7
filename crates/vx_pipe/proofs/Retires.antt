-- The code's retire and the law of it.
use Rattle.std.proofs.Common.{◌≡◌, ℕ, ◌+◌, ◌≤◌, Bool, ◌∷◌, ◌++◌, sym, ap, subst, ◌∙◌}
use Rattle.std.specs.Prelude.{if◌then◌else◌, option_to_list}
use Rattle.vx_base.specs.declared.machine.Fault.{Fault}
use Rattle.vx_cells.specs.Cells.{CellsState}
use Rattle.vx_flat.specs.Process.{Process}
use Rattle.vx_flat.specs.State.{Flat}
use Rattle.vx_tables.specs.Residency.{pages_of}
use Rattle.vx_tables.specs.Tables.{AreHeld, SameBut, table_count}
use Rattle.vx_episode.specs.Commits.{entry_of}
use Rattle.vx_episode.specs.Cycles.Cycle.{At}
use Rattle.vx_episode.specs.Episode.{trap_cycles}
use Rattle.vx_episode.specs.History.{History, after_walks, data_walks, fetch_walks}
use Rattle.vx_episode.specs.Instructions.{fetch_times, residency_now}
use Rattle.vx_episode.specs.Organisation.{Start}
use Rattle.vx_episode.specs.declared.ended.Ended.TheVariants as ended
use Rattle.vx_quiet.specs.Quiet.{ended_by}
use Rattle.vx_course.specs.Course.{Course}
use Rattle.vx_pipe.specs.Ending.{KeptBehind, OthersBehind}
use Rattle.vx_pipe.specs.Going.{AreKept, Caches, IsOver}
use Rattle.vx_pipe.specs.Retiring.{IsRetiring, retired_course}

abbrev pub EndsLaw : Type 0
EndsLaw = (start : Start) (until : ℕ) (from : Process) (first : CellsState) (course : Course) (issued completed commits : ℕ) (jumps changes : Bool) (caches : Caches) (cells after : CellsState) (u : Flat) (pc : ℕ) → start.machine.window ≡ 1
    → (r : IsRetiring start until from first course issued completed commits jumps changes caches cells u) → until ≤ completed + 1 → u.pc ≡ pc
    → AreKept start (after_walks start.residency ((ended_by (completed + 1) (option_to_list (fetch_times start (entry_of start r.history r.now.state ∷ r.history) pc (At (issued + (if jumps then 2 else 1)))).walk)
    ++ fetch_walks (entry_of start r.history r.now.state ∷ r.history)) ++ data_walks (entry_of start r.history r.now.state ∷ r.history))) first after
    → IsOver start until from first ended.Slice (completed + 1 + trap_cycles) (retired_course course issued completed commits jumps changes) after u

module _ (start : Start) (root until : ℕ) (from : Process) (first : CellsState) (course : Course) (issued completed commits : ℕ) (jumps changes : Bool) (caches : Caches) (before after : CellsState) (u : Flat) (pc : ℕ)
    (r : IsRetiring start until from first course issued completed commits jumps changes caches before u) where
  pub over-retired : EndsLaw → (next : Course) (bank_time : ℕ) → next ≡ retired_course course issued completed commits jumps changes → start.machine.window ≡ 1 → start.root ≡ root → start.machine.bank_time ≡ bank_time
      → until ≤ completed + 1 → u.pc ≡ pc → KeptBehind root bank_time pc next.begun (completed + 1) caches.fetches before after
      → IsOver start until from first ended.Slice (completed + 1 + trap_cycles) next after u
  over-retired ends next bank_time is window root_is time late at behind =
      let history : History = entry_of start r.history r.now.state ∷ r.history in
      let there : AreKept start (after_walks start.residency ((ended_by (completed + 1) (option_to_list (fetch_times start (entry_of start r.history r.now.state ∷ r.history) pc (At (issued + (if jumps then 2 else 1)))).walk)
      ++ fetch_walks (entry_of start r.history r.now.state ∷ r.history)) ++ data_walks (entry_of start r.history r.now.state ∷ r.history))) first after =
      subst (λ (b : ℕ). AreKept start (after_walks start.residency ((ended_by (completed + 1) (option_to_list (fetch_times start (entry_of start r.history r.now.state ∷ r.history) pc (At b)).walk)
      ++ fetch_walks (entry_of start r.history r.now.state ∷ r.history)) ++ data_walks (entry_of start r.history r.now.state ∷ r.history))) first after) (ap (λ (c : Course). c.begun) is)
      (behind start (entry_of start r.history r.now.state ∷ r.history) first root_is time r.fetches r.cells_are) in
      subst (λ (c : Course). IsOver start until from first ended.Slice (completed + 1 + trap_cycles) c after u) (sym is)
      (ends start until from first course issued completed commits jumps changes caches before after u pc window r late at there)

  pub same-behind : (bank_time : ℕ) → start.root ≡ root → start.machine.bank_time ≡ bank_time → OthersBehind root bank_time caches.fetches before after
      → SameBut root (table_count (pages_of start.residency)) before.contents after.contents
  same-behind bank_time root_is time others =
      others start (entry_of start r.history r.now.state ∷ r.history) time r.fetches
      (subst (λ (x : ℕ). AreHeld before x (residency_now start (entry_of start r.history r.now.state ∷ r.history))) root_is r.cells_are.held)

pub bank-time : (time other result : ℕ) → time ≡ other → result ≡ other → time ≡ result
bank-time time other result one two = one ∙ sym two

-- an episode that is over with a fault, in the numbers that the code has
pub over-same : (start : Start) (until : ℕ) (from : Process) (first : CellsState) (fault now : Fault) (clock at : ℕ) (course next : Course) → now ≡ fault → at ≡ clock → next ≡ course → (cells : CellsState) (u : Flat)
    → IsOver start until from first (ended.Faulted fault) clock course cells u → IsOver start until from first (ended.Faulted now) at next cells u
over-same start until from first fault now clock at course next faults ends counts cells u over =
    subst (λ (f : Fault). IsOver start until from first (ended.Faulted f) at next cells u) (sym faults)
    (subst (λ (n : ℕ). IsOver start until from first (ended.Faulted fault) n next cells u) (sym ends)
    (subst (λ (k : Course). IsOver start until from first (ended.Faulted fault) clock k cells u) (sym counts) over))

-- and one whose slice ended
pub slice-same : (start : Start) (until : ℕ) (from : Process) (first : CellsState) (clock at : ℕ) (course next : Course) → at ≡ clock → next ≡ course → (cells : CellsState) (u : Flat)
    → IsOver start until from first ended.Slice clock course cells u → IsOver start until from first ended.Slice at next cells u
slice-same start until from first clock at course next ends counts cells u over =
    subst (λ (n : ℕ). IsOver start until from first ended.Slice n next cells u) (sym ends)
    (subst (λ (k : Course). IsOver start until from first ended.Slice clock k cells u) (sym counts) over)
