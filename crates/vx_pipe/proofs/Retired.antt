-- An instruction retires: the episode goes on, or it ends there.
use Rattle.std.proofs.Common.{◌≡◌, ℕ, ◌+◌, ◌<◌, Bool, false, ◌||◌, List, [], ◌∷◌, ◌++◌, refl, sym, ap, subst, ◌∙◌, arith}
use Rattle.std.specs.Prelude.{if◌then◌else◌, option_to_list}
use Rattle.std.specs.List.{list_any}
use Rattle.std.proofs.lemmas.Bool.{lt-leb}
use Rattle.std.proofs.lemmas.List.{append_assoc}
use Rattle.std.proofs.lemmas.List.Folds.{list_any-append}
use Rattle.std.proofs.lemmas.Grind.{flat_map-append}
use Rattle.vx_cells.specs.Cells.{CellsState}
use Rattle.vx_flat.specs.Continued.{continued}
use Rattle.vx_flat.specs.Process.{Process, stepped}
use Rattle.vx_flat.specs.Splits.{IsWellFormed}
use Rattle.vx_flat.specs.State.{Flat}
use Rattle.vx_tables.specs.Residency.{Residency}
use Rattle.vx_episode.specs.Commits.{Happening, entry_of, ends, happening, happenings_of}
use Rattle.vx_episode.specs.Commits.What.{Completes}
use Rattle.vx_episode.specs.Cycles.Cycle.{At}
use Rattle.vx_episode.specs.Episode.{trap_cycles}
use Rattle.vx_episode.specs.Footprint.{Footprint, footprint}
use Rattle.vx_episode.specs.History.{Entry, Walk, BatchTimes, batches_of, data_walks, fetch_walks, after_walks, last_retire, walks_of_batches}
use Rattle.vx_episode.specs.Instructions.{fetch_times}
use Rattle.vx_episode.specs.Organisation.{Start}
use Rattle.vx_episode.specs.declared.ended.Ended.TheVariants.{Slice}
use Rattle.vx_quiet.specs.Quiet.{ended_by}
use Rattle.vx_ending.specs.Counts.{commits_in}
use Rattle.vx_course.specs.Course.{Course, IsOnCourse, EndsAs, course_behind, ending_of, fetch_behind, walk_behind}
use Rattle.vx_pending.specs.Alike as alike
use Rattle.vx_pipe.specs.Going.{AreKept, Caches, IsGoing, IsOver}
use Rattle.vx_pipe.specs.Retiring.{IsRetiring, retired_course}
use Rattle.vx_pipe.proofs.Come.{come-completes}

none-of : (until : ℕ) (before : List Happening) (h : Happening) → list_any (ends until) before ≡ false → ends until h ≡ false → list_any (ends until) (before ++ h ∷ []) ≡ false
none-of until before h none not = list_any-append (ends until) before (h ∷ []) ∙ (λ i. none i || (not i || false))

module _ (start : Start) (until : ℕ) (from : Process) (first : CellsState) (course : Course) (issued completed commits : ℕ) (jumps changes : Bool) (caches : Caches) (cells : CellsState) (u : Flat) (window : start.machine.window ≡ 1)
    (r : IsRetiring start until from first course issued completed commits jumps changes caches cells u)
    (state : (stepped r.now).state ≡ r.after) where
  abbrev pub e : Entry
  e = entry_of start r.history r.now.state

  abbrev pub f : Footprint
  f = footprint start.machine start.has_vectors start.residency r.now.state

  begun : fetch_behind f issued ≡ issued + (if jumps then 2 else 1)
  begun = ap (λ (j : Bool). issued + (if j then 2 else 1)) r.jumps_is

  pub goes : ((some others : List Happening) → commits_in (some ++ others) ≡ commits_in some + commits_in others)
      → (list_any (ends until) (happenings_of (last_retire start.cycle r.history) e) ≡ false → IsOnCourse start until from (course_behind course f issued completed (commits_in (happenings_of (last_retire start.cycle r.history) e))) (e ∷ r.history) (stepped r.now))
      → completed + 1 < until → IsGoing start until from first (retired_course course issued completed commits jumps changes) caches cells u
  goes counted next early =
      let last : Happening = happening e Completes (completed + 1) in
      let none = ap (list_any (ends until)) r.happens ∙ none-of until r.before last r.none_ends (lt-leb until (completed + 1) early) in
      let some : commits_in (happenings_of (last_retire start.cycle r.history) e) ≡ commits + 1 = ap commits_in r.happens ∙ counted r.before (last ∷ []) ∙ ap (λ (n : ℕ). n + 1) r.commits_are in
      let count : course.commits + commits_in (happenings_of (last_retire start.cycle r.history) e) ≡ course.commits + commits + 1 = omega (arith, some) in
      record {
        history = e ∷ r.history;
        now = stepped r.now;
        on = subst (λ (c : Course). IsOnCourse start until from c (e ∷ r.history) (stepped r.now))
            (λ i. record { retired = completed + 1; begun = begun i; commits = count i; completed = course.completed + 1; changed = course.changed || r.changes_is i }) (next none);
        loads = r.loads;
        fetches = r.fetches;
        banks = r.banks;
        stamps = r.stamps;
        cells_are = r.cells_are;
        stands = subst (λ (s : Flat). alike.StandsFor u s) (sym state) r.stands;
        formed = subst (λ (s : Flat). IsWellFormed s) (sym state) r.formed;
        few = r.few;
      }

  -- ---- at the end

  data-walks : data_walks (e ∷ r.history) ≡ ended_by (completed + 1) (walks_of_batches e.batches) ++ data_walks r.history
  data-walks = flat_map-append (λ (b : BatchTimes). b.walks) e.batches (batches_of r.history) ∙ ap (λ (ws : List Walk). ws ++ data_walks r.history) (sym r.walked)

  pub residency-is : (behind : List Walk) → after_walks start.residency ((behind ++ fetch_walks (e ∷ r.history)) ++ data_walks (e ∷ r.history))
      ≡ after_walks start.residency ((behind ++ option_to_list e.fetch.walk ++ fetch_walks r.history) ++ (ended_by (completed + 1) (walks_of_batches e.batches) ++ data_walks r.history))
  residency-is behind =
      λ i. after_walks start.residency (sym (append_assoc behind (option_to_list e.fetch.walk) (fetch_walks r.history)) i ++ data-walks i)

  pub over : (after : CellsState) (pc : ℕ) → u.pc ≡ pc → continued r.now.state ≡ r.after
      → EndsAs start until from (ending_of start r.history e (walk_behind start r.history e (continued r.now.state).pc (fetch_behind f issued)) (completed + 1) Slice (stepped r.now) (course.commits + commits_in r.before + 1) (course.completed + 1) (course.changed || f.changes_vectors))
      → AreKept start (after_walks start.residency ((ended_by (completed + 1) (option_to_list (fetch_times start (e ∷ r.history) pc (At (issued + (if jumps then 2 else 1)))).walk) ++ fetch_walks (e ∷ r.history)) ++ data_walks (e ∷ r.history))) first after
      → IsOver start until from first Slice (completed + 1 + trap_cycles) (retired_course course issued completed commits jumps changes) after u
  over after pc at on ends kept =
      let there : pc ≡ (continued r.now.state).pc = sym at ∙ ap (λ (s : Flat). s.pc) r.stands.is ∙ ap (λ (s : Flat). s.pc) (sym on) in
      let walk : ended_by (completed + 1) (option_to_list (fetch_times start (e ∷ r.history) pc (At (issued + (if jumps then 2 else 1)))).walk)
      ≡ ended_by (completed + 1) (walk_behind start r.history e (continued r.now.state).pc (fetch_behind f issued)) =
      λ i. ended_by (completed + 1) (option_to_list (fetch_times start (e ∷ r.history) (there i) (At (sym begun i))).walk) in
      record {
        ending = ending_of start r.history e (walk_behind start r.history e (continued r.now.state).pc (fetch_behind f issued)) (completed + 1) Slice (stepped r.now) (course.commits + commits_in r.before + 1) (course.completed + 1) (course.changed || f.changes_vectors);
        ends = ends;
        ended_is = refl;
        clock_is = sym r.clock;
        commits_are = ap (λ (n : ℕ). course.commits + n + 1) (sym r.commits_are);
        completed_are = refl;
        changed_is = ap (λ (b : Bool). course.changed || b) (sym r.changes_is);
        walks = (ended_by (completed + 1) (walk_behind start r.history e (continued r.now.state).pc (fetch_behind f issued)) ++ option_to_list e.fetch.walk ++ fetch_walks r.history)
            ++ (ended_by (completed + 1) (walks_of_batches e.batches) ++ data_walks r.history);
        walked = refl;
        cells_are = subst (λ (x : Residency). AreKept start x first after)
            (ap (λ (ws : List Walk). after_walks start.residency ((ws ++ fetch_walks (e ∷ r.history)) ++ data_walks (e ∷ r.history))) walk ∙ residency-is (ended_by (completed + 1) (walk_behind start r.history e (continued r.now.state).pc (fetch_behind f issued)))) kept;
        stands = subst (λ (s : Flat). alike.StandsFor u s) (sym state) r.stands;
        come = come-completes start until from course.completed r.history r.now r.on.under_way r.after r.steps r.formed;
      }
