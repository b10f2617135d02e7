-- What an episode comes to that ends with an instruction.
use Rattle.std.proofs.Common.{◌≡◌, ℕ, ◌+◌, ◌≤◌, ◌<◌, max, Bool, true, false, List, [], ◌∷◌, ◌++◌, refl, ap, ◌∙◌, subst, arith}
use Rattle.std.specs.Prelude.{Some, ◌||◌, ◌&&◌, nat_lt, option_to_list, if◌then◌else◌}
use Rattle.std.specs.List.{list_any}
use Rattle.std.proofs.lemmas.Bool.{le-leb, le-ltb}
use Rattle.vx_flat.specs.Continued.{continued}
use Rattle.vx_flat.specs.Process.{Process, stepped}
use Rattle.vx_episode.specs.Batches.{all_batches, retired_batches}
use Rattle.vx_episode.specs.Commits.{What, Happening, happening, ends, happenings, happenings_of}
use Rattle.vx_episode.specs.Commits.What.{Completes, Reaches, Stops}
use Rattle.vx_episode.specs.Cycles.Cycle.{At}
use Rattle.vx_episode.specs.Episode.{fetched_by, commits_by, completes, ended_at, within, stopped_at, trap_cycles}
use Rattle.vx_episode.specs.Footprint.{Batch, Footprint}
use Rattle.vx_episode.specs.History.{History, Entry, BatchTimes, last_retire, accesses_of, walks_of_batches, data_walks, fetch_walks, after_walks}
use Rattle.vx_episode.specs.Organisation.{Start}
use Rattle.vx_episode.specs.declared.ended.Ended.{Ended}
use Rattle.vx_episode.specs.declared.ended.Ended.TheVariants.{Slice}
use Rattle.vx_quiet.specs.Quiet.{ended_by}
use Rattle.vx_ending.specs.Counts.{commits_in, changes_in}
use Rattle.vx_ending.specs.Ends.{end_behind, process_behind}
use Rattle.vx_course.specs.Course.{Course, IsOnCourse, fetch_behind, Ending, EndsAs, clock_by, residency_at, walk_behind, ending_of}
use Rattle.vx_course.proofs.Changing.{or-false, commits-last, changes-last, changes-with}
use Rattle.vx_course.proofs.Cited.{QuietLaws, OverLaws, CountLaws, FlightLaws, EndLaws}
use Rattle.vx_course.proofs.Flight.{next_footprint, next_entry, residency-is, clock-is}
use Rattle.vx_course.proofs.Late.{fetch-late}

pub record Laws : Type 0 where
  pub quiets : QuietLaws
  pub overs : OverLaws
  pub counts : CountLaws
  pub flight : FlightLaws
  pub ends : EndLaws

-- the fetch behind an instruction begins behind its issue
pub behind-late : (jumps : Bool) (issued : ℕ) → issued < issued + (if jumps then 2 else 1)
behind-late true issued = omega arith
behind-late false issued = omega arith

module _ (laws : Laws) (start : Start) (until : ℕ) (from : Process) (course : Course) (history : History) (now : Process) (on : IsOnCourse start until from course history now) (one : start.machine.window ≡ 1) where
  abbrev f : Footprint
  f = next_footprint start now

  abbrev e : Entry
  e = next_entry start history now

  -- ---- any end

  module _ (before after : List Happening) (what : What) (cycle : ℕ) (parts : happenings_of (last_retire start.cycle history) (next_entry start history now) ≡ before ++ happening (next_entry start history now) what cycle ∷ after)
      (none : list_any (ends until) before ≡ false) (ended : ends until (happening (next_entry start history now) what cycle) ≡ true) (issued : ℕ) (i : (next_entry start history now).issued ≡ At issued) where
    ends-so : EndsAs start until from (ending_of start history e (walk_behind start history e (continued now.state).pc (fetch_behind f issued)) cycle (ended_at what) (process_behind what now)
        (course.commits + commits_in before + (if commits_by what then 1 else 0)) (course.completed + (if completes what then 1 else 0))
        (course.changed || changes_in before || (commits_by what && f.changes_vectors)))
    ends-so =
        let x : Happening = happening e what cycle in
        let fetched : History = fetched_by start cycle from.state in
        record {
          result = end_behind start course.completed (commits_in (happenings start.cycle history)) (changes_in (happenings start.cycle history)) now before x fetched;
          is =
              laws.ends.ends_so start until from course.completed history now e before after x on.under_way refl parts none ended
              ∙ ap Some (laws.ends.whole start until from course.completed history now e before after x fetched on.under_way refl parts);
          ended = refl;
          last = refl;
          clock = clock-is laws.quiets start until from course history now on one before after x parts issued i laws.overs laws.flight;
          process = refl;
          residency = residency-is laws.quiets start until from course history now on one before after x parts issued i laws.overs laws.flight;
          commits = ap (λ (n : ℕ). n + commits_in (before ++ x ∷ [])) on.commits_are ∙ commits-last laws.counts e before what cycle course.commits;
          completed = refl;
          changed_vectors = ap (λ (b : Bool). b || changes_in (before ++ x ∷ [])) on.changed_is ∙ changes-last laws.counts e before what cycle course.changed;
          log = refl;
        }

    -- with other figures that are the same
    ends-to : (commits completed : ℕ) (changed : Bool) → course.commits + commits_in before + (if commits_by what then 1 else 0) ≡ commits → course.completed + (if completes what then 1 else 0) ≡ completed
        → (course.changed || changes_in before || (commits_by what && f.changes_vectors)) ≡ changed
        → EndsAs start until from (ending_of start history e (walk_behind start history e (continued now.state).pc (fetch_behind f issued)) cycle (ended_at what) (process_behind what now) commits completed changed)
    ends-to commits completed changed p q r =
        subst (λ (ending : Ending). EndsAs start until from ending)
        (λ j. ending_of start history e (walk_behind start history e (continued now.state).pc (fetch_behind f issued)) cycle (ended_at what) (process_behind what now) (p j) (q j) (r j))
        ends-so

    committed : (course.changed || changes_in before || f.changes_vectors) ≡ (course.changed || f.changes_vectors)
    committed = changes-with laws.counts e before what cycle course.changed (last_retire start.cycle history) after parts

  -- ---- by what ends it

  pub ends-completing : (before after : List Happening) (cycle issued : ℕ) → e.issued ≡ At issued → happenings_of (last_retire start.cycle history) e ≡ before ++ happening e Completes cycle ∷ after → list_any (ends until) before ≡ false → until ≤ cycle
      → EndsAs start until from (ending_of start history e (walk_behind start history e (continued now.state).pc (fetch_behind f issued)) cycle Slice (stepped now) (course.commits + commits_in before + 1) (course.completed + 1) (course.changed || f.changes_vectors))
  ends-completing before after cycle issued i parts none late =
      let ended : ends until (happening e Completes cycle) ≡ true = le-leb until cycle late in
      ends-to before after Completes cycle parts none ended issued i (course.commits + commits_in before + 1) (course.completed + 1) (course.changed || f.changes_vectors) refl refl
      (committed before after Completes cycle parts none ended issued i)

  pub ends-reaching : (before after : List Happening) (element cycle issued : ℕ) → e.issued ≡ At issued → happenings_of (last_retire start.cycle history) e ≡ before ++ happening e (Reaches element) cycle ∷ after → list_any (ends until) before ≡ false → until ≤ cycle
      → EndsAs start until from (ending_of start history e (walk_behind start history e (continued now.state).pc (fetch_behind f issued)) cycle Slice (within element now) (course.commits + commits_in before + 1) course.completed (course.changed || f.changes_vectors))
  ends-reaching before after element cycle issued i parts none late =
      let ended : ends until (happening e (Reaches element) cycle) ≡ true = le-leb until cycle late in
      let same : course.completed + 0 ≡ course.completed = omega arith in
      ends-to before after (Reaches element) cycle parts none ended issued i (course.commits + commits_in before + 1) course.completed (course.changed || f.changes_vectors) refl same
      (committed before after (Reaches element) cycle parts none ended issued i)

  pub ends-stopping : (before after : List Happening) (why : Ended) (first element cycle issued : ℕ) → e.issued ≡ At issued → happenings_of (last_retire start.cycle history) e ≡ before ++ happening e (Stops why first element) cycle ∷ after → list_any (ends until) before ≡ false
      → EndsAs start until from (ending_of start history e (walk_behind start history e (continued now.state).pc (fetch_behind f issued)) cycle why (stopped_at why element now)
      (course.commits + commits_in before + (if nat_lt first element then 1 else 0)) course.completed (course.changed || changes_in before || (nat_lt first element && f.changes_vectors)))
  ends-stopping before after why first element cycle issued i parts none =
      let same : course.completed + 0 ≡ course.completed = omega arith in
      ends-to before after (Stops why first element) cycle parts none refl issued i (course.commits + commits_in before + (if nat_lt first element then 1 else 0)) course.completed
      (course.changed || changes_in before || (nat_lt first element && f.changes_vectors)) refl same refl

  -- ---- a stop at the issue

  no-batches : f.batches ≡ [] → e.batches ≡ []
  no-batches none = ap (λ (batches : List Batch). retired_batches e.retired (all_batches start history [] e.issued f batches)) none

  pub ends-at-issue : (why : Ended) (issued : ℕ) → f.batches ≡ [] → e.issued ≡ At issued → happenings_of (last_retire start.cycle history) e ≡ happening e (Stops why now.state.v.vstart now.state.v.vstart) issued ∷ []
      → EndsAs start until from (record {
        ended = why;
        last = issued;
        clock = issued + trap_cycles;
        process = stopped_at why now.state.v.vstart now;
        residency = after_walks start.residency (option_to_list e.fetch.walk ++ fetch_walks history ++ data_walks history);
        commits = course.commits;
        completed = course.completed;
        changed_vectors = course.changed;
      })
  ends-at-issue why issued batches i parts =
      let k : ℕ = now.state.v.vstart in
      let below : nat_lt k k ≡ false = le-ltb k k (omega arith) in
      let none : e.batches ≡ [] = no-batches batches in
      let walked : ended_by issued (walk_behind start history e (continued now.state).pc (fetch_behind f issued)) ≡ [] =
      fetch-late start (e ∷ history) (continued now.state).pc (fetch_behind f issued) issued (behind-late f.jumps issued) in
      let most : max issued 0 + trap_cycles ≡ issued + trap_cycles = omega arith in
      let commits : course.commits + 0 + 0 ≡ course.commits = omega arith in
      let clock : clock_by issued (accesses_of e.batches) ≡ issued + trap_cycles = ap (λ (batches : List BatchTimes). clock_by issued (accesses_of batches)) none ∙ most in
      let residency : residency_at start history e (walk_behind start history e (continued now.state).pc (fetch_behind f issued)) issued ≡ after_walks start.residency (option_to_list e.fetch.walk ++ fetch_walks history ++ data_walks history) =
      (λ j. after_walks start.residency ((walked j ++ option_to_list e.fetch.walk ++ fetch_walks history) ++ (ended_by issued (walks_of_batches (none j)) ++ data_walks history))) in
      let committed : course.commits + 0 + (if nat_lt k k then 1 else 0) ≡ course.commits = ap (λ (b : Bool). course.commits + 0 + (if b then 1 else 0)) below ∙ commits in
      let changed : (course.changed || false || (nat_lt k k && f.changes_vectors)) ≡ course.changed =
      ap (λ (b : Bool). course.changed || false || (b && f.changes_vectors)) below ∙ or-false (course.changed || false) ∙ or-false course.changed in
      subst (λ (ending : Ending). EndsAs start until from ending)
      (λ j. record {
        ended = why;
        last = issued;
        clock = clock j;
        process = stopped_at why k now;
        residency = residency j;
        commits = committed j;
        completed = course.completed;
        changed_vectors = changed j;
      })
      (ends-stopping [] [] why k k issued issued i parts refl)
