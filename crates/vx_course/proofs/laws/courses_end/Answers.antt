use Rattle.std.proofs.Common.{◌≡◌, ℕ, ◌+◌, ◌≤◌, false, [], ◌∷◌, ◌++◌, sym, ap, ◌∙◌}
use Rattle.std.specs.Prelude.{◌||◌, ◌&&◌, nat_lt, option_to_list, if◌then◌else◌}
use Rattle.std.specs.List.{list_any}
use Rattle.vx_flat.specs.Continued.{continued}
use Rattle.vx_flat.specs.Process.{stepped}
use Rattle.vx_episode.specs.Commits.{happening, timed, ends, happenings_of}
use Rattle.vx_episode.specs.Commits.What.{Completes, Reaches, Stops}
use Rattle.vx_episode.specs.Cycles.Cycle.{At}
use Rattle.vx_episode.specs.Episode.{within, stopped_at, trap_cycles}
use Rattle.vx_episode.specs.Footprint.{Footprint}
use Rattle.vx_episode.specs.History.{Entry, last_retire, fetch_walks, data_walks, after_walks}
use Rattle.vx_episode.specs.declared.ended.Ended.TheVariants.{Slice}
use Rattle.vx_ending.specs.Counts.{commits_in, changes_in}
use Rattle.vx_course.specs.Course.{EndsAs, ending_of, walk_behind, fetch_behind}
use Rattle.vx_course.proofs.AtEnd.{Laws, ends-completing, ends-reaching, ends-stopping, ends-at-issue}
use Rattle.vx_course.proofs.GoingOn.{next-of}
use Rattle.vx_course.proofs.laws.courses_end.Goals as goal

laws : goal.After-happenings_are_counted → Laws
laws c = record {
  quiets = record { goes_on = c.a_quiet_history_goes_on.ensures.goes_on; never = c.instructions_without_accesses_stop.ensures.completed };
  overs = record { residency = c.a_quiet_history_is_over.ensures.residency; clock = c.a_quiet_history_is_over.ensures.clock };
  counts = record { commits = c.happenings_are_counted.ensures.commits; changes = c.happenings_are_counted.ensures.changes; of_one = c.happenings_are_counted.ensures.of_one };
  flight = record { one = c.instructions_in_flight.ensures.one; two = c.instructions_in_flight.ensures.two };
  ends = record { ends_so = c.episodes_end.ensures; whole = c.ends_have_parts.ensures.whole };
}

pub returns-clause-completes : goal.returns-clause-completes
returns-clause-completes c start until from course history now e f before after issued cycle on one e-is f-is =
    next-of
    (λ (e : Entry) (f : Footprint). e.issued ≡ At issued → happenings_of (last_retire start.cycle history) e ≡ before ++ happening e Completes cycle ∷ after → list_any (ends until) before ≡ false → until ≤ cycle
    → EndsAs start until from (ending_of start history e (walk_behind start history e (continued now.state).pc (fetch_behind f issued)) cycle Slice (stepped now) (course.commits + commits_in before + 1) (course.completed + 1) (course.changed || f.changes_vectors)))
    start history now.state e f e-is f-is
    (ends-completing (laws c) start until from course history now on one before after cycle issued)

pub returns-clause-reaches : goal.returns-clause-reaches
returns-clause-reaches c start until from course history now e f before after element issued cycle on one e-is f-is =
    next-of
    (λ (e : Entry) (f : Footprint). e.issued ≡ At issued → happenings_of (last_retire start.cycle history) e ≡ before ++ happening e (Reaches element) cycle ∷ after → list_any (ends until) before ≡ false → until ≤ cycle
    → EndsAs start until from (ending_of start history e (walk_behind start history e (continued now.state).pc (fetch_behind f issued)) cycle Slice (within element now) (course.commits + commits_in before + 1) course.completed (course.changed || f.changes_vectors)))
    start history now.state e f e-is f-is
    (ends-reaching (laws c) start until from course history now on one before after element cycle issued)

pub returns-clause-stops : goal.returns-clause-stops
returns-clause-stops c start until from course history now e f before after why first element issued cycle on one e-is f-is =
    next-of
    (λ (e : Entry) (f : Footprint). e.issued ≡ At issued → happenings_of (last_retire start.cycle history) e ≡ before ++ happening e (Stops why first element) cycle ∷ after → list_any (ends until) before ≡ false
    → EndsAs start until from (ending_of start history e (walk_behind start history e (continued now.state).pc (fetch_behind f issued)) cycle why (stopped_at why element now)
    (course.commits + commits_in before + (if nat_lt first element then 1 else 0)) course.completed (course.changed || changes_in before || (nat_lt first element && f.changes_vectors))))
    start history now.state e f e-is f-is
    (ends-stopping (laws c) start until from course history now on one before after why first element cycle issued)

pub returns-clause-at_issue : goal.returns-clause-at_issue
returns-clause-at_issue c start until from course history now e f why fetched issued on one e-is f-is stop batches is issue =
    let e-of : e ≡ timed start history now.state f = e-is ∙ ap (timed start history now.state) (sym f-is) in
    let fetch : (timed start history now.state f).fetch.ended ≡ At fetched = ap (λ (x : Entry). x.fetch.ended) (sym e-of) ∙ is in
    let happens : happenings_of (last_retire start.cycle history) (timed start history now.state f) ≡ happening (timed start history now.state f) (Stops why now.state.v.vstart now.state.v.vstart) issued ∷ [] =
    c.instructions_without_accesses_stop.ensures.happens start history now.state f why course.retired fetched on.quiet one stop batches fetch
    ∙ ap (λ (n : ℕ). happening (timed start history now.state f) (Stops why now.state.v.vstart now.state.v.vstart) n ∷ []) (sym issue) in
    let at : (timed start history now.state f).issued ≡ At issued =
    c.instructions_issue_behind_a_quiet_history.ensures.issued start history now.state f course.retired fetched on.quiet one fetch ∙ ap At (sym issue) in
    next-of
    (λ (e : Entry) (f : Footprint). f.batches ≡ [] → e.issued ≡ At issued → happenings_of (last_retire start.cycle history) e ≡ happening e (Stops why now.state.v.vstart now.state.v.vstart) issued ∷ []
    → EndsAs start until from (record {
      ended = why;
      last = issued;
      clock = issued + trap_cycles;
      process = stopped_at why now.state.v.vstart now;
      residency = after_walks start.residency (option_to_list e.fetch.walk ++ fetch_walks history ++ data_walks history);
      commits = course.commits;
      completed = course.completed;
      changed_vectors = course.changed;
    }))
    start history now.state e f e-is f-is
    (ends-at-issue (laws c) start until from course history now on one why issued)
    batches
    (ap (λ (x : Entry). x.issued) e-of ∙ at)
    (ap (λ (x : Entry). happenings_of (last_retire start.cycle history) x) e-of ∙ happens ∙ ap (λ (x : Entry). happening x (Stops why now.state.v.vstart now.state.v.vstart) issued ∷ []) (sym e-of))
