use Rattle.std.proofs.Common.{◌≡◌, ℕ, Bool, false, [], ◌∷◌, ◌++◌, sym, ap, ◌∙◌}
use Rattle.std.specs.Prelude.{nat_le, if◌then◌else◌}
use Rattle.std.proofs.lemmas.Bool.{lt-leb}
use Rattle.vx_flat.specs.Continued.{continued}
use Rattle.vx_episode.specs.Commits.{happening, timed, entry_of, happenings_of}
use Rattle.vx_episode.specs.Commits.What.{Stops}
use Rattle.vx_episode.specs.Cycles.Cycle.{At}
use Rattle.vx_episode.specs.Episode.{fetched_by}
use Rattle.vx_episode.specs.Footprint.{Footprint}
use Rattle.vx_episode.specs.History.{Entry, last_retire}
use Rattle.vx_course.specs.Course.{fetch_behind}
use Rattle.vx_course.proofs.Cited.{QuietLaws, FlightLaws}
use Rattle.vx_course.proofs.Flight.{fetched-is}
use Rattle.vx_course.proofs.GoingOn.{next-of}
use Rattle.vx_course.proofs.AtEnd.{behind-late}
use Rattle.vx_course.proofs.laws.courses_fetch.Goals as goal

quiets : goal.After-instructions_in_flight → QuietLaws
quiets c = record { goes_on = c.a_quiet_history_goes_on.ensures.goes_on; never = c.instructions_without_accesses_stop.ensures.completed }

flight : goal.After-instructions_in_flight → FlightLaws
flight c = record { one = c.instructions_in_flight.ensures.one; two = c.instructions_in_flight.ensures.two }

pub returns-clause-any : goal.returns-clause-any
returns-clause-any c start until from course history now e f before after h issued on one e-is f-is i parts =
    next-of
    (λ (e : Entry) (f : Footprint). e.issued ≡ At issued → happenings_of (last_retire start.cycle history) e ≡ before ++ h ∷ after
    → fetched_by start h.cycle from.state ≡ (if nat_le (fetch_behind f issued) h.cycle then entry_of start (e ∷ history) (continued now.state) ∷ e ∷ history else e ∷ history))
    start history now.state e f e-is f-is
    (λ at of. fetched-is (quiets c) start until from course history now on one before after h of issued at (flight c))
    i parts

pub returns-clause-at_issue : goal.returns-clause-at_issue
returns-clause-at_issue c start until from course history now e f why fetched issued on one e-is f-is stop batches is issue =
    let e-of : e ≡ timed start history now.state f = e-is ∙ ap (timed start history now.state) (sym f-is) in
    let fetch : (timed start history now.state f).fetch.ended ≡ At fetched = ap (λ (x : Entry). x.fetch.ended) (sym e-of) ∙ is in
    let happens : happenings_of (last_retire start.cycle history) (timed start history now.state f) ≡ happening (timed start history now.state f) (Stops why now.state.v.vstart now.state.v.vstart) issued ∷ [] =
    c.instructions_without_accesses_stop.ensures.happens start history now.state f why course.retired fetched on.quiet one stop batches fetch
    ∙ ap (λ (n : ℕ). happening (timed start history now.state f) (Stops why now.state.v.vstart now.state.v.vstart) n ∷ []) (sym issue) in
    let at : (timed start history now.state f).issued ≡ At issued =
    c.instructions_issue_behind_a_quiet_history.ensures.issued start history now.state f course.retired fetched on.quiet one fetch ∙ ap At (sym issue) in
    let none : nat_le (fetch_behind f issued) issued ≡ false = lt-leb (fetch_behind f issued) issued (behind-late f.jumps issued) in
    returns-clause-any c start until from course history now e f [] [] (happening (timed start history now.state f) (Stops why now.state.v.vstart now.state.v.vstart) issued) issued on one e-is f-is
    (ap (λ (x : Entry). x.issued) e-of ∙ at)
    (ap (λ (x : Entry). happenings_of (last_retire start.cycle history) x) e-of ∙ happens)
    ∙ ap (λ (b : Bool). if b then entry_of start (e ∷ history) (continued now.state) ∷ e ∷ history else e ∷ history) none
