use Rattle.std.proofs.Common.{◌≡◌, ℕ, ◌+◌, [], ◌∷◌, sym, ap, ◌∙◌, subst}
use Rattle.vx_flat.specs.Process.{stepped}
use Rattle.std.specs.List.{list_any}
use Rattle.vx_episode.specs.Commits.{happening, timed, ends, happenings_of}
use Rattle.vx_episode.specs.Commits.What.{Completes}
use Rattle.vx_episode.specs.Cycles.Cycle.{At}
use Rattle.vx_episode.specs.Footprint.{footprint}
use Rattle.vx_episode.specs.History.{Entry, last_retire}
use Rattle.vx_quiet.specs.Quiet.{completed_at}
use Rattle.vx_ending.specs.Counts.{commits_in}
use Rattle.vx_course.specs.Course.{IsOnCourse, course_behind}
use Rattle.vx_course.proofs.GoingOn.{course-begins, course-next, none-ends}
use Rattle.vx_course.proofs.Cited.{QuietLaws, CountLaws}
use Rattle.vx_course.proofs.laws.courses_go_on.Goals as goal

quiets : goal.After-retiring_instructions_commit → QuietLaws
quiets c = record { goes_on = c.a_quiet_history_goes_on.ensures.goes_on; never = c.instructions_without_accesses_stop.ensures.completed }

counts : goal.After-retiring_instructions_commit → CountLaws
counts c = record { commits = c.happenings_are_counted.ensures.commits; changes = c.happenings_are_counted.ensures.changes; of_one = c.happenings_are_counted.ensures.of_one }

pub returns-clause-begins : goal.returns-clause-begins
returns-clause-begins c start until from running = course-begins start until from (c.episodes_go_on.ensures.begins start until from running) (c.a_quiet_history_goes_on.ensures.begins start)

pub returns-clause-next : goal.returns-clause-next
returns-clause-next c start until from course history now e f t issued completed on one e-is f-is goes i done none =
    let retires : e.retired ≡ At (completed + 1) =
    ap (λ (x : Entry). x.retired) e-is
    ∙ c.a_quiet_history_goes_on.ensures.retires start history now.state (footprint start.machine start.has_vectors start.residency now.state) course.retired completed on.quiet one (ap (λ (x : Entry). x.completed) (sym e-is) ∙ done) in
    course-next (quiets c) (counts c) start until from course history now issued completed e f on one e-is f-is i done
    (c.retiring_instructions_commit.ensures.changes start history now.state e (last_retire start.cycle history) (completed + 1) e-is retires)
    (c.episodes_go_on.ensures.next start until from course.completed history now e t (completed + 1) on.under_way e-is goes retires none)

pub returns-clause-without_accesses : goal.returns-clause-without_accesses
returns-clause-without_accesses c start until from course history now e f t fetched issued on one e-is f-is goes stop accesses is issue few =
    let e-of : e ≡ timed start history now.state f = e-is ∙ ap (timed start history now.state) (sym f-is) in
    let fetch : (timed start history now.state f).fetch.ended ≡ At fetched = ap (λ (x : Entry). x.fetch.ended) (sym e-of) ∙ is in
    let issued-at : (timed start history now.state f).issued ≡ At issued =
    c.instructions_issue_behind_a_quiet_history.ensures.issued start history now.state f course.retired fetched on.quiet one fetch ∙ ap At (sym issue) in
    let completed : (timed start history now.state f).completed ≡ At (completed_at issued f) =
    c.instructions_without_accesses_complete.ensures.completed start history now.state f course.retired fetched on.quiet one stop accesses fetch ∙ ap (λ (n : ℕ). At (completed_at n f)) (sym issue) in
    let happens : happenings_of (last_retire start.cycle history) (timed start history now.state f) ≡ happening (timed start history now.state f) Completes (completed_at issued f + 1) ∷ [] =
    c.instructions_without_accesses_complete.ensures.happens start history now.state f course.retired (completed_at issued f) on.quiet one stop accesses completed in
    let none = none-ends until (timed start history now.state f) (happenings_of (last_retire start.cycle history) (timed start history now.state f)) (completed_at issued f + 1) happens few in
    let once : commits_in (happenings_of (last_retire start.cycle history) e) ≡ 1 =
    ap (λ (x : Entry). commits_in (happenings_of (last_retire start.cycle history) x)) e-of ∙ ap commits_in happens in
    subst (λ (n : ℕ). IsOnCourse start until from (course_behind course f issued (completed_at issued f) n) (e ∷ history) (stepped now)) once
    (returns-clause-next c start until from course history now e f t issued (completed_at issued f) on one e-is f-is goes
    (ap (λ (x : Entry). x.issued) e-of ∙ issued-at) (ap (λ (x : Entry). x.completed) e-of ∙ completed)
    (ap (λ (x : Entry). list_any (ends until) (happenings_of (last_retire start.cycle history) x)) e-of ∙ none))
