-- A course begins, and goes on behind an instruction that completes.
use Rattle.std.proofs.Common.{◌≡◌, ℕ, ◌+◌, ◌≤◌, ◌<◌, Bool, true, false, List, [], ◌∷◌, refl, sym, ap, ap₂, ◌∙◌, subst, arith}
use Rattle.std.specs.Prelude.{◌||◌, nat_le, if◌then◌else◌}
use Rattle.std.specs.List.{list_any}
use Rattle.std.proofs.lemmas.Bool.{leb-true, le-leb, lt-leb, or_from}
use Rattle.vx_flat.specs.Process.{Process, stepped}
use Rattle.vx_flat.specs.State.{Flat}
use Rattle.vx_episode.specs.Batches.{all_batches}
use Rattle.vx_episode.specs.Commits.{Happening, happening, timed, entry_of, ends, happenings, happenings_of}
use Rattle.vx_episode.specs.Commits.What.{Completes}
use Rattle.vx_episode.specs.Cycles.{later}
use Rattle.vx_episode.specs.Cycles.Cycle.{At}
use Rattle.vx_episode.specs.Footprint.{Footprint, footprint}
use Rattle.vx_episode.specs.History.{History, Entry, BatchTimes, last_retire}
use Rattle.vx_episode.specs.Instructions.{beat_times, generation_cycle}
use Rattle.vx_episode.specs.Organisation.{Start}
use Rattle.vx_quiet.specs.Quiet.{IsQuiet}
use Rattle.vx_ending.specs.Counts.{commits_in, changes_in}
use Rattle.vx_ending.specs.UnderWay.{IsUnderWay}
use Rattle.vx_course.specs.Course.{Course, IsOnCourse, begun_course, course_behind}
use Rattle.vx_course.proofs.Completing.{Completion}
use Rattle.vx_course.proofs.From.{is_from}
use Rattle.vx_course.proofs.Late.{complete-from}
use Rattle.vx_course.proofs.Cited.{QuietLaws, CountLaws}

pub course-begins : (start : Start) (until : ℕ) (from : Process) → IsUnderWay start until from 0 [] from → IsQuiet start [] start.cycle → IsOnCourse start until from (begun_course start) [] from
course-begins start until from way quiet = record {
  under_way = way;
  quiet = quiet;
  fetch = refl;
  soon = omega arith;
  commits_are = refl;
  changed_is = refl;
}

pub completion : QuietLaws → (start : Start) (history : History) (s : Flat) (f : Footprint) (retired : ℕ) → IsQuiet start history retired → start.machine.window ≡ 1 → Completion start history s f
completion laws start history s f retired quiet one = record {
  quiet = λ completed is. laws.goes_on start history s f retired completed quiet one is;
  never = λ why stop. laws.never start history s f why stop;
}

-- an instruction completes no earlier than its issue
completes-from : (start : Start) (history : History) (s : Flat) (f : Footprint) (issued completed : ℕ) → (timed start history s f).issued ≡ At issued → (timed start history s f).completed ≡ At completed → issued ≤ completed
completes-from start history s f issued completed i c =
    let e : Entry = timed start history s f in
    let batches : List BatchTimes = all_batches start history [] e.issued f f.batches in
    let here : is_from issued e.issued ≡ true = ap (is_from issued) i ∙ le-leb issued issued (omega arith) in
    leb-true issued completed
    (sym (ap (is_from issued) c) ∙ complete-from start issued f.stop e.issued (generation_cycle start e.issued batches) f (beat_times start history e.issued f.unit [] f.groups) batches here)

soon-behind : (jumps : Bool) (issued completed : ℕ) → issued ≤ completed → issued + (if jumps then 2 else 1) ≤ completed + 1 + 1
soon-behind true issued completed few = omega arith
soon-behind false issued completed few = omega arith

-- of an instruction that completes and of which nothing ends the episode, once the episode is under way behind it
module _ (quiets : QuietLaws) (counts : CountLaws) (start : Start) (until : ℕ) (from : Process) (course : Course) (history : History) (now : Process) (f : Footprint) (issued completed : ℕ) where
  course-more : IsOnCourse start until from course history now → start.machine.window ≡ 1 → (timed start history now.state f).issued ≡ At issued → (timed start history now.state f).completed ≡ At completed
      → changes_in (happenings_of (last_retire start.cycle history) (timed start history now.state f)) ≡ f.changes_vectors
      → IsUnderWay start until from (course.completed + 1) (timed start history now.state f ∷ history) (stepped now)
      → IsOnCourse start until from (course_behind course f issued completed (commits_in (happenings_of (last_retire start.cycle history) (timed start history now.state f)))) (timed start history now.state f ∷ history) (stepped now)
  course-more on one i c changes way =
      let e : Entry = timed start history now.state f in
      let happened : List Happening = happenings_of (last_retire start.cycle history) e in
      let known : Completion start history now.state f = completion quiets start history now.state f course.retired on.quiet one in
      record {
        under_way = way;
        quiet = known.quiet completed c;
        fetch = ap (later (if f.jumps then 2 else 1)) i;
        soon = soon-behind f.jumps issued completed (completes-from start history now.state f issued completed i c);
        commits_are = counts.commits (happenings start.cycle history) happened ∙ ap (λ (n : ℕ). n + commits_in happened) on.commits_are;
        changed_is =
            counts.changes (happenings start.cycle history) happened
            ∙ ap₂ (λ (a b : Bool). a || b) on.changed_is changes;
      }

-- ---- in terms of an instruction and its footprint

-- what is said of an instruction and its footprint, of those of the next instruction
pub next-of : (P : Entry → Footprint → Type 0) (start : Start) (history : History) (s : Flat) (e : Entry) (f : Footprint) → e ≡ entry_of start history s → f ≡ footprint start.machine start.has_vectors start.residency s
    → P (timed start history s (footprint start.machine start.has_vectors start.residency s)) (footprint start.machine start.has_vectors start.residency s) → P e f
next-of P start history s e f e-is f-is h = subst (λ (x : Entry). P x f) (sym e-is) (subst (λ (g : Footprint). P (entry_of start history s) g) (sym f-is) h)

module _ (quiets : QuietLaws) (counts : CountLaws) (start : Start) (until : ℕ) (from : Process) (course : Course) (history : History) (now : Process) (issued completed : ℕ) where
  abbrev GoesOn : Entry → Footprint → Type 0
  GoesOn e f =
      e.issued ≡ At issued → e.completed ≡ At completed → changes_in (happenings_of (last_retire start.cycle history) e) ≡ e.footprint.changes_vectors → IsUnderWay start until from (course.completed + 1) (e ∷ history) (stepped now)
      → IsOnCourse start until from (course_behind course f issued completed (commits_in (happenings_of (last_retire start.cycle history) e))) (e ∷ history) (stepped now)

  pub course-next : (e : Entry) (f : Footprint) → IsOnCourse start until from course history now → start.machine.window ≡ 1 → e ≡ entry_of start history now.state → f ≡ footprint start.machine start.has_vectors start.residency now.state → GoesOn e f
  course-next e f on one e-is f-is =
      next-of GoesOn start history now.state e f e-is f-is
      (course-more quiets counts start until from course history now (footprint start.machine start.has_vectors start.residency now.state) issued completed on one)

-- nothing ends it before the end of the slice
pub none-ends : (until : ℕ) (e : Entry) (happened : List Happening) (k : ℕ) → happened ≡ happening e Completes k ∷ [] → k < until → list_any (ends until) happened ≡ false
none-ends until e happened k is few = ap (list_any (ends until)) is ∙ or_from (nat_le until k) false (lt-leb until k few) refl
