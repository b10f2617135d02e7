-- The instructions in flight at the end of an episode, what their walks have done to the residency, and when their accesses are done.
use Rattle.std.proofs.Common.{◌≡◌, ℕ, ◌+◌, ◌≤◌, ◌<◌, Bool, true, false, List, [], ◌∷◌, ◌++◌, refl, sym, ap, ◌∙◌, arith}
use Rattle.std.specs.Prelude.{nat_le, map, option_to_list, if◌then◌else◌}
use Rattle.std.proofs.lemmas.Bool.{leb-true, leb-false, le-leb}
use Rattle.std.proofs.lemmas.Grind.{flat_map-append}
use Rattle.std.proofs.lemmas.List.{append-nil}
use Rattle.std.proofs.lemmas.List.Elements.{filter-append}
use Rattle.vx_flat.specs.Continued.{continued}
use Rattle.vx_flat.specs.Process.{Process}
use Rattle.vx_episode.specs.Commits.{Happening, timed, entry_of, happenings_of}
use Rattle.vx_episode.specs.Cycles.{Cycle, later, is_by}
use Rattle.vx_episode.specs.Cycles.Cycle.{At}
use Rattle.vx_episode.specs.Episode.{fetched_by, greatest, clock_behind, residency_by, trap_cycles}
use Rattle.vx_episode.specs.Footprint.{Footprint, footprint}
use Rattle.vx_episode.specs.History.{History, Entry, Walk, BatchTimes, AccessTimes, last_retire, batches_of, accesses_of, queued_by, walks_of_batches, data_walks, fetch_walks, after_walks}
use Rattle.vx_episode.specs.Instructions.{fetch_begin, fetch_times}
use Rattle.vx_episode.specs.Organisation.{Start}
use Rattle.vx_quiet.specs.Quiet.{ended_by}
use Rattle.vx_course.specs.Course.{Course, IsOnCourse, fetch_behind, clock_by, residency_at, walk_behind}
use Rattle.vx_course.proofs.Behind.{issue-behind, issued-by, waits-behind, issue-from, issue-walk}
use Rattle.vx_course.proofs.Cited.{QuietLaws, OverLaws, FlightLaws}
use Rattle.vx_course.proofs.Completing.{Completion}
use Rattle.vx_course.proofs.From.{is_from, from-late, late-from, from-later}
use Rattle.vx_course.proofs.GoingOn.{completion}
use Rattle.vx_course.proofs.Late.{late-walks, late-accesses, fetch-late}
use Rattle.vx_course.proofs.Lists.{filter-all}

-- the next instruction, and the one behind it
abbrev pub next_footprint : Start → Process → Footprint
next_footprint start now = footprint start.machine start.has_vectors start.residency now.state

abbrev pub next_entry : Start → History → Process → Entry
next_entry start history now = timed start history now.state (next_footprint start now)

abbrev pub entry_behind : Start → History → Process → Entry
entry_behind start history now = entry_of start (next_entry start history now ∷ history) (continued now.state)

module _ (quiets : QuietLaws) (start : Start) (until : ℕ) (from : Process) (course : Course) (history : History) (now : Process) (on : IsOnCourse start until from course history now) (one : start.machine.window ≡ 1)
    (before after : List Happening) (h : Happening) (parts : happenings_of (last_retire start.cycle history) (next_entry start history now) ≡ before ++ h ∷ after) (issued : ℕ) (i : (next_entry start history now).issued ≡ At issued) where
  abbrev f : Footprint
  f = next_footprint start now

  abbrev e : Entry
  e = next_entry start history now

  abbrev newer : Entry
  newer = entry_behind start history now

  known : Completion start history now.state f
  known = completion quiets start history now.state f course.retired on.quiet one

  -- ---- the order of cycles

  issued-early : is_by h.cycle e.issued ≡ true
  issued-early = issued-by start history now.state f (last_retire start.cycle history) before after h parts

  issued-le : issued ≤ h.cycle
  issued-le = leb-true issued h.cycle (sym (ap (is_by h.cycle) i) ∙ issued-early)

  begun-le : course.begun ≤ issued
  begun-le = leb-true course.begun issued (sym (ap (is_from course.begun) i) ∙ issue-from start history now.state f course.begun on.fetch)

  retired-lt : course.retired + 1 ≤ issued
  retired-lt =
      let last : is_from course.retired (last_retire start.cycle history) ≡ true = ap (is_from course.retired) on.quiet.last ∙ le-leb course.retired course.retired (omega arith) in
      leb-true (course.retired + 1) issued (sym (ap (is_from (course.retired + 1)) i) ∙ issue-behind start history course.retired e.fetch.ended f one last)

  pub retired-le : course.retired ≤ h.cycle
  retired-le = let few = retired-lt in let more = issued-le in omega arith

  begun-by : is_by h.cycle (fetch_begin start history) ≡ true
  begun-by = let few = begun-le in let more = issued-le in ap (is_by h.cycle) on.fetch ∙ le-leb course.begun h.cycle (omega arith)

  behind-is : fetch_begin start (e ∷ history) ≡ At (fetch_behind f issued)
  behind-is = ap (later (if f.jumps then 2 else 1)) i

  newer-late : is_by h.cycle newer.issued ≡ false
  newer-late =
      waits-behind start history now.state f known one (last_retire start.cycle history) before after h parts (continued now.state)
      (footprint start.machine start.has_vectors start.residency (continued now.state))

  newest-late : is_by h.cycle (fetch_begin start (newer ∷ e ∷ history)) ≡ false
  newest-late = late-from h.cycle (fetch_begin start (newer ∷ e ∷ history)) (from-later (h.cycle + 1) (if newer.footprint.jumps then 2 else 1) newer.issued (from-late h.cycle newer.issued newer-late))

  -- ---- the instructions in flight

  module _ (flight : FlightLaws) where
    fetched-if : (b : Bool) → nat_le (fetch_behind f issued) h.cycle ≡ b → fetched_by start h.cycle from.state ≡ (if b then newer ∷ e ∷ history else e ∷ history)
    fetched-if true is = flight.two start until from course.completed history now e newer h.cycle on.under_way refl refl (ap (is_by h.cycle) behind-is ∙ is) newest-late
    fetched-if false is = flight.one start until from course.completed history now e h.cycle on.under_way refl begun-by (ap (is_by h.cycle) behind-is ∙ is)

    pub fetched-is : fetched_by start h.cycle from.state ≡ (if nat_le (fetch_behind f issued) h.cycle then newer ∷ e ∷ history else e ∷ history)
    fetched-is = fetched-if (nat_le (fetch_behind f issued) h.cycle) refl

  -- ---- walks

  own-walk : ended_by h.cycle (option_to_list e.fetch.walk ++ []) ≡ option_to_list e.fetch.walk
  own-walk =
      ap (ended_by h.cycle) (append-nil (option_to_list e.fetch.walk))
      ∙ filter-all (λ (w : Walk). nat_le w.ended h.cycle) (option_to_list e.fetch.walk) (issue-walk start history now.state f h.cycle issued-early)

  abbrev behind : List Walk
  behind = walk_behind start history e (continued now.state).pc (fetch_behind f issued)

  fetches-two : ended_by h.cycle (fetch_walks (newer ∷ e ∷ [])) ≡ ended_by h.cycle behind ++ option_to_list e.fetch.walk
  fetches-two =
      filter-append (λ (w : Walk). nat_le w.ended h.cycle) (option_to_list newer.fetch.walk) (option_to_list e.fetch.walk ++ [])
      ∙ ap (λ (walks : List Walk). ended_by h.cycle (option_to_list newer.fetch.walk) ++ walks) own-walk
      ∙ ap (λ (c : Cycle). ended_by h.cycle (option_to_list (fetch_times start (e ∷ history) (continued now.state).pc c).walk) ++ option_to_list e.fetch.walk) behind-is

  fetches-one : h.cycle < fetch_behind f issued → ended_by h.cycle (fetch_walks (e ∷ [])) ≡ ended_by h.cycle behind ++ option_to_list e.fetch.walk
  fetches-one few =
      own-walk ∙ ap (λ (walks : List Walk). walks ++ option_to_list e.fetch.walk) (sym (fetch-late start (e ∷ history) (continued now.state).pc (fetch_behind f issued) h.cycle few))

  data-one : ended_by h.cycle (data_walks (e ∷ [])) ≡ ended_by h.cycle (walks_of_batches e.batches)
  data-one = ap (λ (batches : List BatchTimes). ended_by h.cycle (walks_of_batches batches)) (append-nil e.batches)

  data-two : ended_by h.cycle (data_walks (newer ∷ e ∷ [])) ≡ ended_by h.cycle (walks_of_batches e.batches)
  data-two =
      ap (ended_by h.cycle) (flat_map-append (λ (b : BatchTimes). b.walks) newer.batches (e.batches ++ []))
      ∙ filter-append (λ (w : Walk). nat_le w.ended h.cycle) (walks_of_batches newer.batches) (walks_of_batches (e.batches ++ []))
      ∙ ap (λ (walks : List Walk). walks ++ ended_by h.cycle (walks_of_batches (e.batches ++ [])))
      (late-walks start (e ∷ history) (continued now.state) (footprint start.machine start.has_vectors start.residency (continued now.state)) h.cycle newer-late)
      ∙ data-one

  abbrev after_both : (fetches others : List Walk) → List Walk
  after_both fetches others = (fetches ++ fetch_walks history) ++ (others ++ data_walks history)

  module _ (overs : OverLaws) where
    residency-if : (b : Bool) → nat_le (fetch_behind f issued) h.cycle ≡ b → residency_by start h.cycle (if b then newer ∷ e ∷ history else e ∷ history) ≡ residency_at start history e behind h.cycle
    residency-if true is =
        overs.residency start (newer ∷ e ∷ []) history course.retired h.cycle on.quiet retired-le
        ∙ (λ j. after_walks start.residency (after_both (fetches-two j) (data-two j)))
    residency-if false is =
        let few = leb-false (fetch_behind f issued) h.cycle is in
        overs.residency start (e ∷ []) history course.retired h.cycle on.quiet retired-le
        ∙ (λ j. after_walks start.residency (after_both (fetches-one few j) (data-one j)))

    -- ---- accesses

    accesses-one : queued_by h.cycle (accesses_of (batches_of (e ∷ []))) ≡ queued_by h.cycle (accesses_of e.batches)
    accesses-one = ap (λ (batches : List BatchTimes). queued_by h.cycle (accesses_of batches)) (append-nil e.batches)

    accesses-two : queued_by h.cycle (accesses_of (batches_of (newer ∷ e ∷ []))) ≡ queued_by h.cycle (accesses_of e.batches)
    accesses-two =
        ap (queued_by h.cycle) (flat_map-append (λ (b : BatchTimes). b.accesses) newer.batches (e.batches ++ []))
        ∙ filter-append (λ (a : AccessTimes). nat_le a.queued h.cycle) (accesses_of newer.batches) (accesses_of (e.batches ++ []))
        ∙ ap (λ (accesses : List AccessTimes). accesses ++ queued_by h.cycle (accesses_of (e.batches ++ [])))
        (late-accesses start (e ∷ history) (continued now.state) (footprint start.machine start.has_vectors start.residency (continued now.state)) h.cycle newer-late)
        ∙ accesses-one

    abbrev clock_of : List AccessTimes → ℕ
    clock_of accesses = greatest (h.cycle ∷ map (λ (a : AccessTimes). a.done) accesses) + trap_cycles

    clock-if : (b : Bool) → clock_behind h.cycle (if b then newer ∷ e ∷ history else e ∷ history) ≡ clock_by h.cycle (accesses_of e.batches)
    clock-if true = overs.clock start (newer ∷ e ∷ []) history course.retired h.cycle on.quiet retired-le ∙ ap clock_of accesses-two
    clock-if false = overs.clock start (e ∷ []) history course.retired h.cycle on.quiet retired-le ∙ ap clock_of accesses-one

    -- ---- at the end

    module _ (flight : FlightLaws) where
      pub residency-is : residency_by start h.cycle (fetched_by start h.cycle from.state) ≡ residency_at start history e behind h.cycle
      residency-is = ap (residency_by start h.cycle) (fetched-is flight) ∙ residency-if (nat_le (fetch_behind f issued) h.cycle) refl

      pub clock-is : clock_behind h.cycle (fetched_by start h.cycle from.state) ≡ clock_by h.cycle (accesses_of e.batches)
      clock-is = ap (clock_behind h.cycle) (fetched-is flight) ∙ clock-if (nat_le (fetch_behind f issued) h.cycle)
