-- Instructions without accesses, behind a quiet history: when they complete, and what happens.
use Rattle.std.proofs.Common.{◌≡◌, ℕ, suc, ◌+◌, ◌*◌, ◌≤◌, ◌<◌, max, Bool, true, List, [], ◌∷◌, ◌++◌, length, refl, ap, ◌∙◌, arith}
use Rattle.std.specs.Prelude.{◌&&◌, ◌==◌, map, flat_map, filter, find, reverse, Option, Some, None, option_map, option_to_list, if◌then◌else◌}
use Rattle.std.specs.List.{list_all}
use Rattle.std.proofs.Math.Nat.{suc-mul}
use Rattle.std.proofs.lemmas.Bool.{eq-eqb}
use Rattle.std.proofs.lemmas.List.{append-nil}
use Rattle.vx_flat.specs.State.{Flat}
use Rattle.vx_rows.specs.declared.family.Unit.{Unit}
use Rattle.vx_episode.specs.Batches.{all_batches, retired_batches}
use Rattle.vx_episode.specs.Commits.{timed, happening, happenings_of, batch_commit, not_last, serial_stop, batch_stop_by}
use Rattle.vx_episode.specs.Commits.What.{Completes, Stops}
use Rattle.vx_episode.specs.Cycles.{Cycle, later, behind, later_of, latest, is_by, cycles_of}
use Rattle.vx_episode.specs.Cycles.Cycle.{At, Never}
use Rattle.vx_episode.specs.Footprint.{Batch, Footprint, Group}
use Rattle.vx_episode.specs.History.{History, Entry, BeatTimes, BatchTimes, last_retire, word_ready, unit_number, step_of, latency_of, beats_of, free_unit, stops}
use Rattle.vx_episode.specs.Instructions.{fetch_begin, fetch_times, issue_cycle, beat_cycle, beat_times, beat_ready, generation_cycle, complete_by, retire_cycle}
use Rattle.vx_episode.specs.Organisation.{Start}
use Rattle.vx_episode.specs.declared.ended.Ended.{Ended}
use Rattle.vx_quiet.specs.Quiet.{IsQuiet, made_by, completed_at}
use Rattle.vx_quiet.proofs.Going.{timed-retires}
use Rattle.vx_quiet.proofs.Issue.{issue-of}
use Rattle.vx_quiet.proofs.Times.{all-both, by-more, all-by-more, latest-comes, later_of-never}

-- ---- beats, one step behind another

-- the cycle of what is behind a cycle, where all else comes by that one
behind-others : (t m : ℕ) (rest : List Cycle) → t ≤ m → list_all (is_by t) rest ≡ true → later_of (At m) (latest rest) ≡ At m
behind-others t m rest few h =
    let others = latest-comes t rest h in
    let by = others.by in
    let most : max m others.cycle ≡ m = omega arith in
    ap (later_of (At m)) others.is ∙ ap At most

sources-by : (start : Start) (history : History) (t : ℕ) → ((place : ℕ) → is_by t (word_ready start.cycle history place) ≡ true) → (places : List ℕ) → list_all (is_by t) (map (word_ready start.cycle history) places) ≡ true
sources-by start history t words [] = refl
sources-by start history t words (place ∷ places) = (λ i. words place i && sources-by start history t words places i)

abbrev beat : Unit → (m : ℕ) (made : List ℕ) → BeatTimes
beat u m made = record { unit = u; cycle = At m; made = made }

free-here : (u : Unit) (m : ℕ) (made : List ℕ) (others : List BeatTimes) → free_unit u (beat u m made ∷ others) ≡ At (m + step_of u) ∷ []
free-here u m made others =
    ap (λ (same : Bool). option_to_list (option_map (λ (b : BeatTimes). later (step_of b.unit) b.cycle) (if same then Some (beat u m made) else find (λ (b : BeatTimes). unit_number b.unit == unit_number u) others)))
    (eq-eqb (unit_number u) (unit_number u) refl)

module _ (start : Start) (history : History) (t : ℕ) (u : Unit) (words : (place : ℕ) → is_by t (word_ready start.cycle history place) ≡ true) where
  next-beat : (m : ℕ) (made : List ℕ) (beats : List BeatTimes) (g : Group) → t < m → beat_cycle start history (At t) u (beat u m made ∷ beats) g ≡ At (m + step_of u)
  next-beat m made beats g few =
      let sources = map (word_ready start.cycle history) g.sources in
      let after : t ≤ m + step_of u = omega arith in
      let most : max (t + 1) (m + step_of u) ≡ m + step_of u = omega arith in
      ap (λ (free : List Cycle). latest (At (t + 1) ∷ free ++ sources)) (free-here u m made (beats ++ beats_of history))
      ∙ ap (later_of (At (t + 1))) (behind-others t (m + step_of u) sources after (sources-by start history t words g.sources))
      ∙ ap At most

  first-beat : (g : Group) → list_all (is_by t) (free_unit u (beats_of history)) ≡ true → beat_cycle start history (At t) u [] g ≡ At (t + 1)
  first-beat g free =
      let sources = map (word_ready start.cycle history) g.sources in
      let after : t ≤ t + 1 = omega arith in
      behind-others t (t + 1) (free_unit u (beats_of history) ++ sources) after (all-both (is_by t) (free_unit u (beats_of history)) sources free (sources-by start history t words g.sources))

  steps : (n m s l : ℕ) → (m + s) + n * s + l ≡ m + suc n * s + l
  steps n m s l = let more = suc-mul n s in omega arith

  none-left : (m s l : ℕ) → m + l ≡ m + 0 * s + l
  none-left m s l = let none : 0 * s ≡ 0 = omega arith in omega arith

  beats-on : (groups : List Group) (m : ℕ) (made : List ℕ) (beats : List BeatTimes) → t < m → latest (map (beat_ready start) (beat u m made ∷ beats)) ≡ At (m + latency_of u)
      → latest (map (beat_ready start) (beat_times start history (At t) u (beat u m made ∷ beats) groups)) ≡ At (m + length groups * step_of u + latency_of u)
  beats-on [] m made beats few is = is ∙ ap At (none-left m (step_of u) (latency_of u))
  beats-on (g ∷ groups) m made beats few is =
      let next : ℕ = m + step_of u in
      let later-few : t < next = omega arith in
      let most : max (next + latency_of u) (m + latency_of u) ≡ next + latency_of u = omega arith in
      let now : latest (map (beat_ready start) (beat u next g.made ∷ beat u m made ∷ beats)) ≡ At (next + latency_of u) = ap (later_of (At (next + latency_of u))) is ∙ ap At most in
      ap (λ (c : Cycle). latest (map (beat_ready start) (beat_times start history (At t) u (record { unit = u; cycle = c; made = g.made } ∷ beat u m made ∷ beats) groups))) (next-beat m made beats g few)
      ∙ beats-on groups next g.made (beat u m made ∷ beats) later-few now
      ∙ ap At (steps (length groups) m (step_of u) (latency_of u))

  -- what the beats make can be read once what the last makes can
  beats-made : (groups : List Group) → list_all (is_by t) (free_unit u (beats_of history)) ≡ true → later_of (At (t + 1)) (latest (map (beat_ready start) (beat_times start history (At t) u [] groups))) ≡ At (made_by t u groups)
  beats-made [] free = let most : max (t + 1) 0 ≡ t + 1 = omega arith in ap At most
  beats-made (g ∷ groups) free =
      let few : t < t + 1 = omega arith in
      let most : max (t + 1 + latency_of u) 0 ≡ t + 1 + latency_of u = omega arith in
      let all : max (t + 1) (made_by t u (g ∷ groups)) ≡ made_by t u (g ∷ groups) = omega arith in
      ap (λ (c : Cycle). later_of (At (t + 1)) (latest (map (beat_ready start) (beat_times start history (At t) u (record { unit = u; cycle = c; made = g.made } ∷ []) groups)))) (first-beat g free)
      ∙ ap (later_of (At (t + 1))) (beats-on groups (t + 1) g.made [] few (ap At most))
      ∙ ap At all

-- ---- completion

-- issued at a cycle
completed-from : (start : Start) (history : History) (f : Footprint) (r t : ℕ) → IsQuiet start history r → r ≤ t
    → complete_by start None (At t) (generation_cycle start (At t) []) f (beat_times start history (At t) f.unit [] f.groups) [] ≡ At (completed_at t f)
completed-from start history f r t q few =
    let ready = map (beat_ready start) (beat_times start history (At t) f.unit [] f.groups) in
    let words : (place : ℕ) → is_by t (word_ready start.cycle history place) ≡ true = λ place. by-more r t few (word_ready start.cycle history place) (q.words place) in
    let free : list_all (is_by t) (free_unit f.unit (beats_of history)) ≡ true = all-by-more r t few (free_unit f.unit (beats_of history)) (q.units f.unit) in
    ap (λ (cycles : List Cycle). later_of (At (t + f.latency)) (later_of (At (t + 1)) (latest cycles))) (append-nil ready)
    ∙ ap (later_of (At (t + f.latency))) (beats-made start history t f.unit words f.groups free)

pub idle-completed : (start : Start) (history : History) (s : Flat) (f : Footprint) (r fetched : ℕ) → IsQuiet start history r → start.machine.window ≡ 1 → f.stop ≡ None → f.batches ≡ [] → (timed start history s f).fetch.ended ≡ At fetched
    → (timed start history s f).completed ≡ At (completed_at (max fetched (r + 1)) f)
idle-completed start history s f r fetched q one stop none is =
    let t : ℕ = max fetched (r + 1) in
    let few : r ≤ t = omega arith in
    let issue : issue_cycle start history (fetch_times start history s.pc (fetch_begin start history)).ended f ≡ At t = issue-of start history r fetched f (fetch_times start history s.pc (fetch_begin start history)).ended one q is in
    (λ i. complete_by start (stop i) (issue i) (generation_cycle start (issue i) (all_batches start history [] (issue i) f (none i))) f (beat_times start history (issue i) f.unit [] f.groups) (all_batches start history [] (issue i) f (none i)))
    ∙ completed-from start history f r t q few

-- ---- what happens

completes-alone : (before : Cycle) (e : Entry) (c : ℕ) → e.footprint.stop ≡ None → e.batches ≡ [] → e.retired ≡ At c → happenings_of before e ≡ happening e Completes c ∷ []
completes-alone before e c stop none retired =
    (λ i. flat_map (batch_commit e) (reverse (not_last (none i))) ++ map (happening e Completes) (cycles_of (retired i)) ++ serial_stop e (stop i) ++ flat_map (λ (b : BatchTimes). batch_stop_by before e b b.failure) (filter stops (none i)))

stops-alone : (before : Cycle) (e : Entry) (why : Ended) (t : ℕ) → e.footprint.stop ≡ Some why → e.batches ≡ [] → e.retired ≡ Never → e.issued ≡ At t → happenings_of before e ≡ happening e (Stops why e.state.v.vstart e.state.v.vstart) t ∷ []
stops-alone before e why t stop none retired issued =
    (λ i. flat_map (batch_commit e) (reverse (not_last (none i))) ++ map (happening e Completes) (cycles_of (retired i)) ++ serial_stop e (stop i) ++ flat_map (λ (b : BatchTimes). batch_stop_by before e b b.failure) (filter stops (none i)))
    ∙ ap (λ (c : Cycle). map (happening e (Stops why e.state.v.vstart e.state.v.vstart)) (cycles_of c) ++ []) issued

no-batches : (start : Start) (history : History) (s : Flat) (f : Footprint) → f.batches ≡ [] → (timed start history s f).batches ≡ []
no-batches start history s f none =
    let issued : Cycle = (timed start history s f).issued in
    ap (λ (batches : List Batch). retired_batches (timed start history s f).retired (all_batches start history [] issued f batches)) none

pub idle-happens : (start : Start) (history : History) (s : Flat) (f : Footprint) (r k : ℕ) → IsQuiet start history r → start.machine.window ≡ 1 → f.stop ≡ None → f.batches ≡ [] → (timed start history s f).completed ≡ At k
    → happenings_of (last_retire start.cycle history) (timed start history s f) ≡ happening (timed start history s f) Completes (k + 1) ∷ []
idle-happens start history s f r k q one stop none is =
    completes-alone (last_retire start.cycle history) (timed start history s f) (k + 1) stop (no-batches start history s f none) (timed-retires start history s f r k q is one)

-- one that stops never completes
never-completed : (start : Start) (history : History) (s : Flat) (f : Footprint) (why : Ended) → f.stop ≡ Some why → (timed start history s f).completed ≡ Never
never-completed start history s f why stop =
    let e : Entry = timed start history s f in
    let batches : List BatchTimes = all_batches start history [] e.issued f f.batches in
    ap (λ (stop : Option Ended). complete_by start stop e.issued (generation_cycle start e.issued batches) f (beat_times start history e.issued f.unit [] f.groups) batches) stop

never-retired : (start : Start) (history : History) (s : Flat) (f : Footprint) (why : Ended) → f.stop ≡ Some why → (timed start history s f).retired ≡ Never
never-retired start history s f why stop =
    ap (λ (completed : Cycle). retire_cycle start history completed) (never-completed start history s f why stop) ∙ later_of-never (behind (last_retire start.cycle history))

pub stop-happens : (start : Start) (history : History) (s : Flat) (f : Footprint) (why : Ended) (r fetched : ℕ) → IsQuiet start history r → start.machine.window ≡ 1 → f.stop ≡ Some why → f.batches ≡ [] → (timed start history s f).fetch.ended ≡ At fetched
    → happenings_of (last_retire start.cycle history) (timed start history s f) ≡ happening (timed start history s f) (Stops why s.v.vstart s.v.vstart) (max fetched (r + 1)) ∷ []
stop-happens start history s f why r fetched q one stop none is =
    stops-alone (last_retire start.cycle history) (timed start history s f) why (max fetched (r + 1)) stop (no-batches start history s f none) (never-retired start history s f why stop)
    (issue-of start history r fetched f (timed start history s f).fetch.ended one q is)
