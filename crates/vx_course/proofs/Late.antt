-- An instruction that isn't issued by a cycle has done nothing by then.
use Rattle.std.proofs.Common.{◌≡◌, ℕ, ◌+◌, ◌<◌, Bool, true, false, List, [], ◌∷◌, ◌++◌, refl, arith}
use Rattle.std.specs.Prelude.{nat_le, nat_lt, map, filter, flat_map, reverse, Option, Some, None, option_to_list, if◌then◌else◌}
use Rattle.std.specs.List.{list_all, list_any}
use Rattle.std.proofs.lemmas.Bool.{and_parts, and_from, lt-leb}
use Rattle.vx_base.specs.declared.machine.Want.TheVariants.{Fetch}
use Rattle.vx_flat.specs.State.{Flat}
use Rattle.vx_image.specs.Pages.{is_canonical, page_of}
use Rattle.vx_tables.specs.Caches.{look_up}
use Rattle.vx_tables.specs.declared.look.Look.{Look}
use Rattle.vx_tables.specs.declared.look.Look.TheVariants.{Hit, Denied, Miss}
use Rattle.vx_episode.specs.Batches.{all_batches}
use Rattle.vx_episode.specs.Commits.{What, Happening, happening, timed, batch_commit, not_last, commits_of, serial_stop, why_stopped, batch_stop_by, batch_stop, happenings_of}
use Rattle.vx_episode.specs.Commits.What.{Completes, Reaches, Stops}
use Rattle.vx_episode.specs.Cycles.{Cycle, later, behind, later_of, latest, is_by, cycles_of}
use Rattle.vx_episode.specs.Cycles.Cycle.{At, Never}
use Rattle.vx_episode.specs.Footprint.{Footprint}
use Rattle.vx_episode.specs.History.{History, Entry, Walk, BeatTimes, BatchTimes, AccessTimes, Failure, last_retire, stops, accesses_of, queued_by, batch_done, walks_of_batches, fills_of, fetch_walks}
use Rattle.vx_episode.specs.Instructions.{fetch_times, fetch_by, fetch_at, beat_times, beat_ready, generation_cycle, complete_by, retire_cycle, walk_time}
use Rattle.vx_episode.specs.Organisation.{Start, fetch_entries}
use Rattle.vx_episode.specs.declared.ended.Ended.{Ended}
use Rattle.vx_quiet.specs.Quiet.{ended_by}
use Rattle.vx_course.proofs.From.{is_from, from-late, from-later, from-first, from-second, AreFrom, all-from, retired-from}
use Rattle.vx_course.proofs.Lists.{all-both, all-more, all-filter, all-flat_map, all-reverse, filter-none, any-none, le-refused}

-- ---- the completion and the retire

pub complete-from : (start : Start) (n : ℕ) (stop : Option Ended) (issued generated : Cycle) (f : Footprint) (beats : List BeatTimes) (batches : List BatchTimes) → is_from n issued ≡ true
    → is_from n (complete_by start stop issued generated f beats batches) ≡ true
complete-from start n (Some why) issued generated f beats batches h = refl
complete-from start n None issued generated f beats batches h =
    from-first n (later f.latency issued) (latest (generated ∷ map (beat_ready start) beats ++ batch_done batches)) (from-later n f.latency issued h)

retire-from : (start : Start) (history : History) (n : ℕ) (completed : Cycle) → is_from n completed ≡ true → is_from n (retire_cycle start history completed) ≡ true
retire-from start history n completed h =
    from-second n (behind (last_retire start.cycle history)) (later_of (behind completed) (At 0)) (from-first n (behind completed) (At 0) (from-later n 1 completed h))

-- ---- what happens

happen-from : (n : ℕ) (e : Entry) (what : What) (c : Cycle) → is_from n c ≡ true → list_all (λ (h : Happening). nat_le n h.cycle) (map (happening e what) (cycles_of c)) ≡ true
happen-from n e what (At c) h = and_from (nat_le n c) true h refl
happen-from n e what Never h = refl

pub all-not_last : (p : BatchTimes → Bool) (batches : List BatchTimes) → list_all p batches ≡ true → list_all p (not_last batches) ≡ true
all-not_last p [] h = refl
all-not_last p (b ∷ batches) h = (and_parts (p b) (list_all p batches) h).1

-- an instruction with all its times from a cycle on
pub record EntryFrom (n : ℕ) (e : Entry) : Type 0 where
  pub issued : is_from n e.issued ≡ true
  pub retired : is_from n e.retired ≡ true
  pub batches : AreFrom n e.batches

module _ (n : ℕ) (e : Entry) (is : EntryFrom n e) where
  abbrev late : Happening → Bool
  late = λ (h : Happening). nat_le n h.cycle

  commits-from : list_all late (commits_of e) ≡ true
  commits-from =
      all-both late (flat_map (batch_commit e) (reverse (not_last e.batches))) (map (happening e Completes) (cycles_of e.retired))
      (all-flat_map late (batch_commit e) (reverse (not_last e.batches))
      (all-more (λ (b : BatchTimes). is_from n b.committed) (λ (b : BatchTimes). list_all late (batch_commit e b)) (λ b one. happen-from n e (Reaches b.after) b.committed one) (reverse (not_last e.batches))
      (all-reverse (λ (b : BatchTimes). is_from n b.committed) (not_last e.batches)
      (all-not_last (λ (b : BatchTimes). is_from n b.committed) e.batches is.batches.committed))))
      (happen-from n e Completes e.retired is.retired)

  serial-from : (stop : Option Ended) → list_all late (serial_stop e stop) ≡ true
  serial-from None = refl
  serial-from (Some why) = happen-from n e (Stops why e.state.v.vstart e.state.v.vstart) e.issued is.issued

  stop-from : (before : Cycle) (b : BatchTimes) (failure : Option Failure) → is_from n b.looked_up ≡ true → list_all late (batch_stop_by before e b failure) ≡ true
  stop-from before b None h = refl
  stop-from before b (Some f) h =
      let rest : Cycle = latest (behind before ∷ map (λ (a : AccessTimes). At a.done) (filter (λ (a : AccessTimes). nat_lt a.access.element f.element) (accesses_of e.batches))) in
      happen-from n e (Stops (why_stopped e f) b.from f.element) (later_of b.looked_up rest) (from-first n b.looked_up rest h)

  stops-from : (before : Cycle) → list_all late (batch_stop before e) ≡ true
  stops-from before =
      all-flat_map late (λ (b : BatchTimes). batch_stop_by before e b b.failure) (filter stops e.batches)
      (all-more (λ (b : BatchTimes). is_from n b.looked_up) (λ (b : BatchTimes). list_all late (batch_stop_by before e b b.failure)) (λ b one. stop-from before b b.failure one) (filter stops e.batches)
      (all-filter (λ (b : BatchTimes). is_from n b.looked_up) stops e.batches is.batches.looked_up))

  pub happenings-from : (before : Cycle) → list_all late (happenings_of before e) ≡ true
  happenings-from before =
      all-both late (commits_of e ++ serial_stop e e.footprint.stop) (batch_stop before e)
      (all-both late (commits_of e) (serial_stop e e.footprint.stop) commits-from (serial-from e.footprint.stop))
      (stops-from before)

-- ---- an instruction

module _ (start : Start) (history : History) (s : Flat) (f : Footprint) where
  pub entry-from : (n : ℕ) → is_from n (timed start history s f).issued ≡ true → EntryFrom n (timed start history s f)
  entry-from n h =
      let e : Entry = timed start history s f in
      let batches : List BatchTimes = all_batches start history [] e.issued f f.batches in
      let completed : is_from n e.completed ≡ true = complete-from start n f.stop e.issued (generation_cycle start e.issued batches) f (beat_times start history e.issued f.unit [] f.groups) batches h in
      let retired : is_from n e.retired ≡ true = retire-from start history n e.completed completed in
      record { issued = h; retired = retired; batches = retired-from n e.retired batches retired (all-from start history n e.issued h f) }

  module _ (last : ℕ) (late : is_by last (timed start history s f).issued ≡ false) where
    late-entry : EntryFrom (last + 1) (timed start history s f)
    late-entry = entry-from (last + 1) (from-late last (timed start history s f).issued late)

    pub late-walks : ended_by last (walks_of_batches (timed start history s f).batches) ≡ []
    late-walks = filter-none (λ (w : Walk). nat_le (last + 1) w.ended) (λ (w : Walk). nat_le w.ended last) (λ w h. le-refused last w.ended h) (walks_of_batches (timed start history s f).batches) late-entry.batches.walks

    pub late-accesses : queued_by last (accesses_of (timed start history s f).batches) ≡ []
    late-accesses = filter-none (λ (a : AccessTimes). nat_le (last + 1) a.queued) (λ (a : AccessTimes). nat_le a.queued last) (λ a h. le-refused last a.queued h) (accesses_of (timed start history s f).batches) late-entry.batches.queued

    pub late-happenings : (before : Cycle) → list_any (λ (h : Happening). nat_le h.cycle last) (happenings_of before (timed start history s f)) ≡ false
    late-happenings before =
        any-none (λ (h : Happening). nat_le (last + 1) h.cycle) (λ (h : Happening). nat_le h.cycle last) (λ h one. le-refused last h.cycle one) (happenings_of before (timed start history s f))
        (happenings-from (last + 1) (timed start history s f) late-entry before)

-- ---- a fetch

module _ (start : Start) (history : History) (pc begun last : ℕ) (few : last < begun) where
  look-late : (look : Look) → ended_by last (option_to_list (fetch_by start history pc begun look).walk) ≡ []
  look-late (Hit frame) = refl
  look-late Denied = refl
  look-late Miss = let not-yet : nat_le (begun + walk_time start.machine) last ≡ false = lt-leb (begun + walk_time start.machine) last (omega arith) in rw not-yet refl

  canonical-late : (canonical : Bool) (look : Look) → ended_by last (option_to_list (if canonical then fetch_by start history pc begun look else fetch_at start begun).walk) ≡ []
  canonical-late true look = look-late look
  canonical-late false look = refl

  pub fetch-late : ended_by last (option_to_list (fetch_times start history pc (At begun)).walk) ≡ []
  fetch-late = canonical-late (is_canonical pc) (look_up fetch_entries (fills_of (fetch_walks history)) (page_of pc) Fetch)
