-- An instruction that retires doesn't stop: what stops never completes, nor does what waits for it.
use Rattle.std.proofs.Common.{◌≡◌, ℕ, Bool, true, false, not, List, [], ◌∷◌, ◌++◌, map, filter, flat_map, if◌then◌else◌, refl, sym, ap, ◌∙◌, append-nil}
use Rattle.std.specs.Prelude.{Option, Some, None}
use Rattle.std.specs.List.{list_any}
use Rattle.std.proofs.lemmas.Bool.{false≢true, or_from, or_parts}
use Rattle.vx_flat.specs.State.{Flat}
use Rattle.vx_tables.specs.Residency.{is_store}
use Rattle.vx_episode.specs.Batches.{batch_times, batch_started, start_cycle, with_commit, all_batches, retired_batches}
use Rattle.vx_episode.specs.Commits.{entry_of, commits_of, serial_stop, batch_stop_by, batch_stop, happenings_of}
use Rattle.vx_episode.specs.Cycles.{Cycle, later, behind, later_of, latest}
use Rattle.vx_episode.specs.Cycles.Cycle.{At, Never}
use Rattle.vx_episode.specs.Footprint.{Footprint, Batch, footprint}
use Rattle.vx_episode.specs.History.{Entry, History, BatchTimes, BeatTimes, last_retire, word_ready, stops, passed, commit_before_last, batches_of, batch_done}
use Rattle.vx_episode.specs.Instructions.{beat_ready, generation_cycle, complete_by, retire_cycle}
use Rattle.vx_episode.specs.Organisation.{Start}
use Rattle.vx_episode.specs.declared.ended.Ended.{Ended}

-- ---- what comes at all

abbrev comes : Cycle → Bool
comes (At cycle) = true
comes Never = false

comes-both : (a b : Cycle) → comes (later_of a b) ≡ true → (comes a ≡ true) × (comes b ≡ true)
comes-both (At a) (At b) h = (refl, refl)
comes-both (At a) Never h = absurd (false≢true h)
comes-both Never b h = absurd (false≢true h)

comes-later : (k : ℕ) (c : Cycle) → comes (later k c) ≡ true → comes c ≡ true
comes-later k (At a) h = refl
comes-later k Never h = absurd (false≢true h)

comes-passed : (stopped : Bool) (looked_up : Cycle) → comes (if stopped then Never else looked_up) ≡ true → (stopped ≡ false) × (comes looked_up ≡ true)
comes-passed true looked_up h = absurd (false≢true h)
comes-passed false looked_up h = (refl, h)

-- ---- batches: where the last has passed, none has stopped

abbrev none_stops : List BatchTimes → Bool
none_stops batches = not (list_any stops batches)

abbrev PassBy : List BatchTimes → Type 0
PassBy [] = Unit {0}
PassBy (b ∷ batches) = comes (passed b) ≡ true → list_any stops (b ∷ batches) ≡ false

module _ (start : Start) (history : History) (issued : Cycle) (f : Footprint) where
  -- a batch that has looked up has started
  looked-started : (before : List BatchTimes) (b : Batch) (started : Cycle) → comes (batch_started start history before f b started).looked_up ≡ true → comes started ≡ true
  looked-started before b (At started) h = refl
  looked-started before b Never h = h

  -- one that has started is behind one that has passed
  started-behind : (o : BatchTimes) (own : List BatchTimes) (b : Batch) → comes (start_cycle start history ((o ∷ own) ++ batches_of history) issued f.want b) ≡ true → comes (passed o) ≡ true
  started-behind o own b h =
      let others =
      map behind (commit_before_last ((o ∷ own) ++ batches_of history))
      ++ map (word_ready start.cycle history) b.sources
      ++ (if is_store f.want then behind (last_retire start.cycle history) ∷ [] else []) in
      let all = latest (behind (passed o) ∷ others) in
      let second = (comes-both (behind issued) all h).1 in
      comes-later 1 (passed o) (comes-both (behind (passed o)) (latest others) second).0

  none-behind : (own : List BatchTimes) (b : Batch) → PassBy own → comes (start_cycle start history (own ++ batches_of history) issued f.want b) ≡ true → list_any stops own ≡ false
  none-behind [] b pass h = refl
  none-behind (o ∷ own) b pass h = pass (started-behind o own b h)

  pass-more : (own : List BatchTimes) (b : Batch) → PassBy own → PassBy (with_commit start history own (batch_times start history (own ++ batches_of history) issued f b))
  pass-more own b pass h =
      let times = batch_times start history (own ++ batches_of history) issued f b in
      let started = start_cycle start history (own ++ batches_of history) issued f.want b in
      let parts = comes-passed (stops times) times.looked_up h in
      or_from (stops times) (list_any stops own) parts.0 (none-behind own b pass (looked-started (own ++ batches_of history) b started parts.1))

  pass-if : (trimmed : Bool) (now rest : List BatchTimes) → PassBy now → PassBy rest → PassBy (elim trimmed as (λ _. List BatchTimes) [ true ↦ now | false ↦ rest ])
  pass-if true now rest p q = p
  pass-if false now rest p q = q

  pass-all : (own : List BatchTimes) (batches : List Batch) → PassBy own → PassBy (all_batches start history own issued f batches)
  pass-all own [] pass = pass
  pass-all own (b ∷ batches) pass =
      let times = batch_times start history (own ++ batches_of history) issued f b in
      let now = with_commit start history own times in
      pass-if times.is_trimmed now (all_batches start history now issued f batches) (pass-more own b pass) (pass-all now batches (pass-more own b pass))

  generated-none : (batches : List BatchTimes) → PassBy batches → comes (generation_cycle start issued batches) ≡ true → list_any stops batches ≡ false
  generated-none [] pass h = refl
  generated-none (b ∷ batches) pass h = pass h

  -- an instruction that completes doesn't stop, and has generated its accesses
  completed-runs : (stop : Option Ended) (generated : Cycle) (beats : List BeatTimes) (batches : List BatchTimes) → comes (complete_by start stop issued generated f beats batches) ≡ true → (stop ≡ None) × (comes generated ≡ true)
  completed-runs (Some why) generated beats batches h = absurd (false≢true h)
  completed-runs None generated beats batches h =
      let others = map (beat_ready start) beats ++ batch_done batches in
      let second = (comes-both (later f.latency issued) (latest (generated ∷ others)) h).1 in
      (refl, (comes-both generated (latest others) second).0)

retired-completed : (start : Start) (history : History) (completed : Cycle) → comes (retire_cycle start history completed) ≡ true → comes completed ≡ true
retired-completed start history completed h =
    let second = (comes-both (behind (last_retire start.cycle history)) (latest (behind completed ∷ [])) h).1 in
    comes-later 1 completed (comes-both (behind completed) (latest []) second).0

-- the commit of the last batch doesn't matter
stops-retired : (retired : Cycle) (batches : List BatchTimes) → list_any stops (retired_batches retired batches) ≡ list_any stops batches
stops-retired retired [] = refl
stops-retired retired (b ∷ batches) = refl

filter-none : (batches : List BatchTimes) → list_any stops batches ≡ false → filter stops batches ≡ []
filter-none [] none = refl
filter-none (b ∷ batches) none =
    let parts = or_parts (stops b) (list_any stops batches) none in
    ap (λ (x : Bool). if x then b ∷ filter stops batches else filter stops batches) parts.0 ∙ filter-none batches parts.1

-- ---- an instruction

module _ (start : Start) (history : History) (s : Flat) where
  abbrev it : Entry
  it = entry_of start history s

  abbrev its : Footprint
  its = footprint start.machine start.has_vectors start.residency s

  abbrev its_batches : List BatchTimes
  its_batches = all_batches start history [] it.issued its its.batches

  runs : comes it.retired ≡ true → (its.stop ≡ None) × (comes it.generated ≡ true)
  runs h = completed-runs start history it.issued its its.stop it.generated it.beats its_batches (retired-completed start history it.completed h)

  none-stops : comes it.retired ≡ true → list_any stops it.batches ≡ false
  none-stops h =
      stops-retired it.retired its_batches
      ∙ generated-none start history it.issued its its_batches (pass-all start history it.issued its [] its.batches tt) (runs h).1

  pub happens-so : (before : Cycle) → comes it.retired ≡ true → happenings_of before it ≡ commits_of it
  happens-so before h =
      ap (λ (o : Option Ended). commits_of it ++ serial_stop it o ++ batch_stop before it) (runs h).0
      ∙ ap (λ (batches : List BatchTimes). (commits_of it ++ []) ++ flat_map (λ (b : BatchTimes). batch_stop_by before it b b.failure) batches) (filter-none it.batches (none-stops h))
      ∙ append-nil (commits_of it ++ [])
      ∙ append-nil (commits_of it)

pub comes-at : (retired : ℕ) (c : Cycle) → c ≡ At retired → comes c ≡ true
comes-at retired c is = ap comes is

-- an instruction that retires commits, and nothing else happens of it
pub retires-commits : (start : Start) (history : History) (s : Flat) (e : Entry) (before : Cycle) (retired : ℕ) → e ≡ entry_of start history s → e.retired ≡ At retired → happenings_of before e ≡ commits_of e
retires-commits start history s e before retired is retires =
    ap (happenings_of before) is
    ∙ happens-so start history s before (comes-at retired (entry_of start history s).retired (ap (λ (x : Entry). x.retired) (sym is) ∙ retires))
    ∙ ap commits_of (sym is)
