-- When walks have ended: those of a batch and of all before it, once it has looked up; those of a history, once it has retired.
use Rattle.std.proofs.Common.{◌≡◌, ℕ, ◌+◌, ◌≤◌, max, Bool, true, false, List, [], ◌∷◌, ◌++◌, map, if◌then◌else◌, refl, sym, ap, ◌∙◌, subst, leb, arith}
use Rattle.std.specs.Prelude.{Option, Some, None}
use Rattle.std.proofs.lemmas.Bool.{false≢true, le-leb, leb-true}
use Rattle.vx_base.specs.declared.machine.Want.{Want}
use Rattle.vx_base.specs.declared.machine.Want.TheVariants.{Fetch}
use Rattle.vx_flat.specs.State.{Flat}
use Rattle.vx_tables.specs.Residency.{Residency, is_store}
use Rattle.vx_tables.specs.declared.look.Look.{Look}
use Rattle.vx_tables.specs.declared.look.Look.TheVariants.{Hit, Denied, Miss}
use Rattle.vx_image.specs.Pages.{is_canonical, page_of}
use Rattle.vx_tables.specs.Caches.{look_up}
use Rattle.std.specs.Option.{option_to_list}
use Rattle.vx_episode.specs.Batches.{is_unknown, is_failing, walks_end, walk_behind, walks_with, walks_of, fate_of, start_cycle, commit_cycle, with_commit, batch_started, batch_times, all_batches, retired_batches}
use Rattle.vx_episode.specs.Commits.{entry_of}
use Rattle.vx_episode.specs.Cycles.{Cycle, later, behind, later_of, latest, is_by}
use Rattle.vx_episode.specs.Cycles.Cycle.{At, Never}
use Rattle.vx_episode.specs.Footprint.{Access, Batch, Footprint, footprint}
use Rattle.vx_episode.specs.History.{History, Walk, BatchTimes, BeatTimes, last_retire, word_ready, stops, passed, batches_of, last_passed, commit_before_last, batch_done, walks_of_batches, data_walks, fetch_walks, fills_of}
use Rattle.vx_episode.specs.Instructions.{walk_time, fetch_begin, fetch_times, fetch_by, fetch_at, beat_ready, generation_cycle, complete_by}
use Rattle.vx_episode.specs.Organisation.{Start, fetch_entries}
use Rattle.vx_episode.specs.declared.ended.Ended.{Ended}
use Rattle.vx_dirty.proofs.Fates.{IsSound, IsFetch, walks-sound}
use Rattle.vx_dirty.proofs.Lists.{Each, each-more, each-append}

-- ---- cycles

pub by-first : (last : ℕ) (a b : Cycle) → is_by last (later_of a b) ≡ true → is_by last a ≡ true
by-first last (At a) (At b) h = let le : max a b ≤ last = leb-true (max a b) last h in le-leb a last (omega arith)
by-first last (At a) Never h = absurd (false≢true h)
by-first last Never b h = absurd (false≢true h)

pub by-second : (last : ℕ) (a b : Cycle) → is_by last (later_of a b) ≡ true → is_by last b ≡ true
by-second last (At a) (At b) h = let le : max a b ≤ last = leb-true (max a b) last h in le-leb b last (omega arith)
by-second last (At a) Never h = absurd (false≢true h)
by-second last Never b h = absurd (false≢true h)

pub by-later : (last k : ℕ) (c : Cycle) → is_by last (later k c) ≡ true → is_by last c ≡ true
by-later last k (At a) h = let le : a + k ≤ last = leb-true (a + k) last h in le-leb a last (omega arith)
by-later last k Never h = absurd (false≢true h)

pub by-each : (last : ℕ) (cycles : List Cycle) → is_by last (latest cycles) ≡ true → Each (λ c. is_by last c ≡ true) cycles
by-each last [] h = tt
by-each last (c ∷ cycles) h = (by-first last c (latest cycles) h, by-each last cycles (by-second last c (latest cycles) h))

pub by-passed : (last : ℕ) (b : BatchTimes) → is_by last (passed b) ≡ true → (stops b ≡ false) × (is_by last b.looked_up ≡ true)
by-passed last b h = by_test (stops b) h
  where
    by_test : (s : Bool) → is_by last (if s then Never else b.looked_up) ≡ true → (s ≡ false) × (is_by last b.looked_up ≡ true)
    by_test true h = absurd (false≢true h)
    by_test false h = (refl, h)

-- ---- walks that have ended

abbrev pub AreBy : (last : ℕ) → List Walk → Type 0
AreBy last walks = Each (λ w. leb w.ended last ≡ true) walks

-- once a batch has looked up, its walks and those of the batches before it have ended
abbrev pub AreTimely : List BatchTimes → Type 0
AreTimely [] = Unit {0}
AreTimely (b ∷ batches) = ((last : ℕ) → is_by last b.looked_up ≡ true → AreBy last (walks_of_batches (b ∷ batches))) × AreTimely batches

-- walks of a batch that started
pub record AreFrom (started : ℕ) (walks : List Walk) : Type 0 where
  pub late : started ≤ walks_end started walks
  pub each : Each (λ w. w.ended ≤ walks_end started walks) walks

module _ (start : Start) (history : History) (before : List BatchTimes) (want : Want) (started : ℕ) where
  from-one : (walks : List Walk) (a : Access) → AreFrom started walks → AreFrom started (walks_with start history before want started walks a)
  from-one walks a h = by_test (is_unknown (fate_of start history before want started walks a))
    where
      by_test : (b : Bool) → AreFrom started (if b then walk_behind start history before want started walks a ∷ walks else walks)
      by_test true =
          let late = h.late in
          record {
            late = omega (arith, late);
            each = (omega arith, each-more (λ w. w.ended ≤ walks_end started walks) (λ w. w.ended ≤ walks_end started walks + walk_time start.machine) (λ w k. omega (arith, k)) walks h.each);
          }
      by_test false = h

  from-all : (accesses : List Access) (walks : List Walk) → AreFrom started walks → AreFrom started (walks_of start history before want started walks accesses)
  from-all [] walks h = h
  from-all (a ∷ accesses) walks h =
      let here = walks_with start history before want started walks a in
      let good = from-one walks a h in
      by_test (is_failing (fate_of start history before want started here a)) here good (from-all accesses here good)
    where
      by_test : (b : Bool) (here : List Walk) → AreFrom started here → AreFrom started (walks_of start history before want started here accesses)
          → AreFrom started (elim b as (λ _. List Walk) [ true ↦ here | false ↦ walks_of start history before want started here accesses ])
      by_test true here h k = h
      by_test false here h k = k

abbrev pub AllSound : Residency → List BatchTimes → Type 0
AllSound residency batches = Each (IsSound residency (walks_of_batches batches)) (walks_of_batches batches)

-- the batches of an episode so far
pub record AreTold (start : Start) (batches : List BatchTimes) : Type 0 where
  pub timely : AreTimely batches
  pub sound : AllSound start.residency batches

module _ (start : Start) (history : History) (issued : Cycle) (f : Footprint) where
  -- a batch starts behind the one before
  pub started-behind : (last : ℕ) (o : BatchTimes) (batches : List BatchTimes) (b : Batch) → is_by last (start_cycle start history (o ∷ batches) issued f.want b) ≡ true → is_by last (passed o) ≡ true
  started-behind last o batches b h =
      let others =
      map behind (commit_before_last (o ∷ batches))
      ++ map (word_ready start.cycle history) b.sources
      ++ (if is_store f.want then behind (last_retire start.cycle history) ∷ [] else []) in
      let all = latest (behind (passed o) ∷ others) in
      by-later last 1 (passed o) (by-first last (behind (passed o)) (latest others) (by-second last (behind issued) all h))

  walked-before : (last : ℕ) (before : List BatchTimes) (b : Batch) → AreTimely before → is_by last (start_cycle start history before issued f.want b) ≡ true → AreBy last (walks_of_batches before)
  walked-before last [] b timely h = tt
  walked-before last (o ∷ batches) b timely h = timely.0 last (by-passed last o (started-behind last o batches b h)).1

  module _ (fetched : Each IsFetch (fetch_walks history)) where
    started-told : (before : List BatchTimes) (b : Batch) → AreTold start before → (c : Cycle) → start_cycle start history before issued f.want b ≡ c → (committed : Cycle)
        → AreTold start (record (batch_started start history before f b c) { committed = committed } ∷ before)
    started-told before b told (At started) is committed =
        let walks = walks_of start history before f.want started [] b.accesses in
        let from = from-all start history before f.want started b.accesses [] (record { late = omega arith; each = tt }) in
        record {
          timely = (
            λ last h.
                let ended : walks_end started walks ≤ last = leb-true (walks_end started walks) last h in
                let low = from.late in
                each-append (λ (w : Walk). leb w.ended last ≡ true) walks (walks_of_batches before)
                (each-more (λ (w : Walk). w.ended ≤ walks_end started walks) (λ w. leb w.ended last ≡ true) (λ w k. le-leb w.ended last (omega (arith, k, ended))) walks from.each)
                (walked-before last before b told.timely (ap (is_by last) is ∙ le-leb started last (omega (arith, low, ended)))),
            told.timely,
          );
          sound = walks-sound start history before f.want started fetched told.sound b.accesses;
        }
    started-told before b told Never is committed = record { timely = (λ last h. absurd (false≢true h), told.timely); sound = told.sound }

    -- one batch more
    pub told-more : (own : List BatchTimes) (b : Batch) → AreTold start (own ++ batches_of history) → AreTold start (with_commit start history own (batch_times start history (own ++ batches_of history) issued f b) ++ batches_of history)
    told-more own b told =
        let before = own ++ batches_of history in
        let times = batch_times start history before issued f b in
        let all = with_commit start history own times in
        started-told before b told (start_cycle start history before issued f.want b) refl (committed_of all)
      where
        committed_of : List BatchTimes → Cycle
        committed_of [] = Never
        committed_of (b ∷ batches) = b.committed

    pub told-all : (own : List BatchTimes) (batches : List Batch) → AreTold start (own ++ batches_of history) → AreTold start (all_batches start history own issued f batches ++ batches_of history)
    told-all own [] told = told
    told-all own (b ∷ batches) told =
        let times = batch_times start history (own ++ batches_of history) issued f b in
        let now = with_commit start history own times in
        let more = told-more own b told in
        by_test times.is_trimmed now more (told-all now batches more)
      where
        by_test : (trimmed : Bool) (now : List BatchTimes) → AreTold start (now ++ batches_of history) → AreTold start (all_batches start history now issued f batches ++ batches_of history)
            → AreTold start ((elim trimmed as (λ _. List BatchTimes) [ true ↦ now | false ↦ all_batches start history now issued f batches ]) ++ batches_of history)
        by_test true now h k = h
        by_test false now h k = k

-- a batch comes behind the issue of its instruction, and commits behind its look-ups and the retire before it
pub record IsBehind (start : Start) (history : History) (issued : Cycle) (b : BatchTimes) : Type 0 where
  pub looked_up : (last : ℕ) → is_by last b.looked_up ≡ true → is_by last issued ≡ true
  pub committed : (last : ℕ) → is_by last b.committed ≡ true → (is_by last b.looked_up ≡ true) × (is_by last (last_retire start.cycle history) ≡ true)

module _ (start : Start) (history : History) (issued : Cycle) (f : Footprint) where
  started-issued : (last : ℕ) (before : List BatchTimes) (b : Batch) → is_by last (start_cycle start history before issued f.want b) ≡ true → is_by last issued ≡ true
  started-issued last before b h =
      by-later last 1 issued (by-first last (behind issued) (latest (
      map behind (last_passed before)
      ++ map behind (commit_before_last before)
      ++ map (word_ready start.cycle history) b.sources
      ++ (if is_store f.want then behind (last_retire start.cycle history) ∷ [] else []))) h)

  looked-issued : (last : ℕ) (before : List BatchTimes) (b : Batch) (c : Cycle) → start_cycle start history before issued f.want b ≡ c → is_by last (batch_started start history before f b c).looked_up ≡ true → is_by last issued ≡ true
  looked-issued last before b (At started) is h =
      let from = from-all start history before f.want started b.accesses [] (record { late = omega arith; each = tt }) in
      let walks = walks_of start history before f.want started [] b.accesses in
      let ended : walks_end started walks ≤ last = leb-true (walks_end started walks) last h in
      let low = from.late in
      started-issued last before b (ap (is_by last) is ∙ le-leb started last (omega (arith, low, ended)))
  looked-issued last before b Never is h = absurd (false≢true h)

  behind-all : (own : List BatchTimes) (batches : List Batch) → Each (IsBehind start history issued) own → Each (IsBehind start history issued) (all_batches start history own issued f batches)
  behind-all own [] h = h
  behind-all own (b ∷ batches) h =
      let before = own ++ batches_of history in
      let times = batch_times start history before issued f b in
      let looked = map (λ (o : BatchTimes). o.looked_up) own in
      let one = record times { committed = commit_cycle start history (map (λ (o : BatchTimes). o.looked_up) (times ∷ own)) (batch_done (times ∷ own)) } in
      let more : Each (IsBehind start history issued) (one ∷ own) = (
        record {
          looked_up = λ last k. looked-issued last before b (start_cycle start history before issued f.want b) refl k;
          committed = λ last k.
              let each = by-each last (behind (last_retire start.cycle history) ∷ (times.looked_up ∷ looked) ++ batch_done (times ∷ own)) k in
              (each.1.0, by-later last 1 (last_retire start.cycle history) each.0);
        },
        h,
      ) in
      by_test times.is_trimmed (one ∷ own) more (behind-all (one ∷ own) batches more)
    where
      by_test : (trimmed : Bool) (now : List BatchTimes) → Each (IsBehind start history issued) now → Each (IsBehind start history issued) (all_batches start history now issued f batches)
          → Each (IsBehind start history issued) (elim trimmed as (λ _. List BatchTimes) [ true ↦ now | false ↦ all_batches start history now issued f batches ])
      by_test true now h k = h
      by_test false now h k = k

  pub behind-each : (batches : List Batch) → Each (IsBehind start history issued) (all_batches start history [] issued f batches)
  behind-each batches = behind-all [] batches tt

-- the commit of the last batch doesn't matter
told-retired : (start : Start) (retired : Cycle) (own batches : List BatchTimes) → AreTold start (own ++ batches) → AreTold start (retired_batches retired own ++ batches)
told-retired start retired [] batches h = h
told-retired start retired (b ∷ own) batches h = record { timely = h.timely; sound = h.sound }

-- ---- instructions

-- an instruction that retires doesn't stop at its issue, and has retired behind its generation and the one before
pub record HasRetired (start : Start) (history : History) (last : ℕ) (s : Flat) : Type 0 where
  pub goes_on : (footprint start.machine start.has_vectors start.residency s).stop ≡ None
  pub issued : is_by last (entry_of start history s).issued ≡ true
  pub generated : is_by last (entry_of start history s).generated ≡ true
  pub before : is_by last (last_retire start.cycle history) ≡ true

module _ (start : Start) (history : History) (last : ℕ) where
  completes-so : (stop : Option Ended) (issued generated : Cycle) (f : Footprint) (beats : List BeatTimes) (batches : List BatchTimes) → is_by last (complete_by start stop issued generated f beats batches) ≡ true → (stop ≡ None) × (is_by last generated ≡ true) × (is_by last issued ≡ true)
  completes-so (Some why) issued generated f beats batches h = absurd (false≢true h)
  completes-so None issued generated f beats batches h =
      let others = map (beat_ready start) beats ++ batch_done batches in (
        refl,
        by-first last generated (latest others) (by-second last (later f.latency issued) (latest (generated ∷ others)) h),
        by-later last f.latency issued (by-first last (later f.latency issued) (latest (generated ∷ others)) h),
      )

  pub has-retired : (s : Flat) → is_by last (entry_of start history s).retired ≡ true → HasRetired start history last s
  has-retired s h =
      let e = entry_of start history s in
      let f = footprint start.machine start.has_vectors start.residency s in
      let before = behind (last_retire start.cycle history) in
      let rest = latest (behind e.completed ∷ []) in
      let completed = by-later last 1 e.completed (by-first last (behind e.completed) (latest []) (by-second last before rest h)) in
      let parts = completes-so f.stop e.issued e.generated f e.beats (all_batches start history [] e.issued f f.batches) completed in
      record {
        goes_on = parts.0;
        issued = parts.2;
        generated = parts.1;
        before = by-later last 1 (last_retire start.cycle history) (by-first last before rest h);
      }

-- what is told of a history
pub record IsTold (start : Start) (history : History) : Type 0 where
  pub batches : AreTold start (batches_of history)
  pub fetched : Each IsFetch (fetch_walks history)
  pub retired : (last : ℕ) → is_by last (last_retire start.cycle history) ≡ true → AreBy last (data_walks history)

pub told-none : (start : Start) → IsTold start []
told-none start = record { batches = record { timely = tt; sound = tt }; fetched = tt; retired = λ last h. tt }

-- the walk of a fetch is one for a fetch
module _ (start : Start) (history : History) where
  fetch-look : (pc begun : ℕ) (look : Look) → Each IsFetch (option_to_list (fetch_by start history pc begun look).walk)
  fetch-look pc begun (Hit frame) = tt
  fetch-look pc begun Denied = tt
  fetch-look pc begun Miss = (refl, tt)

  fetch-canonical : (canonical : Bool) (pc begun : ℕ) (look : Look) → Each IsFetch (option_to_list (if canonical then fetch_by start history pc begun look else fetch_at start begun).walk)
  fetch-canonical true pc begun look = fetch-look pc begun look
  fetch-canonical false pc begun look = tt

  fetch-so : (pc : ℕ) (begun : Cycle) → Each IsFetch (option_to_list (fetch_times start history pc begun).walk)
  fetch-so pc (At begun) = fetch-canonical (is_canonical pc) pc begun (look_up fetch_entries (fills_of (fetch_walks history)) (page_of pc) Fetch)
  fetch-so pc Never = tt

-- the last batch of an instruction has looked up, where its accesses are generated
generated-by : (start : Start) (last : ℕ) (issued : Cycle) (own batches : List BatchTimes) → AreTimely (own ++ batches) → AreBy last (walks_of_batches batches) → is_by last (generation_cycle start issued own) ≡ true → AreBy last (walks_of_batches (own ++ batches))
generated-by start last issued [] batches timely before h = before
generated-by start last issued (b ∷ own) batches timely before h = timely.0 last (by-passed last b h).1

pub walks-retired : (retired : Cycle) (own batches : List BatchTimes) → walks_of_batches (retired_batches retired own ++ batches) ≡ walks_of_batches (own ++ batches)
walks-retired retired [] batches = refl
walks-retired retired (b ∷ own) batches = refl

pub told-next : (start : Start) (history : History) (s : Flat) → IsTold start history → IsTold start (entry_of start history s ∷ history)
told-next start history s told =
    let e = entry_of start history s in
    let f = footprint start.machine start.has_vectors start.residency s in
    let own = all_batches start history [] e.issued f f.batches in
    let all = told-all start history e.issued f told.fetched [] f.batches told.batches in
    record {
      batches = told-retired start e.retired own (batches_of history) all;
      fetched = each-append IsFetch (option_to_list e.fetch.walk) (fetch_walks history) (fetch-so start history s.pc (fetch_begin start history)) told.fetched;
      retired = λ last h.
          let parts = has-retired start history last s h in
          subst (AreBy last) (sym (walks-retired e.retired own (batches_of history)))
          (generated-by start last e.issued own (batches_of history) all.timely (told.retired last parts.before) parts.generated);
    }
