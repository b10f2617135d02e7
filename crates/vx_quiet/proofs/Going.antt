-- A quiet history stays quiet behind an instruction that completes.
use Rattle.std.proofs.Common.{◌≡◌, ℕ, ◌+◌, ◌≤◌, ◌<◌, max, Bool, true, List, [], ◌∷◌, ◌++◌, refl, ap, ◌∙◌, arith}
use Rattle.std.specs.Prelude.{◌==◌, nat_le, map, flat_map, Option, Some, None, option_to_list}
use Rattle.std.specs.List.{list_all, list_any}
use Rattle.std.specs.Option.{option_map_or}
use Rattle.std.proofs.lemmas.Bool.{and_parts, and_from, le-leb}
use Rattle.std.proofs.lemmas.Grind.{flat_map-append}
use Rattle.vx_flat.specs.State.{Flat}
use Rattle.vx_rows.specs.declared.family.Unit.{Unit}
use Rattle.vx_episode.specs.Batches.{all_batches, retired_batches}
use Rattle.vx_episode.specs.Commits.{timed, entry_completed}
use Rattle.vx_episode.specs.Cycles.{Cycle, later, behind, latest, is_by}
use Rattle.vx_episode.specs.Cycles.Cycle.{At}
use Rattle.vx_episode.specs.Footprint.{Footprint}
use Rattle.vx_episode.specs.History.{History, Entry, Walk, FetchTimes, BeatTimes, BatchTimes, AccessTimes, Ready, last_retire, register_ready, word_ready, beats_of, free_unit, batches_of, passed, last_passed, accesses_of, missing_of, batch_done, last_serve, walks_of_batches, data_walks, fetch_walks}
use Rattle.vx_episode.specs.Instructions.{fetch_begin, fetch_times, issue_cycle, beat_times, beat_ready, words_made, words_loaded, generation_cycle, complete_by, retire_cycle}
use Rattle.vx_episode.specs.Organisation.{Start}
use Rattle.vx_episode.specs.declared.ended.Ended.{Ended}
use Rattle.vx_quiet.specs.Quiet.{IsQuiet}
use Rattle.vx_quiet.proofs.Accesses.{queued-all, free-all, free-more, done-parts}
use Rattle.vx_quiet.proofs.Issue.{issue-after}
use Rattle.vx_quiet.proofs.Passing.{ArePassing, batches-passing}
use Rattle.vx_quiet.proofs.Readiness.{register-by, free-units, made-all, loaded-all, ready-more, fetch-walk}
use Rattle.vx_quiet.proofs.Times.{all-both, all-parts, all-more, all-if, all-by-more, by-more, by-later, le-more, latest-at, at-by}

-- ---- the start

pub quiet-start : (start : Start) → IsQuiet start [] start.cycle
quiet-start start =
    let same : nat_le start.cycle start.cycle ≡ true = le-leb start.cycle start.cycle (omega arith) in
    record {
      last = refl;
      from = omega arith;
      issue = same;
      window = refl;
      trimming = refl;
      registers = λ register. same;
      words = λ place. same;
      units = λ u. refl;
      looked_up = refl;
      committed = refl;
      queued = refl;
      done = refl;
      missing = refl;
      banks = λ bank. omega arith;
      data_ended = refl;
      fetches_ended = refl;
    }

-- ---- what an instruction waited for that has completed

pub record Waited (start : Start) (issued generated : Cycle) (f : Footprint) (beats : List BeatTimes) (batches : List BatchTimes) (k : ℕ) : Type 0 where
  pub issue : is_by k issued ≡ true
  pub generation : is_by k generated ≡ true
  pub ready : list_all (is_by k) (map (beat_ready start) beats) ≡ true
  pub done : list_all (λ (a : AccessTimes). nat_le a.done k) (accesses_of batches) ≡ true
  pub missing : missing_of batches ≡ []

waited-by : (start : Start) (stop : Option Ended) (issued generated : Cycle) (f : Footprint) (beats : List BeatTimes) (batches : List BatchTimes) (k : ℕ) → complete_by start stop issued generated f beats batches ≡ At k → Waited start issued generated f beats batches k
waited-by start (Some why) issued generated f beats batches k e = absurd (cc)
waited-by start None issued generated f beats batches k e =
    let p = is_by k in
    let ready = map (beat_ready start) beats in
    let all : list_all p (later f.latency issued ∷ generated ∷ ready ++ batch_done batches) ≡ true = latest-at k (later f.latency issued ∷ generated ∷ ready ++ batch_done batches) e in
    let first = and_parts (p (later f.latency issued)) (list_all p (generated ∷ ready ++ batch_done batches)) all in
    let second = and_parts (p generated) (list_all p (ready ++ batch_done batches)) first.1 in
    let third = all-parts p ready (batch_done batches) second.1 in
    let accesses = done-parts k (accesses_of batches) (missing_of batches) third.1 in
    record { issue = by-later f.latency k issued first.0; generation = second.0; ready = third.0; done = accesses.0; missing = accesses.1 }

-- the retire
retired-at : (start : Start) (history : History) (completed : Cycle) (r k : ℕ) → last_retire start.cycle history ≡ At r → completed ≡ At k → r < k → retire_cycle start history completed ≡ At (k + 1)
retired-at start history completed r k last done few =
    let greatest : max (r + 1) (max (k + 1) 0) ≡ k + 1 = omega arith in
    (λ i. latest (behind (last i) ∷ behind (done i) ∷ [])) ∙ ap At greatest

-- the last batch has passed once the accesses are all generated
generated-last : (start : Start) (issued : Cycle) (batches : List BatchTimes) (k : ℕ) → is_by k (generation_cycle start issued batches) ≡ true → list_all (is_by k) (last_passed batches) ≡ true
generated-last start issued [] k h = refl
generated-last start issued (b ∷ batches) k h = and_from (is_by k (passed b)) true h refl

-- ---- the batches with their last commit

retired-passed : (retired : Cycle) (batches : List BatchTimes) (k : ℕ) → list_all (λ (b : BatchTimes). is_by k (passed b)) batches ≡ true → list_all (λ (b : BatchTimes). is_by k (passed b)) (retired_batches retired batches) ≡ true
retired-passed retired [] k h = refl
retired-passed retired (b ∷ batches) k h = h

retired-committed : (retired : Cycle) (batches : List BatchTimes) (k : ℕ) → is_by k retired ≡ true → list_all (λ (b : BatchTimes). is_by k b.committed) batches ≡ true → list_all (λ (b : BatchTimes). is_by k b.committed) (retired_batches retired batches) ≡ true
retired-committed retired [] k by h = refl
retired-committed retired (b ∷ batches) k by h = and_from (is_by k retired) _ by (and_parts (is_by k b.committed) _ h).1

retired-accesses : (retired : Cycle) (batches : List BatchTimes) → accesses_of (retired_batches retired batches) ≡ accesses_of batches
retired-accesses retired [] = refl
retired-accesses retired (b ∷ batches) = refl

retired-missing : (retired : Cycle) (batches : List BatchTimes) → missing_of (retired_batches retired batches) ≡ missing_of batches
retired-missing retired [] = refl
retired-missing retired (b ∷ batches) = refl

retired-walks : (retired : Cycle) (batches : List BatchTimes) → walks_of_batches (retired_batches retired batches) ≡ walks_of_batches batches
retired-walks retired [] = refl
retired-walks retired (b ∷ batches) = refl

-- ---- an instruction that completes

all-ap : {A : Type 0} (p : A → Bool) (xs ys : List A) → xs ≡ ys → list_all p ys ≡ true → list_all p xs ≡ true
all-ap p xs ys e h = ap (list_all p) e ∙ h

no-parts : {A : Type 0} (xs ys : List A) → xs ≡ [] → ys ≡ [] → xs ++ ys ≡ []
no-parts xs ys e h = (λ i. e i ++ h i)

registers-more : (start k : ℕ) (history : History) (e : Entry) → start ≤ k → is_by k e.completed ≡ true → ((register : ℕ) → is_by k (register_ready start history register) ≡ true) → (register : ℕ) → is_by k (register_ready start (e ∷ history) register) ≡ true
registers-more start k history e from done before register =
    register-by k start (register == 0) (list_any (λ (w : ℕ). w == register) e.footprint.writes) e.completed (register_ready start history register) from done (before register)

module _ (start : Start) (history : History) (s : Flat) (f : Footprint) (fetch : FetchTimes) (issued : Cycle) (beats : List BeatTimes) (batches : List BatchTimes) (generated completed : Cycle) (r k : ℕ)
    (q : IsQuiet start history r) (waited : Waited start issued generated f beats batches k) (done : completed ≡ At k) (after : r < k) (passing : ArePassing start.machine.bank_time r batches)
    (last : list_all (is_by k) (last_passed batches) ≡ true) (walked : list_all (λ (w : Walk). nat_le w.ended k) (option_to_list fetch.walk) ≡ true) where
  abbrev entry : Entry
  entry = entry_completed start history s f fetch issued beats batches generated completed

  before : r ≤ k + 1
  before = omega arith

  more : k ≤ k + 1
  more = omega arith

  retires : entry.retired ≡ At (k + 1)
  retires = retired-at start history completed r k q.last done after

  retired-by : is_by (k + 1) entry.retired ≡ true
  retired-by = at-by (k + 1) entry.retired retires

  completed-by : is_by (k + 1) completed ≡ true
  completed-by = by-more k (k + 1) more completed (at-by k completed done)

  words-before : (n : ℕ) → r ≤ n → (place : ℕ) → is_by n (word_ready start.cycle history place) ≡ true
  words-before n few place = by-more r n few (word_ready start.cycle history place) (q.words place)

  ready-by : list_all (λ (w : Ready). is_by k w.cycle) entry.ready ≡ true
  ready-by =
      let few : r ≤ k = omega arith in
      all-both (λ (w : Ready). is_by k w.cycle) (flat_map (words_made start) beats) (words_loaded start history (accesses_of batches) (missing_of batches))
      (made-all start k beats waited.ready)
      (loaded-all start history k (accesses_of batches) (missing_of batches) (words-before k few) waited.done waited.missing)

  words-more : (place : ℕ) → is_by (k + 1) (word_ready start.cycle (entry ∷ history) place) ≡ true
  words-more place =
      by-more k (k + 1) more (word_ready start.cycle (entry ∷ history) place)
      (ready-more k place (word_ready start.cycle history place) entry.ready ready-by (words-before k (omega arith) place))

  units-more : (u : Unit) → list_all (is_by (k + 1)) (free_unit u (beats_of (entry ∷ history))) ≡ true
  units-more u =
      free-units start (k + 1) u beats (beats_of history) (all-by-more k (k + 1) more (map (beat_ready start) beats) waited.ready)
      (all-by-more r (k + 1) before (free_unit u (beats_of history)) (q.units u))

  passed-all : list_all (λ (b : BatchTimes). is_by k (passed b)) batches ≡ true
  passed-all = (passing.passing k last).0

  committed-all : list_all (λ (b : BatchTimes). is_by k b.committed) batches ≡ true
  committed-all = passing.committing k after passed-all waited.done waited.missing

  passed-more : list_all (λ (b : BatchTimes). is_by (k + 1) (passed b)) (batches_of (entry ∷ history)) ≡ true
  passed-more =
      all-both (λ (b : BatchTimes). is_by (k + 1) (passed b)) entry.batches (batches_of history)
      (retired-passed entry.retired batches (k + 1) (all-more (λ (b : BatchTimes). is_by k (passed b)) (λ (b : BatchTimes). is_by (k + 1) (passed b)) (λ b h. by-more k (k + 1) more (passed b) h) batches passed-all))
      (all-more (λ (b : BatchTimes). is_by r (passed b)) (λ (b : BatchTimes). is_by (k + 1) (passed b)) (λ b h. by-more r (k + 1) before (passed b) h) (batches_of history) q.looked_up)

  committed-more : list_all (λ (b : BatchTimes). is_by (k + 1) b.committed) (batches_of (entry ∷ history)) ≡ true
  committed-more =
      all-both (λ (b : BatchTimes). is_by (k + 1) b.committed) entry.batches (batches_of history)
      (retired-committed entry.retired batches (k + 1) retired-by (all-more (λ (b : BatchTimes). is_by k b.committed) (λ (b : BatchTimes). is_by (k + 1) b.committed) (λ b h. by-more k (k + 1) more b.committed h) batches committed-all))
      (all-more (λ (b : BatchTimes). is_by r b.committed) (λ (b : BatchTimes). is_by (k + 1) b.committed) (λ b h. by-more r (k + 1) before b.committed h) (batches_of history) q.committed)

  accesses-are : accesses_of (batches_of (entry ∷ history)) ≡ accesses_of batches ++ accesses_of (batches_of history)
  accesses-are = flat_map-append (λ (b : BatchTimes). b.accesses) entry.batches (batches_of history) ∙ ap (λ (xs : List AccessTimes). xs ++ accesses_of (batches_of history)) (retired-accesses entry.retired batches)

  queued-more : list_all (λ (a : AccessTimes). nat_le a.queued (k + 1)) (accesses_of (batches_of (entry ∷ history))) ≡ true
  queued-more =
      all-ap (λ (a : AccessTimes). nat_le a.queued (k + 1)) (accesses_of (batches_of (entry ∷ history))) (accesses_of batches ++ accesses_of (batches_of history)) accesses-are
      (all-both (λ (a : AccessTimes). nat_le a.queued (k + 1)) (accesses_of batches) (accesses_of (batches_of history))
      (all-more (λ (a : AccessTimes). nat_le a.queued k) (λ (a : AccessTimes). nat_le a.queued (k + 1)) (λ a h. le-more k (k + 1) a.queued more h) (accesses_of batches) (queued-all start.machine.bank_time k (accesses_of batches) passing.served waited.done))
      (all-more (λ (a : AccessTimes). nat_le a.queued r) (λ (a : AccessTimes). nat_le a.queued (k + 1)) (λ a h. le-more r (k + 1) a.queued before h) (accesses_of (batches_of history)) q.queued))

  done-more : list_all (λ (a : AccessTimes). nat_le a.done (k + 1)) (accesses_of (batches_of (entry ∷ history))) ≡ true
  done-more =
      all-ap (λ (a : AccessTimes). nat_le a.done (k + 1)) (accesses_of (batches_of (entry ∷ history))) (accesses_of batches ++ accesses_of (batches_of history)) accesses-are
      (all-both (λ (a : AccessTimes). nat_le a.done (k + 1)) (accesses_of batches) (accesses_of (batches_of history))
      (all-more (λ (a : AccessTimes). nat_le a.done k) (λ (a : AccessTimes). nat_le a.done (k + 1)) (λ a h. le-more k (k + 1) a.done more h) (accesses_of batches) waited.done)
      (all-more (λ (a : AccessTimes). nat_le a.done r) (λ (a : AccessTimes). nat_le a.done (k + 1)) (λ a h. le-more r (k + 1) a.done before h) (accesses_of (batches_of history)) q.done))

  missing-more : missing_of (batches_of (entry ∷ history)) ≡ []
  missing-more =
      flat_map-append (λ (b : BatchTimes). b.missing) entry.batches (batches_of history)
      ∙ no-parts (missing_of entry.batches) (missing_of (batches_of history)) (retired-missing entry.retired batches ∙ waited.missing) q.missing

  banks-more : (bank : ℕ) → option_map_or (λ (served : ℕ). served + start.machine.bank_time) (last_serve start.machine bank (accesses_of (batches_of (entry ∷ history)))) 0 ≤ k + 1
  banks-more bank =
      let old = q.banks bank in
      let few : option_map_or (λ (served : ℕ). served + start.machine.bank_time) (last_serve start.machine bank (accesses_of (batches_of history))) 0 ≤ k = omega arith in
      let now : option_map_or (λ (served : ℕ). served + start.machine.bank_time) (last_serve start.machine bank (accesses_of batches ++ accesses_of (batches_of history))) 0 ≤ k =
      free-more start.machine k bank (accesses_of batches) (accesses_of (batches_of history)) (free-all start.machine.bank_time k (accesses_of batches) passing.served waited.done) few in
      let same : option_map_or (λ (served : ℕ). served + start.machine.bank_time) (last_serve start.machine bank (accesses_of (batches_of (entry ∷ history)))) 0
      ≡ option_map_or (λ (served : ℕ). served + start.machine.bank_time) (last_serve start.machine bank (accesses_of batches ++ accesses_of (batches_of history))) 0 =
      ap (λ (xs : List AccessTimes). option_map_or (λ (served : ℕ). served + start.machine.bank_time) (last_serve start.machine bank xs) 0) accesses-are in
      omega arith

  data-more : list_all (λ (w : Walk). nat_le w.ended (k + 1)) (data_walks (entry ∷ history)) ≡ true
  data-more =
      all-ap (λ (w : Walk). nat_le w.ended (k + 1)) (data_walks (entry ∷ history)) (walks_of_batches batches ++ data_walks history)
      (flat_map-append (λ (b : BatchTimes). b.walks) entry.batches (batches_of history) ∙ ap (λ (xs : List Walk). xs ++ data_walks history) (retired-walks entry.retired batches))
      (all-both (λ (w : Walk). nat_le w.ended (k + 1)) (walks_of_batches batches) (data_walks history)
      (all-more (λ (w : Walk). nat_le w.ended k) (λ (w : Walk). nat_le w.ended (k + 1)) (λ w h. le-more k (k + 1) w.ended more h) (walks_of_batches batches) (passing.passing k last).1)
      (all-more (λ (w : Walk). nat_le w.ended r) (λ (w : Walk). nat_le w.ended (k + 1)) (λ w h. le-more r (k + 1) w.ended before h) (data_walks history) q.data_ended))

  fetches-more : list_all (λ (w : Walk). nat_le w.ended (k + 1)) (fetch_walks (entry ∷ history)) ≡ true
  fetches-more =
      all-both (λ (w : Walk). nat_le w.ended (k + 1)) (option_to_list fetch.walk) (fetch_walks history)
      (all-more (λ (w : Walk). nat_le w.ended k) (λ (w : Walk). nat_le w.ended (k + 1)) (λ w h. le-more k (k + 1) w.ended more h) (option_to_list fetch.walk) walked)
      (all-more (λ (w : Walk). nat_le w.ended r) (λ (w : Walk). nat_le w.ended (k + 1)) (λ w h. le-more r (k + 1) w.ended before h) (fetch_walks history) q.fetches_ended)

  pub more-quiet : IsQuiet start (entry ∷ history) (k + 1)
  more-quiet =
      let from = q.from in
      let start-le : start.cycle ≤ k + 1 = omega arith in
      record {
        last = retires;
        from = start-le;
        issue = by-more k (k + 1) more issued waited.issue;
        window = and_from (is_by (k + 1) entry.retired) true retired-by refl;
        trimming = all-if (is_by (k + 1)) f.is_fault_only_first (generated ∷ []) [] (and_from (is_by (k + 1) generated) true (by-more k (k + 1) more generated waited.generation) refl) refl;
        registers = registers-more start.cycle (k + 1) history entry start-le completed-by (λ register. by-more r (k + 1) before (register_ready start.cycle history register) (q.registers register));
        words = words-more;
        units = units-more;
        looked_up = passed-more;
        committed = committed-more;
        queued = queued-more;
        done = done-more;
        missing = missing-more;
        banks = banks-more;
        data_ended = data-more;
        fetches_ended = fetches-more;
      }

-- ---- any instruction that completes

module _ (start : Start) (history : History) (s : Flat) (f : Footprint) (r k : ℕ) (q : IsQuiet start history r) (e : (timed start history s f).completed ≡ At k) (one : start.machine.window ≡ 1) where
  abbrev fetched : FetchTimes
  fetched = fetch_times start history s.pc (fetch_begin start history)

  abbrev issue : Cycle
  issue = issue_cycle start history fetched.ended f

  abbrev own_batches : List BatchTimes
  own_batches = all_batches start history [] issue f f.batches

  abbrev own_beats : List BeatTimes
  own_beats = beat_times start history issue f.unit [] f.groups

  abbrev generation : Cycle
  generation = generation_cycle start issue own_batches

  waits : Waited start issue generation f own_beats own_batches k
  waits = waited-by start f.stop issue generation f own_beats own_batches k e

  after-issue : (is_by k fetched.ended ≡ true) × (r < k)
  after-issue = issue-after start history r k f fetched.ended one q waits.issue

  pub behind-retire : r < k
  behind-retire = after-issue.1

  pub timed-retires : (timed start history s f).retired ≡ At (k + 1)
  timed-retires = retired-at start history (timed start history s f).completed r k q.last e behind-retire

  pub timed-quiet : IsQuiet start (timed start history s f ∷ history) (k + 1)
  timed-quiet =
      more-quiet start history s f fetched issue own_beats own_batches generation (timed start history s f).completed r k q waits e behind-retire
      (batches-passing start history issue f r q.last) (generated-last start issue own_batches k waits.generation)
      (fetch-walk start history s.pc k (fetch_begin start history) after-issue.0)
