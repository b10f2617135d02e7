-- The parts of an episode's end: before what ends it, the instruction hasn't completed.
use Rattle.std.proofs.Common.{◌≡◌, ℕ, suc, ◌+◌, ◌≤◌, Bool, true, false, ◌||◌, List, [], ◌∷◌, ◌++◌, length, map, filter, flat_map, reverse, if◌then◌else◌, refl, sym, ap, ap₂, ◌∙◌, arith, append_assoc, add-one, add-zero}
use Rattle.std.specs.Prelude.{Option, Some, None}
use Rattle.std.specs.List.{list_any}
use Rattle.std.proofs.lemmas.Bool.{false≢true, or_from, or_parts, or_right}
use Rattle.std.proofs.lemmas.List.Folds.{list_any-append}
use Rattle.vx_flat.specs.Process.{Process, stepped, stepped_on}
use Rattle.vx_flat.specs.State.{Flat}
use Rattle.vx_episode.specs.Commits.{What, Happening, entry_of, happening, batch_commit, not_last, commits_of, serial_stop, why_stopped, batch_stop_cycle, batch_stop_by, batch_stop, happenings_of, happenings, is_stop}
use Rattle.vx_episode.specs.Commits.What.{Completes, Reaches, Stops}
use Rattle.vx_episode.specs.Cycles.{Cycle, cycles_of}
use Rattle.vx_episode.specs.Cycles.Cycle.{At, Never}
use Rattle.vx_episode.specs.Episode.{end_by, completes, process_at, within, stopped_at, ended_at, clock_behind, residency_by}
use Rattle.vx_episode.specs.History.{Entry, History, BatchTimes, Failure, last_retire, stops}
use Rattle.vx_episode.specs.Log.{log_up_to}
use Rattle.vx_episode.specs.Organisation.{Start}
use Rattle.vx_episode.specs.declared.ended.Ended.{Ended}
use Rattle.vx_ending.specs.Counts.{commits_in, completed_in, changes_in}
use Rattle.vx_ending.specs.Ends.{process_behind, end_behind}
use Rattle.vx_ending.specs.UnderWay.{IsUnderWay}
use Rattle.vx_ending.proofs.Counting.{commits-append, completed-append, completed-once, changes-append, commits-before}
use Rattle.vx_ending.proofs.Retiring.{retires-commits}

-- ---- lists

any-last : {A : Type 0} (q : A → Bool) (last : A) (after before : List A) → q last ≡ true → list_any q (before ++ last ∷ after) ≡ true
any-last q last after before is =
    list_any-append q before (last ∷ after)
    ∙ or_right (list_any q before) (list_any q (last ∷ after)) (ap (λ (b : Bool). b || list_any q after) is)

-- what stands before an item that the second part lacks, stands in the first part
before-first : {A : Type 0} (p q : A → Bool) (last : A) (after some others before : List A) → list_any p some ≡ false → list_any q others ≡ false → q last ≡ true → some ++ others ≡ before ++ last ∷ after → list_any p before ≡ false
before-first p q last after some others [] first second is same = refl
before-first p q last after [] others (b ∷ before) first second is same =
    absurd (false≢true (sym second ∙ ap (list_any q) same ∙ any-last q last after (b ∷ before) is))
before-first p q last after (x ∷ some) others (b ∷ before) first second is same =
    let parts = or_parts (p x) (list_any p some) first in
    let head : x ≡ b = cc in
    let rest : some ++ others ≡ before ++ last ∷ after = cc in
    or_from (p b) (list_any p before) (ap p (sym head) ∙ parts.0) (before-first p q last after some others before parts.1 second is rest)

regrouped : (a b c d : List Happening) → ((a ++ b) ++ c) ++ d ≡ a ++ (b ++ (c ++ d))
regrouped a b c d = append_assoc (a ++ b) c d ∙ append_assoc a b (c ++ d)

none-counted : (happened : List Happening) → list_any (λ (h : Happening). completes h.what) happened ≡ false → completed_in happened ≡ 0
none-counted [] none = refl
none-counted (h ∷ happened) none =
    let parts = or_parts (completes h.what) (list_any (λ (x : Happening). completes x.what) happened) none in
    ap (λ (b : Bool). length (if b then h ∷ filter (λ (x : Happening). completes x.what) happened else filter (λ (x : Happening). completes x.what) happened)) parts.0
    ∙ none-counted happened parts.1

one-counted : (last : Happening) (after : List Happening) → last.what ≡ Completes → 1 ≤ completed_in (last ∷ after)
one-counted last after is =
    let counted : completed_in (last ∷ after) ≡ suc (completed_in after) =
    ap (λ (w : What). length (if completes w then last ∷ filter (λ (x : Happening). completes x.what) after else filter (λ (x : Happening). completes x.what) after)) is in
    omega arith

-- ---- what happens of an instruction

abbrev reaches : What → Bool
reaches Completes = false
reaches (Reaches element) = true
reaches (Stops why from element) = false

module _ (e : Entry) (q : What → Bool) where
  abbrev has : Happening → Bool
  has h = q h.what

  none-mapped : (w : What) → q w ≡ false → (cycles : List ℕ) → list_any has (map (happening e w) cycles) ≡ false
  none-mapped w not [] = refl
  none-mapped w not (c ∷ cycles) = or_from (q w) (list_any has (map (happening e w) cycles)) not (none-mapped w not cycles)

  none-joined : (some others : List Happening) → list_any has some ≡ false → list_any has others ≡ false → list_any has (some ++ others) ≡ false
  none-joined some others a b = list_any-append has some others ∙ or_from (list_any has some) (list_any has others) a b

  none-reached : ((k : ℕ) → q (Reaches k) ≡ false) → (batches : List BatchTimes) → list_any has (flat_map (batch_commit e) batches) ≡ false
  none-reached not [] = refl
  none-reached not (b ∷ batches) =
      none-joined (batch_commit e b) (flat_map (batch_commit e) batches) (none-mapped (Reaches b.after) (not b.after) (cycles_of b.committed)) (none-reached not batches)

  none-serial : ((why : Ended) (from k : ℕ) → q (Stops why from k) ≡ false) → (stop : Option Ended) → list_any has (serial_stop e stop) ≡ false
  none-serial not None = refl
  none-serial not (Some why) = none-mapped (Stops why e.state.v.vstart e.state.v.vstart) (not why e.state.v.vstart e.state.v.vstart) (cycles_of e.issued)

  none-failed : ((why : Ended) (from k : ℕ) → q (Stops why from k) ≡ false) → (before : Cycle) (b : BatchTimes) (failure : Option Failure) → list_any has (batch_stop_by before e b failure) ≡ false
  none-failed not before b None = refl
  none-failed not before b (Some f) = none-mapped (Stops (why_stopped e f) b.from f.element) (not (why_stopped e f) b.from f.element) (cycles_of (batch_stop_cycle before e b f.element))

  none-stopped : ((why : Ended) (from k : ℕ) → q (Stops why from k) ≡ false) → (before : Cycle) (batches : List BatchTimes) → list_any has (flat_map (λ (b : BatchTimes). batch_stop_by before e b b.failure) batches) ≡ false
  none-stopped not before [] = refl
  none-stopped not before (b ∷ batches) =
      none-joined (batch_stop_by before e b b.failure) (flat_map (λ (b : BatchTimes). batch_stop_by before e b b.failure) batches) (none-failed not before b b.failure) (none-stopped not before batches)

-- ---- before the last

module _ (start : Start) (history : History) (s : Flat) (e : Entry) (is : e ≡ entry_of start history s) (cycle : Cycle) (before after : List Happening) (last : Happening) (parts : happenings_of cycle e ≡ before ++ last ∷ after) where
  abbrev retire : List Happening
  retire = map (happening e Completes) (cycles_of e.retired)

  counted : completed_in before + completed_in (last ∷ after) ≡ length (cycles_of e.retired)
  counted = sym (completed-append before (last ∷ after)) ∙ ap completed_in (sym parts) ∙ completed-once e cycle

  at-most-one : (c : Cycle) → length (cycles_of c) ≤ 1
  at-most-one (At c) = omega arith
  at-most-one Never = omega arith

  -- an element is reached before the instruction completes
  none-reaching : (element : ℕ) → last.what ≡ Reaches element → completed_in before ≡ 0
  none-reaching element at =
      let serial = serial_stop e e.footprint.stop in
      let stop = batch_stop cycle e in
      none-counted before
      (before-first (λ (h : Happening). completes h.what) (λ (h : Happening). reaches h.what) last after (commits-before e) (retire ++ (serial ++ stop)) before
      (none-reached e completes (λ k. refl) (reverse (not_last e.batches)))
      (none-joined e reaches retire (serial ++ stop) (none-mapped e reaches Completes refl (cycles_of e.retired))
      (none-joined e reaches serial stop (none-serial e reaches (λ why from k. refl) e.footprint.stop) (none-stopped e reaches (λ why from k. refl) cycle (filter stops e.batches))))
      (ap reaches at)
      (sym (regrouped (commits-before e) retire serial stop) ∙ parts))

  -- one that stops never completes
  none-stopping : (why : Ended) (from element : ℕ) → last.what ≡ Stops why from element → (c : Cycle) → e.retired ≡ c → completed_in before ≡ 0
  none-stopping why from element at (At retired) retires =
      let none : list_any (λ (h : Happening). is_stop h.what) (commits_of e) ≡ false =
      none-joined e is_stop (commits-before e) retire (none-reached e is_stop (λ k. refl) (reverse (not_last e.batches))) (none-mapped e is_stop Completes refl (cycles_of e.retired)) in
      let same = sym (retires-commits start history s e cycle retired is retires) ∙ parts in
      absurd (false≢true (sym none ∙ ap (list_any (λ (h : Happening). is_stop h.what)) same ∙ any-last (λ (h : Happening). is_stop h.what) last after before (ap is_stop at)))
  none-stopping why from element at Never retires =
      let none = ap (λ (c : Cycle). length (cycles_of c)) retires in
      omega (arith, counted, none)

  none-by : (w : What) → last.what ≡ w → completed_in before ≡ 0
  none-by Completes at = omega (arith, counted, at-most-one e.retired, one-counted last after at)
  none-by (Reaches element) at = none-reaching element at
  none-by (Stops why from element) at = none-stopping why from element at e.retired refl

  pub none-before : completed_in before ≡ 0
  none-before = none-by last.what refl

-- ---- the parts

one-or-none : (b : Bool) (last : Happening) → length (if b then last ∷ [] else []) ≡ (if b then 1 else 0)
one-or-none true last = refl
one-or-none false last = refl

process-by : (w : What) (n m : ℕ) (from now : Process) → now ≡ stepped_on n from → m ≡ n + (if completes w then 1 else 0) → process_at w (stepped_on m from) ≡ process_behind w now
process-by Completes n m from now is count = ap (λ (k : ℕ). stepped_on k from) (count ∙ add-one n) ∙ ap stepped (sym is)
process-by (Reaches element) n m from now is count = ap (within element) (ap (λ (k : ℕ). stepped_on k from) (count ∙ add-zero n) ∙ sym is)
process-by (Stops why from_element element) n m from now is count = ap (stopped_at why element) (ap (λ (k : ℕ). stepped_on k from) (count ∙ add-zero n) ∙ sym is)

module _ (start : Start) (until : ℕ) (from : Process) (n : ℕ) (history : History) (now : Process) (e : Entry) (way : IsUnderWay start until from n history now) (is : e ≡ entry_of start history now.state) (before after : List Happening) (last : Happening) (parts : happenings_of (last_retire start.cycle history) e ≡ before ++ last ∷ after) where
  abbrev all : List Happening
  all = happenings start.cycle history ++ before ++ last ∷ []

  abbrev early : List Happening
  early = happenings start.cycle history

  pub completed-all : completed_in all ≡ n + (if completes last.what then 1 else 0)
  completed-all =
      let none = none-before start history now.state e is (last_retire start.cycle history) before after last parts in
      completed-append (early ++ before) (last ∷ [])
      ∙ ap₂ (λ (a b : ℕ). a + b) (completed-append early before ∙ ap₂ (λ (a b : ℕ). a + b) way.completed none ∙ add-zero n) (one-or-none (completes last.what) last)

  pub process-all : process_at last.what (stepped_on (completed_in all) from) ≡ process_behind last.what now
  process-all = process-by last.what n (completed_in all) from now way.process completed-all

  pub commits-all : commits_in all ≡ commits_in early + commits_in (before ++ last ∷ [])
  commits-all = ap commits_in (append_assoc early before (last ∷ [])) ∙ commits-append early (before ++ last ∷ [])

  pub changes-all : changes_in all ≡ (changes_in early || changes_in (before ++ last ∷ []))
  changes-all = ap changes_in (append_assoc early before (last ∷ [])) ∙ changes-append early (before ++ last ∷ [])

  pub end-all : (fetched : History) → end_by start from all last fetched ≡ end_behind start n (commits_in early) (changes_in early) now before last fetched
  end-all fetched = λ j. record {
    ended = ended_at last.what;
    last = last.cycle;
    clock = clock_behind last.cycle fetched;
    process = process-all j;
    residency = residency_by start last.cycle fetched;
    commits = commits-all j;
    completed = completed-all j;
    changed_vectors = changes-all j;
    log = log_up_to start last.cycle fetched;
  }
