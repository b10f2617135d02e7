-- What each thing that happens of an instruction leaves of the pages that haven't D then.
use Rattle.std.proofs.Common.{◌≡◌, ℕ, Bool, true, false, ltb, List, [], ◌∷◌, ◌++◌, map, filter, flat_map, reverse, if◌then◌else◌, refl, sym, ap, ◌∙◌, subst, append_assoc, arith}
use Rattle.std.specs.Prelude.{Option, Some, None, is_some, unwrap_or, option_and_then}
use Rattle.std.proofs.lemmas.Bool.{false≢true, true≢false, le-leb, eq-eqb}
use Rattle.std.proofs.lemmas.Grind.{flat_map-append}
use Rattle.vx_image.specs.Pages.{page_numbered}
use Rattle.vx_tables.specs.Residency.{IsOf}
use Rattle.vx_flat.specs.Outcome.{Outcome}
use Rattle.vx_flat.specs.Outcome.Outcome.{Next, Exited, Faulted}
use Rattle.vx_flat.specs.Prefix.{prefix_of, transfer_next}
use Rattle.vx_flat.specs.Process.{Process, after, stepped}
use Rattle.vx_flat.specs.Splits.{IsWellFormed}
use Rattle.vx_flat.specs.State.{Flat}
use Rattle.vx_flat.specs.Step.{step, upcoming}
use Rattle.vx_flat.specs.Transfers.{Transfer}
use Rattle.vx_flat.specs.declared.end.End.{End}
use Rattle.vx_episode.specs.Batches.{retired_batches}
use Rattle.vx_episode.specs.Commits.{What, Happening, entry_of, happening, batch_commit, not_last, commits_of, serial_stop, why_stopped, batch_stop_cycle, batch_stop_by, batch_stop, happenings_of}
use Rattle.vx_episode.specs.Commits.What.{Completes, Reaches, Stops}
use Rattle.vx_episode.specs.Cycles.{Cycle, behind, latest, is_by, cycles_of}
use Rattle.vx_episode.specs.Cycles.Cycle.{At, Never}
use Rattle.vx_episode.specs.Episode.{stopped_at}
use Rattle.vx_episode.specs.Footprint.{Footprint, ended_by}
use Rattle.vx_episode.specs.History.{History, Entry, Walk, BatchTimes, AccessTimes, Failure, last_issue, last_retire, retire_before, trimming_before, register_ready, stops, accesses_of, batches_of, walks_of_batches, data_walks}
use Rattle.vx_episode.specs.Organisation.{Start}
use Rattle.vx_episode.specs.declared.ended.Ended.{Ended}
use Rattle.vx_episode.specs.declared.ended.Ended.TheVariants as ended
use Rattle.vx_ending.specs.Ends.{process_behind}
use Rattle.vx_dirty.proofs.Entries.{its_footprint, its_issue, its_batches, walks_with, Keeps, HasStopped, Facts, facts}
use Rattle.vx_dirty.proofs.Instructions.{Laws, memory_in, is_faulted, stops-serial}
use Rattle.vx_dirty.proofs.Moves.{memory_within}
use Rattle.vx_dirty.proofs.Ranges.{BatchLaws}
use Rattle.vx_dirty.proofs.Times.{by-first, by-second, by-later, by-each, AreBy, AreTimely, AreTold, IsBehind, behind-each, told-all, has-retired, IsTold, told-next, walks-retired}
use Rattle.vx_dirty.proofs.Lists.{Each, each-append, each-second, each-at, each-reverse, each-flat}

-- ---- when it happens

-- what is so at each cycle that comes is so of what comes
each-cycle : (P : Happening → Type 0) (e : Entry) (what : What) (c : Cycle) → ((cycle : ℕ) → is_by cycle c ≡ true → P (happening e what cycle)) → Each P (map (happening e what) (cycles_of c))
each-cycle P e what (At cycle) h = (h cycle (le-leb cycle cycle (omega arith)), tt)
each-cycle P e what Never h = tt

-- the parts of what happens
module _ (P : Happening → Type 0) (before : Cycle) (e : Entry) where
  each-happening : Each (λ b. Each P (batch_commit e b)) (not_last e.batches) → ((cycle : ℕ) → is_by cycle e.retired ≡ true → P (happening e Completes cycle)) → Each P (serial_stop e e.footprint.stop) → Each P (batch_stop before e) → Each P (happenings_of before e)
  each-happening commits completes serial stop =
      each-append P (commits_of e ++ serial_stop e e.footprint.stop) (batch_stop before e)
      (each-append P (commits_of e) (serial_stop e e.footprint.stop)
      (each-append P (flat_map (batch_commit e) (reverse (not_last e.batches))) (map (happening e Completes) (cycles_of e.retired))
      (each-flat P (batch_commit e) (reverse (not_last e.batches)) (each-reverse (λ b. Each P (batch_commit e b)) (not_last e.batches) commits))
      (each-cycle P e Completes e.retired completes))
      serial)
      stop

-- the batches of the entry, by those as they were before its retire
not-last-retired : (retired : Cycle) (own : List BatchTimes) → not_last (retired_batches retired own) ≡ not_last own
not-last-retired retired [] = refl
not-last-retired retired (b ∷ own) = refl

module _ (P : Happening → Type 0) (before : Cycle) (e : Entry) (own : List BatchTimes) (each : (newer older : List BatchTimes) (b other : BatchTimes) → own ≡ newer ++ b ∷ older → other.looked_up ≡ b.looked_up → Each P (batch_stop_by before e other b.failure)) where
  abbrev stopped_by : List BatchTimes → List Happening
  stopped_by batches = flat_map (λ (b : BatchTimes). batch_stop_by before e b b.failure) batches

  stops-if : (b : BatchTimes) (later : List BatchTimes) (s : Bool) → Each P (batch_stop_by before e b b.failure) → Each P (stopped_by later) → Each P (stopped_by (if s then b ∷ later else later))
  stops-if b later true h k = each-append P (batch_stop_by before e b b.failure) (stopped_by later) h k
  stops-if b later false h k = k

  each-stop : (newer older : List BatchTimes) → own ≡ newer ++ older → Each P (stopped_by (filter stops older))
  each-stop newer [] is = tt
  each-stop newer (b ∷ older) is =
      stops-if b (filter stops older) (stops b) (each newer older b b is refl)
      (each-stop (newer ++ b ∷ []) older (is ∙ sym (append_assoc newer (b ∷ []) older)))

  each-stop-retired : (retired : Cycle) (batches : List BatchTimes) → own ≡ batches → Each P (stopped_by (filter stops (retired_batches retired batches)))
  each-stop-retired retired [] is = tt
  each-stop-retired retired (b ∷ older) is =
      let last = record b { committed = retired } in
      stops-if last (filter stops older) (stops last) (each [] older b last is refl) (each-stop (b ∷ []) older is)

each-commit : (P : Happening → Type 0) (e : Entry) (all : List BatchTimes) → ((newer older : List BatchTimes) (b : BatchTimes) → all ≡ newer ++ b ∷ older → Each P (batch_commit e b)) → (newer older : List BatchTimes) → all ≡ newer ++ older → Each (λ b. Each P (batch_commit e b)) older
each-commit P e all each newer [] is = tt
each-commit P e all each newer (b ∷ older) is =
    (each newer older b is, each-commit P e all each (newer ++ b ∷ []) older (is ∙ sym (append_assoc newer (b ∷ []) older)))

each-not-last : (P : BatchTimes → Type 0) (own : List BatchTimes) → Each P own → Each P (not_last own)
each-not-last P [] h = tt
each-not-last P (b ∷ own) h = h.1

-- a serial instruction issues behind the retire before it
serial-behind : (start : Start) (history : History) (s : Flat) (last : ℕ) → (its_footprint start history s).is_serial ≡ true → is_by last (its_issue start history s) ≡ true → is_by last (last_retire start.cycle history) ≡ true
serial-behind start history s last serial h =
    let f = its_footprint start history s in
    let fetched = (entry_of start history s).fetch.ended in
    let others =
    fetched
    ∷ behind (last_issue start.cycle history)
    ∷ map (register_ready start.cycle history) f.reads
    ++ map behind (retire_before start.machine.window history)
    ++ map behind (trimming_before history) in
    let waits = if f.is_serial then behind (last_retire start.cycle history) ∷ [] else [] in
    let each = each-second (λ c. is_by last c ≡ true) others waits (by-each last (others ++ waits) h) in
    by-later last 1 (last_retire start.cycle history) (subst (λ b. Each (λ c. is_by last c ≡ true) (if b then behind (last_retire start.cycle history) ∷ [] else [])) serial each).0

-- what happens comes behind the issue and behind the retire before
pub record IsAfter (start : Start) (history : History) (s : Flat) (h : Happening) : Type 0 where
  pub issued : is_by h.cycle (its_issue start history s) ≡ true
  pub retired : is_by h.cycle (last_retire start.cycle history) ≡ true

module _ (L : Laws) (start : Start) (history : History) (s : Flat) (w : IsWellFormed s) where
  abbrev e : Entry
  e = entry_of start history s

  abbrev f : Footprint
  f = its_footprint start history s

  abbrev own : List BatchTimes
  own = its_batches start history s

  abbrev retire : Cycle
  retire = last_retire start.cycle history

  are-behind : Each (IsBehind start history (its_issue start history s)) own
  are-behind = behind-each start history (its_issue start history s) f f.batches

  stop-parts : (last : ℕ) (b : BatchTimes) (element : ℕ) → is_by last (batch_stop_cycle retire e b element) ≡ true → (is_by last b.looked_up ≡ true) × (is_by last retire ≡ true)
  stop-parts last b element h =
      let done = map (λ (a : AccessTimes). At a.done) (filter (λ (a : AccessTimes). ltb a.access.element element) (accesses_of e.batches)) in
      let rest = latest (behind retire ∷ done) in
      (by-first last b.looked_up rest h, by-later last 1 retire (by-first last (behind retire) (latest done) (by-second last b.looked_up rest h)))

  serial-parts : (stop : Option Ended) → f.stop ≡ stop → (P : Happening → Type 0) → ((why : Ended) (cycle : ℕ) → f.stop ≡ Some why → is_by cycle (its_issue start history s) ≡ true → is_by cycle retire ≡ true → P (happening e (Stops why s.v.vstart s.v.vstart) cycle)) → Each P (serial_stop e stop)
  serial-parts None is P h = tt
  serial-parts (Some why) is P h =
      each-cycle P e (Stops why s.v.vstart s.v.vstart) (its_issue start history s)
      (λ cycle k. h why cycle is k (serial-behind start history s cycle (stops-serial L start.machine s w start.has_vectors start.residency (ap is_some is)) k))

  pub all-after : Each (IsAfter start history s) (happenings_of retire e)
  all-after =
      each-happening (IsAfter start history s) retire e
      (subst (Each (λ b. Each (IsAfter start history s) (batch_commit e b))) (sym (not-last-retired e.retired own))
      (each-commit (IsAfter start history s) e (not_last own) reach [] (not_last own) refl))
      (λ cycle h. let k = has-retired start history cycle s h in record { issued = k.issued; retired = k.before })
      (serial-parts f.stop refl (IsAfter start history s) (λ why cycle is issued before. record { issued = issued; retired = before }))
      (each-stop-retired (IsAfter start history s) retire e own stop e.retired own refl)
    where
      reach : (newer older : List BatchTimes) (b : BatchTimes) → not_last own ≡ newer ++ b ∷ older → Each (IsAfter start history s) (batch_commit e b)
      reach newer older b is =
          each-cycle (IsAfter start history s) e (Reaches b.after) b.committed
          (λ cycle h.
          let it = each-at (IsBehind start history (its_issue start history s)) newer older b (subst (Each (IsBehind start history (its_issue start history s))) is (each-not-last (IsBehind start history (its_issue start history s)) own are-behind)) in
          let parts = it.committed cycle h in
          record { issued = it.looked_up cycle parts.0; retired = parts.1 })

      stop : (newer older : List BatchTimes) (b other : BatchTimes) → own ≡ newer ++ b ∷ older → other.looked_up ≡ b.looked_up → Each (IsAfter start history s) (batch_stop_by retire e other b.failure)
      stop newer older b other is same = by_failure b.failure
        where
          by_failure : (o : Option Failure) → Each (IsAfter start history s) (batch_stop_by retire e other o)
          by_failure None = tt
          by_failure (Some failure) =
              each-cycle (IsAfter start history s) e (Stops (why_stopped e failure) other.from failure.element) (batch_stop_cycle retire e other failure.element)
              (λ cycle h.
              let it = each-at (IsBehind start history (its_issue start history s)) newer older b (subst (Each (IsBehind start history (its_issue start history s))) is are-behind) in
              let parts = stop-parts cycle other failure.element h in
              record { issued = it.looked_up cycle (ap (is_by cycle) (sym same) ∙ parts.0); retired = parts.1 })

-- ---- what it leaves

-- behind walks that have ended by then, of which all walks before the instruction are, pages without D are as they were before it
pub record IsKept (start : Start) (history : History) (now : Process) (h : Happening) : Type 0 where
  pub newer : List Walk
  pub walks : List Walk
  pub parts : walks_with start history now.state (its_batches start history now.state) ≡ newer ++ walks
  pub some : List Walk
  pub whole : walks ≡ some ++ data_walks history
  pub ended : AreBy h.cycle walks
  pub keeps : Keeps start history now.state walks (process_behind h.what now).state.memory

-- the state behind a step
stepped-memory : (now : Process) → now.over ≡ None → (stepped now).state.memory ≡ memory_in now.state (step now.state)
stepped-memory now running =
    ap (λ (o : Option End). (elim o as (λ _. Process) [ None ↦ after now (step now.state) | Some e ↦ now ]).state.memory) running
    ∙ by_outcome (step now.state)
  where
    by_outcome : (o : Outcome) → (after now o).state.memory ≡ memory_in now.state o
    by_outcome (Next t) = refl
    by_outcome (Exited code) = refl
    by_outcome (Faulted fault t) = refl

-- a process that stopped within an instruction
stopped-within : (now : Process) (why : Ended) (element : ℕ) → is_faulted why ≡ false → (stopped_at why element now).state.memory ≡ memory_within element now.state
stopped-within now ended.Slice element h = refl
stopped-within now (ended.Away address want) element h = refl
stopped-within now ended.Vector element h = refl
stopped-within now ended.Service element h = refl
stopped-within now (ended.Faulted fault) element h = absurd (true≢false h)

stopped-faulted : (now : Process) → now.over ≡ None → (why : Ended) (element : ℕ) → is_faulted why ≡ true → (stopped_at why element now).state.memory ≡ memory_in now.state (step now.state)
stopped-faulted now running ended.Slice element h = absurd (false≢true h)
stopped-faulted now running (ended.Away address want) element h = absurd (false≢true h)
stopped-faulted now running ended.Vector element h = absurd (false≢true h)
stopped-faulted now running ended.Service element h = absurd (false≢true h)
stopped-faulted now running (ended.Faulted fault) element h = stepped-memory now running

-- at its vstart it is as it was
within-start : (s : Flat) → memory_within s.v.vstart s ≡ s.memory
within-start s =
    let k = s.v.vstart in
    ap (λ b. (unwrap_or (if b then Some s else option_and_then (λ (t : Transfer). prefix_of t k s) (transfer_next s (upcoming s))) s).memory) (eq-eqb k k refl)

-- walks of some batches, and of those behind them
walks-parts : (history : History) (newer older : List BatchTimes) → walks_of_batches ((newer ++ older) ++ batches_of history) ≡ walks_of_batches newer ++ walks_of_batches (older ++ batches_of history)
walks-parts history newer older =
    ap walks_of_batches (append_assoc newer older (batches_of history)) ∙ flat_map-append (λ (b : BatchTimes). b.walks) newer (older ++ batches_of history)

walks-whole : (history : History) (own : List BatchTimes) → walks_of_batches (own ++ batches_of history) ≡ walks_of_batches own ++ data_walks history
walks-whole history own = flat_map-append (λ (b : BatchTimes). b.walks) own (batches_of history)

timely-at : (newer older batches : List BatchTimes) (b : BatchTimes) → AreTimely ((newer ++ b ∷ older) ++ batches) → (last : ℕ) → is_by last b.looked_up ≡ true → AreBy last (walks_of_batches ((b ∷ older) ++ batches))
timely-at [] older batches b h = h.0
timely-at (x ∷ newer) older batches b h = timely-at newer older batches b h.1

newest-first : List BatchTimes → List BatchTimes
newest-first [] = []
newest-first (b ∷ others) = b ∷ []

not-last-parts : (own newer older : List BatchTimes) (b : BatchTimes) → not_last own ≡ newer ++ b ∷ older → own ≡ (newest-first own ++ newer) ++ b ∷ older
unfolding newest-first
not-last-parts [] newer older b h = h
not-last-parts (x ∷ others) newer older b h = ap (λ (l : List BatchTimes). x ∷ l) h

module _ (L : Laws) (B : BatchLaws) (start : Start) (history : History) (now : Process) (running : now.over ≡ None) (w : IsWellFormed now.state) (of : IsOf start.residency now.state.memory) (told : IsTold start history) where
  abbrev s : Flat
  s = now.state

  abbrev it : Entry
  it = entry_of start history s

  abbrev all : List BatchTimes
  all = its_batches start history s

  abbrev before : Cycle
  before = last_retire start.cycle history

  its_facts : Facts start history s
  its_facts = facts L B start history s w of told

  its_told : AreTold start (all ++ batches_of history)
  its_told = told-all start history (its_issue start history s) (its_footprint start history s) told.fetched [] (its_footprint start history s).batches told.batches

  -- at a batch
  kept-at : (newer older : List BatchTimes) (b : BatchTimes) → all ≡ newer ++ b ∷ older → (h : Happening) → is_by h.cycle b.looked_up ≡ true → Keeps start history s (walks_with start history s (b ∷ older)) (process_behind h.what now).state.memory → IsKept start history now h
  kept-at newer older b is h looked keeps = record {
    newer = walks_of_batches newer;
    walks = walks_with start history s (b ∷ older);
    parts = ap (λ (l : List BatchTimes). walks_of_batches (l ++ batches_of history)) is ∙ walks-parts history newer (b ∷ older);
    some = walks_of_batches (b ∷ older);
    whole = walks-whole history (b ∷ older);
    ended = timely-at newer older (batches_of history) b (subst (λ (l : List BatchTimes). AreTimely (l ++ batches_of history)) is its_told.timely) h.cycle looked;
    keeps = keeps;
  }

  pub all-kept : Each (IsKept start history now) (happenings_of before it)
  all-kept =
      each-happening (IsKept start history now) before it
      (subst (Each (λ b. Each (IsKept start history now) (batch_commit it b))) (sym (not-last-retired it.retired all))
      (each-commit (IsKept start history now) it (not_last all) reach [] (not_last all) refl))
      complete
      (serial-parts L start history s w (its_footprint start history s).stop refl (IsKept start history now) halt)
      (each-stop-retired (IsKept start history now) before it all stop it.retired all refl)
    where
      behind-of : (newer older : List BatchTimes) (b : BatchTimes) → all ≡ newer ++ b ∷ older → IsBehind start history (its_issue start history s) b
      behind-of newer older b is =
          each-at (IsBehind start history (its_issue start history s)) newer older b
          (subst (Each (IsBehind start history (its_issue start history s))) is (are-behind L start history s w))

      reach : (newer older : List BatchTimes) (b : BatchTimes) → not_last all ≡ newer ++ b ∷ older → Each (IsKept start history now) (batch_commit it b)
      reach newer older b is =
          each-cycle (IsKept start history now) it (Reaches b.after) b.committed
          (λ cycle h.
          let place = not-last-parts all newer older b is in
          kept-at (newest-first all ++ newer) older b place (happening it (Reaches b.after) cycle)
          ((behind-of (newest-first all ++ newer) older b place).committed cycle h).0
          (its_facts.reaches newer older b cycle is h))

      complete : (cycle : ℕ) → is_by cycle it.retired ≡ true → IsKept start history now (happening it Completes cycle)
      complete cycle h =
          let done = its_facts.completes cycle h in
          record {
            newer = [];
            walks = walks_with start history s all;
            parts = refl;
            some = walks_of_batches all;
            whole = walks-whole history all;
            ended = subst (AreBy cycle) (walks-retired it.retired all (batches_of history)) ((told-next start history s told).retired cycle h);
            keeps = λ n clean. ap (page_numbered n) (stepped-memory now running ∙ ap (memory_in s) done.goes) ∙ done.keeps n clean;
          }

      halted : (why : Ended) → (its_footprint start history s).stop ≡ Some why → (b : Bool) → is_faulted why ≡ b → (stopped_at why s.v.vstart now).state.memory ≡ s.memory
      halted why is true faults = stopped-faulted now running why s.v.vstart faults ∙ its_facts.halts why is faults
      halted why is false faults = stopped-within now why s.v.vstart faults ∙ within-start s

      halt : (why : Ended) (cycle : ℕ) → (its_footprint start history s).stop ≡ Some why → is_by cycle (its_issue start history s) ≡ true → is_by cycle before ≡ true → IsKept start history now (happening it (Stops why s.v.vstart s.v.vstart) cycle)
      halt why cycle is issued retired = record {
        newer = walks_of_batches all;
        walks = data_walks history;
        parts = walks-whole history all;
        some = [];
        whole = refl;
        ended = told.retired cycle retired;
        keeps = λ n clean. ap (page_numbered n) (halted why is (is_faulted why) refl);
      }

      stopped : (failure : Failure) (b : BatchTimes) (older : List BatchTimes) → HasStopped start history s (b ∷ older) failure → (away faulted : Bool) → failure.is_away ≡ away → is_faulted (ended_by (step s)) ≡ faulted
          → Keeps start history s (walks_with start history s (b ∷ older)) (stopped_at (why_stopped it failure) failure.element now).state.memory
      stopped failure b older k true faulted away faults n clean =
          ap (page_numbered n)
          (ap (λ (a : Bool). (stopped_at (if a then ended.Away failure.address it.footprint.want else ended_by (step s)) failure.element now).state.memory) away
          ∙ stopped-within now (ended.Away failure.address it.footprint.want) failure.element refl)
          ∙ k.within n clean
      stopped failure b older k false true here faults n clean =
          ap (page_numbered n)
          (ap (λ (a : Bool). (stopped_at (if a then ended.Away failure.address it.footprint.want else ended_by (step s)) failure.element now).state.memory) here
          ∙ stopped-faulted now running (ended_by (step s)) failure.element faults)
          ∙ k.faults here faults n clean
      stopped failure b older k false false here faults n clean =
          ap (page_numbered n)
          (ap (λ (a : Bool). (stopped_at (if a then ended.Away failure.address it.footprint.want else ended_by (step s)) failure.element now).state.memory) here
          ∙ stopped-within now (ended_by (step s)) failure.element faults)
          ∙ k.within n clean

      stop : (newer older : List BatchTimes) (b other : BatchTimes) → all ≡ newer ++ b ∷ older → other.looked_up ≡ b.looked_up → Each (IsKept start history now) (batch_stop_by before it other b.failure)
      stop newer older b other is same = by_failure b.failure refl
        where
          by_failure : (o : Option Failure) → b.failure ≡ o → Each (IsKept start history now) (batch_stop_by before it other o)
          by_failure None fails = tt
          by_failure (Some failure) fails =
              each-cycle (IsKept start history now) it (Stops (why_stopped it failure) other.from failure.element) (batch_stop_cycle before it other failure.element)
              (λ cycle h.
              let looked = ap (is_by cycle) (sym same) ∙ (stop-parts L start history s w cycle other failure.element h).0 in
              kept-at newer older b is (happening it (Stops (why_stopped it failure) other.from failure.element) cycle) looked
              (stopped failure b older (its_facts.stops newer older b cycle failure is fails looked) failure.is_away (is_faulted (ended_by (step s))) refl refl))
