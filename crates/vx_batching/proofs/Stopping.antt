-- How an instruction stops at its next batch.
use Rattle.std.proofs.Common.{◌≡◌, ℕ, ◌+◌, max, Bool, true, false, List, [], ◌∷◌, ◌++◌, refl, sym, ap, ◌∙◌, arith}
use Rattle.std.specs.Prelude.{not, nat_lt, filter, Some, None, is_some, if◌then◌else◌}
use Rattle.std.specs.List.{list_all}
use Rattle.std.proofs.lemmas.Bool.{and_parts, and_from}
use Rattle.std.proofs.lemmas.Grind.{flat_map-append}
use Rattle.std.proofs.lemmas.List.Elements.{filter-append}
use Rattle.vx_flat.specs.State.{Flat}
use Rattle.vx_episode.specs.Batches.{all_batches, retired_batches}
use Rattle.vx_episode.specs.Commits.{timed, happening, happenings_of, why_stopped}
use Rattle.vx_episode.specs.Commits.What.{Stops}
use Rattle.vx_episode.specs.Cycles.{Cycle}
use Rattle.vx_episode.specs.Cycles.Cycle.{At, Never}
use Rattle.vx_episode.specs.Footprint.{Batch, Footprint}
use Rattle.vx_episode.specs.History.{History, Entry, BatchTimes, AccessTimes, Failure, last_retire, stops, passed, batches_of, accesses_of}
use Rattle.vx_episode.specs.Instructions.{beat_times, generation_cycle}
use Rattle.vx_episode.specs.Organisation.{Start}
use Rattle.vx_batching.specs.Batching.{IsReached, next_times, all_done, reached, stopped_behind}
use Rattle.vx_batching.proofs.Ending.{accesses-retired, entry-batches, never-retired, never-complete}
use Rattle.vx_batching.proofs.Happening.{stops-behind}
use Rattle.vx_batching.proofs.Later.{IsMore, with_its_commit}
use Rattle.vx_batching.proofs.Lists.{all-both, all-more, filter-all, filter-none}
use Rattle.vx_batching.proofs.Passing.{next-started}
use Rattle.vx_batching.proofs.Started.{IsStarted, times-from}
use Rattle.vx_batching.proofs.Stuck.{IsIdle, is_idle, is_never, idle-is, all-idle, commit-missing, idle-accesses, idle-stops}

-- ---- the batches behind

never-generated : (start : Start) (t : ℕ) (later own : List BatchTimes) (x : BatchTimes) → list_all is_idle later ≡ true → passed x ≡ Never → generation_cycle start (At t) (later ++ x ∷ own) ≡ Never
never-generated start t [] own x h e = e
never-generated start t (y ∷ later) own x h e =
    let here : IsIdle y = idle-is y (and_parts (is_idle y) (list_all is_idle later) h).0 in
    here.passing

idle-commits : (later : List BatchTimes) (x : BatchTimes) → list_all is_idle later ≡ true → x.committed ≡ Never → list_all (λ (b : BatchTimes). is_never b.committed) (later ++ x ∷ []) ≡ true
idle-commits later x h e =
    all-both (λ (b : BatchTimes). is_never b.committed) later (x ∷ [])
    (all-more is_idle (λ (b : BatchTimes). is_never b.committed) (λ b one. let here : IsIdle b = idle-is b one in ap is_never here.committing) later h)
    (and_from (is_never x.committed) true (ap is_never e) refl)

stops-only : (start : Start) (history : History) (later own : List BatchTimes) (x : BatchTimes) → list_all is_idle later ≡ true → stops x ≡ true → filter stops own ≡ [] → filter stops (later ++ x ∷ own) ≡ x ∷ []
stops-only start history later own x h on none =
    filter-append stops later (x ∷ own)
    ∙ (λ i. idle-stops start history later h i ++ (if on i then x ∷ none i else none i))

-- ---- the stop

module _ (start : Start) (history : History) (s : Flat) (r t : ℕ) (f : Footprint) (issue : (timed start history s f).issued ≡ At t) (own : List BatchTimes) (b : Batch) (bs : List Batch) (looked committed before done next : ℕ)
    (so : IsReached start history r t f own (b ∷ bs) looked committed before done) (failing : Failure) (fails : (next_times start history t f own b).failure ≡ Some failing) (off : (next_times start history t f own b).is_trimmed ≡ false)
    (is : (next_times start history t f own b).looked_up ≡ At next) where
  abbrev entry : Entry
  entry = timed start history s f

  abbrev its_times : BatchTimes
  its_times = next_times start history t f own b

  abbrev now : BatchTimes
  now = with_its_commit start history own its_times

  begun : IsStarted (max looked before + 1) next its_times
  begun = next-started start history r t f own b bs looked committed before done next so is

  stop-on : stops its_times ≡ true
  stop-on = (λ i. if off i then false else is_some (fails i))

  never-passed : passed now ≡ Never
  never-passed = ap (λ (on : Bool). if on then Never else its_times.looked_up) stop-on

  never-committed : now.committed ≡ Never
  never-committed = commit-missing start history own its_times (λ none. begun.missed failing fails off none)

  pub stuck : IsMore is_idle (all_batches start history (now ∷ own) (At t) f bs) (now ∷ own)
  stuck = all-idle start history t f bs now own never-passed

  pub stuck-batches : entry.batches ≡ retired_batches entry.retired (stuck.later ++ now ∷ own)
  stuck-batches =
      entry-batches start history s r t f issue own (b ∷ bs) looked committed before done so
      ∙ ap (λ (trimmed : Bool). retired_batches entry.retired (elim trimmed as (λ _. List BatchTimes) [ true ↦ now ∷ own | false ↦ all_batches start history (now ∷ own) (At t) f bs ])) off
      ∙ ap (retired_batches entry.retired) stuck.are

  pub stuck-accesses : accesses_of entry.batches ≡ its_times.accesses ++ accesses_of own
  stuck-accesses =
      ap accesses_of stuck-batches
      ∙ accesses-retired entry.retired (stuck.later ++ now ∷ own)
      ∙ flat_map-append (λ (b : BatchTimes). b.accesses) stuck.later (now ∷ own)
      ∙ ap (λ (xs : List AccessTimes). xs ++ (its_times.accesses ++ accesses_of own)) (idle-accesses start history stuck.later stuck.each)

  stuck-all : all_batches start history [] (At t) f f.batches ≡ stuck.later ++ now ∷ own
  stuck-all =
      so.whole
      ∙ ap (λ (trimmed : Bool). elim trimmed as (λ _. List BatchTimes) [ true ↦ now ∷ own | false ↦ all_batches start history (now ∷ own) (At t) f bs ]) off
      ∙ stuck.are

  -- ---- it never completes

  pub never-completed : entry.completed ≡ Never
  never-completed =
      let issued : Cycle = entry.issued in
      let batches : List BatchTimes = all_batches start history [] issued f f.batches in
      never-complete start f.stop issued (generation_cycle start issued batches) f (beat_times start history issued f.unit [] f.groups) batches
      ((λ i. generation_cycle start (issue i) (all_batches start history [] (issue i) f f.batches))
      ∙ ap (generation_cycle start (At t)) stuck-all
      ∙ never-generated start t stuck.later own now stuck.each never-passed)

  pub never-retires : entry.retired ≡ Never
  never-retires = never-retired start history entry.completed never-completed

  -- ---- and stops

  pub stops-at : f.stop ≡ None → happenings_of (last_retire start.cycle history) entry
      ≡ reached entry own ++ happening entry (Stops (why_stopped entry failing) b.from failing.element) (stopped_behind r next failing.element (its_times.accesses ++ accesses_of own)) ∷ []
  stops-at stop =
      stops-behind entry (last_retire start.cycle history) entry.retired r b.from next stuck.later own now failing (its_times.accesses ++ accesses_of own) so.quiet.last stop stuck-batches never-retires
      (idle-commits stuck.later now stuck.each never-committed)
      (stops-only start history stuck.later own now stuck.each stop-on so.none_stops)
      fails (times-from start history (own ++ batches_of history) (At t) f b) is stuck-accesses

-- ---- of batches of one element

pub stopped-plainly : (start : Start) (history : History) (r t : ℕ) (f : Footprint) (own : List BatchTimes) (b : Batch) (bs : List Batch) (looked committed before done next : ℕ) → IsReached start history r t f own (b ∷ bs) looked committed before done → (element : ℕ)
    → (next_times start history t f own b).looked_up ≡ At next → list_all (λ (a : AccessTimes). nat_lt a.access.element element) (accesses_of own) ≡ true
    → list_all (λ (a : AccessTimes). not (nat_lt a.access.element element)) (next_times start history t f own b).accesses ≡ true
    → stopped_behind r next element ((next_times start history t f own b).accesses ++ accesses_of own) ≡ max next (max committed done)
stopped-plainly start history r t f own b bs looked committed before done next so element is below above =
    let times : BatchTimes = next_times start history t f own b in
    let is_below : AccessTimes → Bool = λ (a : AccessTimes). nat_lt a.access.element element in
    let kept : filter is_below (times.accesses ++ accesses_of own) ≡ accesses_of own =
    filter-append is_below times.accesses (accesses_of own)
    ∙ (λ i. filter-none is_below (λ (a : AccessTimes). not (is_below a)) (λ a out inside. sym (ap not inside) ∙ out) times.accesses above i ++ filter-all is_below (accesses_of own) below i) in
    let begun : IsStarted (max looked before + 1) next times = next-started start history r t f own b bs looked committed before done next so is in
    let from = begun.from in
    let least = so.committed_from in
    let few = so.committed_by in
    let most = so.done_by in
    ap (λ (accesses : List AccessTimes). max next (max (r + 1) (all_done accesses))) kept
    ∙ ap (λ (n : ℕ). max next (max (r + 1) n)) so.done_is
    ∙ omega arith
