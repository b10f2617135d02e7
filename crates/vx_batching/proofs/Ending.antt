-- How an instruction ends whose batches were gone through: it completes, or stops at the next one, or the episode ends before.
use Rattle.std.proofs.Common.{◌≡◌, ℕ, ◌+◌, ◌<◌, max, Bool, true, false, List, [], ◌∷◌, ◌++◌, refl, ap, ◌∙◌, arith}
use Rattle.std.specs.Prelude.{map, filter, Option, Some, None}
use Rattle.std.proofs.lemmas.List.{append_assoc}
use Rattle.vx_flat.specs.State.{Flat}
use Rattle.vx_episode.specs.Batches.{all_batches, retired_batches}
use Rattle.vx_episode.specs.Commits.{Happening, timed, happening, happenings_of}
use Rattle.vx_episode.specs.Commits.What.{Completes, Reaches}
use Rattle.vx_episode.specs.Cycles.{Cycle, behind, later_of, latest}
use Rattle.vx_episode.specs.Cycles.Cycle.{At, Never}
use Rattle.vx_episode.specs.Footprint.{Batch, Footprint}
use Rattle.vx_episode.specs.History.{History, Entry, BeatTimes, BatchTimes, last_retire, stops, accesses_of, missing_of, batch_done}
use Rattle.vx_episode.specs.Instructions.{beat_times, beat_ready, generation_cycle, complete_by, retire_cycle}
use Rattle.vx_episode.specs.Organisation.{Start}
use Rattle.vx_episode.specs.declared.ended.Ended.{Ended}
use Rattle.vx_batching.specs.Batching.{IsReached, next_times, reached, completed_behind}
use Rattle.vx_batching.proofs.Happening.{reached-more, completes-behind, reaches-behind}
use Rattle.vx_batching.proofs.Later.{IsMore, is_any, all-more-batches, with_its_commit}
use Rattle.vx_batching.proofs.Passing.{done-latest}
use Rattle.vx_batching.proofs.Starting.{kept-none, passed-at}
use Rattle.vx_batching.proofs.Times.{later_of-never}

pub accesses-retired : (c : Cycle) (own : List BatchTimes) → accesses_of (retired_batches c own) ≡ accesses_of own
accesses-retired c [] = refl
accesses-retired c (b ∷ own) = refl

-- the retire behind a completion
retired-at : (start : Start) (history : History) (completed : Cycle) (r k : ℕ) → last_retire start.cycle history ≡ At r → completed ≡ At k → r < k → retire_cycle start history completed ≡ At (k + 1)
retired-at start history completed r k last done few =
    let greatest : max (r + 1) (max (k + 1) 0) ≡ k + 1 = omega arith in
    (λ i. latest (behind (last i) ∷ behind (done i) ∷ [])) ∙ ap At greatest

pub never-retired : (start : Start) (history : History) (completed : Cycle) → completed ≡ Never → retire_cycle start history completed ≡ Never
never-retired start history completed e = ap (retire_cycle start history) e ∙ later_of-never (behind (last_retire start.cycle history))

pub never-complete : (start : Start) (stop : Option Ended) (issued generated : Cycle) (f : Footprint) (beats : List BeatTimes) (batches : List BatchTimes) → generated ≡ Never → complete_by start stop issued generated f beats batches ≡ Never
never-complete start (Some why) issued generated f beats batches e = refl
never-complete start None (At t) generated f beats batches e = ap (λ (c : Cycle). later_of (At (t + f.latency)) (later_of c (latest (map (beat_ready start) beats ++ batch_done batches)))) e
never-complete start None Never generated f beats batches e = refl

module _ (start : Start) (history : History) (s : Flat) (r t : ℕ) (f : Footprint) (issue : (timed start history s f).issued ≡ At t) where
  abbrev entry : Entry
  entry = timed start history s f

  pub entry-batches : (own : List BatchTimes) (rest : List Batch) (looked committed before done : ℕ) → IsReached start history r t f own rest looked committed before done
      → entry.batches ≡ retired_batches entry.retired (all_batches start history own (At t) f rest)
  entry-batches own rest looked committed before done so =
      ap (λ (c : Cycle). retired_batches entry.retired (all_batches start history [] c f f.batches)) issue ∙ ap (retired_batches entry.retired) so.whole

  -- ---- all batches were gone through

  pub completed-at : (l : BatchTimes) (own : List BatchTimes) (looked committed before done : ℕ) → IsReached start history r t f (l ∷ own) [] looked committed before done → f.stop ≡ None → f.groups ≡ []
      → entry.completed ≡ At (completed_behind t f looked done)
  completed-at l own looked committed before done so stop none =
      let off = kept-none (stops l) l (filter stops own) so.none_stops in
      let dones : latest (batch_done (l ∷ own)) ≡ At done = done-latest (accesses_of (l ∷ own)) (missing_of (l ∷ own)) so.none_missing ∙ ap At so.done_is in
      (λ i. complete_by start (stop i) (issue i) (generation_cycle start (issue i) (all_batches start history [] (issue i) f f.batches)) f (beat_times start history (issue i) f.unit [] (none i)) (all_batches start history [] (issue i) f f.batches))
      ∙ ap (λ (bs : List BatchTimes). complete_by start None (At t) (generation_cycle start (At t) bs) f [] bs) so.whole
      ∙ (λ i. later_of (At (t + f.latency)) (later_of (passed-at l looked off.0 so.looked_is i) (dones i)))

  pub completes : (l : BatchTimes) (own : List BatchTimes) (looked committed before done : ℕ) → IsReached start history r t f (l ∷ own) [] looked committed before done → f.stop ≡ None → f.groups ≡ []
      → happenings_of (last_retire start.cycle history) entry ≡ reached entry own ++ happening entry Completes (completed_behind t f looked done + 1) ∷ []
  completes l own looked committed before done so stop none =
      let after = so.behind_retire in
      let from = so.looked_from in
      let few : r < completed_behind t f looked done = omega arith in
      completes-behind entry (last_retire start.cycle history) l own entry.retired (completed_behind t f looked done + 1) stop (entry-batches (l ∷ own) [] looked committed before done so) so.none_stops
      (retired-at start history entry.completed r (completed_behind t f looked done) so.quiet.last (completed-at l own looked committed before done so stop none) few)

  -- ---- there are more

  more-behind : (own : List BatchTimes) (b : Batch) (bs : List Batch) → (later : List BatchTimes) × ((x : BatchTimes) × (all_batches start history own (At t) f (b ∷ bs) ≡ later ++ x ∷ own))
  more-behind own b bs =
      let times : BatchTimes = next_times start history t f own b in
      let now : BatchTimes = with_its_commit start history own times in
      let more = all-more-batches start history t f bs (now ∷ own) in
      by-trim times.is_trimmed now own (all_batches start history (now ∷ own) (At t) f bs) more
    where
      by-trim : (trimmed : Bool) (now : BatchTimes) (own ys : List BatchTimes) → IsMore is_any ys (now ∷ own)
          → (later : List BatchTimes) × ((x : BatchTimes) × (elim trimmed as (λ _. List BatchTimes) [ true ↦ now ∷ own | false ↦ ys ] ≡ later ++ x ∷ own))
      by-trim true now own ys more = ([], (now, refl))
      by-trim false now own ys more = (more.later, (now, more.are))

  pub reaches : (l : BatchTimes) (own : List BatchTimes) (b : Batch) (bs : List Batch) (looked committed before done : ℕ) → IsReached start history r t f (l ∷ own) (b ∷ bs) looked committed before done
      → (follows : List Happening) × (happenings_of (last_retire start.cycle history) entry ≡ reached entry own ++ happening entry (Reaches l.after) committed ∷ follows)
  reaches l own b bs looked committed before done so =
      let more = more-behind (l ∷ own) b bs in
      let all = reaches-behind entry (last_retire start.cycle history) entry.retired more.0 (l ∷ own) more.1.0 (entry-batches (l ∷ own) (b ∷ bs) looked committed before done so ∙ ap (retired_batches entry.retired) more.1.1) in (
        all.0,
        all.1
            ∙ ap (λ (xs : List Happening). xs ++ all.0) (reached-more entry l own committed so.committed_is)
            ∙ append_assoc (reached entry own) (happening entry (Reaches l.after) committed ∷ []) all.0,
      )
