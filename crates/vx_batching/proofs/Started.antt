-- A batch that starts at a cycle: what its times are.
use Rattle.std.proofs.Common.{◌≡◌, ℕ, ◌≤◌, Bool, true, false, List, [], refl, sym, ap, subst, ◌∙◌}
use Rattle.std.specs.Prelude.{Some, None}
use Rattle.std.specs.List.{list_all}
use Rattle.vx_episode.specs.Batches.{Judged, fate_of, walks_end, walks_of, judged, lowest_failure, trims, never_queued, start_cycle, batch_started, batch_times}
use Rattle.vx_episode.specs.Cycles.{Cycle}
use Rattle.vx_episode.specs.Cycles.Cycle.{At, Never}
use Rattle.vx_episode.specs.Footprint.{Batch, Footprint}
use Rattle.vx_episode.specs.History.{History, Walk, BatchTimes, Failure, accesses_of}
use Rattle.vx_episode.specs.Organisation.{Start}
use Rattle.vx_batching.proofs.Judging.{is_judged, is_queued_between, all-judged, all-queued, failure-missing}
use Rattle.vx_batching.proofs.Times.{at-cycle}
use Rattle.vx_batching.proofs.Walking.{is_between, AreBetween, walks-between, fates-known, none-between}

-- the times of a batch that starts at a cycle and whose look-ups end at another one
pub record IsStarted (started looked : ℕ) (b : BatchTimes) : Type 0 where
  pub from : started ≤ looked
  pub walks : list_all (is_between started looked) b.walks ≡ true
  pub accesses : list_all (is_queued_between started looked) b.accesses ≡ true
  pub kept : b.failure ≡ None → b.is_trimmed ≡ false
  pub waited : b.is_trimmed ≡ true → b.missing ≡ []
  pub missed : (failing : Failure) → b.failure ≡ Some failing → b.is_trimmed ≡ false → b.missing ≡ [] → false ≡ true

trims-none : (b : Bool) → trims b None ≡ false
trims-none true = refl
trims-none false = refl

missed-by : (started looked : ℕ) (js : List Judged) (trimmed : Bool) (failing : Failure) → list_all (is_judged started looked) js ≡ true → lowest_failure js ≡ Some failing → trimmed ≡ false → never_queued trimmed js ≡ [] → false ≡ true
missed-by started looked js trimmed failing h e off none = failure-missing started looked js failing h e (ap (λ (t : Bool). never_queued t js) (sym off) ∙ none)

module _ (start : Start) (history : History) (before : List BatchTimes) (f : Footprint) (b : Batch) (started : ℕ) where
  abbrev pub its_walks : List Walk
  its_walks = walks_of start history before f.want started [] b.accesses

  abbrev pub its_judged : List Judged
  its_judged = judged (fate_of start history before f.want started its_walks) [] b.accesses

  abbrev pub its_end : ℕ
  its_end = walks_end started its_walks

  between : AreBetween started its_walks
  between = walks-between start history before f.want started b.accesses [] (none-between started)

  all-known : list_all (is_judged started its_end) its_judged ≡ true
  all-known = all-judged started its_end (fate_of start history before f.want started its_walks) (fates-known start history before f.want started its_walks between) b.accesses [] refl

  pub is-started : IsStarted started its_end (batch_started start history before f b (At started))
  is-started = record {
    from = between.from;
    walks = between.each;
    accesses = all-queued started its_end start.machine (accesses_of before) its_judged all-known;
    kept = λ e. ap (trims f.is_fault_only_first) e ∙ trims-none f.is_fault_only_first;
    waited = λ e. ap (λ (t : Bool). never_queued t its_judged) e;
    missed = λ failing e off none. missed-by started its_end its_judged (trims f.is_fault_only_first (lowest_failure its_judged)) failing all-known e off none;
  }

  started-at : (looked : ℕ) → (batch_started start history before f b (At started)).looked_up ≡ At looked → IsStarted started looked (batch_started start history before f b (At started))
  started-at looked e = subst (λ (n : ℕ). IsStarted started n (batch_started start history before f b (At started))) (at-cycle its_end looked e) is-started

-- a batch whose start is known, and the end of its look-ups
pub times-started : (start : Start) (history : History) (before : List BatchTimes) (issued : Cycle) (f : Footprint) (b : Batch) (started looked : ℕ) → start_cycle start history before issued f.want b ≡ At started → (batch_times start history before issued f b).looked_up ≡ At looked
    → IsStarted started looked (batch_times start history before issued f b)
times-started start history before issued f b started looked e is =
    let same : batch_times start history before issued f b ≡ batch_started start history before f b (At started) = ap (batch_started start history before f b) e in
    subst (IsStarted started looked) (sym same) (started-at start history before f b started looked (sym (ap (λ (t : BatchTimes). t.looked_up) same) ∙ is))

-- the end of the look-ups of a batch that starts
pub record LooksUp (started : ℕ) (b : BatchTimes) : Type 0 where
  pub looked : ℕ
  pub is : b.looked_up ≡ At looked
  pub started_so : IsStarted started looked b

pub times-looked : (start : Start) (history : History) (before : List BatchTimes) (issued : Cycle) (f : Footprint) (b : Batch) (started : ℕ) → start_cycle start history before issued f.want b ≡ At started → LooksUp started (batch_times start history before issued f b)
times-looked start history before issued f b started e =
    subst (LooksUp started) (sym (ap (batch_started start history before f b) e)) (record { looked = its_end start history before f b started; is = refl; started_so = is-started start history before f b started })

-- its elements
from-of : (start : Start) (history : History) (before : List BatchTimes) (f : Footprint) (b : Batch) (c : Cycle) → (batch_started start history before f b c).from ≡ b.from
from-of start history before f b (At started) = refl
from-of start history before f b Never = refl

pub times-from : (start : Start) (history : History) (before : List BatchTimes) (issued : Cycle) (f : Footprint) (b : Batch) → (batch_times start history before issued f b).from ≡ b.from
times-from start history before issued f b = from-of start history before f b (start_cycle start history before issued f.want b)

after-of : (start : Start) (history : History) (before : List BatchTimes) (f : Footprint) (b : Batch) (c : Cycle) → (batch_started start history before f b c).after ≡ b.after
after-of start history before f b (At started) = refl
after-of start history before f b Never = refl

pub times-after : (start : Start) (history : History) (before : List BatchTimes) (issued : Cycle) (f : Footprint) (b : Batch) → (batch_times start history before issued f b).after ≡ b.after
times-after start history before issued f b = after-of start history before f b (start_cycle start history before issued f.want b)
