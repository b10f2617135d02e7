-- A batch in numbers against that of the equations.
use Rattle.std.proofs.Common.{◌≡◌, ℕ, max, List, [], ◌++◌, refl, sym, ap, ◌∙◌, subst, arith, take}
use Rattle.std.proofs.lemmas.List.{map-append}
use Rattle.std.specs.Prelude.{map, filter, flat_map, reverse}
use Rattle.std.specs.List.{prefix_len}
use Rattle.vx_episode.specs.Batches.{Fate, judged, waiting_of, queue_of}
use Rattle.vx_episode.specs.Cycles.Cycle.{At}
use Rattle.vx_episode.specs.Footprint.{Access}
use Rattle.vx_episode.specs.History.{AccessTimes, queued_by}
use Rattle.vx_episode.specs.Ordered.{ordered}
use Rattle.vx_episode.specs.Organisation.{Organisation}
use Rattle.vx_serve.specs.Fates.{told}
use Rattle.vx_serve.specs.Queue.{judged_all, is_queued_by}
use Rattle.vx_serve.specs.Serving.{Serves, served_of, done_by, failing_from}
use Rattle.vx_serve.specs.Stamps.{BankStamps, StandsFor}
use Rattle.vx_serve.specs.Turns.{served_all, done_all}
use Rattle.vx_serve.specs.declared.fate.Fate.{Fate as Known}
use Rattle.vx_serve.specs.declared.queue.Waiting.{Waiting}
use Rattle.vx_serve.specs.declared.served.Served.{Served}
use Rattle.vx_serve.proofs.Bounds.{empty}
use Rattle.vx_serve.proofs.Judged.{IsQueueOf, plain, judged-all, judged-fates}
use Rattle.vx_serve.proofs.Split.{number_of, is_up_to, is_beyond, ordered-up, ordered-beyond, ordered-split, take-front, map-up, map-beyond, queued-served}
use Rattle.vx_serve.proofs.Stamped.{all-served, all-done}

max-zero : (n : ℕ) → max n 0 ≡ n
max-zero n = omega arith

empty-is : IsQueueOf empty []
empty-is = record { words = λ word cycle. ap At (max-zero cycle); failed = λ cycle. refl; order = refl; count = refl; missing = refl; failing = refl }

-- the queue of a batch
pub batch-queue : (fate : Access → Fate) (accesses : List Access) (fates : List Known) → map fate accesses ≡ map told fates → IsQueueOf (judged_all empty fates) (judged fate [] accesses)
batch-queue fate accesses fates same = judged-all empty [] fate accesses fates same empty-is

pub batch-served : (view now : BankStamps) (machine : Organisation) (earlier : List AccessTimes) (fate : Access → Fate) (accesses : List Access) (fates : List Known) (order : List Waiting) (served : Served)
    → StandsFor view machine earlier → map fate accesses ≡ map told fates → order ≡ (judged_all empty fates).order → now ≡ served_all view order → served.done ≡ done_all view 0 order
    → served.missing ≡ (judged_all empty fates).missing → served.failing ≡ (judged_all empty fates).failing → Serves now machine earlier fate accesses served
batch-served view now machine earlier fate accesses fates order served stands same orders becomes done missing failing =
    let is = batch-queue fate accesses fates same in
    let queue = queue_of (judged fate [] accesses) in
    let ordered : order ≡ map plain queue = orders ∙ sym is.order in
    let after : now ≡ served_all view (map plain queue) = becomes ∙ ap (served_all view) ordered in
    record {
      stands = subst (λ (v : BankStamps). StandsFor v machine (served_of machine earlier fate accesses ++ earlier)) (sym after) (all-served view machine earlier [] queue stands);
      done = done ∙ ap (done_all view 0) ordered ∙ all-done view machine earlier [] queue stands;
      missing = missing ∙ sym is.missing;
      failing = failing ∙ sym is.failing ∙ ap (failing_from 0) (judged-fates [] fate accesses);
    }

-- and of those that are queued by a cycle
pub batch-by : (view : BankStamps) (machine : Organisation) (earlier : List AccessTimes) (fate : Access → Fate) (accesses : List Access) (fates : List Known) (order : List Waiting) (last done : ℕ)
    → StandsFor view machine earlier → map fate accesses ≡ map told fates → order ≡ (judged_all empty fates).order → done ≡ done_all view 0 (take (prefix_len (is_queued_by last) order) order)
    → done ≡ done_by (queued_by last (served_of machine earlier fate accesses))
batch-by view machine earlier fate accesses fates order last done stands same orders is_done =
    let is = batch-queue fate accesses fates same in
    let items = flat_map waiting_of (reverse (judged fate [] accesses)) in
    let front = ordered number_of (filter (is_up_to number_of last) items) in
    let back = ordered number_of (filter (is_beyond number_of last) items) in
    let at : (w : Waiting) → ℕ = λ w. w.queued in
    let split : order ≡ map plain front ++ map plain back =
    orders ∙ sym is.order ∙ ap (map plain) (ordered-split number_of last items) ∙ map-append plain front back in
    let taken : take (prefix_len (is_queued_by last) order) order ≡ map plain front =
    ap (λ (queue : List Waiting). take (prefix_len (is_queued_by last) queue) queue) split
    ∙ take-front at last (map plain front) (map plain back)
    (map-up number_of at plain last (λ _. refl) front (ordered-up number_of last items))
    (map-beyond number_of at plain last (λ _. refl) back (ordered-beyond number_of last items)) in
    is_done ∙ ap (done_all view 0) taken ∙ all-done view machine earlier [] front stands ∙ sym (ap done_by (queued-served machine earlier last items))
