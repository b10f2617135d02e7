-- By which cycles the accesses of a batch are queued and done.
use Rattle.std.proofs.Common.{◌≡◌, ℕ, ◌+◌, ◌*◌, ◌%◌, ◌<◌, ◌≤◌, Bool, true, false, max, Option, Some, None, inl, inr, List, [], ◌∷◌, ◌++◌, get_or, length, take, drop, sym, ap, ◌∙◌, arith, get_or-set_same, get_or-set_other}
use Rattle.std.specs.Prelude.{◌==◌, All, slice_set, cond}
use Rattle.std.specs.List.{prefix_len}
use Rattle.std.proofs.lemmas.Bool.{cases_eq, cases_lt}
use Rattle.std.proofs.lemmas.List.{set_past, at_drop_more}
use Rattle.std.proofs.lemmas.List.Edits.{length-insert}
use Rattle.std.proofs.lemmas.List.Sums.{prefix_len-le-length}
use Rattle.std.proofs.lemmas.List.Elements.{All-append, All-take, All-drop, All-cons, All-head, All-tail}
use Rattle.vx_serve.specs.Fates.{IsKnownBy, AreKnownBy}
use Rattle.vx_serve.specs.Queue.{QueueView, later_known, latest_with, latest_of, is_failed, unless_failed_by, queue_at, placed_behind, is_queued_by, queued_on, judged_on, judged_all}
use Rattle.vx_serve.specs.Stamps.{BankStamps, AreBy}
use Rattle.vx_serve.specs.Turns.{done_at, served_on, served_all, done_all, AreQueuedBy}
use Rattle.vx_serve.specs.declared.fate.Fate.{Fate}
use Rattle.vx_serve.specs.declared.fate.Fate.TheVariants.{Good, Fails, Unknown}
use Rattle.vx_serve.specs.declared.queue.Lower.{Lower}
use Rattle.vx_serve.specs.declared.queue.Waiting.{Waiting}

-- ---- the queue

-- a cycle, where it comes, comes by another
abbrev IsBy : (last : ℕ) → Option ℕ → Type 0
IsBy last (Some cycle) = cycle ≤ last
IsBy last None = Unit {0}

later-by : (last : ℕ) (a b : Option ℕ) → IsBy last a → IsBy last b → IsBy last (later_known a b)
later-by last (Some a) (Some b) p q = omega arith
later-by last (Some a) None p q = tt
later-by last None b p q = tt

with-by : (last : ℕ) (same : Bool) (a b : Option ℕ) → IsBy last a → IsBy last b → IsBy last (cond same (later_known a b) a)
with-by last true a b p q = later-by last a b p q
with-by last false a b p q = p

abbrev IsLowerBy : (last : ℕ) → Lower → Type 0
IsLowerBy last l = IsBy last l.queued

latest-by : (last word : ℕ) (latest : Option ℕ) (lower : List Lower) → IsBy last latest → All (IsLowerBy last) lower → IsBy last (latest_of word latest lower)
latest-by last word latest [] p all = p
latest-by last word latest (l ∷ lower) p all =
    latest-by last word (latest_with word latest l) lower
    (with-by last (l.word == word) latest l.queued p (All-head (IsLowerBy last) l lower all))
    (All-tail (IsLowerBy last) l lower all)

past-by : (last cycle : ℕ) (failed : Bool) → cycle ≤ last → IsBy last (cond failed None (Some cycle))
past-by last cycle true p = tt
past-by last cycle false p = p

unless-by : (last : ℕ) (failed cycle : Option ℕ) → IsBy last cycle → IsBy last (unless_failed_by failed cycle)
unless-by last failed None p = tt
unless-by last failed (Some cycle) p = past-by last cycle (is_failed failed cycle) p

abbrev pub IsQueuedBy : (last : ℕ) → Waiting → Type 0
IsQueuedBy last w = w.queued ≤ last

placed-by : (last : ℕ) (w : Waiting) (order : List Waiting) → w.queued ≤ last → AreQueuedBy last order → AreQueuedBy last (placed_behind w order)
placed-by last w order p all =
    let n = prefix_len (is_queued_by w.queued) order in
    All-append (IsQueuedBy last) (take n order) (w ∷ drop n order)
    (All-take (IsQueuedBy last) n order all)
    (All-cons (IsQueuedBy last) w (drop n order) p (All-drop (IsQueuedBy last) n order all))

record IsWithin (last : ℕ) (view : QueueView) : Type 0 where
  lower : All (IsLowerBy last) view.lower
  order : AreQueuedBy last view.order

lower-by : (last : ℕ) (l : Lower) (lower : List Lower) → IsBy last l.queued → All (IsLowerBy last) lower → All (IsLowerBy last) (lower ++ l ∷ [])
lower-by last l lower p all = All-append (IsLowerBy last) lower (l ∷ []) all (All-cons (IsLowerBy last) l [] p (λ k d lt. absurd (omega arith)))

queued-within : (last : ℕ) (view : QueueView) (word : ℕ) (queued : Option ℕ) → IsBy last queued → IsWithin last view → IsWithin last (queued_on view word queued)
queued-within last view word (Some queued) p within = record {
  lower = lower-by last (record { word = word; queued = Some queued }) view.lower p within.lower;
  order = placed-by last (record { word = word; queued = queued }) view.order p within.order;
}
queued-within last view word None p within = record {
  lower = lower-by last (record { word = word; queued = None }) view.lower p within.lower;
  order = within.order;
}

judged-within : (last : ℕ) (view : QueueView) (fate : Fate) → IsKnownBy last fate → IsWithin last view → IsWithin last (judged_on view fate)
judged-within last view (Good cycle word) p within =
    queued-within last view word (queue_at view cycle word)
    (unless-by last view.failed (latest_of word (Some cycle) view.lower) (latest-by last word (Some cycle) view.lower p within.lower))
    within
judged-within last view (Fails cycle is_away) p within = record { lower = within.lower; order = within.order }
judged-within last view Unknown p within = record { lower = within.lower; order = within.order }

all-within : (last : ℕ) (view : QueueView) (fates : List Fate) → AreKnownBy last fates → IsWithin last view → IsWithin last (judged_all view fates)
all-within last view [] p within = within
all-within last view (fate ∷ fates) p within =
    all-within last (judged_on view fate) fates (All-tail (IsKnownBy last) fate fates p)
    (judged-within last view fate (All-head (IsKnownBy last) fate fates p) within)

abbrev pub empty : QueueView
empty = record { lower = []; order = []; failed = None; count = 0; missing = 0; failing = None }

-- the accesses of a batch are queued by the cycle by which their fates are known
pub queue-by : (last : ℕ) (fates : List Fate) → AreKnownBy last fates → AreQueuedBy last (judged_all empty fates).order
queue-by last fates p =
    (all-within last empty fates p (record { lower = λ k d lt. absurd (omega arith); order = λ k d lt. absurd (omega arith) })).order

-- and they are no more than the fates
on-count : (view : QueueView) (word : ℕ) (queued : Option ℕ) → length (queued_on view word queued).order ≤ length view.order + 1
on-count view word (Some queued) =
    let w : Waiting = record { word = word; queued = queued } in
    let n = prefix_len (is_queued_by queued) view.order in
    omega (arith, length-insert view.order n w (prefix_len-le-length (is_queued_by queued) view.order))
on-count view word None = omega arith

judged-count : (view : QueueView) (fate : Fate) → length (judged_on view fate).order ≤ length view.order + 1
judged-count view (Good cycle word) = on-count view word (queue_at view cycle word)
judged-count view (Fails cycle is_away) = omega arith
judged-count view Unknown = omega arith

all-count : (view : QueueView) (fates : List Fate) → length (judged_all view fates).order ≤ length view.order + length fates
all-count view [] = omega arith
all-count view (fate ∷ fates) = omega (arith, all-count (judged_on view fate) fates, judged-count view fate)

pub queue-count : (fates : List Fate) → length (judged_all empty fates).order ≤ length fates
queue-count fates = omega (arith, all-count empty fates)

-- ---- the serves

stamp-set : (stamps : List ℕ) (last place done bank : ℕ) → AreBy last stamps → done ≤ last → get_or (slice_set stamps place done) bank 0 ≤ last
stamp-set stamps last place done bank by lt =
    elim (cases_eq bank place) [
      | inl same ↦
          elim (cases_lt bank (length stamps)) [
            | inl within ↦ rw (← same, get_or-set_same stamps bank done 0 within) lt
            | inr past ↦ rw (← same, set_past stamps bank done past) (by bank)
          ]
      | inr apart ↦ rw (get_or-set_other stamps place bank done 0 apart) (by bank)
    ]

at-least-done : (view : BankStamps) (done : ℕ) (queue : List Waiting) → done ≤ done_all view done queue
at-least-done view done [] = omega arith
at-least-done view done (w ∷ queue) =
    omega (arith, at-least-done (served_on view w.queued w.word) (max (done_at view w.queued w.word) done) queue)

-- no stamp is later than the last done cycle
pub stamps-by : (last : ℕ) (view : BankStamps) (done : ℕ) (queue : List Waiting) → AreBy last view.stamps → done_all view done queue ≤ last → AreBy last (served_all view queue).stamps
stamps-by last view done [] by lt = by
stamps-by last view done (w ∷ queue) by lt =
    let at = done_at view w.queued w.word in
    let now = served_on view w.queued w.word in
    let most : at ≤ last = omega (arith, at-least-done now (max at done) queue) in
    stamps-by last now (max at done) queue (λ bank. stamp-set view.stamps last (w.word % view.banks) at bank by most) lt

-- each serve takes the bank time behind the ones before at the most
pub done-soon : (last : ℕ) (view : BankStamps) (done : ℕ) (queue : List Waiting) → AreBy (last + 1) view.stamps → AreQueuedBy last queue → done ≤ last + 1 → done_all view done queue ≤ last + 1 + length queue * view.bank_time
done-soon last view done [] by all lt = omega arith
done-soon last view done (w ∷ queue) by all lt =
    let at = done_at view w.queued w.word in
    let now = served_on view w.queued w.word in
    let first : w.queued ≤ last = All-head (IsQueuedBy last) w queue all in
    let stamp : get_or view.stamps (w.word % view.banks) 0 ≤ last + 1 = by (w.word % view.banks) in
    let most : at ≤ last + view.bank_time + 1 = omega arith in
    let rest : AreQueuedBy (last + view.bank_time) queue = λ k d within. (let each : (get_or queue k d).queued ≤ last = All-tail (IsQueuedBy last) w queue all k d within in omega arith) in
    let before : AreBy (last + view.bank_time + 1) view.stamps = λ bank. (let each : get_or view.stamps bank 0 ≤ last + 1 = by bank in omega arith) in
    let more = done-soon (last + view.bank_time) now (max at done) queue
    (λ bank. stamp-set view.stamps (last + view.bank_time + 1) (w.word % view.banks) at bank before most)
    rest (omega arith) in
    omega (arith, more)

-- one serve more of a queue
pub step-served : (view now : BankStamps) (queue : List Waiting) (i : ℕ) (d : Waiting) → i < length queue → now ≡ served_on view (get_or queue i d).queued (get_or queue i d).word
    → served_all now (drop (i + 1) queue) ≡ served_all view (drop i queue)
step-served view now queue i d within becomes =
    ap (λ (v : BankStamps). served_all v (drop (i + 1) queue)) becomes
    ∙ sym (at_drop_more (λ (q : List Waiting). served_all view q) queue i d within)

pub step-done : (view now : BankStamps) (done at next : ℕ) (queue : List Waiting) (i : ℕ) (d : Waiting) → i < length queue → now ≡ served_on view (get_or queue i d).queued (get_or queue i d).word
    → at ≡ done_at view (get_or queue i d).queued (get_or queue i d).word → next ≡ max at done → done_all now next (drop (i + 1) queue) ≡ done_all view done (drop i queue)
step-done view now done at next queue i d within becomes is greater =
    (λ k. done_all (becomes k) (greater k) (drop (i + 1) queue))
    ∙ ap (λ n. done_all (served_on view (get_or queue i d).queued (get_or queue i d).word) (max n done) (drop (i + 1) queue)) is
    ∙ sym (at_drop_more (λ (q : List Waiting). done_all view done q) queue i d within)
