-- A batch's queue in numbers against that of the equations.
use Rattle.std.proofs.Common.{◌≡◌, ℕ, suc, ◌+◌, Bool, true, false, cond, max, Option, Some, None, inl, inr, List, [], ◌∷◌, ◌++◌, reverse, length, refl, sym, ap, ◌∙◌, subst, arith, append_assoc}
use Rattle.std.proofs.lemmas.List.{map-append, reverse-append, append-nil, length_push}
use Rattle.std.specs.Prelude.{◌==◌, ◌||◌, nat_le, map, flat_map}
use Rattle.std.specs.List.{list_any}
use Rattle.std.proofs.lemmas.Grind.{flat_map-append}
use Rattle.std.proofs.lemmas.Bool.{cases_Bool}
use Rattle.std.proofs.Math.Bool.{or-false}
use Rattle.std.proofs.lemmas.Bool.Decides.{nat_tests}
use Rattle.vx_episode.specs.Batches.{Fate, Judged, Waiting as Queued, queued_to, unless_failed, queue_cycle, fails_by, is_failing, fails_away, judged, waiting_of, queue_of, never_queued}
use Rattle.vx_episode.specs.Batches.Fate.{Good, Fails, Unknown}
use Rattle.vx_episode.specs.Cycles.{Cycle, later_of, latest}
use Rattle.vx_episode.specs.Cycles.Cycle.{At, Never}
use Rattle.vx_episode.specs.Footprint.{Access}
use Rattle.vx_episode.specs.Ordered.{ordered}
use Rattle.vx_serve.specs.Fates.{told}
use Rattle.vx_serve.specs.Queue.{QueueView, later_known, latest_with, latest_of, sooner, is_failed, unless_failed_by, queue_at, placed_behind, first_failing, queued_on, judged_on, judged_all}
use Rattle.vx_serve.specs.Serving.{failing_from}
use Rattle.vx_serve.specs.declared.fate.Fate.{Fate as Known}
use Rattle.vx_serve.specs.declared.fate.Fate.TheVariants as known
use Rattle.vx_serve.specs.declared.queue.Lower.{Lower}
use Rattle.vx_serve.specs.declared.queue.Waiting.{Waiting}
use Rattle.vx_serve.specs.declared.served.Failing.{Failing}
use Rattle.vx_serve.proofs.Places.{behind, ordered-behind, insert-behind, map-behind}

abbrev cycle_of : Option ℕ → Cycle
cycle_of (Some cycle) = At cycle
cycle_of None = Never

-- an access that waits, without the access
abbrev pub plain : Queued → Waiting
plain w = record { word = w.word; queued = w.queued }

abbrev fates_of : List Judged → List Fate
fates_of js = map (λ (j : Judged). j.fate) (reverse js)

-- a queue in numbers is that of these accesses, the last first
pub record IsQueueOf (view : QueueView) (js : List Judged) : Type 0 where
  pub words : (word cycle : ℕ) → latest (At cycle ∷ queued_to word js) ≡ cycle_of (latest_of word (Some cycle) view.lower)
  pub failed : (cycle : ℕ) → list_any (λ (j : Judged). fails_by cycle j.fate) js ≡ is_failed view.failed cycle
  pub order : map plain (queue_of js) ≡ view.order
  pub count : length (fates_of js) ≡ view.count
  pub missing : length (never_queued false js) ≡ view.missing
  pub failing : failing_from 0 (fates_of js) ≡ view.failing

-- ---- queue cycles

latest-end : (word : ℕ) (latest : Option ℕ) (lower : List Lower) (l : Lower) → latest_of word latest (lower ++ l ∷ []) ≡ latest_with word (latest_of word latest lower) l
latest-end word latest [] l = refl
latest-end word latest (k ∷ lower) l = latest-end word (latest_with word latest k) lower l

cycle-later : (a b : Option ℕ) → cycle_of (later_known a b) ≡ later_of (cycle_of a) (cycle_of b)
cycle-later (Some a) (Some b) = refl
cycle-later (Some a) None = refl
cycle-later None b = refl

max-turns : (a b c : ℕ) → max a (max b c) ≡ max (max a c) b
max-turns a b c = omega arith

later-turns : (a b c : Cycle) → later_of a (later_of b c) ≡ later_of (later_of a c) b
later-turns (At a) (At b) (At c) = ap At (max-turns a b c)
later-turns (At a) (At b) Never = refl
later-turns (At a) Never (At c) = refl
later-turns (At a) Never Never = refl
later-turns Never b c = refl

unless-cycle : (js : List Judged) (failed queued : Option ℕ) → ((cycle : ℕ) → list_any (λ (j : Judged). fails_by cycle j.fate) js ≡ is_failed failed cycle)
    → unless_failed js (cycle_of queued) ≡ cycle_of (unless_failed_by failed queued)
unless-cycle js failed None same = refl
unless-cycle js failed (Some cycle) same =
    elim (cases_Bool (is_failed failed cycle)) [
      | inl is ↦ rw (same cycle, is) refl
      | inr fails ↦ rw (same cycle, fails) refl
    ]

-- the queue cycle of an access whose word is known
pub queue-cycle : (view : QueueView) (js : List Judged) (cycle word : ℕ) → IsQueueOf view js → queue_cycle js (Good cycle word) ≡ cycle_of (queue_at view cycle word)
queue-cycle view js cycle word is =
    ap (unless_failed js) (is.words word cycle) ∙ unless-cycle js view.failed (latest_of word (Some cycle) view.lower) is.failed

-- ---- one access more

abbrev pub as_judged : Access → Fate → Cycle → Judged
as_judged a fate queued = record { access = a; fate = fate; queued = queued }

words-more : (js : List Judged) (lower : List Lower) (a : Access) (known word : ℕ) (queued : Option ℕ)
    → ((w cycle : ℕ) → latest (At cycle ∷ queued_to w js) ≡ cycle_of (latest_of w (Some cycle) lower))
    → (w cycle : ℕ) → latest (At cycle ∷ queued_to w (as_judged a (Good known word) (cycle_of queued) ∷ js)) ≡ cycle_of (latest_of w (Some cycle) (lower ++ record { word = word; queued = queued } ∷ []))
words-more js lower a known word queued same w cycle =
    let before = latest_of w (Some cycle) lower in
    let l : Lower = record { word = word; queued = queued } in
    elim (cases_Bool (word == w)) [
      | inl is ↦ rw (is, latest-end w (Some cycle) lower l, is)
          (later-turns (At cycle) (cycle_of queued) (latest (queued_to w js)) ∙ ap (λ x. later_of x (cycle_of queued)) (same w cycle) ∙ sym (cycle-later before queued))
      | inr other ↦ rw (other, latest-end w (Some cycle) lower l, other) (same w cycle)
    ]

fates-end : (js : List Judged) (j : Judged) → fates_of (j ∷ js) ≡ fates_of js ++ j.fate ∷ []
fates-end js j = ap (map (λ (j : Judged). j.fate)) (reverse-append (j ∷ []) js) ∙ map-append (λ (j : Judged). j.fate) (reverse js) (j ∷ [])

count-more : (js : List Judged) (j : Judged) (count : ℕ) → length (fates_of js) ≡ count → length (fates_of (j ∷ js)) ≡ count + 1
count-more js j count is = ap length (fates-end js j) ∙ length_push (fates_of js) j.fate ∙ ap (λ n. n + 1) is

failing-good : (number : ℕ) (fates : List Fate) (fate : Fate) → is_failing fate ≡ false → failing_from number (fates ++ fate ∷ []) ≡ failing_from number fates
failing-good number [] fate fine = rw fine refl
failing-good number (f ∷ fates) fate fine =
    λ i. cond (is_failing f) (Some (record { number = number; is_away = fails_away f })) (failing-good (number + 1) fates fate fine i)

failing-bad : (number : ℕ) (fates : List Fate) (fate : Fate) → is_failing fate ≡ true
    → failing_from number (fates ++ fate ∷ []) ≡ Some (first_failing (failing_from number fates) (record { number = number + length fates; is_away = fails_away fate }))
failing-bad number [] fate bad =
    let at : number ≡ number + 0 = omega arith in
    rw bad (ap (λ n. (let f : Failing = record { number = n; is_away = fails_away fate } in Some f)) at)
failing-bad number (f ∷ fates) fate bad =
    elim (cases_Bool (is_failing f)) [
      | inl is ↦ simp is
      | inr other ↦
          let at : number + 1 + length fates ≡ number + suc (length fates) = omega arith in
          simp other (failing-bad (number + 1) fates fate bad ∙ ap (λ n. Some (first_failing (failing_from (number + 1) fates) (record { number = n; is_away = fails_away fate }))) at)
    ]

failing-same : (js : List Judged) (j : Judged) → is_failing j.fate ≡ false → failing_from 0 (fates_of (j ∷ js)) ≡ failing_from 0 (fates_of js)
failing-same js j fine = ap (failing_from 0) (fates-end js j) ∙ failing-good 0 (fates_of js) j.fate fine

zero-plus : (n : ℕ) → 0 + n ≡ n
zero-plus n = omega arith

failing-more : (js : List Judged) (j : Judged) (count : ℕ) (failing : Option Failing) → is_failing j.fate ≡ true → length (fates_of js) ≡ count → failing_from 0 (fates_of js) ≡ failing
    → failing_from 0 (fates_of (j ∷ js)) ≡ Some (first_failing failing (record { number = count; is_away = fails_away j.fate }))
failing-more js j count failing bad is before =
    ap (failing_from 0) (fates-end js j) ∙ failing-bad 0 (fates_of js) j.fate bad
    ∙ (λ i. Some (first_failing (before i) (record { number = (zero-plus (length (fates_of js)) ∙ is) i; is_away = fails_away j.fate })))

pub queue-end : (js : List Judged) (j : Judged) → flat_map waiting_of (reverse (j ∷ js)) ≡ flat_map waiting_of (reverse js) ++ (waiting_of j ++ [])
queue-end js j = ap (flat_map waiting_of) (reverse-append (j ∷ []) js) ∙ flat_map-append waiting_of (reverse js) (j ∷ [])

abbrev number_of : Queued → ℕ
number_of w = w.queued

queue-same : (js : List Judged) (j : Judged) → waiting_of j ≡ [] → queue_of (j ∷ js) ≡ queue_of js
queue-same js j none =
    ap (ordered number_of) (queue-end js j ∙ ap (λ (ws : List Queued). flat_map waiting_of (reverse js) ++ (ws ++ [])) none ∙ append-nil (flat_map waiting_of (reverse js)))

queue-more : (js : List Judged) (order : List Waiting) (j : Judged) (w : Queued) → waiting_of j ≡ w ∷ [] → map plain (queue_of js) ≡ order → map plain (queue_of (j ∷ js)) ≡ placed_behind (plain w) order
queue-more js order j w one is =
    ap (λ (ws : List Queued). map plain (ordered number_of ws)) (queue-end js j ∙ ap (λ (ws : List Queued). flat_map waiting_of (reverse js) ++ (ws ++ [])) one)
    ∙ ap (map plain) (ordered-behind number_of (flat_map waiting_of (reverse js)) w)
    ∙ map-behind number_of (λ (x : Waiting). x.queued) plain (λ _. refl) w (queue_of js)
    ∙ ap (behind (λ (x : Waiting). x.queued) (plain w)) is
    ∙ sym (insert-behind (λ (x : Waiting). x.queued) (plain w) order)

good-more : (view : QueueView) (js : List Judged) (a : Access) (cycle word : ℕ) (queued : Option ℕ) → IsQueueOf view js
    → IsQueueOf (queued_on view word queued) (as_judged a (Good cycle word) (cycle_of queued) ∷ js)
good-more view js a cycle word (Some queued) is =
    let j = as_judged a (Good cycle word) (At queued) in
    let w : Queued = record { access = a; word = word; queued = queued } in
    record {
      words = words-more js view.lower a cycle word (Some queued) is.words;
      failed = is.failed;
      order = queue-more js view.order j w refl is.order;
      count = count-more js j view.count is.count;
      missing = is.missing;
      failing = failing-same js j refl ∙ is.failing;
    }
good-more view js a cycle word None is =
    let j = as_judged a (Good cycle word) Never in
    record {
      words = words-more js view.lower a cycle word None is.words;
      failed = is.failed;
      order = ap (map plain) (queue-same js j refl) ∙ is.order;
      count = count-more js j view.count is.count;
      missing = omega (arith, is.missing);
      failing = failing-same js j refl ∙ is.failing;
    }

or-sooner : (failed : Option ℕ) (known cycle : ℕ) → (nat_le known cycle || is_failed failed cycle) ≡ is_failed (Some (sooner failed known)) cycle
or-sooner (Some failed) known cycle = grind (arith, nat_tests)
or-sooner None known cycle = or-false (nat_le known cycle)

fails-more : (view : QueueView) (js : List Judged) (a : Access) (cycle : ℕ) (is_away : Bool) → IsQueueOf view js
    → IsQueueOf (judged_on view (known.Fails cycle is_away)) (as_judged a (Fails cycle is_away) Never ∷ js)
fails-more view js a cycle is_away is =
    let j = as_judged a (Fails cycle is_away) Never in
    record {
      words = is.words;
      failed = λ by. ap (λ t. nat_le cycle by || t) (is.failed by) ∙ or-sooner view.failed cycle by;
      order = ap (map plain) (queue-same js j refl) ∙ is.order;
      count = count-more js j view.count is.count;
      missing = omega (arith, is.missing);
      failing = failing-more js j view.count view.failing refl is.count is.failing;
    }

unknown-more : (view : QueueView) (js : List Judged) (a : Access) → IsQueueOf view js → IsQueueOf (judged_on view known.Unknown) (as_judged a Unknown Never ∷ js)
unknown-more view js a is =
    let j = as_judged a Unknown Never in
    record {
      words = is.words;
      failed = is.failed;
      order = ap (map plain) (queue-same js j refl) ∙ is.order;
      count = count-more js j view.count is.count;
      missing = omega (arith, is.missing);
      failing = failing-same js j refl ∙ is.failing;
    }

judged-more : (view : QueueView) (js : List Judged) (a : Access) (fate : Known) → IsQueueOf view js
    → IsQueueOf (judged_on view fate) (as_judged a (told fate) (queue_cycle js (told fate)) ∷ js)
judged-more view js a (known.Good cycle word) is =
    subst (λ queued. IsQueueOf (queued_on view word (queue_at view cycle word)) (as_judged a (Good cycle word) queued ∷ js))
    (sym (queue-cycle view js cycle word is))
    (good-more view js a cycle word (queue_at view cycle word) is)
judged-more view js a (known.Fails cycle is_away) is = fails-more view js a cycle is_away is
judged-more view js a known.Unknown is = unknown-more view js a is

-- ---- a batch

head-same : {A : Type 0} (x y : A) (xs ys : List A) → x ∷ xs ≡ y ∷ ys → x ≡ y
head-same x y xs ys e = cc

tail-same : {A : Type 0} (x y : A) (xs ys : List A) → x ∷ xs ≡ y ∷ ys → xs ≡ ys
tail-same x y xs ys e = cc

pub judged-all : (view : QueueView) (js : List Judged) (fate : Access → Fate) (accesses : List Access) (fates : List Known) → map fate accesses ≡ map told fates → IsQueueOf view js
    → IsQueueOf (judged_all view fates) (judged fate js accesses)
judged-all view js fate [] [] same is = is
judged-all view js fate [] (f ∷ fates) same is = absurd (cc same)
judged-all view js fate (a ∷ accesses) [] same is = absurd (cc same)
judged-all view js fate (a ∷ accesses) (f ∷ fates) same is =
    let first = head-same (fate a) (told f) (map fate accesses) (map told fates) same in
    let next = subst (λ x. IsQueueOf (judged_on view f) (as_judged a x (queue_cycle js x) ∷ js)) (sym first) (judged-more view js a f is) in
    judged-all (judged_on view f) (as_judged a (fate a) (queue_cycle js (fate a)) ∷ js) fate accesses fates
    (tail-same (fate a) (told f) (map fate accesses) (map told fates) same) next

pub judged-fates : (js : List Judged) (fate : Access → Fate) (accesses : List Access) → fates_of (judged fate js accesses) ≡ fates_of js ++ map fate accesses
judged-fates js fate [] = sym (append-nil (fates_of js))
judged-fates js fate (a ∷ accesses) =
    let j = as_judged a (fate a) (queue_cycle js (fate a)) in
    judged-fates (j ∷ js) fate accesses ∙ ap (λ (fates : List Fate). fates ++ map fate accesses) (fates-end js j) ∙ append_assoc (fates_of js) (fate a ∷ []) (map fate accesses)
