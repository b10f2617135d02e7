-- Accesses whose words are known are queued, and in which order it goes on.
use Rattle.std.proofs.Common.{◌≡◌, ℕ, ◌+◌, ◌<◌, ◌≤◌, Bool, true, false, inl, inr, Some, List, [], ◌∷◌, ◌++◌, reverse, length, get_or, refl, sym, ap, ◌∙◌, subst, arith, append_assoc}
use Rattle.std.specs.Prelude.{nat_le, map, find, flat_map, All, option_map, slice_get}
use Rattle.std.specs.List.{list_any, AllPass}
use Rattle.std.proofs.lemmas.List.{append-nil, reverse-append, length_push}
use Rattle.std.proofs.lemmas.Bool.{cases_Bool, cond_both, leb-true}
use Rattle.std.proofs.lemmas.List.Elements.{All-head, All-tail, All-cons, All-append}
use Rattle.vx_episode.specs.Batches.{Fate, Judged, Waiting, is_to, queued_to, unless_failed, queue_cycle, fails_by, is_failing, failure_of, judged, is_queued, never_queued, lowest_failure, waiting_of, waiting_as, queue_of, served_in_turn, served_at, serve_cycle}
use Rattle.vx_episode.specs.Batches.Fate.{Good, Fails, Unknown}
use Rattle.vx_episode.specs.Cycles.{Cycle, later_of, latest}
use Rattle.vx_episode.specs.Cycles.Cycle.{At, Never}
use Rattle.vx_episode.specs.Footprint.{Access}
use Rattle.vx_episode.specs.History.{AccessTimes}
use Rattle.vx_episode.specs.Ordered.{placed, ordered}
use Rattle.vx_episode.specs.Organisation.{Organisation}
use Rattle.vx_serve.specs.Agreeing.{IsApart, AreApart, IsCutAt}
use Rattle.vx_serve.specs.InTurn.{IsInTurn, is_good, AreGood, failure_at}
use Rattle.vx_serve.specs.Serving.{served_of, failing_from}
use Rattle.vx_serve.proofs.Judged.{as_judged, queue-end}

-- ---- queue cycles

-- it doesn't come before another cycle
abbrev pub IsFrom : (known : ℕ) → Cycle → Type 0
IsFrom known (At cycle) = known ≤ cycle
IsFrom known Never = Unit {0}

later-from : (known : ℕ) (c : Cycle) → IsFrom known (later_of (At known) c)
later-from known (At c) = omega arith
later-from known Never = tt

unless-from : (known : ℕ) (js : List Judged) (c : Cycle) → IsFrom known c → IsFrom known (unless_failed js c)
unless-from known js Never from = tt
unless-from known js (At c) from =
    cond_both (list_any (λ (j : Judged). fails_by c j.fate) js) Never (At c) (IsFrom known) (λ _. tt) (λ _. from)

pub cycle-from : (js : List Judged) (known word : ℕ) → IsFrom known (queue_cycle js (Good known word))
cycle-from js known word =
    unless-from known js (latest (At known ∷ queued_to word js)) (later-from known (latest (queued_to word js)))

pub queued-from : (js : List Judged) (known word cycle : ℕ) → queue_cycle js (Good known word) ≡ At cycle → known ≤ cycle
queued-from js known word cycle is = subst (IsFrom known) is (cycle-from js known word)

-- ---- all are in turn

module _ (fate : Access → Fate) where
  -- a waiting access has the word that is known of it
  record IsWaiting (w : Waiting) : Type 0 where
    known : ℕ
    is_known : fate w.access ≡ Good known w.word
    queued : known ≤ w.queued

  waiting-good : (a : Access) (known word : ℕ) (c : Cycle) → fate a ≡ Good known word → IsFrom known c → All IsWaiting (waiting_as a (Good known word) c)
  waiting-good a known word Never is from = λ k d lt. absurd (omega arith)
  waiting-good a known word (At c) is from =
      let w : Waiting = record { access = a; word = word; queued = c } in
      let first : IsWaiting w = record { known = known; is_known = is; queued = from } in
      All-cons IsWaiting w [] first (λ k d lt. absurd (omega arith))

  one-waits : (js : List Judged) (a : Access) (f : Fate) → fate a ≡ f → All IsWaiting (waiting_as a f (queue_cycle js f))
  one-waits js a (Good known word) is = waiting-good a known word (queue_cycle js (Good known word)) is (cycle-from js known word)
  one-waits js a (Fails known is_away) is = λ k d lt. absurd (omega arith)
  one-waits js a Unknown is = λ k d lt. absurd (omega arith)

  all-wait : (js : List Judged) (accesses : List Access) → All IsWaiting (flat_map waiting_of (reverse js)) → All IsWaiting (flat_map waiting_of (reverse (judged fate js accesses)))
  all-wait js [] all = all
  all-wait js (a ∷ accesses) all =
      let j = as_judged a (fate a) (queue_cycle js (fate a)) in
      let none : All IsWaiting [] = λ k d lt. absurd (omega arith) in
      let here = All-append IsWaiting (waiting_of j) [] (one-waits js a (fate a) refl) none in
      let next = All-append IsWaiting (flat_map waiting_of (reverse js)) (waiting_of j ++ []) all here in
      all-wait (j ∷ js) accesses (subst (λ (ws : List Waiting). All IsWaiting ws) (sym (queue-end js j)) next)

all-placed : {A : Type 0} (P : A → Type 0) (number : A → ℕ) (x : A) (items : List A) → P x → All P items → All P (placed number x items)
all-placed P number x [] p all = All-cons P x [] p all
all-placed P number x (y ∷ items) p all =
    cond_both (nat_le (number x) (number y)) (x ∷ y ∷ items) (y ∷ placed number x items) (All P)
    (λ _. All-cons P x (y ∷ items) p all)
    (λ _. All-cons P y (placed number x items) (All-head P y items all) (all-placed P number x items p (All-tail P y items all)))

all-ordered : {A : Type 0} (P : A → Type 0) (number : A → ℕ) (items : List A) → All P items → All P (ordered number items)
all-ordered P number [] all = all
all-ordered P number (x ∷ items) all = all-placed P number x (ordered number items) (All-head P x items all) (all-ordered P number items (All-tail P x items all))

pub serve-behind : (machine : Organisation) (earlier : List AccessTimes) (word queued : ℕ) → queued < serve_cycle machine earlier word queued
serve-behind machine earlier word queued = omega arith

module _ (machine : Organisation) (earlier : List AccessTimes) (fate : Access → Fate) where
  all-in-turn : (now : List AccessTimes) (queue : List Waiting) → All (IsInTurn machine fate) now → All (IsWaiting fate) queue → All (IsInTurn machine fate) (served_in_turn machine earlier now queue)
  all-in-turn now [] done waiting = done
  all-in-turn now (w ∷ queue) done waiting =
      let t = served_at machine (serve_cycle machine (now ++ earlier) w.word w.queued) w in
      let first : IsWaiting fate w = All-head (IsWaiting fate) w queue waiting in
      let next : IsInTurn machine fate t = record {
        known = first.known;
        is_known = first.is_known;
        queued = first.queued;
        served = serve-behind machine (now ++ earlier) w.word w.queued;
        done = refl;
      } in
      all-in-turn (t ∷ now) queue (All-cons (IsInTurn machine fate) t now next done) (All-tail (IsWaiting fate) w queue waiting)

  pub batch-in-turn : (accesses : List Access) → All (IsInTurn machine fate) (served_of machine earlier fate accesses)
  batch-in-turn accesses =
      let none : All (IsInTurn machine fate) [] = λ k d lt. absurd (omega arith) in
      let nothing : All (IsWaiting fate) [] = λ k d lt. absurd (omega arith) in
      all-in-turn [] (queue_of (judged fate [] accesses)) none
      (all-ordered (IsWaiting fate) (λ (w : Waiting). w.queued) (flat_map waiting_of (reverse (judged fate [] accesses))) (all-wait fate [] accesses nothing))

-- ---- which are queued

-- all are known, and queued
abbrev AreQueued : List Judged → Type 0
AreQueued [] = Unit {0}
AreQueued (j ∷ js) = (is_good j.fate ≡ true) × (is_queued j.queued ≡ true) × AreQueued js

later-queued : (a b : Cycle) → is_queued a ≡ true → is_queued b ≡ true → is_queued (later_of a b) ≡ true
later-queued (At a) (At b) p q = refl
later-queued (At a) Never p q = q
later-queued Never b p q = p

latest-queued : (word : ℕ) (js : List Judged) → AreQueued js → is_queued (latest (queued_to word js)) ≡ true
latest-queued word [] are = refl
latest-queued word (j ∷ js) are =
    let rest = latest-queued word js are.2 in
    elim (cases_Bool (is_to word j.fate)) [
      | inl is ↦ rw is (later-queued j.queued (latest (queued_to word js)) are.1 rest)
      | inr other ↦ rw other rest
    ]

good-goes-on : (cycle : ℕ) (fate : Fate) → is_good fate ≡ true → fails_by cycle fate ≡ false
good-goes-on cycle (Good known word) good = refl
good-goes-on cycle (Fails known is_away) good = absurd (cc good)
good-goes-on cycle Unknown good = refl

none-fails : (cycle : ℕ) (js : List Judged) → AreQueued js → list_any (λ (j : Judged). fails_by cycle j.fate) js ≡ false
none-fails cycle [] are = refl
none-fails cycle (j ∷ js) are = rw (good-goes-on cycle j.fate are.0) (none-fails cycle js are.2)

unless-queued : (js : List Judged) (c : Cycle) → AreQueued js → is_queued c ≡ true → is_queued (unless_failed js c) ≡ true
unless-queued js (At c) are is = rw (none-fails c js are) refl
unless-queued js Never are is = is

good-queued : (js : List Judged) (fate : Fate) → AreQueued js → is_good fate ≡ true → is_queued (queue_cycle js fate) ≡ true
good-queued js (Good known word) are good =
    unless-queued js (latest (At known ∷ queued_to word js)) are (later-queued (At known) (latest (queued_to word js)) refl (latest-queued word js are))
good-queued js (Fails known is_away) are good = good
good-queued js Unknown are good = good

judged-queued : (fate : Access → Fate) (js : List Judged) (accesses : List Access) → AreGood fate accesses → AreQueued js → AreQueued (judged fate js accesses)
judged-queued fate js [] good are = are
judged-queued fate js (a ∷ accesses) good are =
    let P = λ (b : Access). is_good (fate b) ≡ true in
    let first : is_good (fate a) ≡ true = All-head P a accesses good in
    judged-queued fate (as_judged a (fate a) (queue_cycle js (fate a)) ∷ js) accesses (All-tail P a accesses good) (first, good-queued js (fate a) are first, are)

none-missing : (js : List Judged) → AreQueued js → never_queued false js ≡ []
none-missing [] are = refl
none-missing (j ∷ js) are = rw are.1 (none-missing js are.2)

pub all-queued : (fate : Access → Fate) (accesses : List Access) (is_trimmed : Bool) → AreGood fate accesses → never_queued is_trimmed (judged fate [] accesses) ≡ []
all-queued fate accesses true good = refl
all-queued fate accesses false good = none-missing (judged fate [] accesses) (judged-queued fate [] accesses good tt)

pass-queued : (js : List Judged) → AreQueued js → AllPass (λ (j : Judged). is_queued j.queued) js
pass-queued [] are = λ k d lt. absurd (omega arith)
pass-queued (j ∷ js) are = All-cons (λ (j : Judged). is_queued j.queued ≡ true) j js are.1 (pass-queued js are.2)

judged-append : (fate : Access → Fate) (js : List Judged) (below rest : List Access) → judged fate js (below ++ rest) ≡ judged fate (judged fate js below) rest
judged-append fate js [] rest = refl
judged-append fate js (a ∷ below) rest = judged-append fate (as_judged a (fate a) (queue_cycle js (fate a)) ∷ js) below rest

judged-onto : (fate : Access → Fate) (js : List Judged) (rest : List Access) → (above : List Judged) × (judged fate js rest ≡ above ++ js)
judged-onto fate js [] = ([], refl)
judged-onto fate js (a ∷ rest) =
    let j = as_judged a (fate a) (queue_cycle js (fate a)) in
    let more = judged-onto fate (j ∷ js) rest in
    (more.0 ++ j ∷ [], more.1 ∙ sym (append_assoc more.0 (j ∷ []) js))

pub below-queued : (fate : Access → Fate) (below rest : List Access) → AreGood fate below
    → (above : List Judged) × (judged fate [] (below ++ rest) ≡ above ++ judged fate [] below) × AllPass (λ (j : Judged). is_queued j.queued) (judged fate [] below)
below-queued fate below rest good =
    let more = judged-onto fate (judged fate [] below) rest in
    (more.0, judged-append fate [] below rest ∙ more.1, pass-queued (judged fate [] below) (judged-queued fate [] below good tt))

-- ---- the lowest that fails

-- the accesses of a batch as they are judged, the first of them first
forward : (Access → Fate) → List Judged → List Access → List Judged
forward fate js [] = []
forward fate js (a ∷ accesses) = as_judged a (fate a) (queue_cycle js (fate a)) ∷ forward fate (as_judged a (fate a) (queue_cycle js (fate a)) ∷ js) accesses

reverse-judged : (fate : Access → Fate) (js : List Judged) (accesses : List Access) → reverse (judged fate js accesses) ≡ reverse js ++ forward fate js accesses
unfolding forward
reverse-judged fate js [] = sym (append-nil (reverse js))
reverse-judged fate js (a ∷ accesses) =
    let j = as_judged a (fate a) (queue_cycle js (fate a)) in
    reverse-judged fate (j ∷ js) accesses
    ∙ ap (λ (ks : List Judged). ks ++ forward fate (j ∷ js) accesses) (reverse-append (j ∷ []) js)
    ∙ append_assoc (reverse js) (j ∷ []) (forward fate (j ∷ js) accesses)

abbrev fails : Judged → Bool
fails j = is_failing j.fate

get-behind : (before : List Access) (a : Access) (accesses : List Access) → slice_get (before ++ a ∷ accesses) (length before) ≡ Some a
get-behind [] a accesses = refl
get-behind (b ∷ before) a accesses = get-behind before a accesses

failure-found : (fate : Access → Fate) (js : List Judged) (before accesses : List Access)
    → option_map failure_of (find fails (forward fate js accesses)) ≡ failure_at (before ++ accesses) (failing_from (length before) (map fate accesses))
unfolding forward
failure-found fate js before [] = refl
failure-found fate js before (a ∷ accesses) =
    let j = as_judged a (fate a) (queue_cycle js (fate a)) in
    elim (cases_Bool (is_failing (fate a))) [
      | inl is ↦ let at = get-behind before a accesses in simp (is, at)
      | inr fine ↦
          let rest = failure-found fate (j ∷ js) (before ++ a ∷ []) accesses in
          let same : failure_at ((before ++ a ∷ []) ++ accesses) (failing_from (length (before ++ a ∷ [])) (map fate accesses)) ≡ failure_at (before ++ a ∷ accesses) (failing_from (length before + 1) (map fate accesses)) =
          λ i. failure_at (append_assoc before (a ∷ []) accesses i) (failing_from (length_push before a i) (map fate accesses)) in
          rw fine (rest ∙ same)
    ]

pub failure-is : (fate : Access → Fate) (accesses : List Access) → lowest_failure (judged fate [] accesses) ≡ failure_at accesses (failing_from 0 (map fate accesses))
failure-is fate accesses = ap (λ (ks : List Judged). option_map failure_of (find fails ks)) (reverse-judged fate [] accesses) ∙ failure-found fate [] [] accesses

-- ---- words that are known together

module _ (last : ℕ) where
  together-apart : (fate other : Fate) → ((c d w : ℕ) → fate ≡ Good c w → other ≡ Good d w → c ≡ d) → IsApart last fate other
  together-apart (Good c w) (Good d v) h = λ beyond by same. (let is = h c d w refl (ap (Good d) (sym same)) in omega arith)
  together-apart (Good c w) (Fails d is_away) h = tt
  together-apart (Good c w) Unknown h = tt
  together-apart (Fails c is_away) other h = tt
  together-apart Unknown other h = tt

  pub are-together : (fate : Access → Fate) (accesses : List Access) → ((a b : Access) (c d w : ℕ) → fate a ≡ Good c w → fate b ≡ Good d w → c ≡ d) → AreApart last fate accesses
  are-together fate [] h = tt
  are-together fate (a ∷ accesses) h =
      (λ k d lt. together-apart (fate a) (fate (get_or accesses k d)) (h a (get_or accesses k d)), are-together fate accesses h)

  cut-apart : (fate other : Fate) → IsCutAt last fate → IsApart last fate other
  cut-apart (Good c w) (Good d v) is = λ beyond by same. elim is [
    | inl known ↦ (let near = leb-true c last known in omega arith)
    | inr none ↦ cc none
  ]
  cut-apart (Good c w) (Fails d is_away) is = tt
  cut-apart (Good c w) Unknown is = tt
  cut-apart (Fails c is_away) other is = tt
  cut-apart Unknown other is = tt

  pub are-cut : (fate : Access → Fate) (accesses : List Access) → All (λ (a : Access). IsCutAt last (fate a)) accesses → AreApart last fate accesses
  are-cut fate [] all = tt
  are-cut fate (a ∷ accesses) all =
      let P = λ (b : Access). IsCutAt last (fate b) in
      let first : IsCutAt last (fate a) = All-head P a accesses all in
      (λ k d lt. cut-apart (fate a) (fate (get_or accesses k d)) first, are-cut fate accesses (All-tail P a accesses all))
