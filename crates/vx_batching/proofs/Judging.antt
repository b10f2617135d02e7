-- The accesses of a batch that starts at a cycle: those that are queued are so between it and the end of the look-ups. One that
-- fails is never queued.
use Rattle.std.proofs.Common.{◌≡◌, ℕ, max, Bool, true, false, List, [], ◌∷◌, ◌++◌, refl, sym, ap, ◌∙◌, arith}
use Rattle.std.specs.Prelude.{◌&&◌, not, nat_le, map, flat_map, filter, find, reverse, Option, Some, None, option_map, if◌then◌else◌}
use Rattle.std.specs.List.{list_all, list_any}
use Rattle.std.proofs.lemmas.Bool.{and_parts, and_from, false≢true, leb-true, le-leb}
use Rattle.vx_episode.specs.Batches.{Fate, Judged, Waiting, is_failing, fails_by, is_to, queued_to, unless_failed, queue_cycle, judged, waiting_as, waiting_of, queue_of, serve_cycle, served_at, served_in_turn, is_queued, failure_of, lowest_failure, never_queued}
use Rattle.vx_episode.specs.Batches.Fate.{Good, Fails, Unknown}
use Rattle.vx_episode.specs.Cycles.{Cycle, later_of, latest}
use Rattle.vx_episode.specs.Cycles.Cycle.{At, Never}
use Rattle.vx_episode.specs.Footprint.{Access}
use Rattle.vx_episode.specs.History.{AccessTimes, Failure}
use Rattle.vx_episode.specs.Ordered.{placed, ordered}
use Rattle.vx_episode.specs.Organisation.{Organisation}
use Rattle.vx_batching.proofs.Lists.{all-if, all-filter, all-map, all-flat_map, all-more, all-reverse}
use Rattle.vx_batching.proofs.Times.{is_from, from-first}
use Rattle.vx_batching.proofs.Walking.{is_known}

-- ---- queue cycles

-- it comes by a cycle, or never
abbrev pub is_not_behind : (last : ℕ) → Cycle → Bool
is_not_behind last (At cycle) = nat_le cycle last
is_not_behind last Never = true

abbrev pub is_within : (first last : ℕ) → Cycle → Bool
is_within first last c = is_from first c && is_not_behind last c

not-behind-both : (last : ℕ) (a b : Cycle) → is_not_behind last a ≡ true → is_not_behind last b ≡ true → is_not_behind last (later_of a b) ≡ true
not-behind-both last (At a) (At b) h k = let x = leb-true a last h in let y = leb-true b last k in le-leb (max a b) last (omega arith)
not-behind-both last (At a) Never h k = refl
not-behind-both last Never b h k = refl

not-behind-all : (last : ℕ) (cycles : List Cycle) → list_all (is_not_behind last) cycles ≡ true → is_not_behind last (latest cycles) ≡ true
not-behind-all last [] h = le-leb 0 last (omega arith)
not-behind-all last (c ∷ cycles) h =
    let parts = and_parts (is_not_behind last c) (list_all (is_not_behind last) cycles) h in
    not-behind-both last c (latest cycles) parts.0 (not-behind-all last cycles parts.1)

within-if : (first last : ℕ) (b : Bool) (c : Cycle) → is_within first last c ≡ true → is_within first last (if b then Never else c) ≡ true
within-if first last true c h = refl
within-if first last false c h = h

within-unless : (first last : ℕ) (lower : List Judged) (c : Cycle) → is_within first last c ≡ true → is_within first last (unless_failed lower c) ≡ true
within-unless first last lower (At c) h = within-if first last (list_any (λ (j : Judged). fails_by c j.fate) lower) (At c) h
within-unless first last lower Never h = refl

abbrev pub is_judged : (first last : ℕ) → Judged → Bool
is_judged first last j = is_within first last j.queued && is_known first last j.fate && not (is_failing j.fate && is_queued j.queued)

judged-not-behind : (first last : ℕ) (j : Judged) → is_judged first last j ≡ true → is_not_behind last j.queued ≡ true
judged-not-behind first last j h =
    let parts = and_parts (is_within first last j.queued && is_known first last j.fate) (not (is_failing j.fate && is_queued j.queued)) h in
    let queued = and_parts (is_within first last j.queued) (is_known first last j.fate) parts.0 in
    (and_parts (is_from first j.queued) (is_not_behind last j.queued) queued.0).1

judged-within : (first last : ℕ) (j : Judged) → is_judged first last j ≡ true → is_within first last j.queued ≡ true
judged-within first last j h =
    let parts = and_parts (is_within first last j.queued && is_known first last j.fate) (not (is_failing j.fate && is_queued j.queued)) h in
    (and_parts (is_within first last j.queued) (is_known first last j.fate) parts.0).0

lower-not-behind : (first last word : ℕ) (lower : List Judged) → list_all (is_judged first last) lower ≡ true → list_all (is_not_behind last) (queued_to word lower) ≡ true
lower-not-behind first last word lower h =
    let to : List Judged = filter (λ (j : Judged). is_to word j.fate) lower in
    all-map (is_not_behind last) (λ (j : Judged). j.queued) to
    (all-more (is_judged first last) (λ (j : Judged). is_not_behind last j.queued) (judged-not-behind first last) to (all-filter (is_judged first last) (λ (j : Judged). is_to word j.fate) lower h))

-- of an access whose word is known, behind lower ones
queue-good : (first last cycle word : ℕ) (lower : List Judged) → list_all (is_judged first last) lower ≡ true → (nat_le first cycle && nat_le cycle last) ≡ true → is_within first last (queue_cycle lower (Good cycle word)) ≡ true
queue-good first last cycle word lower h k =
    let parts = and_parts (nat_le first cycle) (nat_le cycle last) k in
    let c : Cycle = latest (At cycle ∷ queued_to word lower) in
    within-unless first last lower c
    (and_from (is_from first c) (is_not_behind last c) (from-first first (At cycle) (latest (queued_to word lower)) parts.0)
    (not-behind-both last (At cycle) (latest (queued_to word lower)) parts.1 (not-behind-all last (queued_to word lower) (lower-not-behind first last word lower h))))

judged-one : (first last : ℕ) (a : Access) (fate : Fate) (lower : List Judged) → list_all (is_judged first last) lower ≡ true → is_known first last fate ≡ true → is_judged first last (record { access = a; fate = fate; queued = queue_cycle lower fate }) ≡ true
judged-one first last a (Good cycle word) lower h k =
    let queued : Cycle = queue_cycle lower (Good cycle word) in
    and_from (is_within first last queued && (nat_le first cycle && nat_le cycle last)) true
    (and_from (is_within first last queued) (nat_le first cycle && nat_le cycle last) (queue-good first last cycle word lower h k) k) refl
judged-one first last a (Fails cycle is_away) lower h k = refl
judged-one first last a Unknown lower h k = refl

pub all-judged : (first last : ℕ) (fate : Access → Fate) → ((a : Access) → is_known first last (fate a) ≡ true) → (accesses : List Access) (lower : List Judged) → list_all (is_judged first last) lower ≡ true → list_all (is_judged first last) (judged fate lower accesses) ≡ true
all-judged first last fate known [] lower h = h
all-judged first last fate known (a ∷ accesses) lower h =
    let j : Judged = record { access = a; fate = fate a; queued = queue_cycle lower (fate a) } in
    all-judged first last fate known accesses (j ∷ lower) (and_from (is_judged first last j) (list_all (is_judged first last) lower) (judged-one first last a (fate a) lower h (known a)) h)

-- ---- the queue and the serves

abbrev is_waiting : (first last : ℕ) → Waiting → Bool
is_waiting first last w = nat_le first w.queued && nat_le w.queued last

waiting-one : (first last : ℕ) (a : Access) (fate : Fate) (queued : Cycle) → is_within first last queued ≡ true → list_all (is_waiting first last) (waiting_as a fate queued) ≡ true
waiting-one first last a (Good cycle word) (At queued) h = and_from (nat_le first queued && nat_le queued last) true h refl
waiting-one first last a (Good cycle word) Never h = refl
waiting-one first last a (Fails cycle is_away) queued h = refl
waiting-one first last a Unknown queued h = refl

all-placed : {A : Type 0} (p : A → Bool) (number : A → ℕ) (a : A) (items : List A) → p a ≡ true → list_all p items ≡ true → list_all p (placed number a items) ≡ true
all-placed p number a [] h k = and_from (p a) true h refl
all-placed p number a (b ∷ items) h k =
    let parts = and_parts (p b) (list_all p items) k in
    all-if p (nat_le (number a) (number b)) (a ∷ b ∷ items) (b ∷ placed number a items)
    (and_from (p a) (list_all p (b ∷ items)) h k)
    (and_from (p b) (list_all p (placed number a items)) parts.0 (all-placed p number a items h parts.1))

all-ordered : {A : Type 0} (p : A → Bool) (number : A → ℕ) (items : List A) → list_all p items ≡ true → list_all p (ordered number items) ≡ true
all-ordered p number [] h = refl
all-ordered p number (a ∷ items) h =
    let parts = and_parts (p a) (list_all p items) h in
    all-placed p number a (ordered number items) parts.0 (all-ordered p number items parts.1)

all-waiting : (first last : ℕ) (js : List Judged) → list_all (is_judged first last) js ≡ true → list_all (is_waiting first last) (queue_of js) ≡ true
all-waiting first last js h =
    let turned : List Judged = reverse js in
    all-ordered (is_waiting first last) (λ (w : Waiting). w.queued) (flat_map waiting_of turned)
    (all-flat_map (is_waiting first last) waiting_of turned
    (all-more (is_judged first last) (λ (j : Judged). list_all (is_waiting first last) (waiting_of j)) (λ j g. waiting-one first last j.access j.fate j.queued (judged-within first last j g)) turned
    (all-reverse (is_judged first last) js h)))

-- an access that was queued between two cycles
abbrev pub is_queued_between : (first last : ℕ) → AccessTimes → Bool
is_queued_between first last a = nat_le first a.queued && nat_le a.queued last

all-served : (first last : ℕ) (machine : Organisation) (earlier now : List AccessTimes) (queue : List Waiting) → list_all (is_waiting first last) queue ≡ true → list_all (is_queued_between first last) now ≡ true
    → list_all (is_queued_between first last) (served_in_turn machine earlier now queue) ≡ true
all-served first last machine earlier now [] h k = k
all-served first last machine earlier now (w ∷ queue) h k =
    let parts = and_parts (is_waiting first last w) (list_all (is_waiting first last) queue) h in
    let a : AccessTimes = served_at machine (serve_cycle machine (now ++ earlier) w.word w.queued) w in
    all-served first last machine earlier (a ∷ now) queue parts.1 (and_from (is_waiting first last w) (list_all (is_queued_between first last) now) parts.0 k)

pub all-queued : (first last : ℕ) (machine : Organisation) (earlier : List AccessTimes) (js : List Judged) → list_all (is_judged first last) js ≡ true → list_all (is_queued_between first last) (served_in_turn machine earlier [] (queue_of js)) ≡ true
all-queued first last machine earlier js h = all-served first last machine earlier [] (queue_of js) (all-waiting first last js h) refl

-- ---- a failure

-- where each was queued, none fails
not-failing : (failing queued : Bool) → not (failing && queued) ≡ true → queued ≡ true → failing ≡ false
not-failing true queued h k = absurd (false≢true (sym (ap not k) ∙ h))
not-failing false queued h k = refl

kept-one : (b : Bool) {A : Type 0} (x : A) (xs : List A) → (if not b then x ∷ xs else xs) ≡ [] → (b ≡ true) × (xs ≡ [])
kept-one true x xs e = (refl, e)
kept-one false x xs e = absurd (cc)

found-none : {A : Type 0} (p : A → Bool) (xs : List A) → list_all (λ x. not (p x)) xs ≡ true → find p xs ≡ None
found-none p [] h = refl
found-none p (x ∷ xs) h =
    let parts = and_parts (not (p x)) (list_all (λ x. not (p x)) xs) h in
    skip (p x) x (find p xs) parts.0 (found-none p xs parts.1)
  where
    skip : {A : Type 0} (b : Bool) (x : A) (rest : Option A) → not b ≡ true → rest ≡ None → (if b then Some x else rest) ≡ None
    skip true x rest h e = absurd (false≢true h)
    skip false x rest h e = e

none-failing : (first last : ℕ) (js : List Judged) → list_all (is_judged first last) js ≡ true → filter (λ (j : Judged). not (is_queued j.queued)) js ≡ [] → list_all (λ (j : Judged). not (is_failing j.fate)) js ≡ true
none-failing first last [] h e = refl
none-failing first last (j ∷ js) h e =
    let parts = and_parts (is_judged first last j) (list_all (is_judged first last) js) h in
    let here = and_parts (is_within first last j.queued && is_known first last j.fate) (not (is_failing j.fate && is_queued j.queued)) parts.0 in
    let kept = kept-one (is_queued j.queued) j (filter (λ (j : Judged). not (is_queued j.queued)) js) e in
    and_from (not (is_failing j.fate)) (list_all (λ (j : Judged). not (is_failing j.fate)) js) (ap not (not-failing (is_failing j.fate) (is_queued j.queued) here.1 kept.0)) (none-failing first last js parts.1 kept.1)

none-mapped : {A B : Type 0} (f : A → B) (xs : List A) → map f xs ≡ [] → xs ≡ []
none-mapped f [] e = refl
none-mapped f (x ∷ xs) e = absurd (cc)

pub failure-missing : (first last : ℕ) (js : List Judged) (failing : Failure) → list_all (is_judged first last) js ≡ true → lowest_failure js ≡ Some failing → never_queued false js ≡ [] → false ≡ true
failure-missing first last js failing h e none =
    let lacks : filter (λ (j : Judged). not (is_queued j.queued)) js ≡ [] = none-mapped (λ (j : Judged). j.access) (filter (λ (j : Judged). not (is_queued j.queued)) js) none in
    let clean : list_all (λ (j : Judged). not (is_failing j.fate)) (reverse js) ≡ true = all-reverse (λ (j : Judged). not (is_failing j.fate)) js (none-failing first last js h lacks) in
    let found : lowest_failure js ≡ None = ap (option_map failure_of) (found-none (λ (j : Judged). is_failing j.fate) (reverse js) clean) in
    absurd (cc)
