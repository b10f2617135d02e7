-- What the flat machine makes of the accesses of elements: where none fails in time, none fails there.
use Rattle.std.proofs.Common.{◌≡◌, ℕ, zero, suc, ◌+◌, ◌-◌, ◌<◌, ◌≤◌, Bool, true, false, List, [], ◌∷◌, ◌++◌, map, refl, sym, ap, subst, ◌∙◌, arith}
use Rattle.std.specs.Prelude.{Option, Some, None, ◌&&◌, nat_eq, nat_lt, slice_get, option_map, if◌then◌else◌}
use Rattle.std.specs.List.{list_all, flat_map, range_with_len}
use Rattle.std.proofs.lemmas.Bool.{eq-eqb, eqb-true, leb-true}
use Rattle.std.proofs.lemmas.Grind.{flat_map-append}
use Rattle.std.proofs.lemmas.List.{append-nil}
use Rattle.std.proofs.lemmas.Option.{none-some}
use Rattle.vx_flat.specs.Checks.{cause_of}
use Rattle.vx_flat.specs.Outcome.{faulted}
use Rattle.vx_flat.specs.Outcome.Outcome.{Next, Faulted}
use Rattle.vx_flat.specs.State.{Flat}
use Rattle.vx_flat.specs.Transfers.{Direction, Failure, Transfer, failure_of, failure_or, first_failure, is_fault_only_first, transferred, transferred_by, want_of}
use Rattle.vx_flat.specs.Transfers.Direction.{Loading, Storing}
use Rattle.vx_base.specs.declared.machine.Fault.{Fault}
use Rattle.vx_base.specs.declared.machine.Want.{Want}
use Rattle.vx_image.specs.Pages.{Memory}
use Rattle.vx_vector.specs.Accesses.{Access, Movement, access_list, access_of, accesses_between, accesses_of_element, fields_of, movement_count, takes_part}
use Rattle.vx_episode.specs.Batches.{Fate, is_failing, fails_away}
use Rattle.vx_episode.specs.Batches.Fate.{Good, Fails, Unknown}
use Rattle.vx_episode.specs.Footprint.{Access as Timed, moved_access}
use Rattle.vx_episode.specs.History.{Failure as TimedFailure}
use Rattle.vx_serve.specs.InTurn.{failure_at, is_good}
use Rattle.vx_serve.specs.Serving.{failing_from}
use Rattle.vx_serve.specs.declared.served.Failing.{Failing}
use Rattle.vx_pipe.proofs.AccessFates.{Agrees}

-- ---- one element more

range-next : (a n : ℕ) → range_with_len a (n + 1) ≡ range_with_len a n ++ (a + n) ∷ []
range-next a zero = let first : a ≡ a + 0 = omega arith in ap (λ (b : ℕ). b ∷ []) first
range-next a (suc n) =
    let more : suc n + 1 ≡ suc (n + 1) = omega arith in
    let last : (a + 1) + n ≡ a + suc n = omega arith in
    ap (range_with_len a) more ∙ ap (λ (xs : List ℕ). a ∷ xs) (range-next (a + 1) n ∙ ap (λ (b : ℕ). range_with_len (a + 1) n ++ b ∷ []) last)

pub between-next : (m : Movement) (k : ℕ) → accesses_between m 0 (k + 1) ≡ accesses_between m 0 k ++ accesses_of_element m k
between-next m k =
    let count : k + 1 - 0 ≡ k + 1 = omega arith in
    let less : k ≡ k - 0 = omega arith in
    let last : 0 + k ≡ k = omega arith in
    ap (λ (n : ℕ). flat_map (accesses_of_element m) (range_with_len 0 n)) count
    ∙ ap (flat_map (accesses_of_element m)) (range-next 0 k)
    ∙ flat_map-append (accesses_of_element m) (range_with_len 0 k) ((0 + k) ∷ [])
    ∙ ap (λ (n : ℕ). flat_map (accesses_of_element m) (range_with_len 0 k) ++ flat_map (accesses_of_element m) (n ∷ [])) last
    ∙ ap (λ (xs : List Access). flat_map (accesses_of_element m) (range_with_len 0 k) ++ xs) (append-nil (accesses_of_element m k))
    ∙ ap (λ (n : ℕ). flat_map (accesses_of_element m) (range_with_len 0 n) ++ accesses_of_element m k) less

none-first : (a b c : Bool) → (a ≡ true → ⊥) → (a && b && c) ≡ false
none-first true b c h = absurd (h refl)
none-first false b c h = refl

before-start : (m : Movement) (i : ℕ) → i < m.at.vstart → accesses_of_element m i ≡ []
before-start m i h =
    let none : takes_part m i ≡ false =
    none-first _ _ _ (λ t. let low = leb-true m.at.vstart i t in absurd (omega arith)) in
    ap (λ (b : Bool). if b then map (access_of m i) (range_with_len 0 (fields_of m)) else []) none

pub none-below : (m : Movement) (k : ℕ) → k ≤ m.at.vstart → accesses_between m 0 k ≡ []
none-below m zero h = refl
none-below m (suc k) h =
    let one : suc k ≡ k + 1 = omega arith in
    ap (accesses_between m 0) one ∙ between-next m k ∙ (λ j. none-below m k (omega arith) j ++ before-start m k (omega arith) j)

-- ---- the first failure

pub free-append : (d : Direction) (memory : Memory) (xs ys : List Access) → first_failure d memory xs ≡ None → first_failure d memory (xs ++ ys) ≡ first_failure d memory ys
free-append d memory [] ys h = refl
free-append d memory (x ∷ xs) ys h = by_cause (failure_of d memory x) h (free-append d memory xs ys)
  where
    by_cause : (o : Option ℕ) → failure_or x o (first_failure d memory xs) ≡ None → (first_failure d memory xs ≡ None → first_failure d memory (xs ++ ys) ≡ first_failure d memory ys) → failure_or x o (first_failure d memory (xs ++ ys)) ≡ first_failure d memory ys
    by_cause None none rest = rest none
    by_cause (Some cause) none rest = absurd (none-some (record { access = x; cause = cause }) (sym none))

fails-append : (d : Direction) (memory : Memory) (xs ys : List Access) (f : Failure) → first_failure d memory xs ≡ Some f → first_failure d memory (xs ++ ys) ≡ Some f
fails-append d memory [] ys f h = absurd (none-some f h)
fails-append d memory (x ∷ xs) ys f h = by_cause (failure_of d memory x) h (fails-append d memory xs ys f)
  where
    by_cause : (o : Option ℕ) → failure_or x o (first_failure d memory xs) ≡ Some f → (first_failure d memory xs ≡ Some f → first_failure d memory (xs ++ ys) ≡ Some f) → failure_or x o (first_failure d memory (xs ++ ys)) ≡ Some f
    by_cause None some rest = rest some
    by_cause (Some cause) some rest = some

field-fails : (d : Direction) (memory : Memory) (m : Movement) (k : ℕ) (fields : List ℕ) (f : Failure) → first_failure d memory (map (access_of m k) fields) ≡ Some f → f.access.element ≡ k
field-fails d memory m k [] f h = absurd (none-some f h)
field-fails d memory m k (x ∷ xs) f h = by_cause (failure_of d memory (access_of m k x)) h (field-fails d memory m k xs f)
  where
    by_cause : (o : Option ℕ) → failure_or (access_of m k x) o (first_failure d memory (map (access_of m k) xs)) ≡ Some f → (first_failure d memory (map (access_of m k) xs) ≡ Some f → f.access.element ≡ k) → f.access.element ≡ k
    by_cause None e rest = rest e
    by_cause (Some cause) e rest = sym (ap (λ (o : Option Failure). elim o [ None ↦ k | Some g ↦ g.access.element ]) e)

element-fails : (d : Direction) (memory : Memory) (m : Movement) (k : ℕ) (f : Failure) → first_failure d memory (accesses_of_element m k) ≡ Some f → f.access.element ≡ k
element-fails d memory m k f h = by_part (takes_part m k) h
  where
    by_part : (b : Bool) → first_failure d memory (if b then map (access_of m k) (range_with_len 0 (fields_of m)) else []) ≡ Some f → f.access.element ≡ k
    by_part true e = field-fails d memory m k (range_with_len 0 (fields_of m)) f e
    by_part false e = absurd (none-some f e)

fails-on : (d : Direction) (memory : Memory) (m : Movement) (k n : ℕ) (f : Failure) → first_failure d memory (accesses_between m 0 k) ≡ Some f → first_failure d memory (accesses_between m 0 (k + n)) ≡ Some f
fails-on d memory m k zero f h = let same : k + 0 ≡ k = omega arith in ap (λ (j : ℕ). first_failure d memory (accesses_between m 0 j)) same ∙ h
fails-on d memory m k (suc n) f h =
    let same : k + suc n ≡ k + n + 1 = omega arith in
    ap (λ (j : ℕ). first_failure d memory (accesses_between m 0 j)) same
    ∙ ap (first_failure d memory) (between-next m (k + n))
    ∙ fails-append d memory (accesses_between m 0 (k + n)) (accesses_of_element m (k + n)) f (fails-on d memory m k n f h)

-- the first failure of an element below which there is none is the first of all
fails-all : (d : Direction) (memory : Memory) (m : Movement) (end k : ℕ) (f : Failure) → k < end → first_failure d memory (accesses_between m 0 k) ≡ None → first_failure d memory (accesses_of_element m k) ≡ Some f → first_failure d memory (accesses_between m 0 end) ≡ Some f
fails-all d memory m end k f l free h =
    let there : end ≡ k + 1 + (end - (k + 1)) = omega arith in
    let one : first_failure d memory (accesses_between m 0 (k + 1)) ≡ Some f =
    ap (first_failure d memory) (between-next m k) ∙ free-append d memory (accesses_between m 0 k) (accesses_of_element m k) free ∙ h in
    ap (λ (j : ℕ). first_failure d memory (accesses_between m 0 j)) there ∙ fails-on d memory m (k + 1) (end - (k + 1)) f one

-- ---- by the fates of an element's accesses

moved-address : (d : Direction) (m : Movement) (a : Access) → (moved_access d m a).address ≡ a.address
moved-address Loading m a = refl
moved-address Storing m a = refl

moved-width : (d : Direction) (m : Movement) (a : Access) → (moved_access d m a).width ≡ a.width
moved-width Loading m a = refl
moved-width Storing m a = refl

pub moved-element : (d : Direction) (m : Movement) (a : Access) → (moved_access d m a).element ≡ a.element
moved-element Loading m a = refl
moved-element Storing m a = refl

-- the fate of an access says whether it fails in a memory
abbrev pub AreTold : (want : Want) → Memory → (Timed → Fate) → Type 0
AreTold want memory fate = (a : Timed) → Agrees (cause_of memory want a.address a.width) (fate a)

good-cause : (cause : Option ℕ) (x : Fate) → is_good x ≡ true → Agrees cause x → cause ≡ None
good-cause cause (Good cycle word) good h = h
good-cause cause (Fails cycle is_away) good h = absurd (cc)
good-cause cause Unknown good h = absurd (cc)

none-cause : (d : Direction) (memory : Memory) (m : Movement) (fate : Timed → Fate) (a : Access) → AreTold (want_of d) memory fate → is_good (fate (moved_access d m a)) ≡ true → failure_of d memory a ≡ None
none-cause d memory m fate a told good =
    (λ i. cause_of memory (want_of d) (sym (moved-address d m a) i) (sym (moved-width d m a) i)) ∙ good-cause _ (fate (moved_access d m a)) good (told (moved_access d m a))

-- where all are good, none fails
pub free-good : (d : Direction) (memory : Memory) (m : Movement) (fate : Timed → Fate) (accesses : List Access) → AreTold (want_of d) memory fate
    → list_all (λ (a : Timed). is_good (fate a)) (map (moved_access d m) accesses) ≡ true → first_failure d memory accesses ≡ None
free-good d memory m fate [] told good = refl
free-good d memory m fate (a ∷ accesses) told good =
    let parts = parts-of (is_good (fate (moved_access d m a))) _ good in
    ap (λ (o : Option ℕ). failure_or a o (first_failure d memory accesses)) (none-cause d memory m fate a told parts.0)
    ∙ free-good d memory m fate accesses told parts.1
  where
    parts-of : (x y : Bool) → (x && y) ≡ true → (x ≡ true) × (y ≡ true)
    parts-of true y h = (refl, h)
    parts-of false y h = absurd (cc)

-- the accesses of an element have its number
fields-element : (d : Direction) (m : Movement) (i : ℕ) (q : ℕ → Bool) (fields : List ℕ) → q i ≡ true → list_all (λ (a : Timed). q a.element) (map (moved_access d m) (map (access_of m i) fields)) ≡ true
fields-element d m i q [] h = refl
fields-element d m i q (f ∷ fields) h =
    let one : q (moved_access d m (access_of m i f)).element ≡ true = ap q (moved-element d m (access_of m i f)) ∙ h in
    (λ j. one j && fields-element d m i q fields h j)

pub all-element : (d : Direction) (m : Movement) (i : ℕ) (q : ℕ → Bool) → q i ≡ true → list_all (λ (a : Timed). q a.element) (map (moved_access d m) (accesses_of_element m i)) ≡ true
all-element d m i q h = by_part (takes_part m i)
  where
    by_part : (b : Bool) → list_all (λ (a : Timed). q a.element) (map (moved_access d m) (if b then map (access_of m i) (range_with_len 0 (fields_of m)) else [])) ≡ true
    by_part true = fields-element d m i q (range_with_len 0 (fields_of m)) h
    by_part false = refl

-- where one fails in time, one fails in a memory, and its page isn't away
pub record IsFound (d : Direction) (memory : Memory) (accesses : List Access) (timed : List Timed) (number : ℕ) (fl : Failing) : Type 0 where
  pub k : ℕ
  pub a : Timed
  pub number_is : fl.number ≡ number + k
  pub got : slice_get timed k ≡ Some a
  pub there : fl.is_away ≡ false
  pub failure : Failure
  pub fails : first_failure d memory accesses ≡ Some failure

fails-either : (a : Access) (o : Option ℕ) (f : Failure) → (g : Failure) × (failure_or a o (Some f) ≡ Some g)
fails-either a None f = (f, refl)
fails-either a (Some cause) f = (record { access = a; cause = cause }, refl)

found-behind : (d : Direction) (memory : Memory) (a : Access) (accesses : List Access) (first : Timed) (timed : List Timed) (number : ℕ) (fl : Failing) → IsFound d memory accesses timed (number + 1) fl → IsFound d memory (a ∷ accesses) (first ∷ timed) number fl
found-behind d memory a accesses first timed number fl h =
    let either = fails-either a (failure_of d memory a) h.failure in
    record {
      k = suc h.k;
      a = h.a;
      number_is = omega (arith, h.number_is);
      got = h.got;
      there = h.there;
      failure = either.0;
      fails = ap (failure_or a (failure_of d memory a)) h.fails ∙ either.1;
    }

found-by : (d : Direction) (memory : Memory) (a : Access) (accesses : List Access) (first : Timed) (timed : List Timed) (number : ℕ) (fl : Failing) (x : Fate) (later : Option Failing) → Agrees (failure_of d memory a) x
    → (if is_failing x then Some (record { number = number; is_away = fails_away x }) else later) ≡ Some fl → (later ≡ Some fl → IsFound d memory accesses timed (number + 1) fl) → IsFound d memory (a ∷ accesses) (first ∷ timed) number fl
found-by d memory a accesses first timed number fl (Good cycle word) later told e rest = found-behind d memory a accesses first timed number fl (rest e)
found-by d memory a accesses first timed number fl Unknown later told e rest = found-behind d memory a accesses first timed number fl (rest e)
found-by d memory a accesses first timed number fl (Fails cycle is_away) later told e rest =
    let at : number ≡ fl.number = ap (λ (o : Option Failing). elim o as (λ _. ℕ) [ None ↦ number | Some g ↦ g.number ]) e in
    let away : is_away ≡ fl.is_away = ap (λ (o : Option Failing). elim o as (λ _. Bool) [ None ↦ is_away | Some g ↦ g.is_away ]) e in
    record {
      k = 0;
      a = first;
      number_is = omega (arith, at);
      got = refl;
      there = sym away ∙ told.0;
      failure = record { access = a; cause = told.1.0 };
      fails = ap (λ (o : Option ℕ). failure_or a o (first_failure d memory accesses)) told.1.1;
    }

moved-told : (d : Direction) (memory : Memory) (m : Movement) (fate : Timed → Fate) (a : Access) → AreTold (want_of d) memory fate → Agrees (failure_of d memory a) (fate (moved_access d m a))
moved-told d memory m fate a told =
    subst (λ (o : Option ℕ). Agrees o (fate (moved_access d m a))) (λ i. cause_of memory (want_of d) (moved-address d m a i) (moved-width d m a i)) (told (moved_access d m a))

pub found : (d : Direction) (memory : Memory) (m : Movement) (fate : Timed → Fate) (accesses : List Access) (number : ℕ) (fl : Failing) → AreTold (want_of d) memory fate
    → failing_from number (map fate (map (moved_access d m) accesses)) ≡ Some fl → IsFound d memory accesses (map (moved_access d m) accesses) number fl
found d memory m fate [] number fl told e = absurd (none-some fl e)
found d memory m fate (a ∷ accesses) number fl told e =
    found-by d memory a accesses (moved_access d m a) (map (moved_access d m) accesses) number fl (fate (moved_access d m a)) (failing_from (number + 1) (map fate (map (moved_access d m) accesses))) (moved-told d memory m fate a told) e
    (found d memory m fate accesses (number + 1) fl told)

slice-passes : (p : Timed → Bool) (xs : List Timed) (k : ℕ) (x : Timed) → list_all p xs ≡ true → slice_get xs k ≡ Some x → p x ≡ true
slice-passes p [] k x all got = absurd (none-some x got)
slice-passes p (y ∷ xs) zero x all got =
    let same : y ≡ x = ap (λ (o : Option Timed). elim o as (λ _. Timed) [ None ↦ y | Some z ↦ z ]) got in
    ap p (sym same) ∙ (and-parts (p y) (list_all p xs) all).0
  where
    and-parts : (b c : Bool) → (b && c) ≡ true → (b ≡ true) × (c ≡ true)
    and-parts true c h = (refl, h)
    and-parts false c h = absurd (cc)
slice-passes p (y ∷ xs) (suc k) x all got = slice-passes p xs k x (and-rest (p y) (list_all p xs) all) got
  where
    and-rest : (b c : Bool) → (b && c) ≡ true → c ≡ true
    and-rest true c h = h
    and-rest false c h = absurd (cc)

-- the failure in time
pub failing-at : (m : Movement) (d : Direction) (i : ℕ) (memory : Memory) (accesses : List Access) (fl : Failing) → IsFound d memory accesses (map (moved_access d m) (accesses_of_element m i)) 0 fl
    → (x : TimedFailure) × (failure_at (map (moved_access d m) (accesses_of_element m i)) (Some fl) ≡ Some x) × ((x.element ≡ i) × (x.is_away ≡ false))
failing-at m d i memory accesses fl h =
    let here : fl.number ≡ h.k = omega (arith, h.number_is) in
    let timed : List Timed = map (moved_access d m) (accesses_of_element m i) in
    let own : nat_eq h.a.element i ≡ true = slice-passes (λ (a : Timed). nat_eq a.element i) timed h.k h.a (all-element d m i (λ (n : ℕ). nat_eq n i) (eq-eqb i i refl)) h.got in (
      record { element = h.a.element; address = h.a.address; is_away = fl.is_away },
      ap (λ (n : ℕ). option_map (λ (a : Timed). let failure : TimedFailure = record { element = a.element; address = a.address; is_away = fl.is_away } in failure) (slice_get timed n)) here
          ∙ ap (option_map (λ (a : Timed). let failure : TimedFailure = record { element = a.element; address = a.address; is_away = fl.is_away } in failure)) h.got,
      (eqb-true h.a.element i own, h.there),
    )

-- ---- what the transfer leads to

pub all-free : (t : Transfer) (s : Flat) → first_failure t.direction s.memory (accesses_between t.movement 0 (movement_count t.movement)) ≡ None → (u : Flat) × (transferred t s ≡ Next u)
all-free t s h = (_, ap (transferred_by t s) h)

by-test : (b : Bool) (u v : Flat) (cause address : ℕ) → b ≡ true → (w : Flat) × ((if b then Next u else faulted v cause address) ≡ Next w)
by-test true u v cause address h = (u, refl)
by-test false u v cause address h = absurd (cc)

by-no-test : (b : Bool) (u v : Flat) (cause address : ℕ) → b ≡ false → (fault : Fault) × (w : Flat) × ((if b then Next u else faulted v cause address) ≡ Faulted fault w)
by-no-test true u v cause address h = absurd (cc)
by-no-test false u v cause address h = (_, v, refl)

module _ (t : Transfer) (s : Flat) (i : ℕ) (f : Failure) (below : i < movement_count t.movement) (free : first_failure t.direction s.memory (accesses_between t.movement 0 i) ≡ None)
    (fails : first_failure t.direction s.memory (accesses_of_element t.movement i) ≡ Some f) where
  at : f.access.element ≡ i
  at = element-fails t.direction s.memory t.movement i f fails

  all : first_failure t.direction s.memory (access_list t.movement) ≡ Some f
  all = fails-all t.direction s.memory t.movement (movement_count t.movement) i f below free fails

  pub cut-next : (is_fault_only_first t.movement.addressing && nat_lt 0 i) ≡ true → (u : Flat) × (transferred t s ≡ Next u)
  cut-next h =
      let r = by-test (is_fault_only_first t.movement.addressing && nat_lt 0 f.access.element) _ _ f.cause f.access.address (ap (λ (n : ℕ). is_fault_only_first t.movement.addressing && nat_lt 0 n) at ∙ h) in
      (r.0, ap (transferred_by t s) all ∙ r.1)

  pub stop-faults : (is_fault_only_first t.movement.addressing && nat_lt 0 i) ≡ false → (fault : Fault) × (u : Flat) × (transferred t s ≡ Faulted fault u)
  stop-faults h =
      let r = by-no-test (is_fault_only_first t.movement.addressing && nat_lt 0 f.access.element) _ _ f.cause f.access.address (ap (λ (n : ℕ). is_fault_only_first t.movement.addressing && nat_lt 0 n) at ∙ h) in
      (r.0, r.1, ap (transferred_by t s) all ∙ r.2)
