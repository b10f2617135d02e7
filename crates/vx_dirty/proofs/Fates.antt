-- What is known of the accesses of a batch: those below the first that fails pass, and for a store, their pages have D behind
-- the walks so far.
use Rattle.std.proofs.Common.{◌≡◌, ℕ, ◌%◌, Bool, true, false, not, ◌&&◌, ◌||◌, nat_eq, List, [], ◌∷◌, ◌++◌, reverse, if◌then◌else◌, refl, sym, ap, ◌∙◌, subst, inl, inr}
use Rattle.std.specs.List.{list_any}
use Rattle.std.specs.Option.{option_map_or, option_or}
use Rattle.std.specs.Prelude.{◌⊎◌, Option, Some, None, option_map, find}
use Rattle.std.proofs.lemmas.Bool.{false≢true, true≢false, or_from, or_right, or_left, eqb-true, eq-eqb}
use Rattle.std.proofs.lemmas.List.{reverse-append}
use Rattle.std.proofs.lemmas.List.Folds.{find-append, list_any-append}
use Rattle.vx_base.specs.Permissions.{grants}
use Rattle.vx_base.specs.declared.machine.Want.{Want}
use Rattle.vx_base.specs.declared.machine.Want.TheVariants.{Fetch}
use Rattle.vx_base.specs.declared.perm.Perm.{Perm}
use Rattle.vx_image.specs.Pages.{page_of}
use Rattle.vx_tables.specs.Caches.{Fill, look_at, look_for, look_up, filled_by}
use Rattle.vx_tables.specs.Residency.{Place, PlacedPage, Residency, placed, is_store, found_at, page_map}
use Rattle.vx_tables.specs.Residency.Place.{Away, Present}
use Rattle.vx_tables.specs.declared.look.Look.{Look}
use Rattle.vx_tables.specs.declared.look.Look.TheVariants.{Hit, Denied, Miss}
use Rattle.vx_tables.specs.declared.walked.Walked.{Walked}
use Rattle.vx_tables.specs.declared.walked.Walked.TheVariants as walked
use Rattle.vx_episode.specs.Batches.{Fate, Judged, is_refused, fate_walked, fate_by_walk, is_of_page, fate_looked, is_failing, is_unknown, fails_away, look_of, fate_of, walk_behind, walks_with, walks_of, queue_cycle, judged, failure_of, lowest_failure}
use Rattle.vx_episode.specs.Batches.Fate.{Good, Fails, Unknown}
use Rattle.vx_episode.specs.Cycles.{Cycle}
use Rattle.vx_episode.specs.Footprint.{Access}
use Rattle.vx_episode.specs.History.{History, Walk, BatchTimes, Failure, walks_of_batches, fetch_walks, fills_of, after_walks}
use Rattle.vx_episode.specs.Organisation.{Start, data_entries}
use Rattle.vx_dirty.specs.Dirty.{is_dirty, is_dirty_at}
use Rattle.vx_dirty.proofs.Walks.{is_present, lets, takes, dirties, lets-all, takes-all, dirty-all}
use Rattle.vx_dirty.proofs.Lists.{Each, each-more, each-append}

abbrev IfFound : {X : Type 0} → (X → Type 0) → Option X → Type 0
IfFound P None = Unit {0}
IfFound P (Some x) = P x

find-each : {X : Type 0} (P : X → Type 0) (q : X → Bool) (xs : List X) → Each P xs → IfFound (λ x. P x × (q x ≡ true)) (find q xs)
find-each P q [] h = tt
find-each P q (x ∷ xs) h = by_test (q x) refl (find-each P q xs h.1)
  where
    by_test : (b : Bool) → q x ≡ b → IfFound (λ x. P x × (q x ≡ true)) (find q xs) → IfFound (λ x. P x × (q x ≡ true)) (if b then Some x else find q xs)
    by_test true e later = (h.0, e)
    by_test false e later = later

-- ---- what walks have found

-- a page that has D behind some walks has it behind others
abbrev pub More : Residency → (some others : List Walk) → Type 0
More residency some others = (n : ℕ) → is_dirty n (after_walks residency some) ≡ true → is_dirty n (after_walks residency others) ≡ true

more-bool : (c s x : Bool) → (c || x) ≡ true → (c || (s || x)) ≡ true
more-bool true s x h = refl
more-bool false true x h = refl
more-bool false false x h = h

pub more-before : (residency : Residency) (first walks : List Walk) → More residency walks (first ++ walks)
more-before residency first walks n h =
    dirty-all residency n (first ++ walks)
    ∙ ap (λ b. is_dirty n residency || b) (list_any-append (dirties residency n) first walks)
    ∙ more-bool (is_dirty n residency) (list_any (dirties residency n) first) (list_any (dirties residency n) walks) (sym (dirty-all residency n walks) ∙ h)

pub more-one : (residency : Residency) (w : Walk) (walks : List Walk) → More residency walks (w ∷ walks)
more-one residency w walks = more-before residency (w ∷ []) walks

-- the page that a walk found: what it grants, and that it has D, where that was set or the walk was for a store
pub record IsLeaf (residency : Residency) (walks : List Walk) (w : Walk) (perm : Perm) (dirty : Bool) : Type 0 where
  pub permissions : (other : Want) → lets residency (page_of w.address) other ≡ grants perm.bits other
  pub granted : lets residency (page_of w.address) w.want ≡ true
  pub was : dirty ≡ true → is_dirty (page_of w.address) (after_walks residency walks) ≡ true
  pub stored : is_store w.want ≡ true → is_dirty (page_of w.address) (after_walks residency walks) ≡ true

abbrev Answers : Residency → (walks : List Walk) → Walk → Walked → Type 0
Answers residency walks w (walked.Leaf frame perm dirty) = IsLeaf residency walks w perm dirty
Answers residency walks w walked.Away = Unit {0}
Answers residency walks w walked.Denied = lets residency (page_of w.address) w.want ≡ false

abbrev pub IsSound : Residency → (walks : List Walk) → Walk → Type 0
IsSound residency walks w = Answers residency walks w w.answer

answers-more : (residency : Residency) (some others : List Walk) → More residency some others → (w : Walk) (answer : Walked) → Answers residency some w answer → Answers residency others w answer
answers-more residency some others more w (walked.Leaf frame perm dirty) h = record {
  permissions = h.permissions;
  granted = h.granted;
  was = λ e. more (page_of w.address) (h.was e);
  stored = λ e. more (page_of w.address) (h.stored e);
}
answers-more residency some others more w walked.Away h = tt
answers-more residency some others more w walked.Denied h = h

pub sound-more : (residency : Residency) (some others : List Walk) → More residency some others → (ws : List Walk) → Each (IsSound residency some) ws → Each (IsSound residency others) ws
sound-more residency some others more ws h = each-more (IsSound residency some) (IsSound residency others) (λ w. answers-more residency some others more w w.answer) ws h

abbrev pub IsFetch : Walk → Type 0
IsFetch w = w.want ≡ Fetch

-- fetches set no D
none-fetched : (residency : Residency) (n : ℕ) (ws : List Walk) → Each IsFetch ws → list_any (dirties residency n) ws ≡ false
none-fetched residency n [] h = refl
none-fetched residency n (w ∷ ws) h =
    or_from (dirties residency n w) (list_any (dirties residency n) ws)
    (ap (λ want. nat_eq (page_of w.address) n && (is_store want && takes residency n w.want)) h.0 ∙ never (nat_eq (page_of w.address) n))
    (none-fetched residency n ws h.1)
  where
    never : (b : Bool) → (b && false) ≡ false
    never true = refl
    never false = refl

-- a walk behind others: those of its batch, fetches, and those before
module _ (residency : Residency) (walks fetches before : List Walk) (are : Each IsFetch fetches) (w : Walk) where
  abbrev now : Residency
  now = after_walks residency (walks ++ fetches ++ before)

  abbrev its_page : ℕ
  its_page = page_of w.address

  abbrev all : List Walk
  all = w ∷ walks ++ before

  middle : (c a f b : Bool) → f ≡ false → (c || ((a || f) || b)) ≡ true → (c || (a || b)) ≡ true
  middle c a true b h k = absurd (true≢false h)
  middle c true false b h k = k
  middle c false false b h k = k

  was-dirty : is_dirty its_page now ≡ true → is_dirty its_page (after_walks residency all) ≡ true
  was-dirty h =
      let q = dirties residency its_page in
      let parts : list_any q (walks ++ fetches ++ before) ≡ ((list_any q walks || list_any q fetches) || list_any q before) =
      list_any-append q (walks ++ fetches) before ∙ ap (λ b. b || list_any q before) (list_any-append q walks fetches) in
      more-one residency w (walks ++ before) its_page
      (dirty-all residency its_page (walks ++ before)
      ∙ ap (λ b. is_dirty its_page residency || b) (list_any-append q walks before)
      ∙ middle (is_dirty its_page residency) (list_any q walks) (list_any q fetches) (list_any q before) (none-fetched residency its_page fetches are)
      (sym (ap (λ b. is_dirty its_page residency || b) parts) ∙ sym (dirty-all residency its_page (walks ++ fetches ++ before)) ∙ h))

  sets-dirty : is_store w.want ≡ true → takes residency its_page w.want ≡ true → is_dirty its_page (after_walks residency all) ≡ true
  sets-dirty stores taken =
      let here : dirties residency its_page w ≡ true = (λ j. eq-eqb its_page its_page refl j && (stores j && taken j)) in
      dirty-all residency its_page all
      ∙ or_right (is_dirty its_page residency) (dirties residency its_page w || list_any (dirties residency its_page) (walks ++ before)) (or_left (dirties residency its_page w) (list_any (dirties residency its_page) (walks ++ before)) here)

  permits-so : (p : PlacedPage) → placed its_page now ≡ Some p → (other : Want) → lets residency its_page other ≡ grants p.entry.perm.bits other
  permits-so p is other = sym (lets-all residency (walks ++ fetches ++ before) its_page other) ∙ ap (λ o. option_map_or (λ (p : PlacedPage). grants p.entry.perm.bits other) o false) is

  found-so : (p : PlacedPage) → placed its_page now ≡ Some p → (place : Place) → p.place ≡ place → Answers residency all w (found_at p.entry.perm.bits w.want place)
  found-so p is Away at = tt
  found-so p is (Present frame accessed dirty) at = by_test (grants p.entry.perm.bits w.want) refl
    where
      by_test : (g : Bool) → grants p.entry.perm.bits w.want ≡ g → Answers residency all w (if g then walked.Leaf frame (record { bits = p.entry.perm.bits }) (dirty || is_store w.want) else walked.Denied)
      by_test true e =
          let granted = permits-so p is w.want ∙ e in
          let taken : takes residency its_page w.want ≡ true =
          sym (takes-all residency (walks ++ fetches ++ before) its_page w.want)
          ∙ ap (λ o. option_map_or (λ (p : PlacedPage). is_present p.place && grants p.entry.perm.bits w.want) o false) is
          ∙ (λ j. is_present (at j) && e j) in
          let if_dirty : dirty ≡ true → is_dirty its_page (after_walks residency all) ≡ true =
          λ d. was-dirty (ap (λ o. option_map_or (λ (p : PlacedPage). is_dirty_at p.place) o false) is ∙ ap is_dirty_at at ∙ d) in
          record {
            permissions = permits-so p is;
            granted = granted;
            was = either dirty (is_store w.want) if_dirty (λ s. sets-dirty s taken);
            stored = λ s. sets-dirty s taken;
          }
        where
          either : (d s : Bool) → (d ≡ true → is_dirty its_page (after_walks residency all) ≡ true) → (s ≡ true → is_dirty its_page (after_walks residency all) ≡ true) → (d || s) ≡ true → is_dirty its_page (after_walks residency all) ≡ true
          either true s f g h = f refl
          either false true f g h = g refl
          either false false f g h = absurd (false≢true h)
      by_test false e = permits-so p is w.want ∙ e

  answers-by : (o : Option PlacedPage) → placed its_page now ≡ o → Answers residency all w (option_map_or (λ (p : PlacedPage). found_at p.entry.perm.bits w.want p.place) o walked.Denied)
  answers-by None is = sym (lets-all residency (walks ++ fetches ++ before) its_page w.want) ∙ ap (λ o. option_map_or (λ (p : PlacedPage). grants p.entry.perm.bits w.want) o false) is
  answers-by (Some p) is = found-so p is p.place refl

  pub answers-so : Answers residency all w (page_map now w.address w.want)
  unfolding page_map
  answers-so = answers-by (placed its_page now) refl

-- ---- look-ups

pub record IsFilled (residency : Residency) (walks : List Walk) (f : Fill) : Type 0 where
  pub permissions : (other : Want) → lets residency f.page other ≡ grants f.perm.bits other
  pub was : f.dirty ≡ true → is_dirty f.page (after_walks residency walks) ≡ true

module _ (residency : Residency) (walks : List Walk) where
  filled-so : (w : Walk) (answer : Walked) (fills : List Fill) → Answers residency walks w answer → Each (IsFilled residency walks) fills → Each (IsFilled residency walks) (filled_by (page_of w.address) answer fills)
  filled-so w (walked.Leaf frame perm dirty) fills h k = (record { permissions = h.permissions; was = h.was }, k)
  filled-so w walked.Away fills h k = k
  filled-so w walked.Denied fills h k = k

  fills-so : (ws : List Walk) → Each (IsSound residency walks) ws → Each (IsFilled residency walks) (fills_of ws)
  fills-so [] h = tt
  fills-so (w ∷ ws) h = filled-so w w.answer (fills_of ws) h.0 (fills-so ws h.1)

  -- an access that passed
  pub record IsGranted (page : ℕ) (want : Want) : Type 0 where
    pub granted : lets residency page want ≡ true
    pub stored : is_store want ≡ true → is_dirty page (after_walks residency walks) ≡ true

  abbrev Looks : (page : ℕ) → Want → Look → Type 0
  Looks page want (Hit frame) = IsGranted page want
  Looks page want Denied = lets residency page want ≡ false
  Looks page want Miss = Unit {0}

  look-at : (page : ℕ) (want : Want) (f : Fill) → IsFilled residency walks f → f.page ≡ page → Looks page want (look_at want f)
  look-at page want f h is = by_tests (grants f.perm.bits want) (is_store want) f.dirty refl refl refl
    where
      by_tests : (g s d : Bool) → grants f.perm.bits want ≡ g → is_store want ≡ s → f.dirty ≡ d → Looks page want (if g then (if s && not d then Miss else Hit f.frame) else Denied)
      by_tests true true true e t u = record { granted = ap (λ n. lets residency n want) (sym is) ∙ h.permissions want ∙ e; stored = λ k. ap (λ n. is_dirty n (after_walks residency walks)) (sym is) ∙ h.was u }
      by_tests true true false e t u = tt
      by_tests true false d e t u = record { granted = ap (λ n. lets residency n want) (sym is) ∙ h.permissions want ∙ e; stored = λ k. absurd (false≢true (sym t ∙ k)) }
      by_tests false s d e t u = ap (λ n. lets residency n want) (sym is) ∙ h.permissions want ∙ e

  look-for : (page : ℕ) (want : Want) (q : Fill → Bool) (o : Option Fill) → IfFound (λ f. IsFilled residency walks f × (q f ≡ true)) o → Looks page want (look_for page want o)
  look-for page want q None h = tt
  look-for page want q (Some f) h = by_test (nat_eq f.page page) (λ e. look-at page want f h.0 (eqb-true f.page page e))
    where
      by_test : (b : Bool) → (b ≡ true → Looks page want (look_at want f)) → Looks page want (if b then look_at want f else Miss)
      by_test true k = k refl
      by_test false k = tt

  looks-so : (ws : List Walk) (page : ℕ) (want : Want) → Each (IsSound residency walks) ws → Looks page want (look_up data_entries (fills_of ws) page want)
  looks-so ws page want h =
      let q = λ (f : Fill). nat_eq (f.page % data_entries) (page % data_entries) in
      look-for page want q (find q (fills_of ws)) (find-each (IsFilled residency walks) q (fills_of ws) (fills-so ws h))

-- ---- fates

-- an access passes: it isn't refused, its page grants it, and for a store, has D behind the walks
pub record IsGood (residency : Residency) (walks : List Walk) (want : Want) (a : Access) : Type 0 where
  pub accepted : is_refused a ≡ false
  pub granted : lets residency (page_of a.address) want ≡ true
  pub stored : is_store want ≡ true → is_dirty (page_of a.address) (after_walks residency walks) ≡ true

pub good-more : (residency : Residency) (some others : List Walk) → More residency some others → (want : Want) (a : Access) → IsGood residency some want a → IsGood residency others want a
good-more residency some others more want a h = record { accepted = h.accepted; granted = h.granted; stored = λ s. more (page_of a.address) (h.stored s) }

-- it is refused, or its page doesn't grant it
abbrev pub Fails_on : Residency → Want → Access → Type 0
Fails_on residency want a = (is_refused a ≡ true) ⊎ (lets residency (page_of a.address) want ≡ false)

abbrev IsFated : Residency → (walks : List Walk) → Want → Access → Fate → Type 0
IsFated residency walks want a (Good cycle word) = IsGood residency walks want a
IsFated residency walks want a (Fails cycle is_away) = is_away ≡ false → Fails_on residency want a
IsFated residency walks want a Unknown = Unit {0}

-- what is found once accesses in turn are judged: those below the first that fails pass
pub record IsCut (residency : Residency) (walks : List Walk) (want : Want) (accesses : List Access) (f : Failure) : Type 0 where
  pub lower : List Access
  pub first : Access
  pub others : List Access
  pub parts : accesses ≡ lower ++ first ∷ others
  pub good : Each (IsGood residency walks want) lower
  pub element : f.element ≡ first.element
  pub fails : f.is_away ≡ false → Fails_on residency want first

abbrev pub IsLookedUp : Residency → (walks : List Walk) → Want → List Access → Option Failure → Type 0
IsLookedUp residency walks want accesses None = Each (IsGood residency walks want) accesses
IsLookedUp residency walks want accesses (Some f) = IsCut residency walks want accesses f

-- the lowest that fails, in the order of the accesses
module _ (fate : Access → Fate) where
  abbrev fails_so : Access → Bool
  fails_so a = is_failing (fate a)

  abbrev failing : Access → Failure
  failing a = record { element = a.element; address = a.address; is_away = fails_away (fate a) }

  abbrev first_or : Option Failure → List Access → Option Failure
  first_or (Some f) accesses = Some f
  first_or None accesses = option_map failing (find fails_so accesses)

  -- the lowest of those judged before, the last first
  abbrev lowest : List Judged → Option Failure
  lowest js = option_map failure_of (find (λ (j : Judged). is_failing j.fate) (reverse js))

  first-none : (o : Option Failure) → o ≡ first_or o []
  first-none None = refl
  first-none (Some f) = refl

  first-more : (o : Option Judged) (a : Access) (queued : Cycle) (accesses : List Access) (b : Bool) → is_failing (fate a) ≡ b
      → first_or (option_map failure_of (option_or o (if b then Some (record { access = a; fate = fate a; queued = queued }) else None))) accesses ≡ first_or (option_map failure_of o) (a ∷ accesses)
  first-more (Some j) a queued accesses b e = refl
  first-more None a queued accesses true e = sym (ap (λ b. option_map failing (if b then Some a else find fails_so accesses)) e)
  first-more None a queued accesses false e = sym (ap (λ b. option_map failing (if b then Some a else find fails_so accesses)) e)

  lowest-so : (accesses : List Access) (lower : List Judged) → lowest (judged fate lower accesses) ≡ first_or (lowest lower) accesses
  lowest-so [] lower = first-none (lowest lower)
  lowest-so (a ∷ accesses) lower =
      let queued = queue_cycle lower (fate a) in
      let j : Judged = record { access = a; fate = fate a; queued = queued } in
      let test = λ (j : Judged). is_failing j.fate in
      lowest-so accesses (j ∷ lower)
      ∙ ap (λ js. first_or (option_map failure_of (find test js)) accesses) (reverse-append (j ∷ []) lower)
      ∙ ap (λ o. first_or (option_map failure_of o) accesses) (find-append test (reverse lower) (j ∷ []))
      ∙ first-more (find test (reverse lower)) a queued accesses (is_failing (fate a)) refl

  -- accesses are known up to the first that fails
  abbrev IfPasses : (fails unknown : Bool) → Type 0 → Type 0
  IfPasses true unknown rest = Unit {0}
  IfPasses false unknown rest = (unknown ≡ false) × rest

  abbrev AreKnown : List Access → Type 0
  AreKnown [] = Unit {0}
  AreKnown (a ∷ accesses) = IfPasses (is_failing (fate a)) (is_unknown (fate a)) (AreKnown accesses)

  any-passes : (fails unknown : Bool) (rest : Type 0) → unknown ≡ false → rest → IfPasses fails unknown rest
  any-passes true unknown rest h k = tt
  any-passes false unknown rest h k = (h, k)

  module _ (residency : Residency) (walks : List Walk) (want : Want) (fated : (a : Access) → IsFated residency walks want a (fate a)) where
    when-fails : (a : Access) (f : Fate) → IsFated residency walks want a f → is_failing f ≡ true → fails_away f ≡ false → Fails_on residency want a
    when-fails a (Good cycle word) h e away = absurd (false≢true e)
    when-fails a (Fails cycle is_away) h e away = h away
    when-fails a Unknown h e away = absurd (false≢true e)

    when-passes : (a : Access) (f : Fate) → IsFated residency walks want a f → is_failing f ≡ false → is_unknown f ≡ false → IsGood residency walks want a
    when-passes a (Good cycle word) h e known = h
    when-passes a (Fails cycle is_away) h e known = absurd (true≢false e)
    when-passes a Unknown h e known = absurd (true≢false known)

    one-more : (a : Access) (accesses : List Access) → IsGood residency walks want a → (o : Option Failure) → IsLookedUp residency walks want accesses o → IsLookedUp residency walks want (a ∷ accesses) o
    one-more a accesses good None h = (good, h)
    one-more a accesses good (Some f) h = record {
      lower = a ∷ h.lower;
      first = h.first;
      others = h.others;
      parts = ap (λ (l : List Access). a ∷ l) h.parts;
      good = (good, h.good);
      element = h.element;
      fails = h.fails;
    }

    pub looked-up : (accesses : List Access) → AreKnown accesses → IsLookedUp residency walks want accesses (option_map failing (find fails_so accesses))
    looked-up [] h = tt
    looked-up (a ∷ accesses) h = by_test (is_failing (fate a)) refl h (looked-up accesses)
      where
        by_test : (b : Bool) → is_failing (fate a) ≡ b → IfPasses b (is_unknown (fate a)) (AreKnown accesses) → (AreKnown accesses → IsLookedUp residency walks want accesses (option_map failing (find fails_so accesses)))
            → IsLookedUp residency walks want (a ∷ accesses) (option_map failing (if b then Some a else find fails_so accesses))
        by_test true e h later = record { lower = []; first = a; others = accesses; parts = refl; good = tt; element = refl; fails = when-fails a (fate a) (fated a) e }
        by_test false e h later = one-more a accesses (when-passes a (fate a) (fated a) e h.0) (option_map failing (find fails_so accesses)) (later h.1)

-- ---- a batch that starts

module _ (start : Start) (history : History) (before : List BatchTimes) (want : Want) (started : ℕ) where
  abbrev residency : Residency
  residency = start.residency

  abbrev walked_before : List Walk
  walked_before = walks_of_batches before

  abbrev fates : List Walk → Access → Fate
  fates = fate_of start history before want started

  -- a walk of the batch is for what it wants, and sound behind its walks and those before
  abbrev pub IsOwn : List Walk → Walk → Type 0
  IsOwn walks w = (w.want ≡ want) × IsSound residency (walks ++ walked_before) w

  walked-known : (a : Access) (ended : ℕ) (answer : Walked) → is_unknown (fate_walked a ended answer) ≡ false
  walked-known a ended (walked.Leaf frame perm dirty) = refl
  walked-known a ended walked.Away = refl
  walked-known a ended walked.Denied = refl

  -- ---- what is known stays so

  looked-known : (walks others : List Walk) (a : Access) → (is_unknown (fate_by_walk a (find (is_of_page (page_of a.address)) walks)) ≡ false → is_unknown (fate_by_walk a (find (is_of_page (page_of a.address)) others)) ≡ false)
      → (look : Look) (refused : Bool) → is_unknown (if refused then Fails started false else fate_looked started walks a look) ≡ false → is_unknown (if refused then Fails started false else fate_looked started others a look) ≡ false
  looked-known walks others a f look true h = refl
  looked-known walks others a f (Hit frame) false h = refl
  looked-known walks others a f Denied false h = refl
  looked-known walks others a f Miss false h = f h

  found-known : (a : Access) (w : Walk) (o : Option Walk) (b : Bool) → is_unknown (fate_by_walk a o) ≡ false → is_unknown (fate_by_walk a (if b then Some w else o)) ≡ false
  found-known a w o true h = walked-known a w.ended w.answer
  found-known a w o false h = h

  known-more : (a : Access) (w : Walk) (walks : List Walk) → is_unknown (fates walks a) ≡ false → is_unknown (fates (w ∷ walks) a) ≡ false
  known-more a w walks h =
      looked-known walks (w ∷ walks) a (found-known a w (find (is_of_page (page_of a.address)) walks) (is_of_page (page_of a.address) w))
      (look_of start history before want started a) (is_refused a) h

  here-known : (a : Access) (w : Walk) (walks : List Walk) → is_of_page (page_of a.address) w ≡ true → (look : Look) (refused : Bool) → is_unknown (if refused then Fails started false else fate_looked started (w ∷ walks) a look) ≡ false
  here-known a w walks h look true = refl
  here-known a w walks h (Hit frame) false = refl
  here-known a w walks h Denied false = refl
  here-known a w walks h Miss false =
      ap (λ b. is_unknown (fate_by_walk a (if b then Some w else find (is_of_page (page_of a.address)) walks))) h ∙ walked-known a w.ended w.answer

  with-known : (walks : List Walk) (a : Access) → is_unknown (fates (walks_with start history before want started walks a) a) ≡ false
  with-known walks a = by_test (is_unknown (fates walks a)) refl
    where
      by_test : (b : Bool) → is_unknown (fates walks a) ≡ b → is_unknown (fates (if b then walk_behind start history before want started walks a ∷ walks else walks) a) ≡ false
      by_test true e = here-known a (walk_behind start history before want started walks a) walks (eq-eqb (page_of a.address) (page_of a.address) refl) (look_of start history before want started a) (is_refused a)
      by_test false e = e

  with-more : (walks : List Walk) (x a : Access) → is_unknown (fates walks x) ≡ false → is_unknown (fates (walks_with start history before want started walks a) x) ≡ false
  with-more walks x a h = by_test (is_unknown (fates walks a))
    where
      by_test : (b : Bool) → is_unknown (fates (if b then walk_behind start history before want started walks a ∷ walks else walks) x) ≡ false
      by_test true = known-more x (walk_behind start history before want started walks a) walks h
      by_test false = h

  of-known : (accesses : List Access) (walks : List Walk) (x : Access) → is_unknown (fates walks x) ≡ false → is_unknown (fates (walks_of start history before want started walks accesses) x) ≡ false
  of-known [] walks x h = h
  of-known (a ∷ accesses) walks x h =
      let now = walks_with start history before want started walks a in
      let here = with-more walks x a h in
      by_test (is_failing (fates now a)) now here (of-known accesses now x here)
    where
      by_test : (b : Bool) (some : List Walk) → is_unknown (fates some x) ≡ false → is_unknown (fates (walks_of start history before want started some accesses) x) ≡ false
          → is_unknown (fates (elim b as (λ _. List Walk) [ true ↦ some | false ↦ walks_of start history before want started some accesses ]) x) ≡ false
      by_test true some h k = h
      by_test false some h k = k

  are-known : (accesses : List Access) (walks : List Walk) → AreKnown (fates (walks_of start history before want started walks accesses)) accesses
  are-known [] walks = tt
  are-known (a ∷ accesses) walks =
      let now = walks_with start history before want started walks a in
      by_test now (is_failing (fates now a)) refl (of-known accesses now a (with-known walks a)) (are-known accesses now)
    where
      if-fails : (φ : Access → Fate) (b : Bool) → b ≡ true → IfPasses φ b (is_unknown (φ a)) (AreKnown φ accesses)
      if-fails φ true h = tt
      if-fails φ false h = absurd (false≢true h)

      by_test : (now : List Walk) (b : Bool) → is_failing (fates now a) ≡ b → is_unknown (fates (walks_of start history before want started now accesses) a) ≡ false → AreKnown (fates (walks_of start history before want started now accesses)) accesses
          → AreKnown (fates (elim b as (λ _. List Walk) [ true ↦ now | false ↦ walks_of start history before want started now accesses ])) (a ∷ accesses)
      by_test now true e known later = if-fails (fates now) (is_failing (fates now a)) e
      by_test now false e known later =
          let φ = fates (walks_of start history before want started now accesses) in
          any-passes φ (is_failing (φ a)) (is_unknown (φ a)) (AreKnown φ accesses) known later

  module _ (fetched : Each IsFetch (fetch_walks history)) (sound : Each (IsSound residency walked_before) walked_before) where
    -- ---- the walks of the batch

    own-one : (walks : List Walk) (a : Access) → Each (IsOwn walks) walks → Each (IsOwn (walks_with start history before want started walks a)) (walks_with start history before want started walks a)
    own-one walks a h = by_test (is_unknown (fates walks a))
      where
        w : Walk
        w = walk_behind start history before want started walks a

        by_test : (b : Bool) → Each (IsOwn (if b then w ∷ walks else walks)) (if b then w ∷ walks else walks)
        by_test true = (
          (refl, answers-so residency walks (fetch_walks history) walked_before fetched (walk_behind start history before want started walks a)),
          each-more (IsOwn walks) (IsOwn (walk_behind start history before want started walks a ∷ walks))
              (λ v k. (k.0, (sound-more residency (walks ++ walked_before) (walk_behind start history before want started walks a ∷ walks ++ walked_before) (more-one residency (walk_behind start history before want started walks a) (walks ++ walked_before)) (v ∷ []) (k.1, tt)).0))
              walks h,
        )
        by_test false = h

    own-all : (accesses : List Access) (walks : List Walk) → Each (IsOwn walks) walks → Each (IsOwn (walks_of start history before want started walks accesses)) (walks_of start history before want started walks accesses)
    own-all [] walks h = h
    own-all (a ∷ accesses) walks h =
        let now = walks_with start history before want started walks a in
        let here = own-one walks a h in
        by_test (is_failing (fates now a)) now here (own-all accesses now here)
      where
        by_test : (b : Bool) (some : List Walk) → Each (IsOwn some) some → Each (IsOwn (walks_of start history before want started some accesses)) (walks_of start history before want started some accesses)
            → Each (IsOwn (elim b as (λ _. List Walk) [ true ↦ some | false ↦ walks_of start history before want started some accesses ])) (elim b as (λ _. List Walk) [ true ↦ some | false ↦ walks_of start history before want started some accesses ])
        by_test true some h k = h
        by_test false some h k = k

    -- ---- the fates by them

    module _ (walks : List Walk) (own : Each (IsOwn walks) walks) (a : Access) where
      abbrev all_walks : List Walk
      all_walks = walks ++ walked_before

      walked-fated : is_refused a ≡ false → (w : Walk) → w.want ≡ want → page_of w.address ≡ page_of a.address → (answer : Walked) → Answers residency all_walks w answer → IsFated residency all_walks want a (fate_walked a w.ended answer)
      walked-fated accepted w is page (walked.Leaf frame perm dirty) h = record {
        accepted = accepted;
        granted = (λ j. lets residency (sym page j) (sym is j)) ∙ h.granted;
        stored = λ s. ap (λ n. is_dirty n (after_walks residency all_walks)) (sym page) ∙ h.stored (ap is_store is ∙ s);
      }
      walked-fated accepted w is page walked.Away h = λ e. absurd (true≢false e)
      walked-fated accepted w is page walked.Denied h = λ e. inr ((λ j. lets residency (sym page j) (sym is j)) ∙ h)

      by-walk-fated : is_refused a ≡ false → (o : Option Walk) → IfFound (λ w. IsOwn walks w × (is_of_page (page_of a.address) w ≡ true)) o → IsFated residency all_walks want a (fate_by_walk a o)
      by-walk-fated accepted None h = tt
      by-walk-fated accepted (Some w) h = walked-fated accepted w h.0.0 (eqb-true (page_of w.address) (page_of a.address) h.1) w.answer h.0.1

      looked-fated : is_refused a ≡ false → (look : Look) → Looks residency walked_before (page_of a.address) want look → IsFated residency all_walks want a (fate_looked started walks a look)
      looked-fated accepted (Hit frame) h = record { accepted = accepted; granted = h.granted; stored = λ s. more-before residency walks walked_before (page_of a.address) (h.stored s) }
      looked-fated accepted Denied h = λ e. inr h
      looked-fated accepted Miss h = by-walk-fated accepted (find (is_of_page (page_of a.address)) walks) (find-each (IsOwn walks) (is_of_page (page_of a.address)) walks own)

      fated : IsFated residency all_walks want a (fates walks a)
      fated = by_test (is_refused a) refl
        where
          by_test : (b : Bool) → is_refused a ≡ b → IsFated residency all_walks want a (if b then Fails started false else fate_looked started walks a (look_of start history before want started a))
          by_test true e = λ k. inl e
          by_test false e = looked-fated e (look_of start history before want started a) (looks-so residency walked_before walked_before (page_of a.address) want sound)

    -- the accesses of a batch
    pub looks : (accesses : List Access) →
        let walks = walks_of start history before want started [] accesses in
        IsLookedUp residency (walks ++ walked_before) want accesses (lowest_failure (judged (fates walks) [] accesses))
    looks accesses =
        let walks = walks_of start history before want started [] accesses in
        let own = own-all accesses [] tt in
        subst (IsLookedUp residency (walks ++ walked_before) want accesses) (sym (lowest-so (fates walks) accesses []))
        (looked-up (fates walks) residency (walks ++ walked_before) want (fated walks own) accesses (are-known accesses []))

    pub walks-sound : (accesses : List Access) →
        let walks = walks_of start history before want started [] accesses in
        Each (IsSound residency (walks ++ walked_before)) (walks ++ walked_before)
    walks-sound accesses =
        let walks = walks_of start history before want started [] accesses in
        each-append (IsSound residency (walks ++ walked_before)) walks walked_before
        (each-more (IsOwn walks) (IsSound residency (walks ++ walked_before)) (λ w h. h.1) walks (own-all accesses [] tt))
        (sound-more residency walked_before (walks ++ walked_before) (more-before residency walks walked_before) walked_before sound)
