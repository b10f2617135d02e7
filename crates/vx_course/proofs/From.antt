-- What comes from a cycle on: the batches of an instruction that is issued from then on.
use Rattle.std.proofs.Common.{◌≡◌, ℕ, ◌+◌, max, Bool, true, false, List, [], ◌∷◌, ◌++◌, refl, arith}
use Rattle.std.specs.Prelude.{nat_le, map, find, flat_map, reverse, Option, Some, if◌then◌else◌}
use Rattle.std.specs.List.{list_all, list_any}
use Rattle.std.proofs.lemmas.Bool.{and_parts, and_from, leb-true, leb-false, le-leb, lt-leb}
use Rattle.vx_base.specs.declared.machine.Want.{Want}
use Rattle.vx_tables.specs.Residency.{is_store}
use Rattle.vx_tables.specs.declared.look.Look.{Look}
use Rattle.vx_tables.specs.declared.look.Look.TheVariants.{Hit, Denied, Miss}
use Rattle.vx_tables.specs.declared.walked.Walked.{Walked}
use Rattle.vx_tables.specs.declared.walked.Walked.TheVariants as walked
use Rattle.vx_image.specs.Pages.{page_of}
use Rattle.vx_episode.specs.Batches.{Fate, Judged, Waiting, fate_walked, fate_by_walk, fate_looked, fate_of, look_of, is_of_page, is_refused, is_unknown, is_failing, fails_by, queued_to, unless_failed, queue_cycle, walks_end, walk_behind, walks_with, walks_of, judged, waiting_as, waiting_of, queue_of, served_at, serve_cycle, served_in_turn, start_cycle, commit_cycle, with_commit, batch_started, batch_times, all_batches, retired_batches}
use Rattle.vx_episode.specs.Batches.Fate.{Good, Fails, Unknown}
use Rattle.vx_episode.specs.Cycles.{Cycle, later, behind, later_of, latest, is_by}
use Rattle.vx_episode.specs.Cycles.Cycle.{At, Never}
use Rattle.vx_episode.specs.Footprint.{Access, Batch, Footprint}
use Rattle.vx_episode.specs.History.{History, Walk, BatchTimes, AccessTimes, last_retire, word_ready, last_passed, commit_before_last, batches_of, accesses_of, batch_done, walks_of_batches}
use Rattle.vx_episode.specs.Instructions.{walk_time}
use Rattle.vx_episode.specs.Ordered.{placed, ordered}
use Rattle.vx_episode.specs.Organisation.{Start, Organisation}
use Rattle.vx_course.proofs.Lists.{all-both, all-more, all-if, all-flat_map, all-reverse}

-- ---- cycles

-- it comes from a cycle on, or never
abbrev pub is_from : (n : ℕ) → Cycle → Bool
is_from n (At cycle) = nat_le n cycle
is_from n Never = true

pub from-late : (last : ℕ) (c : Cycle) → is_by last c ≡ false → is_from (last + 1) c ≡ true
from-late last (At c) h = let few = leb-false c last h in le-leb (last + 1) c (omega arith)
from-late last Never h = refl

pub late-from : (last : ℕ) (c : Cycle) → is_from (last + 1) c ≡ true → is_by last c ≡ false
late-from last (At c) h = let few = leb-true (last + 1) c h in lt-leb c last (omega arith)
late-from last Never h = refl

pub from-later : (n k : ℕ) (c : Cycle) → is_from n c ≡ true → is_from n (later k c) ≡ true
from-later n k (At c) h = let few = leb-true n c h in le-leb n (c + k) (omega arith)
from-later n k Never h = refl

pub from-first : (n : ℕ) (a b : Cycle) → is_from n a ≡ true → is_from n (later_of a b) ≡ true
from-first n (At a) (At b) h = let few = leb-true n a h in le-leb n (max a b) (omega arith)
from-first n (At a) Never h = refl
from-first n Never b h = refl

pub from-second : (n : ℕ) (a b : Cycle) → is_from n b ≡ true → is_from n (later_of a b) ≡ true
from-second n (At a) (At b) h = let few = leb-true n b h in le-leb n (max a b) (omega arith)
from-second n (At a) Never h = refl
from-second n Never b h = refl

-- ---- fates

-- what is known of an access isn't known before
abbrev is_good_from : (n : ℕ) → Fate → Bool
is_good_from n (Good cycle word) = nat_le n cycle
is_good_from n (Fails cycle is_away) = true
is_good_from n Unknown = true

fate-walked : (n : ℕ) (a : Access) (ended : ℕ) (answer : Walked) → nat_le n ended ≡ true → is_good_from n (fate_walked a ended answer) ≡ true
fate-walked n a ended (walked.Leaf frame perm dirty) h = h
fate-walked n a ended walked.Away h = refl
fate-walked n a ended walked.Denied h = refl

fate-if : (n : ℕ) (a : Access) (b : Bool) (w : Walk) (rest : Option Walk) → nat_le n w.ended ≡ true → is_good_from n (fate_by_walk a rest) ≡ true → is_good_from n (fate_by_walk a (if b then Some w else rest)) ≡ true
fate-if n a true w rest h k = fate-walked n a w.ended w.answer h
fate-if n a false w rest h k = k

fate-found : (n : ℕ) (a : Access) (p : Walk → Bool) (walks : List Walk) → list_all (λ (w : Walk). nat_le n w.ended) walks ≡ true → is_good_from n (fate_by_walk a (find p walks)) ≡ true
fate-found n a p [] h = refl
fate-found n a p (w ∷ walks) h =
    let parts = and_parts (nat_le n w.ended) (list_all (λ (w : Walk). nat_le n w.ended) walks) h in
    fate-if n a (p w) w (find p walks) parts.0 (fate-found n a p walks parts.1)

fate-looked : (n started : ℕ) (walks : List Walk) (a : Access) (look : Look) → nat_le n started ≡ true → list_all (λ (w : Walk). nat_le n w.ended) walks ≡ true → is_good_from n (fate_looked started walks a look) ≡ true
fate-looked n started walks a (Hit frame) h all = h
fate-looked n started walks a Denied h all = refl
fate-looked n started walks a Miss h all = fate-found n a (is_of_page (page_of a.address)) walks all

fate-refused : (n : ℕ) (b : Bool) (x y : Fate) → is_good_from n x ≡ true → is_good_from n y ≡ true → is_good_from n (if b then x else y) ≡ true
fate-refused n true x y h k = h
fate-refused n false x y h k = k

by-cases : {A : Type 0} (P : A → Type 0) (b : Bool) (x y : A) → P x → P y → P (elim b as (λ _. A) [ true ↦ x | false ↦ y ])
by-cases P true x y p q = p
by-cases P false x y p q = q

module _ (start : Start) (history : History) (before : List BatchTimes) (want : Want) (started n : ℕ) (few : nat_le n started ≡ true) where
  fate-from : (walks : List Walk) (a : Access) → list_all (λ (w : Walk). nat_le n w.ended) walks ≡ true → is_good_from n (fate_of start history before want started walks a) ≡ true
  fate-from walks a h =
      fate-refused n (is_refused a) (Fails started false) (fate_looked started walks a (look_of start history before want started a)) refl
      (fate-looked n started walks a (look_of start history before want started a) few h)

  -- ---- walks

  end-from : (walks : List Walk) → list_all (λ (w : Walk). nat_le n w.ended) walks ≡ true → nat_le n (walks_end started walks) ≡ true
  end-from [] h = few
  end-from (w ∷ walks) h = (and_parts (nat_le n w.ended) (list_all (λ (w : Walk). nat_le n w.ended) walks) h).0

  with-from : (b : Bool) (walks : List Walk) (a : Access) → list_all (λ (w : Walk). nat_le n w.ended) walks ≡ true → list_all (λ (w : Walk). nat_le n w.ended) (if b then walk_behind start history before want started walks a ∷ walks else walks) ≡ true
  with-from true walks a h =
      let low = leb-true n (walks_end started walks) (end-from walks h) in
      and_from (nat_le n (walks_end started walks + walk_time start.machine)) (list_all (λ (w : Walk). nat_le n w.ended) walks) (le-leb n (walks_end started walks + walk_time start.machine) (omega arith)) h
  with-from false walks a h = h

  walks-from : (accesses : List Access) (walks : List Walk) → list_all (λ (w : Walk). nat_le n w.ended) walks ≡ true → list_all (λ (w : Walk). nat_le n w.ended) (walks_of start history before want started walks accesses) ≡ true
  walks-from [] walks h = h
  walks-from (a ∷ accesses) walks h =
      let next : List Walk = walks_with start history before want started walks a in
      let here : list_all (λ (w : Walk). nat_le n w.ended) next ≡ true = with-from (is_unknown (fate_of start history before want started walks a)) walks a h in
      by-cases (λ (walks : List Walk). list_all (λ (w : Walk). nat_le n w.ended) walks ≡ true) (is_failing (fate_of start history before want started next a)) next (walks_of start history before want started next accesses) here (walks-from accesses next here)

-- ---- the queue

from-if : (n : ℕ) (b : Bool) (c : Cycle) → is_from n c ≡ true → is_from n (if b then Never else c) ≡ true
from-if n true c h = refl
from-if n false c h = h

unless-from : (n : ℕ) (lower : List Judged) (c : Cycle) → is_from n c ≡ true → is_from n (unless_failed lower c) ≡ true
unless-from n lower (At c) h = from-if n (list_any (λ (j : Judged). fails_by c j.fate) lower) (At c) h
unless-from n lower Never h = refl

queue-from : (n : ℕ) (lower : List Judged) (fate : Fate) → is_good_from n fate ≡ true → is_from n (queue_cycle lower fate) ≡ true
queue-from n lower (Good cycle word) h = unless-from n lower (latest (At cycle ∷ queued_to word lower)) (from-first n (At cycle) (latest (queued_to word lower)) h)
queue-from n lower (Fails cycle is_away) h = refl
queue-from n lower Unknown h = refl

judged-from : (n : ℕ) (fate : Access → Fate) → ((a : Access) → is_good_from n (fate a) ≡ true) → (accesses : List Access) (lower : List Judged) → list_all (λ (j : Judged). is_from n j.queued) lower ≡ true
    → list_all (λ (j : Judged). is_from n j.queued) (judged fate lower accesses) ≡ true
judged-from n fate each [] lower h = h
judged-from n fate each (a ∷ accesses) lower h =
    judged-from n fate each accesses (record { access = a; fate = fate a; queued = queue_cycle lower (fate a) } ∷ lower)
    (and_from (is_from n (queue_cycle lower (fate a))) (list_all (λ (j : Judged). is_from n j.queued) lower) (queue-from n lower (fate a) (each a)) h)

waiting-from : (n : ℕ) (a : Access) (fate : Fate) (c : Cycle) → is_from n c ≡ true → list_all (λ (w : Waiting). nat_le n w.queued) (waiting_as a fate c) ≡ true
waiting-from n a (Good known word) (At c) h = and_from (nat_le n c) true h refl
waiting-from n a (Good known word) Never h = refl
waiting-from n a (Fails known is_away) c h = refl
waiting-from n a Unknown c h = refl

all-placed : {A : Type 0} (p : A → Bool) (number : A → ℕ) (a : A) (items : List A) → p a ≡ true → list_all p items ≡ true → list_all p (placed number a items) ≡ true
all-placed p number a [] h k = and_from (p a) true h refl
all-placed p number a (b ∷ items) h k =
    let parts = and_parts (p b) (list_all p items) k in
    all-if p (nat_le (number a) (number b)) (a ∷ b ∷ items) (b ∷ placed number a items)
    (and_from (p a) (list_all p (b ∷ items)) h k)
    (and_from (p b) (list_all p (placed number a items)) parts.0 (all-placed p number a items h parts.1))

all-ordered : {A : Type 0} (p : A → Bool) (number : A → ℕ) (items : List A) → list_all p items ≡ true → list_all p (ordered number items) ≡ true
all-ordered p number [] h = refl
all-ordered p number (a ∷ items) h =
    let parts = and_parts (p a) (list_all p items) h in
    all-placed p number a (ordered number items) parts.0 (all-ordered p number items parts.1)

queue-all : (n : ℕ) (js : List Judged) → list_all (λ (j : Judged). is_from n j.queued) js ≡ true → list_all (λ (w : Waiting). nat_le n w.queued) (queue_of js) ≡ true
queue-all n js h =
    all-ordered (λ (w : Waiting). nat_le n w.queued) (λ (w : Waiting). w.queued) (flat_map waiting_of (reverse js))
    (all-flat_map (λ (w : Waiting). nat_le n w.queued) waiting_of (reverse js)
    (all-more (λ (j : Judged). is_from n j.queued) (λ (j : Judged). list_all (λ (w : Waiting). nat_le n w.queued) (waiting_of j)) (λ j one. waiting-from n j.access j.fate j.queued one) (reverse js)
    (all-reverse (λ (j : Judged). is_from n j.queued) js h)))

served-from : (n : ℕ) (machine : Organisation) (earlier now : List AccessTimes) (queue : List Waiting) → list_all (λ (a : AccessTimes). nat_le n a.queued) now ≡ true → list_all (λ (w : Waiting). nat_le n w.queued) queue ≡ true
    → list_all (λ (a : AccessTimes). nat_le n a.queued) (served_in_turn machine earlier now queue) ≡ true
served-from n machine earlier now [] h k = h
served-from n machine earlier now (w ∷ queue) h k =
    let parts = and_parts (nat_le n w.queued) (list_all (λ (w : Waiting). nat_le n w.queued) queue) k in
    served-from n machine earlier (served_at machine (serve_cycle machine (now ++ earlier) w.word w.queued) w ∷ now) queue
    (and_from (nat_le n w.queued) (list_all (λ (a : AccessTimes). nat_le n a.queued) now) parts.0 h) parts.1

-- ---- a batch

-- all that batches did comes from a cycle on
pub record AreFrom (n : ℕ) (batches : List BatchTimes) : Type 0 where
  pub looked_up : list_all (λ (b : BatchTimes). is_from n b.looked_up) batches ≡ true
  pub committed : list_all (λ (b : BatchTimes). is_from n b.committed) batches ≡ true
  pub walks : list_all (λ (w : Walk). nat_le n w.ended) (walks_of_batches batches) ≡ true
  pub queued : list_all (λ (a : AccessTimes). nat_le n a.queued) (accesses_of batches) ≡ true

record IsFrom (n : ℕ) (b : BatchTimes) : Type 0 where
  looked_up : is_from n b.looked_up ≡ true
  walks : list_all (λ (w : Walk). nat_le n w.ended) b.walks ≡ true
  queued : list_all (λ (a : AccessTimes). nat_le n a.queued) b.accesses ≡ true

none-from : (n : ℕ) → AreFrom n []
none-from n = record { looked_up = refl; committed = refl; walks = refl; queued = refl }

module _ (start : Start) (history : History) (n : ℕ) where
  commit-from : (own : List BatchTimes) (b : BatchTimes) → is_from n b.looked_up ≡ true → is_from n (commit_cycle start history (map (λ (o : BatchTimes). o.looked_up) (b ∷ own)) (batch_done (b ∷ own))) ≡ true
  commit-from own b h =
      let rest : Cycle = latest (map (λ (o : BatchTimes). o.looked_up) own ++ batch_done (b ∷ own)) in
      from-second n (behind (last_retire start.cycle history)) (later_of b.looked_up rest) (from-first n b.looked_up rest h)

  more-from : (own : List BatchTimes) (b : BatchTimes) → AreFrom n own → IsFrom n b → AreFrom n (with_commit start history own b)
  more-from own b are is =
      let commit : Cycle = commit_cycle start history (map (λ (o : BatchTimes). o.looked_up) (b ∷ own)) (batch_done (b ∷ own)) in
      record {
        looked_up = and_from (is_from n b.looked_up) (list_all (λ (b : BatchTimes). is_from n b.looked_up) own) is.looked_up are.looked_up;
        committed = and_from (is_from n commit) (list_all (λ (b : BatchTimes). is_from n b.committed) own) (commit-from own b is.looked_up) are.committed;
        walks = all-both (λ (w : Walk). nat_le n w.ended) b.walks (walks_of_batches own) is.walks are.walks;
        queued = all-both (λ (a : AccessTimes). nat_le n a.queued) b.accesses (accesses_of own) is.queued are.queued;
      }

  module _ (issued : Cycle) (late : is_from n issued ≡ true) (f : Footprint) where
    start-from : (before : List BatchTimes) (b : Batch) → is_from n (start_cycle start history before issued f.want b) ≡ true
    start-from before b =
        let last = map behind (last_passed before) in
        let commit = map behind (commit_before_last before) in
        let words = map (word_ready start.cycle history) b.sources in
        let store : List Cycle = if is_store f.want then behind (last_retire start.cycle history) ∷ [] else [] in
        from-first n (behind issued) (latest (last ++ commit ++ words ++ store)) (from-later n 1 issued late)

    judged-is-from : (before : List BatchTimes) (b : Batch) (s : ℕ) → nat_le n s ≡ true → IsFrom n (batch_started start history before f b (At s))
    judged-is-from before b s few =
        let walks : List Walk = walks_of start history before f.want s [] b.accesses in
        let ended : list_all (λ (w : Walk). nat_le n w.ended) walks ≡ true = walks-from start history before f.want s n few b.accesses [] refl in
        let js : List Judged = judged (fate_of start history before f.want s walks) [] b.accesses in
        let queued : list_all (λ (j : Judged). is_from n j.queued) js ≡ true =
        judged-from n (fate_of start history before f.want s walks) (λ a. fate-from start history before f.want s n few walks a ended) b.accesses [] refl in
        record {
          looked_up = end-from start history before f.want s n few walks ended;
          walks = ended;
          queued = served-from n start.machine (accesses_of before) [] (queue_of js) refl (queue-all n js queued);
        }

    started-is-from : (before : List BatchTimes) (b : Batch) (c : Cycle) → is_from n c ≡ true → IsFrom n (batch_started start history before f b c)
    started-is-from before b (At s) h = judged-is-from before b s h
    started-is-from before b Never h = record { looked_up = refl; walks = refl; queued = refl }

    -- ---- the batches of an instruction

    batches-are-from : (batches : List Batch) (own : List BatchTimes) → AreFrom n own → AreFrom n (all_batches start history own issued f batches)
    batches-are-from [] own are = are
    batches-are-from (b ∷ batches) own are =
        let before : List BatchTimes = own ++ batches_of history in
        let times : BatchTimes = batch_times start history before issued f b in
        let now : AreFrom n (with_commit start history own times) = more-from own times are (started-is-from before b (start_cycle start history before issued f.want b) (start-from before b)) in
        by-cases (AreFrom n) times.is_trimmed (with_commit start history own times) (all_batches start history (with_commit start history own times) issued f batches) now
        (batches-are-from batches (with_commit start history own times) now)

    pub all-from : AreFrom n (all_batches start history [] issued f f.batches)
    all-from = batches-are-from f.batches [] (none-from n)

pub retired-from : (n : ℕ) (retired : Cycle) (batches : List BatchTimes) → is_from n retired ≡ true → AreFrom n batches → AreFrom n (retired_batches retired batches)
retired-from n retired [] h are = are
retired-from n retired (b ∷ batches) h are = record {
  looked_up = are.looked_up;
  committed = and_from (is_from n retired) (list_all (λ (b : BatchTimes). is_from n b.committed) batches) h (and_parts (is_from n b.committed) (list_all (λ (b : BatchTimes). is_from n b.committed) batches) are.committed).1;
  walks = are.walks;
  queued = are.queued;
}
