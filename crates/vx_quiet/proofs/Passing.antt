-- The batches of an instruction: where the last has passed by a cycle, so have those before it, and their walks have ended.
use Rattle.std.proofs.Common.{◌≡◌, ℕ, ◌+◌, ◌≤◌, ◌<◌, Bool, true, false, List, [], ◌∷◌, ◌++◌, length, refl, ap, ◌∙◌, arith}
use Rattle.std.specs.Prelude.{nat_le, map, if◌then◌else◌}
use Rattle.std.specs.List.{list_all}
use Rattle.std.proofs.lemmas.Bool.{and_parts, and_from, false≢true, leb-true, le-leb}
use Rattle.vx_base.specs.declared.machine.Want.{Want}
use Rattle.vx_tables.specs.Residency.{is_store}
use Rattle.vx_episode.specs.Batches.{Judged, fate_of, is_unknown, is_failing, walks_end, walk_behind, walks_with, walks_of, judged, queue_of, start_cycle, commit_cycle, with_commit, batch_judged, batch_started, batch_times, all_batches}
use Rattle.vx_episode.specs.Cycles.{Cycle, behind, is_by}
use Rattle.vx_episode.specs.Cycles.Cycle.{At, Never}
use Rattle.vx_episode.specs.Footprint.{Access, Batch, Footprint}
use Rattle.vx_episode.specs.History.{History, Walk, BatchTimes, AccessTimes, last_retire, word_ready, stops, passed, last_passed, commit_before_last, batches_of, accesses_of, missing_of, batch_done, walks_of_batches}
use Rattle.vx_episode.specs.Organisation.{Start}
use Rattle.vx_quiet.proofs.Accesses.{is_served, served-all, done-from}
use Rattle.vx_quiet.proofs.Times.{all-both, all-parts, all-more, behind-all, by-latest, by-more, all-by-more, latest-at, le-more, behind-by, at-by}

-- ---- walks end one behind another

-- each has ended by the end of the last, which isn't before the start
record AreInTurn (started : ℕ) (walks : List Walk) : Type 0 where
  from : started ≤ walks_end started walks
  each : list_all (λ (w : Walk). nat_le w.ended (walks_end started walks)) walks ≡ true

ended-more : (k n : ℕ) → k ≤ n → (walks : List Walk) → list_all (λ (w : Walk). nat_le w.ended k) walks ≡ true → list_all (λ (w : Walk). nat_le w.ended n) walks ≡ true
ended-more k n few walks h = all-more (λ (w : Walk). nat_le w.ended k) (λ (w : Walk). nat_le w.ended n) (λ w one. le-more k n w.ended few one) walks h

turn-more : (started : ℕ) (walks : List Walk) (w : Walk) → walks_end started walks ≤ w.ended → AreInTurn started walks → AreInTurn started (w ∷ walks)
turn-more started walks w few turn = record {
  from = let from = turn.from in omega arith;
  each = and_from (nat_le w.ended w.ended) (list_all (λ (v : Walk). nat_le v.ended w.ended) walks) (le-leb w.ended w.ended (omega arith)) (ended-more (walks_end started walks) w.ended few walks turn.each);
}

by-cases : {A : Type 0} (P : A → Type 0) (b : Bool) (x y : A) → P x → P y → P (elim b as (λ _. A) [ true ↦ x | false ↦ y ])
by-cases P true x y p q = p
by-cases P false x y p q = q

module _ (start : Start) (history : History) (before : List BatchTimes) (want : Want) (started : ℕ) where
  with-turn : (walks : List Walk) (a : Access) (b : Bool) → AreInTurn started walks → AreInTurn started (if b then walk_behind start history before want started walks a ∷ walks else walks)
  with-turn walks a true turn = turn-more started walks (walk_behind start history before want started walks a) (omega arith) turn
  with-turn walks a false turn = turn

  turn-all : (accesses : List Access) (walks : List Walk) → AreInTurn started walks → AreInTurn started (walks_of start history before want started walks accesses)
  turn-all [] walks turn = turn
  turn-all (a ∷ accesses) walks turn =
      let next : List Walk = walks_with start history before want started walks a in
      let here : AreInTurn started next = with-turn walks a (is_unknown (fate_of start history before want started walks a)) turn in
      by-cases (AreInTurn started) (is_failing (fate_of start history before want started next a)) next (walks_of start history before want started next accesses) here (turn-all accesses next here)

none-walked : (started : ℕ) → AreInTurn started []
none-walked started = record { from = omega arith; each = refl }

-- ---- one batch behind others

empty-parts : {A : Type 0} (xs ys : List A) → xs ++ ys ≡ [] → ys ≡ []
empty-parts [] ys e = e
empty-parts (x ∷ xs) ys e = absurd (omega (arith, ap length e))

passed-looked_up : (k : ℕ) (b : Bool) (c : Cycle) → is_by k (if b then Never else c) ≡ true → is_by k c ≡ true
passed-looked_up k true c h = absurd (false≢true h)
passed-looked_up k false c h = h

looked_up-all : (k : ℕ) (batches : List BatchTimes) → list_all (λ (b : BatchTimes). is_by k (passed b)) batches ≡ true → list_all (is_by k) (map (λ (b : BatchTimes). b.looked_up) batches) ≡ true
looked_up-all k [] h = refl
looked_up-all k (b ∷ batches) h =
    let parts = and_parts (is_by k (passed b)) (list_all (λ (b : BatchTimes). is_by k (passed b)) batches) h in
    and_from (is_by k b.looked_up) (list_all (is_by k) (map (λ (b : BatchTimes). b.looked_up) batches)) (passed-looked_up k (stops b) b.looked_up parts.0) (looked_up-all k batches parts.1)

-- batches are over once the last has passed and their accesses are done, none of which is missing
pub record ArePassing (bank_time retired : ℕ) (own : List BatchTimes) : Type 0 where
  pub passing : (k : ℕ) → list_all (is_by k) (last_passed own) ≡ true → (list_all (λ (b : BatchTimes). is_by k (passed b)) own ≡ true) × (list_all (λ (w : Walk). nat_le w.ended k) (walks_of_batches own) ≡ true)
  pub served : list_all (is_served bank_time) (accesses_of own) ≡ true
  pub committing : (k : ℕ) → retired < k → list_all (λ (b : BatchTimes). is_by k (passed b)) own ≡ true → list_all (λ (a : AccessTimes). nat_le a.done k) (accesses_of own) ≡ true → missing_of own ≡ []
      → list_all (λ (b : BatchTimes). is_by k b.committed) own ≡ true

-- a batch starts behind the look-ups of the one before, and its walks end with its look-ups
record IsBehind (bank_time : ℕ) (own : List BatchTimes) (b : BatchTimes) : Type 0 where
  passing : (k : ℕ) → is_by k (passed b) ≡ true → (list_all (is_by k) (last_passed own) ≡ true) × (list_all (λ (w : Walk). nat_le w.ended k) b.walks ≡ true)
  served : list_all (is_served bank_time) b.accesses ≡ true

commit-by : (start : Start) (history : History) (own : List BatchTimes) (b : BatchTimes) (r k : ℕ) → last_retire start.cycle history ≡ At r → r < k → list_all (λ (o : BatchTimes). is_by k (passed o)) (b ∷ own) ≡ true
    → list_all (λ (a : AccessTimes). nat_le a.done k) (accesses_of (b ∷ own)) ≡ true → missing_of (b ∷ own) ≡ []
    → is_by k (commit_cycle start history (map (λ (o : BatchTimes). o.looked_up) (b ∷ own)) (batch_done (b ∷ own))) ≡ true
commit-by start history own b r k last few passing done missing =
    let looked_up = map (λ (o : BatchTimes). o.looked_up) (b ∷ own) in
    let next : r + 1 ≤ k = omega arith in
    let before : is_by k (behind (last_retire start.cycle history)) ≡ true = by-more (r + 1) k next (behind (last_retire start.cycle history)) (behind-by r (last_retire start.cycle history) (at-by r (last_retire start.cycle history) last)) in
    by-latest k (behind (last_retire start.cycle history) ∷ looked_up ++ batch_done (b ∷ own))
    ∙ and_from (is_by k (behind (last_retire start.cycle history))) (list_all (is_by k) (looked_up ++ batch_done (b ∷ own))) before
    (all-both (is_by k) looked_up (batch_done (b ∷ own)) (looked_up-all k (b ∷ own) passing) (done-from k (accesses_of (b ∷ own)) (missing_of (b ∷ own)) done missing))

passing-more : (start : Start) (history : History) (own : List BatchTimes) (b : BatchTimes) (r : ℕ) → last_retire start.cycle history ≡ At r → ArePassing start.machine.bank_time r own → IsBehind start.machine.bank_time own b
    → ArePassing start.machine.bank_time r (with_commit start history own b)
passing-more start history own b r last own-passing here = record {
  passing = λ k h.
      let head : is_by k (passed b) ≡ true = (and_parts (is_by k (passed b)) true h).0 in
      let now = here.passing k head in
      let before = own-passing.passing k now.0 in
      (and_from (is_by k (passed b)) (list_all (λ (b : BatchTimes). is_by k (passed b)) own) head before.0, all-both (λ (w : Walk). nat_le w.ended k) b.walks (walks_of_batches own) now.1 before.1);
  served = all-both (is_served start.machine.bank_time) b.accesses (accesses_of own) here.served own-passing.served;
  committing = λ k few passing done missing.
      let parts = and_parts (is_by k (passed b)) (list_all (λ (b : BatchTimes). is_by k (passed b)) own) passing in
      let accesses = all-parts (λ (a : AccessTimes). nat_le a.done k) b.accesses (accesses_of own) done in
      and_from (is_by k (commit_cycle start history (map (λ (o : BatchTimes). o.looked_up) (b ∷ own)) (batch_done (b ∷ own)))) (list_all (λ (b : BatchTimes). is_by k b.committed) own)
      (commit-by start history own b r k last few passing done missing)
      (own-passing.committing k few parts.1 accesses.1 (empty-parts b.missing (missing_of own) missing));
}

-- ---- the batches of an instruction

-- the last of some batches before others
last-of : (k : ℕ) (own others : List BatchTimes) → list_all (is_by k) (last_passed (own ++ others)) ≡ true → list_all (is_by k) (last_passed own) ≡ true
last-of k [] others h = refl
last-of k (b ∷ own) others h = h

started-behind : (start : Start) (history : History) (own : List BatchTimes) (issued : Cycle) (want : Want) (b : Batch) (s : ℕ) → start_cycle start history (own ++ batches_of history) issued want b ≡ At s → list_all (is_by s) (last_passed own) ≡ true
started-behind start history own issued want b s e =
    let before : List BatchTimes = own ++ batches_of history in
    let p = is_by s in
    let last = map behind (last_passed before) in
    let commit = map behind (commit_before_last before) in
    let words = map (word_ready start.cycle history) b.sources in
    let store : List Cycle = if is_store want then behind (last_retire start.cycle history) ∷ [] else [] in
    let all : list_all p (behind issued ∷ last ++ commit ++ words ++ store) ≡ true = latest-at s (behind issued ∷ last ++ commit ++ words ++ store) e in
    let rest = (and_parts (p (behind issued)) (list_all p (last ++ commit ++ words ++ store)) all).1 in
    let first = (all-parts p (last ++ commit ++ words) store rest).0 in
    let second = (all-parts p (last ++ commit) words first).0 in
    let third = (all-parts p last commit second).0 in
    last-of s own (batches_of history) (behind-all s (last_passed before) third)

module _ (start : Start) (history : History) (own : List BatchTimes) (issued : Cycle) (f : Footprint) (b : Batch) where
  judged-behind : (s : ℕ) (js : List Judged) → start_cycle start history (own ++ batches_of history) issued f.want b ≡ At s
      → IsBehind start.machine.bank_time own (batch_judged start history (own ++ batches_of history) s f b (walks_of start history (own ++ batches_of history) f.want s [] b.accesses) js)
  judged-behind s js e =
      let before : List BatchTimes = own ++ batches_of history in
      let walks : List Walk = walks_of start history before f.want s [] b.accesses in
      let turn : AreInTurn s walks = turn-all start history before f.want s b.accesses [] (none-walked s) in
      let times : BatchTimes = batch_judged start history before s f b walks js in
      record {
        passing = λ k h.
            let ended = leb-true (walks_end s walks) k (passed-looked_up k (stops times) (At (walks_end s walks)) h) in
            let from = turn.from in
            let few : s ≤ k = omega arith in
            (all-by-more s k few (last_passed own) (started-behind start history own issued f.want b s e), ended-more (walks_end s walks) k ended walks turn.each);
        served = served-all start.machine (accesses_of before) [] (queue_of js) refl;
      }

  started-is-behind : (c : Cycle) → start_cycle start history (own ++ batches_of history) issued f.want b ≡ c → IsBehind start.machine.bank_time own (batch_started start history (own ++ batches_of history) f b c)
  started-is-behind (At s) e = judged-behind s (judged (fate_of start history (own ++ batches_of history) f.want s (walks_of start history (own ++ batches_of history) f.want s [] b.accesses)) [] b.accesses) e
  started-is-behind Never e = record { passing = λ k h. absurd (false≢true h); served = refl }

none-passing : (bank_time r : ℕ) → ArePassing bank_time r []
none-passing bank_time r = record { passing = λ k h. (refl, refl); served = refl; committing = λ k few passing done missing. refl }

passing-all : (start : Start) (history : History) (issued : Cycle) (f : Footprint) (r : ℕ) → last_retire start.cycle history ≡ At r → (batches : List Batch) (own : List BatchTimes)
    → ArePassing start.machine.bank_time r own → ArePassing start.machine.bank_time r (all_batches start history own issued f batches)
passing-all start history issued f r last [] own passing = passing
passing-all start history issued f r last (b ∷ batches) own passing =
    let times : BatchTimes = batch_times start history (own ++ batches_of history) issued f b in
    let now : ArePassing start.machine.bank_time r (with_commit start history own times) =
    passing-more start history own times r last passing (started-is-behind start history own issued f b (start_cycle start history (own ++ batches_of history) issued f.want b) refl) in
    by-cases (ArePassing start.machine.bank_time r) times.is_trimmed (with_commit start history own times) (all_batches start history (with_commit start history own times) issued f batches) now
    (passing-all start history issued f r last batches (with_commit start history own times) now)

pub batches-passing : (start : Start) (history : History) (issued : Cycle) (f : Footprint) (r : ℕ) → last_retire start.cycle history ≡ At r → ArePassing start.machine.bank_time r (all_batches start history [] issued f f.batches)
batches-passing start history issued f r last = passing-all start history issued f r last f.batches [] (none-passing start.machine.bank_time r)
