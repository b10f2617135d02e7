-- Stamps and the serves that they stand for.
use Rattle.std.proofs.Common.{◌≡◌, ◌≢◌, ℕ, ◌+◌, ◌%◌, ◌<◌, true, false, max, None, inl, inr, List, [], ◌∷◌, ◌++◌, get_or, length, refl, sym, ap, ◌∙◌, subst, arith, get_or-set_same, get_or-set_other}
use Rattle.std.proofs.lemmas.List.{length-set}
use Rattle.std.specs.Prelude.{◌==◌, map, slice_set}
use Rattle.std.proofs.lemmas.Bool.{cases_Bool, eqb-true, eqb-false}
use Rattle.std.proofs.Math.Nat.{mod-lt}
use Rattle.vx_episode.specs.Batches.{Fate, Judged, Waiting, queue_cycle, queue_of, served_in_turn, served_at, serve_cycle, done_cycle, never_queued}
use Rattle.vx_episode.specs.Batches.Fate.{Good}
use Rattle.vx_episode.specs.Footprint.{Access}
use Rattle.vx_episode.specs.History.{AccessTimes, bank_of}
use Rattle.vx_episode.specs.Organisation.{Organisation}
use Rattle.vx_serve.specs.Serving.{Serves, done_by, failing_from}
use Rattle.vx_serve.specs.Stamps.{BankStamps, StandsFor, free_from}
use Rattle.vx_serve.specs.Turns.{done_at, served_on, served_all, done_all}
use Rattle.vx_serve.proofs.Judged.{plain}

free-same : (machine : Organisation) (bank : ℕ) (t : AccessTimes) (earlier : List AccessTimes) → (bank_of machine t.word == bank) ≡ true → free_from machine bank (t ∷ earlier) ≡ t.served + machine.bank_time
free-same machine bank t earlier is = rw is refl

free-other : (machine : Organisation) (bank : ℕ) (t : AccessTimes) (earlier : List AccessTimes) → (bank_of machine t.word == bank) ≡ false → free_from machine bank (t ∷ earlier) ≡ free_from machine bank earlier
free-other machine bank t earlier is = rw is refl

module _ (view : BankStamps) (machine : Organisation) (earlier : List AccessTimes) (stands : StandsFor view machine earlier) where
  bank-below : (word : ℕ) → word % machine.banks < machine.banks
  bank-below word =
      let some : 0 < machine.banks = rw stands.banks stands.some in
      mod-lt word some

  stamp-of : (word : ℕ) → get_or view.stamps (word % view.banks) 0 ≡ free_from machine (bank_of machine word) earlier
  stamp-of word =
      ap (λ n. get_or view.stamps (word % n) 0) (sym stands.banks) ∙ stands.are_free_from (word % machine.banks) (bank-below word)

  -- when an access is done
  pub done-served : (queued word : ℕ) → done_at view queued word ≡ done_cycle machine (serve_cycle machine earlier word queued)
  done-served queued word =
      λ i. max (queued + 1) (stamp-of word i) + sym stands.bank_time i

  stamps-served : (w : Waiting) (bank : ℕ) → bank < machine.banks
      → get_or (served_on view w.queued w.word).stamps bank 0 ≡ free_from machine bank (served_at machine (serve_cycle machine earlier w.word w.queued) w ∷ earlier)
  stamps-served w bank below =
      let t = served_at machine (serve_cycle machine earlier w.word w.queued) w in
      let place : w.word % view.banks ≡ bank_of machine w.word = ap (λ n. w.word % n) (sym stands.banks) in
      let within : bank < length view.stamps = omega (arith, stands.banks, stands.places) in
      elim (cases_Bool (bank_of machine w.word == bank)) [
        | inl is ↦
            let same : w.word % view.banks ≡ bank = place ∙ eqb-true (bank_of machine w.word) bank is in
            ap (λ n. get_or (slice_set view.stamps n (done_at view w.queued w.word)) bank 0) same
            ∙ get_or-set_same view.stamps bank (done_at view w.queued w.word) 0 within
            ∙ done-served w.queued w.word ∙ sym (free-same machine bank t earlier is)
        | inr differs ↦
            let apart : bank ≢ w.word % view.banks = λ same. eqb-false (bank_of machine w.word) bank differs (sym place ∙ sym same) in
            get_or-set_other view.stamps (w.word % view.banks) bank (done_at view w.queued w.word) 0 apart
            ∙ stands.are_free_from bank below ∙ sym (free-other machine bank t earlier differs)
      ]

  pub stands-served : (w : Waiting) → StandsFor (served_on view w.queued w.word) machine (served_at machine (serve_cycle machine earlier w.word w.queued) w ∷ earlier)
  stands-served w = record {
    banks = stands.banks;
    bank_time = stands.bank_time;
    some = stands.some;
    places = rw length-set stands.places;
    are_free_from = stamps-served w;
  }

-- the accesses of a queue in turn
pub all-served : (view : BankStamps) (machine : Organisation) (earlier now : List AccessTimes) (queue : List Waiting) → StandsFor view machine (now ++ earlier)
    → StandsFor (served_all view (map plain queue)) machine (served_in_turn machine earlier now queue ++ earlier)
all-served view machine earlier now [] stands = stands
all-served view machine earlier now (w ∷ queue) stands =
    all-served (served_on view w.queued w.word) machine earlier (served_at machine (serve_cycle machine (now ++ earlier) w.word w.queued) w ∷ now) queue
    (stands-served view machine (now ++ earlier) stands w)

pub all-done : (view : BankStamps) (machine : Organisation) (earlier now : List AccessTimes) (queue : List Waiting) → StandsFor view machine (now ++ earlier)
    → done_all view (done_by now) (map plain queue) ≡ done_by (served_in_turn machine earlier now queue)
all-done view machine earlier now [] stands = refl
all-done view machine earlier now (w ∷ queue) stands =
    ap (λ n. done_all (served_on view w.queued w.word) (max n (done_by now)) (map plain queue)) (done-served view machine (now ++ earlier) stands w.queued w.word)
    ∙ all-done (served_on view w.queued w.word) machine earlier (served_at machine (serve_cycle machine (now ++ earlier) w.word w.queued) w ∷ now) queue
    (stands-served view machine (now ++ earlier) stands w)

max-zero : (n : ℕ) → max n 0 ≡ n
max-zero n = omega arith

-- a batch of one access, which is judged so
abbrev lone : Access → Fate → List Judged
lone access fate = record { access = access; fate = fate; queued = queue_cycle [] fate } ∷ []

module _ (access : Access) (word : ℕ) where
  abbrev waits : (queued : ℕ) → Waiting
  waits queued = record { access = access; word = word; queued = queued }

  abbrev served_alone : Organisation → (earlier : List AccessTimes) → (queued : ℕ) → List AccessTimes
  served_alone machine earlier queued = served_at machine (serve_cycle machine earlier word queued) (waits queued) ∷ []

served-lone : (machine : Organisation) (earlier : List AccessTimes) (access : Access) (fate : Fate) (cycle word : ℕ) → fate ≡ Good cycle word
    → served_in_turn machine earlier [] (queue_of (lone access fate)) ≡ served_alone access word machine earlier cycle
served-lone machine earlier access fate cycle word is =
    ap (λ f. served_in_turn machine earlier [] (queue_of (lone access f))) is ∙ ap (served_alone access word machine earlier) (max-zero cycle)

-- a batch of one access
pub one-served : (view now : BankStamps) (machine : Organisation) (earlier : List AccessTimes) (access : Access) (fate : Access → Fate) (cycle word done : ℕ)
    → StandsFor view machine earlier → fate access ≡ Good cycle word → done ≡ done_at view cycle word → now ≡ served_on view cycle word
    → Serves now machine earlier fate (access ∷ []) (record { done = done; missing = 0; failing = None })
one-served view now machine earlier access fate cycle word done stands is is_done becomes =
    let path = served-lone machine earlier access (fate access) cycle word is in
    let after : StandsFor now machine (served_alone access word machine earlier cycle ++ earlier) =
    subst (λ v. StandsFor v machine (served_alone access word machine earlier cycle ++ earlier)) (sym becomes) (stands-served view machine earlier stands (waits access word cycle)) in
    record {
      stands = subst (λ (served : List AccessTimes). StandsFor now machine (served ++ earlier)) (sym path) after;
      done = is_done ∙ done-served view machine earlier stands cycle word ∙ sym (max-zero (done_cycle machine (serve_cycle machine earlier word cycle))) ∙ sym (ap done_by path);
      missing = sym (ap (λ f. length (never_queued false (lone access f))) is);
      failing = sym (ap (λ f. failing_from 0 (f ∷ [])) is);
    }
