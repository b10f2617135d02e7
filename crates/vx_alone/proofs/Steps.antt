-- Steps of a process up to its end or to a service, one by one.
use Rattle.std.proofs.Common.{◌≡◌, ℕ, zero, suc, ◌+◌, ◌<◌, ◌≤◌, Bool, Option, None, Some, true, false, if◌then◌else◌, refl, sym, ap, subst, ◌∙◌, ⊎_elim, arith}
use Rattle.std.proofs.lemmas.Bool.{false≢true, cases_lt}
use Rattle.std.proofs.lemmas.Option.{none-some}
use Rattle.std.specs.Prelude.{is_some}
use Rattle.vx_base.specs.Faults.{one_more}
use Rattle.vx_base.specs.declared.machine.Fault.{Fault}
use Rattle.vx_flat.specs.Outcome.{Outcome}
use Rattle.vx_flat.specs.Outcome.Outcome.{Next, Faulted}
use Rattle.vx_flat.specs.Process.{Process, after, stepped, stepped_on}
use Rattle.vx_flat.specs.State.{Flat}
use Rattle.vx_flat.specs.Step.{upcoming, performed}
use Rattle.vx_flat.specs.declared.end.End.{End}
use Rattle.vx_flat.specs.declared.end.End.TheVariants as end
use Rattle.vx_hart.specs.Asking.{asks, class_next, is_service}
use Rattle.vx_hart.specs.Outcomes.{outcome_next, outcome_of}
use Rattle.vx_hart.specs.declared.progress.Progress.TheVariants as progress
use Rattle.vx_rows.specs.declared.row.Class.{Class}
use Rattle.vx_alone.specs.Advances.{Advances, IsBefore}
use Rattle.vx_alone.specs.Settled.{process_of}

-- the process has taken so many steps, each of which completed an instruction
pub record IsOnItsWay (before : Process) (steps : ℕ) (now : Process) : Type 0 where
  pub reached : now ≡ stepped_on steps before
  pub going : (k : ℕ) → k < steps → IsBefore (stepped_on k before) false

pub starts : (s : Flat) (n m : ℕ) (over : Option End) → over ≡ None → m ≡ n → IsOnItsWay (process_of s n over) 0 (process_of s m None)
starts s n m over running same = record { reached = λ i. process_of s (same i) (sym running i); going = λ k below. absurd (omega (arith, below)) }

-- what came next was done, or it asks
done-by : (b : Bool) (o p : Outcome) → Some o ≡ (if b then None else Some p) → (b ≡ false) × (p ≡ o)
done-by true o p e = absurd (none-some o (sym e))
done-by false o p e = (refl, cc)

asks-by : (b : Bool) (p : Outcome) → None ≡ (if b then None else Some p) → b ≡ true
asks-by true p e = refl
asks-by false p e = absurd (none-some p e)

-- before one step more, too, the process went on
going-on : (before now : Process) (steps : ℕ) → IsOnItsWay before steps now → IsBefore now false → (k : ℕ) → k < suc steps → IsBefore (stepped_on k before) false
going-on before now steps way here k under =
    ⊎_elim
    (λ (early : k < steps). way.going k early)
    (λ (late : steps ≤ k).
    let same : steps ≡ k = omega (arith, late, under) in
    let P : Process → Type 0 = λ p. IsBefore p false in
    let Q : ℕ → Type 0 = λ j. IsBefore (stepped_on j before) false in
    subst Q same (subst P way.reached here))
    (cases_lt k steps)

module _ (before : Process) (steps : ℕ) (s t : Flat) (n : ℕ) (f : Fault) (way : IsOnItsWay before steps (process_of s n None)) where
  here : is_service (upcoming s) ≡ false → IsBefore (process_of s n None) false
  here plain = record { running = refl; service = plain }

  -- a step that completes an instruction
  pub more : (m : ℕ) → m ≡ one_more n → outcome_of progress.Completed f t ≡ outcome_next s (upcoming s) → IsOnItsWay before (steps + 1) (process_of t m None)
  more m counted done =
      let was = done-by (is_service (upcoming s)) (Next t) (performed s (upcoming s)) done in
      let made : stepped (process_of s n None) ≡ process_of t (one_more n) None = ap (after (process_of s n None)) was.1 in
      let P : ℕ → Type 0 = λ k. IsOnItsWay before k (process_of t m None) in
      let next : suc steps ≡ steps + 1 = omega arith in
      subst P next (record {
        reached = ap (λ (k : ℕ). process_of t k None) counted ∙ sym made ∙ ap stepped way.reached;
        going = going-on before (process_of s n None) steps way (here was.0);
      })

  -- one that faults
  pub faults : (most m : ℕ) → steps < most → m ≡ n → outcome_of progress.Faulted f t ≡ outcome_next s (upcoming s) → Advances most before (process_of t m (Some (end.Faulted f))) false
  faults most m below same done =
      let was = done-by (is_service (upcoming s)) (Faulted f t) (performed s (upcoming s)) done in
      let made : stepped (process_of s n None) ≡ process_of t n (Some (end.Faulted f)) = ap (after (process_of s n None)) was.1 in
      record {
        steps = suc steps;
        bounded = omega (arith, below);
        reached = ap (λ (k : ℕ). process_of t k (Some (end.Faulted f))) same ∙ sym made ∙ ap stepped way.reached;
        going = going-on before (process_of s n None) steps way (here was.0);
        early = λ e. absurd (false≢true e);
        asking = λ e. absurd (false≢true e);
        stopped = λ e none. absurd (none-some _ (sym none));
      }

  -- what comes next asks for a service
  pub waits : (most m : ℕ) (over : Option End) (c : Option Class) → steps < most → m ≡ n → over ≡ None → outcome_of progress.Asks f t ≡ outcome_next s (upcoming s) → c ≡ class_next (upcoming s) → (asks c ≡ true → t ≡ s) → Advances most before (process_of t m over) true
  waits most m over c below same running done is left =
      let service : is_service (upcoming s) ≡ true = asks-by (is_service (upcoming s)) (performed s (upcoming s)) done in
      let stays : t ≡ s = left (ap asks is ∙ service) in
      let here-is : process_of t m over ≡ process_of s n None = λ i. process_of (stays i) (same i) (running i) in
      let P : Process → Type 0 = λ p. IsBefore p true in
      record {
        steps = steps;
        bounded = omega (arith, below);
        reached = here-is ∙ way.reached;
        going = way.going;
        early = λ e. below;
        asking = λ e. subst P (sym here-is) (record { running = refl; service = service });
        stopped = λ e. absurd (false≢true (sym e));
      }

  -- it has taken all the steps
  pub ends : (most m : ℕ) (over : Option End) → steps ≤ most → most ≤ steps → m ≡ n → over ≡ None → Advances most before (process_of s m over) false
  ends most m over within through same running =
      let here-is : process_of s m over ≡ process_of s n None = λ i. process_of s (same i) (running i) in
      record {
        steps = steps;
        bounded = within;
        reached = here-is ∙ way.reached;
        going = way.going;
        early = λ e. absurd (false≢true e);
        asking = λ e. absurd (false≢true e);
        stopped = λ e none. omega (arith, within, through);
      }

-- one that is over takes none
pub rests : (most : ℕ) (p : Process) → is_some p.over ≡ true → Advances most p p false
rests most p over = record {
  steps = 0;
  bounded = omega arith;
  reached = refl;
  going = λ k below. absurd (omega (arith, below));
  early = λ e. absurd (false≢true e);
  asking = λ e. absurd (false≢true e);
  stopped = λ e none. absurd (false≢true (sym (ap is_some none) ∙ over));
}

-- ---- a single step

-- where it asks, none was taken
pub none-taken : (p q : Process) → Advances 1 p q true → q ≡ p
none-taken p q went =
    let early = went.early refl in
    let none : went.steps ≡ 0 = omega (arith, early) in
    went.reached ∙ ap (λ (k : ℕ). stepped_on k p) none

ended-stays : (p : Process) (over : Option End) → p.over ≡ over → (over ≡ None → ⊥) → stepped p ≡ p
ended-stays p None is ended = absurd (ended refl)
ended-stays p (Some e) is ended = ap (λ (o : Option End). elim o [ None ↦ after p (performed p.state (upcoming p.state)) | Some e ↦ p ]) is

one-by : (p q : Process) (steps : ℕ) → steps ≤ 1 → q ≡ stepped_on steps p → (q.over ≡ None → steps ≡ 1) → q ≡ stepped p
one-by p q zero bounded reached stopped =
    let ended : p.over ≡ None → ⊥ = λ none. absurd (omega (arith, stopped (ap (λ (r : Process). r.over) reached ∙ none))) in
    reached ∙ sym (ended-stays p p.over refl ended)
one-by p q (suc zero) bounded reached stopped = reached
one-by p q (suc (suc steps)) bounded reached stopped = absurd (omega (arith, bounded))

pub one-taken : (p q : Process) → Advances 1 p q false → q ≡ stepped p
one-taken p q went = one-by p q went.steps went.bounded went.reached (went.stopped refl)
