-- A process alone, some steps at a time.
use Rattle.std.proofs.Common.{◌≡◌, ℕ, zero, suc, ◌+◌, ◌-◌, ◌^◌, ◌<◌, ◌≤◌, true, false, refl, sym, ap, subst, ◌∙◌, ⊎_elim, add-zero, arith}
use Rattle.std.proofs.lemmas.Bool.{cases_lt}
use Rattle.std.specs.Prelude.{Option, Some, None, is_some}
use Rattle.vx_flat.specs.Outcome.{Outcome}
use Rattle.vx_flat.specs.Outcome.Outcome.{Next, Exited, Faulted}
use Rattle.vx_flat.specs.Process.{Process, after, stepped, stepped_on}
use Rattle.vx_flat.specs.Step.{step}
use Rattle.vx_flat.specs.declared.end.End.{End}
use Rattle.vx_machine.specs.Alone.{stop_alone}
use Rattle.vx_machine.specs.declared.stop.Stop.TheVariants.{Done, Spent}
use Rattle.vx_system.proofs.Stops.{stop_at-done, stop_at-spent, stop_at-none}
use Rattle.vx_system.specs.Solo.{GoesOn, RunsAlone}

-- the process has taken so many steps, each of which completed an instruction, within its budget
pub record IsUnderWay (budget : ℕ) (start : Process) (steps : ℕ) (now : Process) : Type 0 where
  pub within : steps ≤ budget
  pub reached : now ≡ stepped_on steps start
  pub running : now.over ≡ None
  pub counted : now.count ≡ steps
  pub first : (k : ℕ) → k < steps → stop_alone budget (stepped_on k start) ≡ None

pub IsUnderWay-start : (budget : ℕ) (start : Process) → start.over ≡ None → start.count ≡ 0 → IsUnderWay budget start start.count start
IsUnderWay-start budget start running unbegun =
    subst (λ (n : ℕ). IsUnderWay budget start n start) (sym unbegun)
    (record { within = omega arith; reached = refl; running = running; counted = unbegun; first = λ k below. absurd (omega (arith, below)) })

-- a step that goes on completes an instruction
count-after : (p : Process) (o : Outcome) → p.count < 2 ^ 64 - 1 → (after p o).over ≡ None → p.over ≡ None → (after p o).count ≡ p.count + 1
count-after p (Next s) small goes running = omega arith
count-after p (Exited code) small goes running = absurd (cc)
count-after p (Faulted fault s) small goes running = absurd (cc)

stepped-is : (p : Process) (over : Option End) → p.over ≡ over → over ≡ None → stepped p ≡ after p (step p.state)
stepped-is p over is none = ap (λ (o : Option End). elim o [ None ↦ after p (step p.state) | Some e ↦ p ]) (is ∙ none)

-- before a step there is no stop, since the budget isn't reached
no-stop : (budget : ℕ) (start : Process) (steps : ℕ) (now : Process) → IsUnderWay budget start steps now → steps < budget → stop_alone budget (stepped_on steps start) ≡ None
no-stop budget start steps now way below =
    let counted = way.counted in
    let None-at : Process → Type 0 = λ p. stop_alone budget p ≡ None in
    subst None-at way.reached (stop_at-none budget now.count now.over (ap is_some way.running) (omega arith))

first-on : (budget : ℕ) (start : Process) (steps : ℕ) (now : Process) → IsUnderWay budget start steps now → steps < budget → (k : ℕ) → k < suc steps → stop_alone budget (stepped_on k start) ≡ None
first-on budget start steps now way below k under =
    ⊎_elim
    (λ (early : k < steps). way.first k early)
    (λ (late : steps ≤ k).
    let same : steps ≡ k = omega arith in
    subst (λ (j : ℕ). stop_alone budget (stepped_on j start) ≡ None) same (no-stop budget start steps now way below))
    (cases_lt k steps)

pub is-none : (o : Option End) → is_some o ≡ false → o ≡ None
is-none None e = refl
is-none (Some end) e = absurd (cc)

IsUnderWay-more : (budget : ℕ) (start : Process) (steps : ℕ) (now later : Process) → budget < 2 ^ 63 → steps < budget → IsUnderWay budget start steps now → later ≡ stepped now → is_some later.over ≡ false → IsUnderWay budget start (steps + 1) later
IsUnderWay-more budget start steps now later small below way is on =
    let goes = is-none later.over on in
    let counted = way.counted in
    let next : steps + 1 ≡ suc steps = omega arith in
    let made : later ≡ after now (step now.state) = is ∙ stepped-is now now.over refl way.running in
    let goes-on : (after now (step now.state)).over ≡ None = ap (λ (p : Process). p.over) (sym made) ∙ goes in
    let counts : later.count ≡ now.count + 1 = ap (λ (p : Process). p.count) made ∙ count-after now (step now.state) (omega arith) goes-on way.running in
    subst (λ (n : ℕ). IsUnderWay budget start n later) (sym next) (record {
      within = omega arith;
      reached = is ∙ ap stepped way.reached;
      running = goes;
      counted = omega arith;
      first = first-on budget start steps now way below;
    })

-- the process has ended with this step
RunsAlone-done : (budget : ℕ) (start : Process) (steps : ℕ) (now later : Process) → steps < budget → IsUnderWay budget start steps now → later ≡ stepped now → is_some later.over ≡ true → RunsAlone budget start later Done
RunsAlone-done budget start steps now later below way is ended =
    let reached : later ≡ stepped_on (suc steps) start = is ∙ ap stepped way.reached in
    record {
      steps = suc steps;
      bounded = omega arith;
      reached = reached;
      stops = record {
        stops = subst (λ (p : Process). stop_alone budget p ≡ Some Done) reached (stop_at-done budget later.count later.over ended);
        first = first-on budget start steps now way below;
      };
    }

-- steps that all go on
IsUnderWay-on : (budget : ℕ) (start : Process) (n : ℕ) (now : Process) → budget < 2 ^ 63 → IsUnderWay budget start n now → (k : ℕ) → n + k ≤ budget → ((j : ℕ) → j ≤ k → (stepped_on j now).over ≡ None) → IsUnderWay budget start (n + k) (stepped_on k now)
IsUnderWay-on budget start n now small way zero within running = subst (λ (m : ℕ). IsUnderWay budget start m now) (sym (add-zero n)) way
IsUnderWay-on budget start n now small way (suc k) within running =
    let rest = IsUnderWay-on budget start n now small way k (omega (arith, within)) (λ j below. running j (omega (arith, below))) in
    let next : n + k + 1 ≡ n + suc k = omega arith in
    subst (λ (m : ℕ). IsUnderWay budget start m (stepped_on (suc k) now)) next
    (IsUnderWay-more budget start (n + k) (stepped_on k now) (stepped_on (suc k) now) small (omega (arith, within)) rest refl (ap is_some (running (suc k) (omega arith))))

module _ (budget : ℕ) (start now later : Process) (small : budget < 2 ^ 63) (way : IsUnderWay budget start now.count now) (went : GoesOn (budget - now.count) now later) where
  -- they leave the process within its budget
  room : now.count + went.steps ≤ budget
  room =
      let within = way.within in
      let bounded = went.bounded in
      omega (arith, within, bounded)

  module _ (goes : later.over ≡ None) where
    went-on : IsUnderWay budget start (now.count + went.steps) later
    went-on =
        let P : Process → Type 0 = λ p. IsUnderWay budget start (now.count + went.steps) p in
        let running : (j : ℕ) → j ≤ went.steps → (stepped_on j now).over ≡ None = λ j below.
        ⊎_elim
        (λ (early : j < went.steps). went.running j early)
        (λ (late : went.steps ≤ j).
        let same : went.steps ≡ j = omega (arith, below, late) in
        ap (λ (k : ℕ). (stepped_on k now).over) (sym same) ∙ ap (λ (p : Process). p.over) (sym went.reached) ∙ goes)
        (cases_lt j went.steps) in
        subst P (sym went.reached) (IsUnderWay-on budget start now.count now small way went.steps room running)

    pub IsUnderWay-goes : IsUnderWay budget start later.count later
    IsUnderWay-goes = subst (λ (n : ℕ). IsUnderWay budget start n later) (sym went-on.counted) went-on

    pub less-left : budget - later.count < budget - now.count
    less-left =
        let counted = went-on.counted in
        let some = went.some in
        omega (arith, counted, some, room)

  -- the process has ended with the last of them
  done-by : (steps : ℕ) → 0 < steps → now.count + steps ≤ budget → later ≡ stepped_on steps now → ((k : ℕ) → k < steps → (stepped_on k now).over ≡ None) → is_some later.over ≡ true → RunsAlone budget start later Done
  done-by zero some within reached running ended = absurd (omega (arith, some))
  done-by (suc steps) some within reached running ended =
      RunsAlone-done budget start (now.count + steps) (stepped_on steps now) later (omega (arith, within))
      (IsUnderWay-on budget start now.count now small way steps (omega (arith, within)) (λ j below. running j (omega (arith, below))))
      reached ended

  pub RunsAlone-goes : is_some later.over ≡ true → RunsAlone budget start later Done
  RunsAlone-goes = done-by went.steps went.some room went.reached went.running

-- the budget is reached
pub RunsAlone-spent : (budget : ℕ) (start : Process) (steps : ℕ) (now : Process) → budget ≤ steps → IsUnderWay budget start steps now → RunsAlone budget start now Spent
RunsAlone-spent budget start steps now reached way =
    let counted = way.counted in
    record {
      steps = steps;
      bounded = way.within;
      reached = way.reached;
      stops = record {
        stops = subst (λ (p : Process). stop_alone budget p ≡ Some Spent) way.reached (stop_at-spent budget now.count now.over (ap is_some way.running) (omega arith));
        first = way.first;
      };
    }
