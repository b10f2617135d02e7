-- Steps up to a service, and the service, are steps that go on.
use Rattle.std.proofs.Common.{◌≡◌, ℕ, zero, suc, ◌<◌, ◌≤◌, true, false, refl, sym, ap, ◌∙◌, ⊎_elim, arith}
use Rattle.std.proofs.lemmas.Bool.{cases_lt}
use Rattle.std.specs.Prelude.{None}
use Rattle.vx_alone.specs.Advances.{Advances}
use Rattle.vx_flat.specs.Process.{Process, stepped, stepped_on}
use Rattle.vx_system.specs.Solo.{GoesOn}

some-by : (most steps : ℕ) (before after : Process) → 0 < most → before.over ≡ None → after ≡ stepped_on steps before → (after.over ≡ None → steps ≡ most) → 0 < steps
some-by most zero before after some running reached stopped = absurd (omega (arith, some, stopped (ap (λ (p : Process). p.over) reached ∙ running)))
some-by most (suc steps) before after some running reached stopped = omega arith

pub went-on : (most : ℕ) (before after : Process) → 0 < most → before.over ≡ None → Advances most before after false → GoesOn most before after
went-on most before after some running went = record {
  steps = went.steps;
  some = some-by most went.steps before after some running went.reached (went.stopped refl);
  bounded = went.bounded;
  reached = went.reached;
  running = λ k below. (went.going k below).running;
}

pub was-served : (most : ℕ) (before now after : Process) → Advances most before now true → after ≡ stepped now → GoesOn most before after
was-served most before now after went is =
    let early = went.early refl in
    record {
      steps = suc went.steps;
      some = omega arith;
      bounded = omega (arith, early);
      reached = is ∙ ap stepped went.reached;
      running = λ k below.
          ⊎_elim
          (λ (earlier : k < went.steps). (went.going k earlier).running)
          (λ (late : went.steps ≤ k).
          let same : went.steps ≡ k = omega (arith, late, below) in
          ap (λ (j : ℕ). (stepped_on j before).over) (sym same) ∙ ap (λ (p : Process). p.over) (sym went.reached) ∙ (went.asking refl).running)
          (cases_lt k went.steps);
    }
