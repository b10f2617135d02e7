-- What became of an instruction without accesses, and what that means for the episode.
use Rattle.std.proofs.Common.{◌≡◌, ℕ, Bool, true, false, Some, None, refl, sym, ap, ◌∙◌, inl, inr}
use Rattle.std.specs.Prelude.{if◌then◌else◌}
use Rattle.std.proofs.lemmas.Bool.{cases_Bool, false≢true}
use Rattle.vx_base.specs.declared.machine.Fault.{Fault}
use Rattle.vx_decode.specs.declared.instr.Instr.{Instr}
use Rattle.vx_flat.specs.Outcome.{Outcome}
use Rattle.vx_flat.specs.Outcome.Outcome.{Next, Faulted}
use Rattle.vx_flat.specs.State.{Flat}
use Rattle.vx_flat.specs.Step.{is_legal, is_legal_as, meaning, performed, step, upcoming}
use Rattle.vx_flat.specs.declared.upcoming.Upcoming.{Upcoming}
use Rattle.vx_hart.specs.Asking.{is_service, is_service_class}
use Rattle.vx_hart.specs.Outcomes.{outcome_next, outcome_of}
use Rattle.vx_hart.specs.declared.progress.Progress.TheVariants as progress
use Rattle.vx_rows.specs.Table.{class_of}
use Rattle.vx_rows.specs.declared.row.Class.{Class}
use Rattle.vx_rows.specs.declared.row.Class.TheVariants as class
use Rattle.vx_episode.specs.Footprint.{footprint_of}
use Rattle.vx_episode.specs.Organisation.{Organisation}
use Rattle.vx_episode.specs.declared.ended.Ended.TheVariants as ended
use Rattle.vx_pipe.specs.Classes.{changes_as, is_plain, jumps_as, span_of}
use Rattle.vx_pipe.specs.Plain.{IsStopping, IsWithoutAccesses}
use Rattle.vx_pipe.proofs.Plainly.{DoesLaw, asks-plainly, completes-plainly, faults-plainly, legal-next, illegal-next}

asked : (b : Bool) (o : Outcome) → None ≡ (if b then None else Some o) → b ≡ true
asked true o is = refl
asked false o is = cc

done : (b : Bool) (o r : Outcome) → Some r ≡ (if b then None else Some o) → o ≡ r
done true o r is = cc
done false o r is = cc

unasked : (b : Bool) (o r : Outcome) → Some r ≡ (if b then None else Some o) → b ≡ false
unasked true o r is = cc
unasked false o r is = refl

service-class : (c : Class) → is_service_class c ≡ true → c ≡ class.Ecall
service-class class.Ecall is = refl
service-class other is = absurd (false≢true is)

-- ---- by what the outcome is

pub steps-by : (u : Flat) (next : Upcoming) (r : Outcome) → upcoming u ≡ next → Some r ≡ outcome_next u next → step u ≡ r
steps-by u next r at is = ap (performed u) at ∙ done (is_service next) (performed u next) r is

module _ (machine : Organisation) (u v : Flat) (word : ℕ) (i : Instr) (c : Class) (of : c ≡ class_of i.op) (is : is_plain c ≡ true) (next : upcoming u ≡ meaning u word (Some i)) where
  pub service-asked : is_service (meaning u word (Some i)) ≡ true → class_of i.op ≡ class.Ecall
  service-asked service =
      elim (cases_Bool (is_legal u i)) [
        | inl legal ↦ service-class (class_of i.op) (ap is_service (sym (legal-next u word i legal)) ∙ service)
        | inr illegal ↦ absurd (false≢true (ap is_service (sym (illegal-next u word i illegal)) ∙ service))
      ]

  no-service : is_service (meaning u word (Some i)) ≡ false → c ≡ class.Ecall → ⊥
  no-service none ecall =
      let here : class_of i.op ≡ class.Ecall = sym of ∙ ecall in
      let legal : is_legal u i ≡ true = ap (λ (k : Class). is_legal_as k u i) here in
      false≢true (sym none ∙ ap is_service (legal-next u word i legal) ∙ ap is_service_class here)

  pub completed : (f : Fault) → outcome_of progress.Completed f v ≡ outcome_next u (meaning u word (Some i)) → (step u ≡ Next v) × IsWithoutAccesses (footprint_of machine u (upcoming u)) (span_of c) (jumps_as c) (changes_as c i)
  completed f outcome =
      let steps : step u ≡ Next v = steps-by u (meaning u word (Some i)) (Next v) next outcome in
      (steps, completes-plainly machine u word i c v of is (no-service (unasked (is_service (meaning u word (Some i))) (performed u (meaning u word (Some i))) (Next v) outcome)) next steps)

  pub service : (f : Fault) → outcome_of progress.Asks f v ≡ outcome_next u (meaning u word (Some i)) → (is_service (meaning u word (Some i)) ≡ true) × IsStopping (footprint_of machine u (upcoming u)) ended.Service
  service f outcome =
      let asks : is_service (meaning u word (Some i)) ≡ true = asked (is_service (meaning u word (Some i))) (performed u (meaning u word (Some i))) outcome in
      (asks, asks-plainly machine u word i (service-asked asks) next)

  pub fault : DoesLaw → (f : Fault) → outcome_of progress.Faulted f v ≡ outcome_next u (meaning u word (Some i)) → (step u ≡ Faulted f v) × IsStopping (footprint_of machine u (upcoming u)) (ended.Faulted f)
  fault law f outcome =
      let steps : step u ≡ Faulted f v = steps-by u (meaning u word (Some i)) (Faulted f v) next outcome in
      (steps, faults-plainly law machine u word i c f v of is next steps)
