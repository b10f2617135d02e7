-- Steps come to the same.
use Rattle.vx_flat.specs.Step.{step}
use Rattle.vx_pending.specs.Alike.{with_memory}
use Rattle.vx_pending.proofs.Next.{Laws}
use Rattle.vx_pending.proofs.Outcomes.{next-of, exited-of, faulted-of, next-there, exited-there, faulted-there}
use Rattle.vx_pending.proofs.Steps.{step-alike}
use Rattle.vx_pending.proofs.laws.steps_are_alike.Goals as goal

laws : goal.After-legal_movements_are_sound → Laws
laws c = record { sound = c.legal_movements_are_sound.ensures.sound; valid = c.decoded_is_valid.ensures }

pub returns : goal.returns
returns c = record {
  step = λ s m w alike. step-alike (laws c) s m w alike;
  next = λ s m u w alike e. next-of (step (with_memory m s)) (step s) u (step-alike (laws c) s m w alike) e;
  exited = λ s m code w alike e. exited-of (step (with_memory m s)) (step s) code (step-alike (laws c) s m w alike) e;
  faulted = λ s m fault u w alike e. faulted-of (step (with_memory m s)) (step s) fault u (step-alike (laws c) s m w alike) e;
  next_there = λ s m t w alike e. next-there (step (with_memory m s)) (step s) t (step-alike (laws c) s m w alike) e;
  exited_there = λ s m code w alike e. exited-there (step (with_memory m s)) (step s) code (step-alike (laws c) s m w alike) e;
  faulted_there = λ s m fault t w alike e. faulted-there (step (with_memory m s)) (step s) fault t (step-alike (laws c) s m w alike) e;
}
