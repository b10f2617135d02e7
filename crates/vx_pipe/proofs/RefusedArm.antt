-- What can't be fetched, or means nothing, ends the episode.
use Rattle.std.proofs.Common.{◌≡◌, true, refl}
use Rattle.std.proofs.lemmas.Bool.{false≢true}
use Rattle.vx_base.specs.declared.machine.Fault.{Fault}
use Rattle.vx_flat.specs.Outcome.Outcome.{Faulted}
use Rattle.vx_flat.specs.State.{Flat}
use Rattle.vx_flat.specs.Step.{performed, step, upcoming}
use Rattle.vx_flat.specs.declared.upcoming.Upcoming.{Upcoming}
use Rattle.vx_flat.specs.declared.upcoming.Upcoming.TheVariants.{Denied, Illegal, Instruction}
use Rattle.vx_hart.specs.Outcomes.{outcome_next, outcome_of}
use Rattle.vx_hart.specs.declared.progress.Progress.{Progress}
use Rattle.vx_hart.specs.declared.progress.Progress.TheVariants as progress
use Rattle.vx_episode.specs.Footprint.{footprint_of}
use Rattle.vx_episode.specs.Organisation.{Organisation}
use Rattle.vx_episode.specs.declared.ended.Ended.TheVariants as ended
use Rattle.vx_pipe.specs.Plain.{IsStopping}
use Rattle.vx_pipe.specs.Turning.{is_refused}
use Rattle.vx_pipe.proofs.Outcomes.{steps-by}
use Rattle.vx_pipe.proofs.Plainly.{faults-denied, faults-illegal}

stops-by : (machine : Organisation) (u v : Flat) (next : Upcoming) (fault : Fault) → upcoming u ≡ next → is_refused next ≡ true → step u ≡ Faulted fault v → IsStopping (footprint_of machine u (upcoming u)) (ended.Faulted fault)
stops-by machine u v Denied fault at is steps = faults-denied machine u fault v at steps
stops-by machine u v (Illegal word) fault at is steps = faults-illegal machine u word fault v at steps
stops-by machine u v (Instruction i) fault at is steps = absurd (false≢true is)

pub refused-stops : (machine : Organisation) (u v : Flat) (fault : Fault) → is_refused (upcoming u) ≡ true → outcome_of progress.Faulted fault v ≡ outcome_next u (upcoming u)
    → (step u ≡ Faulted fault v) × IsStopping (footprint_of machine u (upcoming u)) (ended.Faulted fault)
refused-stops machine u v fault is outcome =
    let steps : step u ≡ Faulted fault v = steps-by u (upcoming u) (Faulted fault v) refl outcome in
    (steps, stops-by machine u v (upcoming u) fault refl is steps)

-- and nothing else comes of it
unfinished : (u v : Flat) (last : Fault) (next : Upcoming) → is_refused next ≡ true → outcome_of progress.Completed last v ≡ outcome_next u next → ⊥
unfolding performed
unfinished u v last Denied is outcome = cc
unfinished u v last (Illegal word) is outcome = cc
unfinished u v last (Instruction i) is outcome = false≢true is

unasked : (u v : Flat) (last : Fault) (next : Upcoming) → is_refused next ≡ true → outcome_of progress.Asks last v ≡ outcome_next u next → ⊥
unasked u v last Denied is outcome = cc
unasked u v last (Illegal word) is outcome = cc
unasked u v last (Instruction i) is outcome = false≢true is

pub only-faults : (p : Progress) (last : Fault) (u v : Flat) → is_refused (upcoming u) ≡ true → outcome_of p last v ≡ outcome_next u (upcoming u) → (p ≡ progress.Faulted → ⊥) → ⊥
only-faults progress.Completed last u v is outcome none = unfinished u v last (upcoming u) is outcome
only-faults progress.Asks last u v is outcome none = unasked u v last (upcoming u) is outcome
only-faults progress.Faulted last u v is outcome none = none refl
