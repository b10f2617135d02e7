-- The run that goes on past faults is the run, as long as that goes on.
use Rattle.std.proofs.Common.{◌≡◌, ℕ, zero, suc, refl, ap, ◌∙◌}
use Rattle.std.proofs.lemmas.Option.{none-some}
use Rattle.std.specs.Prelude.{Option, Some, None, option_and_then, unwrap_or}
use Rattle.vx_image.specs.Pages.{Image}
use Rattle.vx_flat.specs.Boot.{booted}
use Rattle.vx_flat.specs.Continued.{behind, continued, continued_by}
use Rattle.vx_flat.specs.Outcome.{Outcome}
use Rattle.vx_flat.specs.Outcome.Outcome.{Next, Exited, Faulted}
use Rattle.vx_flat.specs.Run.{flat, state_after}
use Rattle.vx_flat.specs.State.{Flat}
use Rattle.vx_flat.specs.Step.{step}
use Rattle.vx_flat.specs.declared.hart.Hart.{Hart}

some-same : (s t : Flat) → Some s ≡ Some t → s ≡ t
some-same s t e = ap (λ (o : Option Flat). unwrap_or o s) e

behind-next : (s t : Flat) (o : Outcome) → state_after o ≡ Some t → behind s o ≡ t
behind-next s t (Next u) e = some-same u t e
behind-next s t (Exited code) e = absurd (none-some t e)
behind-next s t (Faulted fault u) e = absurd (none-some t e)

-- one step more
continued-step : (o : Option Flat) (now t : Flat) → ((s : Flat) → o ≡ Some s → now ≡ s) → option_and_then (λ s. state_after (step s)) o ≡ Some t → continued now ≡ t
continued-step None now t same e = absurd (none-some t e)
continued-step (Some s) now t same e = ap continued (same s refl) ∙ behind-next s t (step s) e

pub continued-flat : (hart : Hart) (image : Image) (n : ℕ) (s : Flat) → flat hart image n ≡ Some s → continued_by n (booted hart image) ≡ s
unfolding flat
continued-flat hart image zero s e = some-same (booted hart image) s e
continued-flat hart image (suc n) s e =
    continued-step (flat hart image n) (continued_by n (booted hart image)) s (λ t is. continued-flat hart image n t is) e
