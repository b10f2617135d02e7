-- The run of an image alone on a hart, and how it ends. This project's own.
use Rattle.std.specs.Prelude.{◌≡◌, ℕ, zero, suc, ◌+◌, ℤ, List, ◌++◌, Option, Some, None, option_and_then}
use Rattle.vx_base.specs.declared.machine.Fault.{Fault}
use Rattle.vx_image.specs.Pages.{Image}
use Rattle.vx_flat.specs.Boot.{booted}
use Rattle.vx_flat.specs.Outcome.{Outcome}
use Rattle.vx_flat.specs.Outcome.Outcome.{Next, Exited, Faulted}
use Rattle.vx_flat.specs.State.{Flat}
use Rattle.vx_flat.specs.Step.{step}
use Rattle.vx_flat.specs.declared.hart.Hart.{Hart}

-- the state that a step leads to, where the process goes on
abbrev pub state_after : Outcome → Option Flat
state_after (Next s) = Some s
state_after (Exited code) = None
state_after (Faulted fault s) = None

-- the state after n completed instructions, where the run has so many
unfoldable pub flat : Hart → Image → ℕ → Option Flat
flat hart image zero = Some (booted hart image)
flat hart image (suc n) = option_and_then (λ s. state_after (step s)) (flat hart image n)

-- the run exits with its n-th instruction, from this state
pub record Exits (hart : Hart) (image : Image) (n : ℕ) (code : ℤ) (last : Flat) : Type 0 where
  pub before : ℕ
  pub counted : n ≡ before + 1
  pub reached : flat hart image before ≡ Some last
  pub ends : step last ≡ Exited code

-- the run faults after n completed instructions, and its instruction leaves this state
pub record Faults (hart : Hart) (image : Image) (n : ℕ) (fault : Fault) (last : Flat) : Type 0 where
  pub before : Flat
  pub reached : flat hart image n ≡ Some before
  pub ends : step before ≡ Faulted fault last

-- xs is the beginning of ys
abbrev pub IsPrefixOf : List ℕ → List ℕ → Type 0
IsPrefixOf xs ys = (rest : List ℕ) × (ys ≡ xs ++ rest)
