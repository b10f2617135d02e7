-- A process on its way: its flat state, how many instructions it has completed, and how it ended. This project's own.
use Rattle.std.specs.Prelude.{ℕ, zero, suc, Option, Some, None}
use Rattle.vx_base.specs.Faults.{one_more}
use Rattle.vx_image.specs.Pages.{Image}
use Rattle.vx_flat.specs.Boot.{booted}
use Rattle.vx_flat.specs.Outcome.{Outcome}
use Rattle.vx_flat.specs.Outcome.Outcome.{Next, Exited, Faulted}
use Rattle.vx_flat.specs.State.{Flat}
use Rattle.vx_flat.specs.Step.{step}
use Rattle.vx_flat.specs.declared.end.End.{End}
use Rattle.vx_flat.specs.declared.end.End.TheVariants as end
use Rattle.vx_flat.specs.declared.hart.Hart.{Hart}

pub record Process : Type 0 where
  pub state : Flat
  -- the completed instructions, up to 2 ^ 64 - 1
  pub count : ℕ
  -- how it ended, where it has
  pub over : Option End

-- the process of an image on a hart, before its first step
abbrev pub begun : Hart → Image → Process
begun hart image = record { state = booted hart image; count = 0; over = None }

-- the process after an outcome of its step; an exiting instruction completes, a faulting one doesn't
abbrev pub after : Process → Outcome → Process
after p (Next s) = record p { state = s; count = one_more p.count }
after p (Exited code) = record p { count = one_more p.count; over = Some (end.Exited code) }
after p (Faulted fault s) = record p { state = s; over = Some (end.Faulted fault) }

-- the process after a step; one that is over stays as it is
abbrev pub stepped : Process → Process
stepped p = elim (p.over) [ None ↦ after p (step p.state) | Some e ↦ p ]

-- the process after so many steps
abbrev pub stepped_on : ℕ → Process → Process
stepped_on zero p = p
stepped_on (suc n) p = stepped (stepped_on n p)
