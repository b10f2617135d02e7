-- How a run stops, by how its process ended and by its budget.
use Rattle.std.proofs.Common.{◌≡◌, ℕ, Bool, true, false, ◌≤◌, ◌<◌, refl, sym, ap}
use Rattle.std.proofs.lemmas.Bool.{le-leb, lt-leb, false≢true}
use Rattle.std.specs.Prelude.{Option, Some, None, is_some, if◌then◌else◌}
use Rattle.vx_flat.specs.declared.end.End.{End}
use Rattle.vx_machine.specs.Machine.{stop_at}
use Rattle.vx_machine.specs.declared.stop.Stop.TheVariants.{Done, Spent}

pub stop_at-done : (budget used : ℕ) (o : Option End) → is_some o ≡ true → stop_at budget used o ≡ Some Done
stop_at-done budget used (Some end) e = refl
stop_at-done budget used None e = absurd (false≢true e)

pub stop_at-spent : (budget used : ℕ) (o : Option End) → is_some o ≡ false → budget ≤ used → stop_at budget used o ≡ Some Spent
stop_at-spent budget used (Some end) e late = absurd (false≢true (sym e))
stop_at-spent budget used None e late = ap (λ (b : Bool). if b then Some Spent else None) (le-leb budget used late)

pub stop_at-none : (budget used : ℕ) (o : Option End) → is_some o ≡ false → used < budget → stop_at budget used o ≡ None
stop_at-none budget used (Some end) e early = absurd (false≢true (sym e))
stop_at-none budget used None e early = ap (λ (b : Bool). if b then Some Spent else None) (lt-leb budget used early)
