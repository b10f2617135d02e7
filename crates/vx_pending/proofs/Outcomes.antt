-- What one of two alike outcomes is tells what the other is.
use Rattle.std.proofs.Common.{◌≡◌, Bool, true, false, ℤ, refl, sym, ap, ◌∙◌, subst}
use Rattle.std.proofs.lemmas.Bool.{false≢true}
use Rattle.vx_base.specs.declared.machine.Fault.{Fault}
use Rattle.vx_flat.specs.Outcome.{Outcome}
use Rattle.vx_flat.specs.Outcome.Outcome.{Next, Exited, Faulted}
use Rattle.vx_flat.specs.State.{Flat}
use Rattle.vx_pending.specs.Alike.{StandsFor, StandsExactlyFor, OutcomesAlike}

-- ---- outcomes by their kinds

abbrev is_next : Outcome → Bool
is_next (Next t) = true
is_next (Exited code) = false
is_next (Faulted fault t) = false

abbrev is_exited : Outcome → Bool
is_exited (Next t) = false
is_exited (Exited code) = true
is_exited (Faulted fault t) = false

abbrev is_faulted : Outcome → Bool
is_faulted (Next t) = false
is_faulted (Exited code) = false
is_faulted (Faulted fault t) = true

not-next : (x : Outcome) (t : Flat) → is_next x ≡ false → x ≡ Next t → ⊥
not-next x t h e = false≢true (sym h ∙ ap is_next e)

not-exited : (x : Outcome) (code : ℤ) → is_exited x ≡ false → x ≡ Exited code → ⊥
not-exited x code h e = false≢true (sym h ∙ ap is_exited e)

not-faulted : (x : Outcome) (fault : Fault) (t : Flat) → is_faulted x ≡ false → x ≡ Faulted fault t → ⊥
not-faulted x fault t h e = false≢true (sym h ∙ ap is_faulted e)

abbrev state_or : Flat → Outcome → Flat
state_or s (Next t) = t
state_or s (Exited code) = s
state_or s (Faulted fault t) = t

abbrev fault_or : Fault → Outcome → Fault
fault_or f (Next t) = f
fault_or f (Exited code) = f
fault_or f (Faulted fault t) = fault

same-next : (u t : Flat) → Next u ≡ Next t → u ≡ t
same-next u t e = ap (state_or u) e

same-faulted : (f g : Fault) (u t : Flat) → Faulted f u ≡ Faulted g t → (f ≡ g) × (u ≡ t)
same-faulted f g u t e = (ap (fault_or f) e, ap (state_or u) e)

-- ---- by what one of two is

pub next-of : (x y : Outcome) (u : Flat) → OutcomesAlike x y → x ≡ Next u → (t : Flat) × (y ≡ Next t) × StandsExactlyFor u t
next-of (Next v) (Next t) u h e = (t, refl, subst (λ x. StandsExactlyFor x t) (same-next v u e) h)
next-of (Next v) (Exited code) u h e = absurd h
next-of (Next v) (Faulted fault t) u h e = absurd h
next-of (Exited code) y u h e = absurd (not-next (Exited code) u refl e)
next-of (Faulted fault v) y u h e = absurd (not-next (Faulted fault v) u refl e)

pub exited-of : (x y : Outcome) (code : ℤ) → OutcomesAlike x y → x ≡ Exited code → y ≡ Exited code
exited-of (Exited a) (Exited b) code h e = sym (ap Exited h) ∙ e
exited-of (Exited a) (Next t) code h e = absurd h
exited-of (Exited a) (Faulted fault t) code h e = absurd h
exited-of (Next v) y code h e = absurd (not-exited (Next v) code refl e)
exited-of (Faulted fault v) y code h e = absurd (not-exited (Faulted fault v) code refl e)

pub faulted-of : (x y : Outcome) (fault : Fault) (u : Flat) → OutcomesAlike x y → x ≡ Faulted fault u → (t : Flat) × (y ≡ Faulted fault t) × StandsFor u t
faulted-of (Faulted f v) (Faulted g t) fault u h e =
    let same = same-faulted f fault v u e in
    (t, ap (λ x. Faulted x t) (sym h.0 ∙ same.0), subst (λ x. StandsFor x t) same.1 h.1)
faulted-of (Faulted f v) (Next t) fault u h e = absurd h
faulted-of (Faulted f v) (Exited code) fault u h e = absurd h
faulted-of (Next v) y fault u h e = absurd (not-faulted (Next v) fault u refl e)
faulted-of (Exited code) y fault u h e = absurd (not-faulted (Exited code) fault u refl e)

pub next-there : (x y : Outcome) (t : Flat) → OutcomesAlike x y → y ≡ Next t → (u : Flat) × (x ≡ Next u) × StandsExactlyFor u t
next-there (Next u) (Next v) t h e = (u, refl, subst (λ x. StandsExactlyFor u x) (same-next v t e) h)
next-there (Exited code) (Next v) t h e = absurd h
next-there (Faulted fault u) (Next v) t h e = absurd h
next-there x (Exited code) t h e = absurd (not-next (Exited code) t refl e)
next-there x (Faulted fault v) t h e = absurd (not-next (Faulted fault v) t refl e)

pub exited-there : (x y : Outcome) (code : ℤ) → OutcomesAlike x y → y ≡ Exited code → x ≡ Exited code
exited-there (Exited a) (Exited b) code h e = ap Exited h ∙ e
exited-there (Next u) (Exited b) code h e = absurd h
exited-there (Faulted fault u) (Exited b) code h e = absurd h
exited-there x (Next v) code h e = absurd (not-exited (Next v) code refl e)
exited-there x (Faulted fault v) code h e = absurd (not-exited (Faulted fault v) code refl e)

pub faulted-there : (x y : Outcome) (fault : Fault) (t : Flat) → OutcomesAlike x y → y ≡ Faulted fault t → (u : Flat) × (x ≡ Faulted fault u) × StandsFor u t
faulted-there (Faulted f u) (Faulted g v) fault t h e =
    let same = same-faulted g fault v t e in
    (u, ap (λ x. Faulted x u) (h.0 ∙ same.0), subst (λ x. StandsFor u x) same.1 h.1)
faulted-there (Next u) (Faulted g v) fault t h e = absurd h
faulted-there (Exited code) (Faulted g v) fault t h e = absurd h
faulted-there x (Next v) fault t h e = absurd (not-faulted (Next v) fault t refl e)
faulted-there x (Exited code) fault t h e = absurd (not-faulted (Exited code) fault t refl e)
