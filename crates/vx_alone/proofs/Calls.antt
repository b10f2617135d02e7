-- What a process's step is where a service is asked for, which is by an ecall.
use Rattle.std.proofs.Common.{◌≡◌, Option, None, Some, IfSome, true, refl, sym, ap, ◌∙◌}
use Rattle.std.specs.Prelude.{ℤ}
use Rattle.std.proofs.lemmas.Bool.{false≢true}
use Rattle.vx_decode.specs.declared.instr.Instr.{Instr}
use Rattle.vx_rows.specs.Table.{class_of}
use Rattle.vx_rows.specs.declared.row.Class.{Class}
use Rattle.vx_rows.specs.declared.row.Class.TheVariants as class
use Rattle.vx_flat.specs.Process.{Process, after, stepped}
use Rattle.vx_flat.specs.State.{Flat}
use Rattle.vx_flat.specs.Step.{upcoming, performed, performed_as, ecall, step}
use Rattle.vx_flat.specs.declared.end.End.{End}
use Rattle.vx_flat.specs.declared.upcoming.Upcoming.{Upcoming}
use Rattle.vx_flat.specs.declared.upcoming.Upcoming.TheVariants.{Denied, Illegal, Instruction}
use Rattle.vx_hart.specs.Asking.{is_service, is_service_class}
use Rattle.vx_hart.specs.Writing.{served}
use Rattle.vx_alone.specs.Settled.{settled_service}

class-ecall : (c : Class) (s : Flat) (i : Instr) → is_service_class c ≡ true → performed_as c s i ≡ ecall s
class-ecall class.Ecall s i asking = refl
class-ecall c s i asking = absurd (false≢true asking)

upcoming-ecall : (s : Flat) (u : Upcoming) → is_service u ≡ true → performed s u ≡ ecall s
unfolding performed
upcoming-ecall s Denied asking = absurd (false≢true asking)
upcoming-ecall s (Illegal word) asking = absurd (false≢true asking)
upcoming-ecall s (Instruction i) asking = class-ecall (class_of i.op) s i asking

stepped-is : (p : Process) → p.over ≡ None → stepped p ≡ after p (step p.state)
stepped-is p e = ap (λ (o : Option End). elim o [ None ↦ after p (step p.state) | Some end ↦ p ]) e

by_code : (code : Option ℤ) (q : Process) (s : Flat) → IfSome code (λ (n : ℤ). s ≡ q.state) → settled_service code (record q { state = s }) ≡ after q (served code s)
by_code None q s left = refl
by_code (Some n) q s left = ap (λ (t : Flat). settled_service (Some n) (record q { state = t })) left

pub was_served : (p q : Process) (code : Option ℤ) (s : Flat) → q ≡ p → p.over ≡ None → is_service (upcoming p.state) ≡ true → IfSome code (λ (n : ℤ). s ≡ q.state) → served code s ≡ ecall q.state → settled_service code (record q { state = s }) ≡ stepped p
was_served p q code s same running asking left done =
    by_code code q s left
    ∙ ap (after q) done
    ∙ ap (λ (r : Process). after r (ecall r.state)) same
    ∙ ap (after p) (sym (upcoming-ecall p.state (upcoming p.state) asking))
    ∙ sym (stepped-is p running)
