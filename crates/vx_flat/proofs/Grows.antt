-- What a process has written stays, and more comes behind it.
use Rattle.std.proofs.Common.{◌≡◌, ℕ, zero, suc, ◌+◌, Bool, true, false, List, [], ◌∷◌, ◌++◌, refl, sym, ap, subst, append_assoc, ◌∙◌, add-zero}
use Rattle.std.proofs.Math.Nat.{add-suc}
use Rattle.std.proofs.lemmas.List.{append-nil}
use Rattle.std.specs.Prelude.{Option, Some, None, option_and_then, if◌then◌else◌, ◌&&◌, nat_lt}
use Rattle.vx_decode.specs.declared.instr.Instr.{Instr}
use Rattle.vx_rows.specs.Table.{class_of}
use Rattle.vx_rows.specs.declared.row.Class.{Class}
use Rattle.vx_rows.specs.declared.row.Class.TheVariants as class
use Rattle.vx_image.specs.Pages.{Image}
use Rattle.vx_vector.specs.Accesses.{Access, access_list, accesses_between}
use Rattle.vx_vector.specs.Reading.{Reading}
use Rattle.vx_flat.specs.Checks.{checked}
use Rattle.vx_flat.specs.Control.{Exchange}
use Rattle.vx_flat.specs.Outcome.{Outcome, faulted}
use Rattle.vx_flat.specs.Outcome.Outcome.{Next, Exited, Faulted}
use Rattle.vx_flat.specs.Scalar.{effect}
use Rattle.vx_flat.specs.Run.{flat, state_after, IsPrefixOf}
use Rattle.vx_flat.specs.State.{Flat, completed}
use Rattle.vx_flat.specs.Step.{step, performed, performed_as, affect, affected, upcoming, control_by, calculate_by, exchange_at}
use Rattle.vx_flat.specs.Transfers.{Direction, Transfer, Failure, transfer, transferred, transferred_by, access_done, accesses_done, first_failure, below_done, trimmed, is_fault_only_first}
use Rattle.vx_flat.specs.Transfers.Direction.{Loading, Storing}
use Rattle.vx_flat.specs.Vectors.{reading_at}
use Rattle.vx_flat.specs.declared.effect.Effect.{Effect}
use Rattle.vx_flat.specs.declared.effect.Effect.TheVariants as effect
use Rattle.vx_flat.specs.declared.hart.Hart.{Hart}
use Rattle.vx_flat.specs.declared.upcoming.Upcoming.{Upcoming}
use Rattle.vx_flat.specs.declared.upcoming.Upcoming.TheVariants.{Denied, Illegal, Instruction}

pub IsPrefixOf-refl : (xs : List ℕ) → IsPrefixOf xs xs
IsPrefixOf-refl xs = ([], sym (append-nil xs))

IsPrefixOf-append : (xs ys : List ℕ) → IsPrefixOf xs (xs ++ ys)
IsPrefixOf-append xs ys = (ys, refl)

IsPrefixOf-trans : (xs ys zs : List ℕ) → IsPrefixOf xs ys → IsPrefixOf ys zs → IsPrefixOf xs zs
IsPrefixOf-trans xs ys zs p q =
    (p.0 ++ q.0, q.1 ∙ ap (λ l. l ++ q.0) p.1 ∙ append_assoc xs p.0 q.0)

-- where the process goes on, it has written at least this
abbrev Keeps : List ℕ → Outcome → Type 0
Keeps written (Next t) = IsPrefixOf written t.output
Keeps written (Exited code) = Unit {0}
Keeps written (Faulted fault s) = Unit {0}

Keeps-if : (written : List ℕ) (b : Bool) (x y : Outcome) → Keeps written x → Keeps written y → Keeps written (if b then x else y)
Keeps-if written b x y p q = elim b as (λ v. Keeps written (if v then x else y)) [ true ↦ p | false ↦ q ]

Keeps-affected : (s : Flat) (rd : ℕ) (e : Effect) → Keeps s.output (affected s rd e)
Keeps-affected s rd (effect.Value value pc) = IsPrefixOf-refl s.output
Keeps-affected s rd (effect.Next pc) = IsPrefixOf-refl s.output
Keeps-affected s rd (effect.Misaligned target) = tt

Keeps-checked : (cause : Option ℕ) (s : Flat) (address : ℕ) (done : Flat) → IsPrefixOf s.output done.output → Keeps s.output (checked cause s address done)
Keeps-checked None s address done p = p
Keeps-checked (Some cause) s address done p = tt

Keeps-control : (e : Option Exchange) (s : Flat) (i : Instr) → Keeps s.output (control_by e s i)
Keeps-control None s i = tt
Keeps-control (Some e) s i = IsPrefixOf-refl s.output

Keeps-calculate : (r : Option Reading) (s : Flat) (i : Instr) → Keeps s.output (calculate_by r s i)
Keeps-calculate None s i = tt
Keeps-calculate (Some r) s i = IsPrefixOf-refl s.output

-- accesses write nothing
output-access : (d : Direction) (a : Access) (s : Flat) → (access_done d a s).output ≡ s.output
output-access Loading a s = refl
output-access Storing a s = refl

output-accesses : (d : Direction) (accesses : List Access) (s : Flat) → (accesses_done d accesses s).output ≡ s.output
output-accesses d [] s = refl
output-accesses d (a ∷ accesses) s = output-accesses d accesses (access_done d a s) ∙ output-access d a s

IsPrefixOf-accesses : (d : Direction) (accesses : List Access) (s : Flat) → IsPrefixOf s.output (accesses_done d accesses s).output
IsPrefixOf-accesses d accesses s = subst (IsPrefixOf s.output) (sym (output-accesses d accesses s)) (IsPrefixOf-refl s.output)

Keeps-transferred : (t : Transfer) (s : Flat) (f : Option Failure) → Keeps s.output (transferred_by t s f)
Keeps-transferred t s None = IsPrefixOf-accesses t.direction (access_list t.movement) s
Keeps-transferred t s (Some f) =
    let k = f.access.element in
    let done = below_done t k s in
    Keeps-if s.output (is_fault_only_first t.movement.addressing && nat_lt 0 k) (Next (completed (trimmed k done))) (faulted done f.cause f.access.address) (IsPrefixOf-accesses t.direction (accesses_between t.movement 0 k) s) tt

Keeps-transfer : (t : Transfer) (s : Flat) → Keeps s.output (transferred t s)
Keeps-transfer t s = Keeps-transferred t s (first_failure t.direction s.memory (access_list t.movement))

Keeps-affect : (s : Flat) (i : Instr) → Keeps s.output (affect s i)
Keeps-affect s i = Keeps-affected s i.rd (effect i s.x s.pc)

Keeps-performed_as : (c : Class) (s : Flat) (i : Instr) → Keeps s.output (performed_as c s i)
Keeps-performed_as class.Arithmetic s i = Keeps-affect s i
Keeps-performed_as class.Multiply s i = Keeps-affect s i
Keeps-performed_as class.Divide s i = Keeps-affect s i
Keeps-performed_as class.Jump s i = Keeps-affect s i
Keeps-performed_as class.Branch s i = Keeps-affect s i
Keeps-performed_as class.Load s i = Keeps-checked _ s _ _ (IsPrefixOf-refl s.output)
Keeps-performed_as class.Store s i = Keeps-checked _ s _ _ (IsPrefixOf-refl s.output)
Keeps-performed_as class.Fence s i = Keeps-affect s i
Keeps-performed_as class.Ecall s i = search (Keeps-if, IsPrefixOf-append)
Keeps-performed_as class.Ebreak s i = tt
Keeps-performed_as class.Csr s i = Keeps-control (exchange_at s i) s i
Keeps-performed_as class.Set s i = IsPrefixOf-refl s.output
Keeps-performed_as (class.VectorArithmetic family) s i = Keeps-calculate (reading_at s i) s i
Keeps-performed_as (class.VectorLoad addressing width) s i = Keeps-transfer (transfer Loading addressing width s i) s
Keeps-performed_as (class.VectorStore addressing width) s i = Keeps-transfer (transfer Storing addressing width s i) s

Keeps-performed : (s : Flat) (u : Upcoming) → Keeps s.output (performed s u)
unfolding performed
Keeps-performed s Denied = tt
Keeps-performed s (Illegal word) = tt
Keeps-performed s (Instruction i) = Keeps-performed_as (class_of i.op) s i

-- a state, where there is one, has written at least this
abbrev KeepsIfAny : List ℕ → Option Flat → Type 0
KeepsIfAny written None = Unit {0}
KeepsIfAny written (Some t) = IsPrefixOf written t.output

KeepsIfAny-after : (written : List ℕ) (s : Flat) (o : Outcome) → IsPrefixOf written s.output → Keeps s.output o → KeepsIfAny written (state_after o)
KeepsIfAny-after written s (Next t) p q = IsPrefixOf-trans written s.output t.output p q
KeepsIfAny-after written s (Exited code) p q = tt
KeepsIfAny-after written s (Faulted fault t) p q = tt

KeepsIfAny-step : (written : List ℕ) (o : Option Flat) → KeepsIfAny written o → KeepsIfAny written (option_and_then (λ s. state_after (step s)) o)
KeepsIfAny-step written None p = tt
KeepsIfAny-step written (Some s) p = KeepsIfAny-after written s (step s) p (Keeps-performed s (upcoming s))

-- k steps later
pub KeepsIfAny-later : (hart : Hart) (image : Image) (n k : ℕ) (written : List ℕ) → KeepsIfAny written (flat hart image n) → KeepsIfAny written (flat hart image (n + k))
unfolding flat
KeepsIfAny-later hart image n zero written p = rw add-zero p
KeepsIfAny-later hart image n (suc k) written p =
    subst (λ (j : ℕ). KeepsIfAny written (flat hart image j)) (sym (add-suc n k)) (KeepsIfAny-step written (flat hart image (n + k)) (KeepsIfAny-later hart image n k written p))

-- a later state has written at least what an earlier one has
pub IsPrefixOf-later : (hart : Hart) (image : Image) (n k : ℕ) (early late : Flat) → flat hart image n ≡ Some early → flat hart image (n + k) ≡ Some late → IsPrefixOf early.output late.output
IsPrefixOf-later hart image n k early late p q =
    let before : KeepsIfAny early.output (flat hart image n) = subst (KeepsIfAny early.output) (sym p) (IsPrefixOf-refl early.output) in
    subst (KeepsIfAny early.output) q (KeepsIfAny-later hart image n k early.output before)
