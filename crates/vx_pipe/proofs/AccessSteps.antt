-- Scalar loads and stores in the flat machine: what timing sees of one, and what its step leads to.
use Rattle.std.proofs.Common.{◌≡◌, ℕ, Bool, true, false, Some, None, refl, sym, ap, subst, ◌∙◌, inl, inr}
use Rattle.std.specs.Prelude.{Option, if◌then◌else◌}
use Rattle.vx_base.specs.declared.machine.Fault.{Fault}
use Rattle.vx_decode.specs.declared.instr.Instr.{Instr}
use Rattle.vx_flat.specs.Access.{access_address, access_width, loaded}
use Rattle.vx_flat.specs.Checks.{cause_of, checked}
use Rattle.vx_flat.specs.Continued.{behind, continued, passed, passed_as, passed_over}
use Rattle.vx_flat.specs.Memory.{number_at, put_number}
use Rattle.vx_flat.specs.Outcome.{Outcome}
use Rattle.vx_flat.specs.Outcome.Outcome.{Next, Faulted}
use Rattle.vx_flat.specs.Scalar.{next_pc}
use Rattle.vx_flat.specs.State.{Flat, following, register, with_register}
use Rattle.vx_flat.specs.Step.{is_legal_as, meaning, performed, performed_as, step, upcoming}
use Rattle.vx_flat.specs.declared.upcoming.Upcoming.{Upcoming}
use Rattle.vx_flat.specs.declared.upcoming.Upcoming.TheVariants.{Instruction}
use Rattle.vx_hart.specs.Asking.{is_service_class}
use Rattle.vx_hart.specs.Outcomes.{outcome_next, outcome_of}
use Rattle.vx_hart.specs.declared.progress.Progress.{Progress}
use Rattle.vx_hart.specs.declared.progress.Progress.TheVariants as progress
use Rattle.vx_rows.specs.Table.{class_of}
use Rattle.vx_rows.specs.declared.row.Class.{Class}
use Rattle.vx_rows.specs.declared.row.Class.TheVariants as class
use Rattle.vx_episode.specs.Footprint.{Access, Footprint, footprint_as, footprint_of, scalar_access}
use Rattle.vx_episode.specs.Organisation.{Organisation}
use Rattle.vx_pipe.specs.Accessing.{IsAccessing, IsAccessClass, wanted_as}
use Rattle.vx_pipe.proofs.Accessing.{loading-is, storing-is}
use Rattle.vx_pipe.proofs.Plainly.{legal-next}

-- ---- by class

abbrev pub stored_as : Class → Flat → Instr → Option ℕ
stored_as class.Store s i = Some (register s i.rs2)
stored_as other s i = None

-- the access
abbrev pub access_as : Class → Flat → Instr → Access
access_as c s i = scalar_access s i (stored_as c s i)

-- what is left where it doesn't fail
abbrev pub done_as : Class → Flat → Instr → Flat
done_as class.Store s i = record s { pc = following s; memory = put_number s.memory (access_address i s.x) (access_width i.op) (register s i.rs2) }
done_as other s i = record s { pc = following s; x = with_register s.x i.rd (loaded i.op (number_at s.memory (access_address i s.x) (access_width i.op))) }

-- and what its step leads to
abbrev pub checked_as : Class → Flat → Instr → Outcome
checked_as c s i = checked (cause_of s.memory (wanted_as c) (access_address i s.x) (access_width i.op)) s (access_address i s.x) (done_as c s i)

module _ (c : Class) (is : IsAccessClass c) (s : Flat) (i : Instr) where
  by-class : (P : Class → Type 0) → P class.Load → P class.Store → P c
  by-class P load store =
      elim is [
        | inl here ↦ subst P (sym here) load
        | inr here ↦ subst P (sym here) store
      ]

  accesses-as : (machine : Organisation) → IsAccessing (footprint_as machine c s i) (wanted_as c) (access_as c s i)
  accesses-as machine = by-class (λ (k : Class). IsAccessing (footprint_as machine k s i) (wanted_as k) (access_as k s i)) (loading-is s i) (storing-is s i)

  legal-as : is_legal_as c s i ≡ true
  legal-as = by-class (λ (k : Class). is_legal_as k s i ≡ true) refl refl

  no-service : is_service_class c ≡ false
  no-service = by-class (λ (k : Class). is_service_class k ≡ false) refl refl

  performs-as : performed_as c s i ≡ checked_as c s i
  performs-as = by-class (λ (k : Class). performed_as k s i ≡ checked_as k s i) refl refl

  passes-as : passed_as c s i ≡ passed s
  passes-as = by-class (λ (k : Class). passed_as k s i ≡ passed s) refl refl

module _ (c : Class) (is : IsAccessClass c) (s : Flat) (i : Instr) (of : c ≡ class_of i.op) where
  pub means : (word : ℕ) → meaning s word (Some i) ≡ Instruction i
  means word = legal-next s word i (ap (λ (k : Class). is_legal_as k s i) (sym of) ∙ legal-as c is s i)

  performs : performed s (Instruction i) ≡ checked_as c s i
  unfolding performed
  performs = ap (λ (k : Class). performed_as k s i) (sym of) ∙ performs-as c is s i

  pub accesses : (machine : Organisation) → upcoming s ≡ Instruction i → IsAccessing (footprint_of machine s (upcoming s)) (wanted_as c) (access_as c s i)
  accesses machine next =
      subst (λ (f : Footprint). IsAccessing f (wanted_as c) (access_as c s i)) (ap (λ (k : Class). footprint_as machine k s i) of ∙ ap (footprint_of machine s) (sym next)) (accesses-as c is s i machine)

  pub steps : upcoming s ≡ Instruction i → step s ≡ checked_as c s i
  steps next = ap (performed s) next ∙ performs

  pub outcome-is : (word : ℕ) → outcome_next s (meaning s word (Some i)) ≡ Some (checked_as c s i)
  outcome-is word =
      ap (outcome_next s) (means word)
      ∙ ap (λ (b : Bool). if b then None else Some (performed s (Instruction i))) (ap is_service_class (sym of) ∙ no-service c is s i)
      ∙ ap Some performs

  -- a fault is passed over
  pub passes : (fault : Fault) (t : Flat) → upcoming s ≡ Instruction i → step s ≡ Faulted fault t → (continued s).pc ≡ next_pc s.pc
  passes fault t next faults =
      ap (λ (r : Outcome). (behind s r).pc) faults ∙ ap (λ (u : Upcoming). (passed_over s u).pc) next
      ∙ ap (λ (k : Class). (passed_as k s i).pc) (sym of) ∙ ap (λ (u : Flat). u.pc) (passes-as c is s i)

-- ---- by what the program told

next-by : (p : Progress) (last : Fault) (v d : Flat) → outcome_of p last v ≡ Some (Next d) → d ≡ v
next-by progress.Completed last v d is = cc
next-by progress.Asks last v d is = absurd (cc)
next-by progress.Faulted last v d is = absurd (cc)

faulted-by : (p : Progress) (last : Fault) (v d : Flat) (fault : Fault) → outcome_of p last v ≡ Some (Faulted fault d) → d ≡ v
faulted-by progress.Completed last v d fault is = absurd (cc)
faulted-by progress.Asks last v d fault is = absurd (cc)
faulted-by progress.Faulted last v d fault is = cc

-- the fault is the last one
pub last-by : (p : Progress) (last : Fault) (v d : Flat) (fault : Fault) → outcome_of p last v ≡ Some (Faulted fault d) → last ≡ fault
last-by progress.Completed last v d fault is = absurd (cc)
last-by progress.Asks last v d fault is = absurd (cc)
last-by progress.Faulted last v d fault is = cc

module _ (c : Class) (is : IsAccessClass c) (s v : Flat) (i : Instr) (of : c ≡ class_of i.op) (next : upcoming s ≡ Instruction i) (word : ℕ) (p : Progress) (last : Fault) (outcome : outcome_of p last v ≡ outcome_next s (meaning s word (Some i))) where
  abbrev cause : Option ℕ
  cause = cause_of s.memory (wanted_as c) (access_address i s.x) (access_width i.op)

  told : outcome_of p last v ≡ Some (checked_as c s i)
  told = outcome ∙ outcome-is c is s i of word

  pub completes : cause ≡ None → step s ≡ Next v
  completes none =
      let checks : checked_as c s i ≡ Next (done_as c s i) = ap (λ (o : Option ℕ). checked o s (access_address i s.x) (done_as c s i)) none in
      steps c is s i of next ∙ checks ∙ ap Next (next-by p last v (done_as c s i) (told ∙ ap Some checks))

  abbrev pub fault_for : ℕ → Fault
  fault_for n = record { cause = n; tval = access_address i s.x; vstart = s.v.vstart }

  pub fault-told : (n : ℕ) → cause ≡ Some n → outcome_of p last v ≡ Some (Faulted (fault_for n) s)
  fault-told n some = told ∙ ap (λ (o : Option ℕ). Some (checked o s (access_address i s.x) (done_as c s i))) some

  pub faults : (n : ℕ) → cause ≡ Some n → step s ≡ Faulted (fault_for n) v
  faults n some =
      steps c is s i of next ∙ ap (λ (o : Option ℕ). checked o s (access_address i s.x) (done_as c s i)) some
      ∙ ap (Faulted (fault_for n)) (faulted-by p last v s (fault_for n) (fault-told n some))
