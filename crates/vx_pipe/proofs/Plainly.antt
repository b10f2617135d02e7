-- The footprints of instructions without accesses, by class and by what they lead to.
use Rattle.std.proofs.Common.{◌≡◌, ℕ, ℤ, ◌+◌, max, Bool, eqb, true, false, Some, None, refl, sym, ap, subst, ◌∙◌, inl, inr, arith, is_some}
use Rattle.std.specs.Prelude.{Option, if◌then◌else◌, slice_index}
use Rattle.std.proofs.lemmas.Bool.{cases_Bool, false≢true}
use Rattle.vx_base.specs.Numbers.{reduced}
use Rattle.vx_base.specs.declared.machine.Fault.{Fault}
use Rattle.vx_decode.specs.declared.instr.Instr.{Instr}
use Rattle.vx_flat.specs.Classes.{Does}
use Rattle.vx_flat.specs.Control.{Exchange}
use Rattle.vx_flat.specs.Outcome.Outcome.{Next, Exited, Faulted}
use Rattle.vx_flat.specs.Scalar.{Work, effect, effect_of, put, work, next_pc}
use Rattle.vx_flat.specs.Scalar.Work.{Acts}
use Rattle.vx_flat.specs.State.{Flat, register}
use Rattle.vx_flat.specs.Step.{affected, control_by, ecall, exchange_at, is_legal, is_legal_as, meaning, performed, performed_as, step, upcoming}
use Rattle.vx_flat.specs.declared.effect.Effect.{Effect}
use Rattle.vx_flat.specs.declared.effect.Effect.TheVariants as effect
use Rattle.vx_flat.specs.declared.upcoming.Upcoming.TheVariants.{Denied, Illegal, Instruction}
use Rattle.vx_rows.specs.Table.{class_of}
use Rattle.vx_rows.specs.declared.op.Op.{Op}
use Rattle.vx_rows.specs.declared.row.Class.{Class}
use Rattle.vx_rows.specs.declared.row.Class.TheVariants as class
use Rattle.vx_episode.specs.Footprint.{Footprint, ended_by, footprint_as, footprint_of, halting, jumping, divide_latency, multiply_latency}
use Rattle.vx_episode.specs.Organisation.{Organisation}
use Rattle.vx_episode.specs.declared.ended.Ended.{Ended}
use Rattle.vx_episode.specs.declared.ended.Ended.TheVariants as ended
use Rattle.vx_pipe.specs.Classes.{changes_as, is_plain, jumps_as, span_of}
use Rattle.vx_pipe.specs.Plain.{IsStopping, IsWithoutAccesses}

one : (issued : ℕ) → max (issued + 1) (issued + 1) ≡ issued + 1
one issued = omega arith

three : (issued : ℕ) → max (issued + multiply_latency) (issued + 1) ≡ issued + multiply_latency
three issued = omega arith

twenty : (issued : ℕ) → max (issued + divide_latency) (issued + 1) ≡ issued + divide_latency
twenty issued = omega arith

-- ---- those that complete

jumped : (s : Flat) (i : Instr) (e : Effect) (t : Flat) → affected s i.rd e ≡ Next t → IsWithoutAccesses (jumping s i e) 1 true false
jumped s i (effect.Value value pc) t is = record { stop = refl; batches = refl; completes = one; jumps_is = refl; changes_is = refl }
jumped s i (effect.Next pc) t is = record { stop = refl; batches = refl; completes = one; jumps_is = refl; changes_is = refl }
jumped s i (effect.Misaligned target) t is = cc

completes-as : (c : Class) (machine : Organisation) (s : Flat) (i : Instr) (t : Flat) → is_plain c ≡ true → (c ≡ class.Ecall → ⊥) → performed_as c s i ≡ Next t → IsWithoutAccesses (footprint_as machine c s i) (span_of c) (jumps_as c) (changes_as c i)
completes-as class.Arithmetic machine s i t is other steps = record { stop = refl; batches = refl; completes = one; jumps_is = refl; changes_is = refl }
completes-as class.Multiply machine s i t is other steps = record { stop = refl; batches = refl; completes = three; jumps_is = refl; changes_is = refl }
completes-as class.Divide machine s i t is other steps = record { stop = refl; batches = refl; completes = twenty; jumps_is = refl; changes_is = refl }
completes-as class.Jump machine s i t is other steps = jumped s i (effect i s.x s.pc) t steps
completes-as class.Branch machine s i t is other steps = jumped s i (effect i s.x s.pc) t steps
completes-as class.Load machine s i t is other steps = absurd (false≢true is)
completes-as class.Store machine s i t is other steps = absurd (false≢true is)
completes-as class.Fence machine s i t is other steps = record { stop = refl; batches = refl; completes = one; jumps_is = refl; changes_is = refl }
completes-as class.Ecall machine s i t is other steps = absurd (other refl)
completes-as class.Ebreak machine s i t is other steps = cc
completes-as class.Csr machine s i t is other steps = record { stop = refl; batches = refl; completes = one; jumps_is = refl; changes_is = refl }
completes-as class.Set machine s i t is other steps = record { stop = refl; batches = refl; completes = one; jumps_is = refl; changes_is = refl }
completes-as (class.VectorArithmetic family) machine s i t is other steps = absurd (false≢true is)
completes-as (class.VectorLoad addressing width) machine s i t is other steps = absurd (false≢true is)
completes-as (class.VectorStore addressing width) machine s i t is other steps = absurd (false≢true is)

-- ---- what comes next, by whether it is legal

pub legal-next : (s : Flat) (word : ℕ) (i : Instr) → is_legal s i ≡ true → meaning s word (Some i) ≡ Instruction i
legal-next s word i is = ap (λ (b : Bool). if b then Instruction i else Illegal word) is

pub illegal-next : (s : Flat) (word : ℕ) (i : Instr) → is_legal s i ≡ false → meaning s word (Some i) ≡ Illegal word
illegal-next s word i is = ap (λ (b : Bool). if b then Instruction i else Illegal word) is

illegal-faults : (s t : Flat) (word : ℕ) → performed s (Illegal word) ≡ Next t → ⊥
unfolding performed
illegal-faults s t word is = cc

performed-instruction : (s : Flat) (i : Instr) (c : Class) → c ≡ class_of i.op → performed s (Instruction i) ≡ performed_as c s i
unfolding performed
performed-instruction s i c is = ap (λ (k : Class). performed_as k s i) (sym is)

pub completes-plainly : (machine : Organisation) (s : Flat) (word : ℕ) (i : Instr) (c : Class) (t : Flat) → c ≡ class_of i.op → is_plain c ≡ true → (c ≡ class.Ecall → ⊥) → upcoming s ≡ meaning s word (Some i) → step s ≡ Next t
    → IsWithoutAccesses (footprint_of machine s (upcoming s)) (span_of c) (jumps_as c) (changes_as c i)
completes-plainly machine s word i c t of is other next steps =
    elim (cases_Bool (is_legal s i)) [
      | inl legal ↦ let at : upcoming s ≡ Instruction i = next ∙ legal-next s word i legal in
          let there : performed_as c s i ≡ Next t = sym (performed-instruction s i c of) ∙ ap (performed s) (sym at) ∙ steps in
          subst (λ (f : Footprint). IsWithoutAccesses f (span_of c) (jumps_as c) (changes_as c i)) (ap (λ (k : Class). footprint_as machine k s i) of ∙ ap (footprint_of machine s) (sym at)) (completes-as c machine s i t is other there)
      | inr illegal ↦ let at : upcoming s ≡ Illegal word = next ∙ illegal-next s word i illegal in
          absurd (illegal-faults s t word (ap (performed s) (sym at) ∙ steps))
    ]

-- ---- those that halt

halts : (s : Flat) (why : Ended) → ended_by (step s) ≡ why → IsStopping (halting s) why
halts s why is = record { stop = ap Some is; batches = refl }

pub halts-at : (machine : Organisation) (s : Flat) (why : Ended) → ended_by (step s) ≡ why → footprint_of machine s (upcoming s) ≡ halting s → IsStopping (footprint_of machine s (upcoming s)) why
halts-at machine s why is here = subst (λ (f : Footprint). IsStopping f why) (sym here) (halts s why is)

halts-jumping : (s : Flat) (i : Instr) (e : Effect) (fault : Fault) (t : Flat) → affected s i.rd e ≡ Faulted fault t → jumping s i e ≡ halting s
halts-jumping s i (effect.Value value pc) fault t is = cc
halts-jumping s i (effect.Next pc) fault t is = cc
halts-jumping s i (effect.Misaligned target) fault t is = refl

-- an effect that never faults
calm-value : (s : Flat) (i : Instr) (value : ℕ) (w : Work) (fault : Fault) (t : Flat) → w ≡ Acts (put value s.pc) → affected s i.rd (effect_of w s.pc) ≡ Faulted fault t → ⊥
calm-value s i value w fault t is faults =
    let there : affected s i.rd (put value s.pc) ≡ Faulted fault t = ap (λ (x : Work). affected s i.rd (effect_of x s.pc)) (sym is) ∙ faults in cc

calm-next : (s : Flat) (i : Instr) (w : Work) (fault : Fault) (t : Flat) → w ≡ Acts (effect.Next (next_pc s.pc)) → affected s i.rd (effect_of w s.pc) ≡ Faulted fault t → ⊥
calm-next s i w fault t is faults =
    let there : affected s i.rd (effect.Next (next_pc s.pc)) ≡ Faulted fault t = ap (λ (x : Work). affected s i.rd (effect_of x s.pc)) (sym is) ∙ faults in cc

exchanged : (e : Option Exchange) (s : Flat) (i : Instr) (fault : Fault) (t : Flat) → is_some e ≡ true → control_by e s i ≡ Faulted fault t → ⊥
exchanged None s i fault t is faults = absurd (false≢true is)
exchanged (Some e) s i fault t is faults = cc

-- a service doesn't fault
answers : (b : Bool) (code : ℤ) (u t : Flat) (fault : Fault) → (if b then Exited code else Next u) ≡ Faulted fault t → ⊥
answers true code u t fault is = cc
answers false code u t fault is = cc

asks-by : (b : Bool) (code : ℤ) (u : Flat) → ended_by (if b then Exited code else Next u) ≡ ended.Service
asks-by true code u = refl
asks-by false code u = refl

asks : (s : Flat) → ended_by (ecall s) ≡ ended.Service
asks s = asks-by (eqb (register s 17) 93) _ _

faults-as : (c : Class) (machine : Organisation) (s : Flat) (i : Instr) (fault : Fault) (t : Flat) → is_plain c ≡ true → Does c s.pc (work i.op s.pc (slice_index s.x i.rs1) (slice_index s.x i.rs2) (reduced 64 i.imm)) → is_legal_as c s i ≡ true → performed_as c s i ≡ Faulted fault t → footprint_as machine c s i ≡ halting s
faults-as class.Arithmetic machine s i fault t is does legal steps = absurd (calm-value s i does.0 _ fault t does.1 steps)
faults-as class.Multiply machine s i fault t is does legal steps = absurd (calm-value s i does.0 _ fault t does.1 steps)
faults-as class.Divide machine s i fault t is does legal steps = absurd (calm-value s i does.0 _ fault t does.1 steps)
faults-as class.Jump machine s i fault t is does legal steps = halts-jumping s i (effect i s.x s.pc) fault t steps
faults-as class.Branch machine s i fault t is does legal steps = halts-jumping s i (effect i s.x s.pc) fault t steps
faults-as class.Load machine s i fault t is does legal steps = absurd (false≢true is)
faults-as class.Store machine s i fault t is does legal steps = absurd (false≢true is)
faults-as class.Fence machine s i fault t is does legal steps = absurd (calm-next s i _ fault t does steps)
faults-as class.Ecall machine s i fault t is does legal steps = refl
faults-as class.Ebreak machine s i fault t is does legal steps = refl
faults-as class.Csr machine s i fault t is does legal steps = absurd (exchanged (exchange_at s i) s i fault t legal steps)
faults-as class.Set machine s i fault t is does legal steps = cc
faults-as (class.VectorArithmetic family) machine s i fault t is does legal steps = absurd (false≢true is)
faults-as (class.VectorLoad addressing width) machine s i fault t is does legal steps = absurd (false≢true is)
faults-as (class.VectorStore addressing width) machine s i fault t is does legal steps = absurd (false≢true is)

abbrev pub DoesLaw : Type 0
DoesLaw = (op : Op) (pc a b n : ℕ) → Does (class_of op) pc (work op pc a b n)

pub faults-plainly : DoesLaw → (machine : Organisation) (s : Flat) (word : ℕ) (i : Instr) (c : Class) (fault : Fault) (t : Flat) → c ≡ class_of i.op → is_plain c ≡ true → upcoming s ≡ meaning s word (Some i) → step s ≡ Faulted fault t
    → IsStopping (footprint_of machine s (upcoming s)) (ended.Faulted fault)
faults-plainly law machine s word i c fault t of is next steps =
    halts-at machine s (ended.Faulted fault) (ap ended_by steps)
    (elim (cases_Bool (is_legal s i)) [
      | inl legal ↦ let at : upcoming s ≡ Instruction i = next ∙ legal-next s word i legal in
          let there : performed_as c s i ≡ Faulted fault t = sym (performed-instruction s i c of) ∙ ap (performed s) (sym at) ∙ steps in
          let does : Does c s.pc (work i.op s.pc (slice_index s.x i.rs1) (slice_index s.x i.rs2) (reduced 64 i.imm)) =
          subst (λ (k : Class). Does k s.pc (work i.op s.pc (slice_index s.x i.rs1) (slice_index s.x i.rs2) (reduced 64 i.imm))) (sym of) (law i.op s.pc (slice_index s.x i.rs1) (slice_index s.x i.rs2) (reduced 64 i.imm)) in
          let allowed : is_legal_as c s i ≡ true = ap (λ (k : Class). is_legal_as k s i) of ∙ legal in
          ap (footprint_of machine s) at ∙ ap (λ (k : Class). footprint_as machine k s i) (sym of) ∙ faults-as c machine s i fault t is does allowed there
      | inr illegal ↦ ap (footprint_of machine s) (next ∙ illegal-next s word i illegal)
    ])

-- a service is asked for
pub asks-plainly : (machine : Organisation) (s : Flat) (word : ℕ) (i : Instr) → class_of i.op ≡ class.Ecall → upcoming s ≡ meaning s word (Some i) → IsStopping (footprint_of machine s (upcoming s)) ended.Service
asks-plainly machine s word i of next =
    let legal : is_legal s i ≡ true = ap (λ (k : Class). is_legal_as k s i) of in
    let at : upcoming s ≡ Instruction i = next ∙ legal-next s word i legal in
    let there : step s ≡ ecall s = ap (performed s) at ∙ performed-instruction s i class.Ecall (sym of) in
    halts-at machine s ended.Service (ap ended_by there ∙ asks s) (ap (footprint_of machine s) at ∙ ap (λ (k : Class). footprint_as machine k s i) of)

-- what can't be fetched, or means nothing, faults
pub faults-denied : (machine : Organisation) (s : Flat) (fault : Fault) (t : Flat) → upcoming s ≡ Denied → step s ≡ Faulted fault t → IsStopping (footprint_of machine s (upcoming s)) (ended.Faulted fault)
faults-denied machine s fault t next steps = halts-at machine s (ended.Faulted fault) (ap ended_by steps) (ap (footprint_of machine s) next)

pub faults-illegal : (machine : Organisation) (s : Flat) (word : ℕ) (fault : Fault) (t : Flat) → upcoming s ≡ Illegal word → step s ≡ Faulted fault t → IsStopping (footprint_of machine s (upcoming s)) (ended.Faulted fault)
faults-illegal machine s word fault t next steps = halts-at machine s (ended.Faulted fault) (ap ended_by steps) (ap (footprint_of machine s) next)
