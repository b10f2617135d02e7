-- The kinds of what comes next: it stops without an access, touches no memory, is a scalar load or store, or a vector load or store.
use Rattle.std.proofs.Common.{◌≡◌, ℕ, ◌*◌, Bool, true, false, not, ◌&&◌, [], length, map, nat_eq, if◌then◌else◌, refl, sym, ap, ◌∙◌, inl, inr}
use Rattle.std.specs.Prelude.{◌⊎◌, Option, Some, None, is_some, slice_index}
use Rattle.std.proofs.lemmas.Bool.{false≢true, true≢false, not-true}
use Rattle.vx_base.specs.Numbers.{reduced, signed}
use Rattle.vx_base.specs.declared.machine.Want.TheVariants.{Fetch, Store}
use Rattle.vx_decode.specs.Decoded.{decoded}
use Rattle.vx_decode.specs.Encoded.{IsValid}
use Rattle.vx_decode.specs.Legal.{is_illegal}
use Rattle.vx_decode.specs.declared.instr.Instr.{Instr}
use Rattle.vx_image.specs.Pages.{Memory, permits}
use Rattle.vx_rows.specs.Table.{class_of}
use Rattle.vx_rows.specs.declared.op.Op.{Op}
use Rattle.vx_rows.specs.declared.op.Op.TheVariants.{Scalar}
use Rattle.vx_rows.specs.declared.op.ScalarOp.{ScalarOp}
use Rattle.vx_rows.specs.declared.op.ScalarOp.TheVariants.{Lui}
use Rattle.vx_rows.specs.declared.row.Addressing.{Addressing}
use Rattle.vx_rows.specs.declared.row.Class.{Class}
use Rattle.vx_rows.specs.declared.row.Class.TheVariants as class
use Rattle.vx_rows.specs.declared.row.Eew.{Eew}
use Rattle.vx_tables.specs.Residency.{Residency, page_map}
use Rattle.vx_tables.specs.declared.walked.Walked.{Walked}
use Rattle.vx_tables.specs.declared.walked.Walked.TheVariants as walked
use Rattle.vx_vstate.specs.Registers.{is_byte_width, words_of_all}
use Rattle.vx_vstate.specs.State.{IsVectorState, IsSetting}
use Rattle.vx_vector.specs.Accesses.{Movement, access_bits}
use Rattle.vx_vector.specs.Batches.{batches}
use Rattle.vx_vector.specs.Movements.{IsLegalMovement, IsSoundMovement}
use Rattle.vx_vector.specs.Reading.{Reading}
use Rattle.vx_flat.specs.Access.{access_address, access_width, loaded}
use Rattle.vx_flat.specs.Checks.{cause_of, checked}
use Rattle.vx_flat.specs.Classes.{Does}
use Rattle.vx_flat.specs.Control.{Exchange}
use Rattle.vx_flat.specs.Memory.{number_at, put_number}
use Rattle.vx_flat.specs.Outcome.{Outcome, faulted}
use Rattle.vx_flat.specs.Outcome.Outcome.{Next, Exited, Faulted}
use Rattle.vx_flat.specs.Prefix.{transfer_next, transfer_as}
use Rattle.vx_flat.specs.Scalar.{Work, work, effect, effect_of, next_pc}
use Rattle.vx_flat.specs.Scalar.Work.{Acts}
use Rattle.vx_flat.specs.Service.{service, answered}
use Rattle.vx_flat.specs.Splits.{IsWellFormed}
use Rattle.vx_flat.specs.State.{Flat, register, with_register, following}
use Rattle.vx_flat.specs.Step.{step, upcoming, meaning, is_legal, is_legal_as, word_at_pc, performed, performed_as, affected, control_by, calculate_by, exchange_at}
use Rattle.vx_flat.specs.Transfers.{Direction, Transfer, transfer, transferred, want_of, is_fault_only_first}
use Rattle.vx_flat.specs.Transfers.Direction.{Loading, Storing}
use Rattle.vx_flat.specs.Vectors.{setting_at, reading_at}
use Rattle.vx_flat.specs.declared.effect.Effect.{Effect}
use Rattle.vx_flat.specs.declared.effect.Effect.TheVariants as effects
use Rattle.vx_flat.specs.declared.upcoming.Upcoming.{Upcoming}
use Rattle.vx_flat.specs.declared.upcoming.Upcoming.TheVariants.{Denied, Illegal, Instruction}
use Rattle.vx_episode.specs.Footprint.{Access, Footprint, stopping, ended_by, halting, multiply_latency, divide_latency, computing, jumping, one_batch, calculating_by, moved_batch, footprint_as, footprint_of, needs_vectors, footprint_with, footprint_found, footprint}
use Rattle.vx_episode.specs.Organisation.{Organisation}
use Rattle.vx_episode.specs.declared.ended.Ended.{Ended}
use Rattle.vx_episode.specs.declared.ended.Ended.TheVariants as ended

-- what the crates below say of operations, instructions and movements
pub record Laws : Type 0 where
  pub does : (op : Op) (pc a b n : ℕ) → Does (class_of op) pc (work op pc a b n)
  pub sound : (m : Movement) → IsLegalMovement m → length m.words ≡ words_of_all m.at.vlen → IsSoundMovement m
  pub valid : (word : ℕ) (i : Instr) → decoded word ≡ Some i → IsValid i

-- the memory that an outcome leaves
abbrev pub memory_in : Flat → Outcome → Memory
memory_in s (Next t) = t.memory
memory_in s (Exited code) = s.memory
memory_in s (Faulted fault t) = t.memory

abbrev pub is_faulted : Ended → Bool
is_faulted ended.Slice = false
is_faulted (ended.Away address want) = false
is_faulted ended.Vector = false
is_faulted ended.Service = false
is_faulted (ended.Faulted fault) = true

-- ---- the kinds

module _ (machine : Organisation) (f : Footprint) (s : Flat) where
  -- it stops without an access, and where it faults, leaves memory as it is
  pub record IsStopping : Type 0 where
    pub why : Ended
    pub stops : f.stop ≡ Some why
    pub serial : f.is_serial ≡ true
    pub none : f.batches ≡ []
    pub keeps : is_faulted why ≡ true → memory_in s (step s) ≡ s.memory

  -- it completes, and touches no memory
  pub record IsPlain : Type 0 where
    pub runs : f.stop ≡ None
    pub none : f.batches ≡ []
    pub next : Flat
    pub goes : step s ≡ Next next
    pub keeps : next.memory ≡ s.memory

  -- a store writes a number
  pub record IsWriting (access : Access) (done : Flat) : Type 0 where
    pub want : f.want ≡ Store
    pub wide : is_byte_width (8 * access.width) ≡ true
    pub value : ℕ
    pub writes : done.memory ≡ put_number s.memory access.address access.width value

  -- a scalar load or store
  pub record IsScalar : Type 0 where
    pub runs : f.stop ≡ None
    pub access : Access
    pub one : f.batches ≡ one_batch access
    pub first : access.element ≡ 0
    pub untrimmed : f.is_fault_only_first ≡ false
    pub no_transfer : transfer_next s (upcoming s) ≡ None
    pub done : Flat
    pub goes : step s ≡ checked (cause_of s.memory f.want access.address access.width) s access.address done
    pub keeps : (done.memory ≡ s.memory) ⊎ IsWriting access done

  -- a vector load or store
  pub record IsTransfer : Type 0 where
    pub runs : f.stop ≡ None
    pub transfer : Transfer
    pub all : f.batches ≡ map (moved_batch transfer) (batches transfer.movement machine.lanes machine.batch_limit)
    pub want : f.want ≡ want_of transfer.direction
    pub trims : f.is_fault_only_first ≡ is_fault_only_first transfer.movement.addressing
    pub comes : transfer_next s (upcoming s) ≡ Some transfer
    pub goes : step s ≡ transferred transfer s
    pub wide : transfer.direction ≡ Storing → is_byte_width (access_bits transfer.movement) ≡ true

  abbrev pub Kind : Type 0
  Kind = IsStopping ⊎ (IsPlain ⊎ (IsScalar ⊎ IsTransfer))

-- ---- what comes next

abbrev is_instruction : Upcoming → Bool
is_instruction Denied = false
is_instruction (Illegal word) = false
is_instruction (Instruction i) = true

abbrev instruction_or : Instr → Upcoming → Instr
instruction_or i Denied = i
instruction_or i (Illegal word) = i
instruction_or i (Instruction j) = j

record IsNext (s : Flat) (i : Instr) : Type 0 where
  pub word : decoded (word_at_pc s) ≡ Some i
  pub legal : is_legal s i ≡ true

when-fetched : (b : Bool) (u : Upcoming) (i : Instr) → (if b then u else Denied) ≡ Instruction i → u ≡ Instruction i
when-fetched true u i h = h
when-fetched false u i h = absurd (false≢true (ap is_instruction h))

when-legal : (b : Bool) (word : ℕ) (j i : Instr) → (if b then Instruction j else Illegal word) ≡ Instruction i → (b ≡ true) × (j ≡ i)
when-legal true word j i h = (refl, ap (instruction_or i) h)
when-legal false word j i h = absurd (false≢true (ap is_instruction h))

when-decoded : (s : Flat) (word : ℕ) (o : Option Instr) (i : Instr) → meaning s word o ≡ Instruction i → (o ≡ Some i) × (is_legal s i ≡ true)
when-decoded s word None i h = absurd (false≢true (ap is_instruction h))
when-decoded s word (Some j) i h =
    let parts = when-legal (is_legal s j) word j i h in
    (ap Some parts.1, ap (is_legal s) (sym parts.1) ∙ parts.0)

next-parts : (s : Flat) (i : Instr) → upcoming s ≡ Instruction i → IsNext s i
unfolding upcoming
next-parts s i h =
    let parts = when-decoded s (word_at_pc s) (decoded (word_at_pc s)) i (when-fetched (permits s.memory s.pc Fetch) (meaning s (word_at_pc s) (decoded (word_at_pc s))) i h) in
    record { word = parts.0; legal = parts.1 }

-- the accesses of a scalar instruction have widths of bytes
width-of-scalar : (op : ScalarOp) → is_byte_width (8 * access_width (Scalar op)) ≡ true
width-of-scalar Lui = refl
width-of-scalar op = refl

scalar-wide : (op : Op) → is_byte_width (8 * access_width op) ≡ true
scalar-wide (Scalar op) = width-of-scalar op
scalar-wide op = refl

setting-in-range : (s : Flat) (i : Instr) → IsVectorState s.v → IsSetting (setting_at s i)
setting-in-range s i v = record { vlen_in_range = v.vlen_in_range; vtype_in_range = v.vtype_in_range; vl_in_range = v.vl_in_range; vstart_in_range = v.vstart_in_range; vxrm_in_range = v.vxrm_in_range }

abbrev is_storing : Direction → Bool
is_storing Loading = false
is_storing Storing = true

-- ---- each class

step-is : (s : Flat) (i : Instr) → upcoming s ≡ Instruction i → step s ≡ performed_as (class_of i.op) s i
unfolding performed
step-is s i h = ap (performed s) h

step-denied : (s : Flat) → upcoming s ≡ Denied → step s ≡ faulted s 12 s.pc
unfolding performed
step-denied s h = ap (performed s) h

step-illegal : (s : Flat) (word : ℕ) → upcoming s ≡ Illegal word → step s ≡ faulted s 2 word
unfolding performed
step-illegal s word h = ap (performed s) h

module _ (L : Laws) (machine : Organisation) (s : Flat) (w : IsWellFormed s) where
  halts : (o : Outcome) → step s ≡ o → memory_in s o ≡ s.memory → Kind machine (halting s) s
  halts o is keeps = inl (record { why = ended_by (step s); stops = refl; serial = refl; none = refl; keeps = λ h. ap (memory_in s) is ∙ keeps })

  module _ (i : Instr) (next : upcoming s ≡ Instruction i) where
    abbrev its_work : Work
    its_work = work i.op s.pc (slice_index s.x i.rs1) (slice_index s.x i.rs2) (reduced 64 i.imm)

    by-class : (c : Class) → class_of i.op ≡ c → step s ≡ performed_as c s i
    by-class c is = step-is s i next ∙ ap (λ c. performed_as c s i) is

    affected-keeps : (rd : ℕ) (e : Effect) → memory_in s (affected s rd e) ≡ s.memory
    affected-keeps rd (effects.Value value pc) = refl
    affected-keeps rd (effects.Next pc) = refl
    affected-keeps rd (effects.Misaligned target) = refl

    -- one that puts a value, or goes on
    acts-value : (latency value pc : ℕ) → its_work ≡ Acts (effects.Value value pc) → step s ≡ affected s i.rd (effect i s.x s.pc) → Kind machine (computing i latency) s
    acts-value latency value pc acts is =
        inr (inl (record { runs = refl; none = refl; next = record s { pc = pc; x = with_register s.x i.rd value }; goes = is ∙ ap (λ work. affected s i.rd (effect_of work s.pc)) acts; keeps = refl }))

    jumps : (e : Effect) → step s ≡ affected s i.rd e → Kind machine (jumping s i e) s
    jumps (effects.Value value pc) is = inr (inl (record { runs = refl; none = refl; next = record s { pc = pc; x = with_register s.x i.rd value }; goes = is; keeps = refl }))
    jumps (effects.Next pc) is = inr (inl (record { runs = refl; none = refl; next = record s { pc = pc }; goes = is; keeps = refl }))
    jumps (effects.Misaligned target) is = halts (faulted s 0 target) is refl

    asks : (b : Bool) → step s ≡ (if b then Exited (signed 64 (register s 10)) else Next (answered s (service s (register s 17)))) → Kind machine (halting s) s
    asks true is = halts (Exited (signed 64 (register s 10))) is refl
    asks false is = halts (Next (answered s (service s (register s 17)))) is refl

    controls : (f : Footprint) → f.stop ≡ None → f.batches ≡ [] → (o : Option Exchange) → is_some o ≡ true → step s ≡ control_by o s i → Kind machine f s
    controls f runs none None some is = absurd (false≢true some)
    controls f runs none (Some e) some is = inr (inl (record { runs = runs; none = none; next = record s { pc = following s; x = with_register s.x i.rd e.read; v = e.state }; goes = is; keeps = refl }))

    calculates : (o : Option Reading) → step s ≡ calculate_by o s i → Kind machine (calculating_by machine s i o) s
    calculates None is = halts (calculate_by None s i) is refl
    calculates (Some r) is = inr (inl (record { runs = refl; none = refl; next = _; goes = is; keeps = refl }))

    stores-wide : (a : Addressing) (e : Eew) → class_of i.op ≡ class.VectorStore a e → is_byte_width (access_bits (transfer Storing a e s i).movement) ≡ true
    stores-wide a e q =
        let parts = next-parts s i next in
        let legal : not (is_illegal i (setting_at s i)) ≡ true = ap (λ c. is_legal_as c s i) (sym q) ∙ parts.legal in
        (L.sound (transfer Storing a e s i).movement (record {
          setting = setting-in-range s i w.vectors;
          valid = L.valid (word_at_pc s) i parts.word;
          row = inr q;
          legal = not-true (is_illegal i (setting_at s i)) legal;
        }) w.vectors.words_in_all).width

    comes-as : (c : Class) → class_of i.op ≡ c → transfer_next s (upcoming s) ≡ transfer_as c s i
    comes-as c q = ap (transfer_next s) next ∙ ap (λ c. transfer_as c s i) q

    kind-as : (c : Class) → class_of i.op ≡ c → Does c s.pc its_work → Kind machine (footprint_as machine c s i) s
    kind-as class.Arithmetic q d = acts-value 1 d.0 (next_pc s.pc) d.1 (by-class class.Arithmetic q)
    kind-as class.Multiply q d = acts-value multiply_latency d.0 (next_pc s.pc) d.1 (by-class class.Multiply q)
    kind-as class.Divide q d = acts-value divide_latency d.0 (next_pc s.pc) d.1 (by-class class.Divide q)
    kind-as class.Jump q d = jumps (effect i s.x s.pc) (by-class class.Jump q)
    kind-as class.Branch q d = jumps (effect i s.x s.pc) (by-class class.Branch q)
    kind-as class.Load q d = inr (inr (inl (record {
      runs = refl;
      access = _;
      one = refl;
      first = refl;
      untrimmed = refl;
      no_transfer = comes-as class.Load q;
      done = record s { pc = following s; x = with_register s.x i.rd (loaded i.op (number_at s.memory (access_address i s.x) (access_width i.op))) };
      goes = by-class class.Load q;
      keeps = inl refl;
    })))
    kind-as class.Store q d = inr (inr (inl (record {
      runs = refl;
      access = _;
      one = refl;
      first = refl;
      untrimmed = refl;
      no_transfer = comes-as class.Store q;
      done = record s { pc = following s; memory = put_number s.memory (access_address i s.x) (access_width i.op) (register s i.rs2) };
      goes = by-class class.Store q;
      keeps = inr (record { want = refl; wide = scalar-wide i.op; value = register s i.rs2; writes = refl });
    })))
    kind-as class.Fence q d = inr (inl (record { runs = refl; none = refl; next = record s { pc = next_pc s.pc }; goes = by-class class.Fence q ∙ ap (λ work. affected s i.rd (effect_of work s.pc)) d; keeps = refl }))
    kind-as class.Ecall q d = asks (nat_eq (register s 17) 93) (by-class class.Ecall q)
    kind-as class.Ebreak q d = halts (faulted s 3 0) (by-class class.Ebreak q) refl
    kind-as class.Csr q d = controls (footprint_as machine class.Csr s i) refl refl (exchange_at s i) (ap (λ c. is_legal_as c s i) (sym q) ∙ (next-parts s i next).legal) (by-class class.Csr q)
    kind-as class.Set q d = inr (inl (record { runs = refl; none = refl; next = _; goes = by-class class.Set q; keeps = refl }))
    kind-as (class.VectorArithmetic family) q d = calculates (reading_at s i) (by-class (class.VectorArithmetic family) q)
    kind-as (class.VectorLoad a e) q d = inr (inr (inr (record {
      runs = refl;
      transfer = transfer Loading a e s i;
      all = refl;
      want = refl;
      trims = refl;
      comes = comes-as (class.VectorLoad a e) q;
      goes = by-class (class.VectorLoad a e) q;
      wide = λ h. absurd (false≢true (ap is_storing h));
    })))
    kind-as (class.VectorStore a e) q d = inr (inr (inr (record {
      runs = refl;
      transfer = transfer Storing a e s i;
      all = refl;
      want = refl;
      trims = refl;
      comes = comes-as (class.VectorStore a e) q;
      goes = by-class (class.VectorStore a e) q;
      wide = λ h. stores-wide a e q;
    })))

  kind-of : (u : Upcoming) → upcoming s ≡ u → Kind machine (footprint_of machine s u) s
  kind-of Denied h = halts (faulted s 12 s.pc) (step-denied s h) refl
  kind-of (Illegal word) h = halts (faulted s 2 word) (step-illegal s word h) refl
  kind-of (Instruction i) h = kind-as i h (class_of i.op) refl (L.does i.op s.pc (slice_index s.x i.rs1) (slice_index s.x i.rs2) (reduced 64 i.imm))

  -- one that stops for want of vectors or of its page
  stops-so : (why : Ended) → is_faulted why ≡ false → Kind machine (stopping why) s
  stops-so why is = inl (record { why = why; stops = refl; serial = refl; none = refl; keeps = λ h. absurd (true≢false (sym h ∙ is)) })

  kind-if : (b : Bool) (f : Footprint) → Kind machine f s → Kind machine (if b then stopping ended.Vector else f) s
  kind-if true f h = stops-so ended.Vector refl
  kind-if false f h = h

  kind-with : (has_vectors : Bool) (u : Upcoming) → upcoming s ≡ u → Kind machine (footprint_with machine has_vectors s u) s
  kind-with has_vectors Denied h = kind-of Denied h
  kind-with has_vectors (Illegal word) h = kind-if (not has_vectors && needs_vectors (decoded (word_at_pc s))) (footprint_of machine s (Illegal word)) (kind-of (Illegal word) h)
  kind-with has_vectors (Instruction i) h = kind-if (not has_vectors && needs_vectors (decoded (word_at_pc s))) (footprint_of machine s (Instruction i)) (kind-of (Instruction i) h)

  kind-found : (has_vectors : Bool) (fetched : Walked) → Kind machine (footprint_found machine has_vectors s fetched) s
  kind-found has_vectors walked.Away = stops-so (ended.Away s.pc Fetch) refl
  kind-found has_vectors (walked.Leaf frame perm dirty) = kind-with has_vectors (upcoming s) refl
  kind-found has_vectors walked.Denied = kind-with has_vectors (upcoming s) refl

  -- of what is fetched
  pub kind : (has_vectors : Bool) (residency : Residency) → Kind machine (footprint machine has_vectors residency s) s
  unfolding footprint
  kind has_vectors residency = kind-found has_vectors (page_map residency s.pc Fetch)

  serial-by : (f : Footprint) → Kind machine f s → is_some f.stop ≡ true → f.is_serial ≡ true
  serial-by f (inl k) h = k.serial
  serial-by f (inr (inl k)) h = absurd (false≢true (sym (ap is_some k.runs) ∙ h))
  serial-by f (inr (inr (inl k))) h = absurd (false≢true (sym (ap is_some k.runs) ∙ h))
  serial-by f (inr (inr (inr k))) h = absurd (false≢true (sym (ap is_some k.runs) ∙ h))

  -- what stops without an access waits for the retire before it
  pub stops-serial : (has_vectors : Bool) (residency : Residency) → is_some (footprint machine has_vectors residency s).stop ≡ true → (footprint machine has_vectors residency s).is_serial ≡ true
  stops-serial has_vectors residency h = serial-by (footprint machine has_vectors residency s) (kind has_vectors residency) h
