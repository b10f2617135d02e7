-- The step from a memory that differs in pending bytes alone.
use Rattle.std.proofs.Common.{◌≡◌, ℕ, ◌+◌, ◌-◌, ◌^◌, Bool, true, false, not, ◌&&◌, ◌||◌, nat_eq, leb, ltb, [], length, if◌then◌else◌, refl, sym, ap, ◌∙◌, subst, arith, zero, suc}
use Rattle.std.specs.List.{list_any, range_with_len, flat_map}
use Rattle.std.specs.Prelude.{Option, Some, None, pos, neg_ℤ}
use Rattle.std.proofs.lemmas.Bool.{true≢false}
use Rattle.vx_base.specs.Numbers.{from_little_endian, signed}
use Rattle.vx_base.specs.declared.machine.Want.{Want}
use Rattle.vx_base.specs.declared.machine.Want.TheVariants.{Load, Store}
use Rattle.vx_decode.specs.declared.instr.Instr.{Instr}
use Rattle.vx_image.specs.Pages.{Memory, permits}
use Rattle.vx_rows.specs.Table.{class_of}
use Rattle.vx_rows.specs.declared.op.Op.{Op}
use Rattle.vx_rows.specs.declared.op.Op.TheVariants.{Scalar, Set, Elem, Widen, Fixed, Mask, Perm, Memory as OfMemory}
use Rattle.vx_rows.specs.declared.op.ScalarOp.TheVariants.{Lui}
use Rattle.vx_rows.specs.declared.op.SetOp.TheVariants.{Vsetvli}
use Rattle.vx_rows.specs.declared.op.ElemOp.TheVariants.{VaddVv}
use Rattle.vx_rows.specs.declared.op.WidenOp.TheVariants.{VadcVvm}
use Rattle.vx_rows.specs.declared.op.FixedOp.TheVariants.{VsadduVv}
use Rattle.vx_rows.specs.declared.op.MaskOp.TheVariants.{VredsumVs}
use Rattle.vx_rows.specs.declared.op.PermOp.TheVariants.{VrgatherVv}
use Rattle.vx_rows.specs.declared.op.MemoryOp.TheVariants.{Vle8}
use Rattle.vx_rows.specs.declared.row.Addressing.{Addressing}
use Rattle.vx_rows.specs.declared.row.Class.{Class}
use Rattle.vx_rows.specs.declared.row.Class.TheVariants as class
use Rattle.vx_rows.specs.declared.row.Class.TheVariants.{VectorLoad, VectorStore}
use Rattle.vx_rows.specs.declared.row.Eew.{Eew}
use Rattle.vx_vector.specs.Accesses.{access_list, accesses_between, accesses_of_element, movement_count}
use Rattle.vx_vector.specs.Reading.{Reading}
use Rattle.vx_flat.specs.Access.{access_address, access_width, loaded}
use Rattle.vx_flat.specs.Checks.{cause_of, checked}
use Rattle.vx_flat.specs.Control.{Exchange}
use Rattle.vx_flat.specs.Memory.{all_permit, next_address, number_at, put_number}
use Rattle.vx_flat.specs.Outcome.{Outcome, faulted}
use Rattle.vx_flat.specs.Outcome.Outcome.{Next, Exited}
use Rattle.vx_flat.specs.Scalar.{effect}
use Rattle.vx_flat.specs.Service.{answers, service, answered, output_limit}
use Rattle.vx_flat.specs.Splits.{IsWellFormed}
use Rattle.vx_flat.specs.State.{Flat, register, with_register, following, at_element, completed}
use Rattle.vx_flat.specs.Step.{upcoming, exchange_at, affected, load, store, ecall, control_by, calculate_by, performed, performed_as, step}
use Rattle.vx_flat.specs.Transfers.{Transfer, Failure, transfer, transferred, transferred_by, first_failure, below_done, trimmed, is_fault_only_first}
use Rattle.vx_flat.specs.Transfers.Direction.{Loading, Storing}
use Rattle.vx_flat.specs.Vectors.{reading_at}
use Rattle.vx_flat.specs.declared.effect.Effect.{Effect}
use Rattle.vx_flat.specs.declared.effect.Effect.TheVariants as effects
use Rattle.vx_flat.specs.declared.upcoming.Upcoming.{Upcoming}
use Rattle.vx_flat.specs.declared.upcoming.Upcoming.TheVariants.{Denied, Illegal, Instruction}
use Rattle.vx_episode.specs.Show.{is_in, is_pending, spans_as, span_unless}
use Rattle.vx_pending.specs.Alike.{HaveSamePages, AreAlike, StandsFor, StandsExactlyFor, OutcomesAlike, with_memory}
use Rattle.vx_pending.proofs.Loads.{loads-memory, loads-alike, exactly, stands, failure-start, failure-first}
use Rattle.vx_pending.proofs.Next.{Laws, upcoming-alike, cause-alike, pending-is, scalar-wide}
use Rattle.vx_pending.proofs.Pages.{Agree, permits-alike, all-bytes-alike}
use Rattle.vx_pending.proofs.Prefixes.{itself, quiet}
use Rattle.vx_pending.proofs.Stored.{passed, in-span, numbers-same, number-agree, number-there}
use Rattle.vx_pending.proofs.Within.{below-alike, completed-alike, failures-alike}

-- ---- no store loads only as far as the first fault

abbrev is_cut_store : Class → Bool
is_cut_store (VectorStore a e) = is_fault_only_first a
is_cut_store c = false

no-cut-store : (op : Op) → is_cut_store (class_of op) ≡ false
no-cut-store (Scalar op) = scalar op
  where
    scalar : (op : _) → is_cut_store (class_of (Scalar op)) ≡ false
    scalar Lui = refl
    scalar op = refl
no-cut-store (Set Vsetvli) = refl
no-cut-store (Set op) = refl
no-cut-store (Elem VaddVv) = refl
no-cut-store (Elem op) = refl
no-cut-store (Widen VadcVvm) = refl
no-cut-store (Widen op) = refl
no-cut-store (Fixed VsadduVv) = refl
no-cut-store (Fixed op) = refl
no-cut-store (Mask VredsumVs) = refl
no-cut-store (Mask op) = refl
no-cut-store (Perm VrgatherVv) = refl
no-cut-store (Perm op) = refl
no-cut-store (OfMemory Vle8) = refl
no-cut-store (OfMemory op) = refl

-- ---- outcomes

either : (b : Bool) (x y u v : Outcome) → OutcomesAlike x u → OutcomesAlike y v → OutcomesAlike (if b then x else y) (if b then u else v)
either true x y u v p q = p
either false x y u v p q = q

-- ---- services

permit-alike : (m n : Memory) → ((a : ℕ) (want : Want) → permits m a want ≡ permits n a want) → (count address : ℕ) (want : Want) → all_permit m address count want ≡ all_permit n address count want
permit-alike m n h zero address want = refl
permit-alike m n h (suc count) address want = λ j. h address want j && permit-alike m n h count (next_address address) want j

service-alike : (s : Flat) (m : Memory) → ((a : ℕ) (want : Want) → permits m a want ≡ permits s.memory a want) → ((c : ℕ) → Agree m s.memory c) → (number : ℕ) → service (with_memory m s) number ≡ service s number
service-alike s m permit agree number =
    let address = register s 11 in
    let count = register s 12 in
    let readable = permit-alike m s.memory permit count address Load in
    let bytes = all-bytes-alike m s.memory agree count address in
    λ j. if nat_eq number 64 then
    (if not (nat_eq (register s 10) 1 || nat_eq (register s 10) 2) then answers (neg_ℤ (pos 9))
    else if nat_eq count 0 then answers (pos 0)
    else if not (leb (address + count) (2 ^ 64) && readable j) then answers (neg_ℤ (pos 14))
    else if ltb output_limit (length s.output + count) then answers (neg_ℤ (pos 28))
    else record { value = pos count; written = bytes j })
    else answers (neg_ℤ (pos 38))

module _ (L : Laws) (s : Flat) (m : Memory) (w : IsWellFormed s) (alike : AreAlike s m) where
  me : StandsFor (with_memory m s) s
  me = itself s m alike

  permit : (a : ℕ) (want : Want) → permits m a want ≡ permits s.memory a want
  permit = permits-alike m s.memory alike.pages

  affected-alike : ((c : ℕ) → Agree m s.memory c) → (rd : ℕ) (e : Effect) → OutcomesAlike (affected (with_memory m s) rd e) (affected s rd e)
  affected-alike agree rd (effects.Value value pc) = exactly m (record s { pc = pc; x = with_register s.x rd value }) alike.pages agree
  affected-alike agree rd (effects.Next pc) = exactly m (record s { pc = pc }) alike.pages agree
  affected-alike agree rd (effects.Misaligned target) = (refl, me)

  checked-alike : (address : ℕ) (x y : Flat) (c d : Option ℕ) → c ≡ d → (d ≡ None → StandsExactlyFor x y) → OutcomesAlike (checked c (with_memory m s) address x) (checked d s address y)
  checked-alike address x y c d e f = subst (λ c. OutcomesAlike (checked c (with_memory m s) address x) (checked d s address y)) (sym e) (by_cause d f)
    where
      by_cause : (d : Option ℕ) → (d ≡ None → StandsExactlyFor x y) → OutcomesAlike (checked d (with_memory m s) address x) (checked d s address y)
      by_cause None f = f refl
      by_cause (Some cause) f = (refl, me)

  load-alike : ((c : ℕ) → Agree m s.memory c) → (i : Instr) → OutcomesAlike (load (with_memory m s) i) (load s i)
  load-alike agree i =
      let address = access_address i s.x in
      let width = access_width i.op in
      let number = ap from_little_endian (all-bytes-alike m s.memory agree width address) in
      checked-alike address _ _ (cause_of m Load address width) (cause_of s.memory Load address width) (cause-alike L s m w alike Load address width)
      (λ e.
      subst (λ n. StandsExactlyFor (record s { memory = m; pc = following s; x = with_register s.x i.rd (loaded i.op n) }) (record s { pc = following s; x = with_register s.x i.rd (loaded i.op (number_at s.memory address width)) })) (sym number)
      (exactly m (record s { pc = following s; x = with_register s.x i.rd (loaded i.op (number_at s.memory address width)) }) alike.pages agree))

  -- what a scalar store that doesn't fail leaves pending of is written
  written-alike : (i : Instr) → upcoming s ≡ Instruction i → class_of i.op ≡ class.Store → cause_of s.memory Store (access_address i s.x) (access_width i.op) ≡ None → (value c : ℕ) → Agree (put_number m (access_address i s.x) (access_width i.op) value) (put_number s.memory (access_address i s.x) (access_width i.op) value) c
  written-alike i h q good value c =
      let address = access_address i s.x in
      let width = access_width i.op in
      let is : is_pending s c ≡ (is_in c (record { address = address; width = width }) || false) =
      pending-is s (Instruction i) c h ∙ ap (λ k. list_any (is_in c) (spans_as k s i)) q ∙ ap (λ o. list_any (is_in c) (span_unless o address width)) good in
      by_test (is_in c (record { address = address; width = width })) is
      (λ t.
      let low = in-span address width c t in
      number-there m s.memory address width value c alike.pages (passed s.memory address width (scalar-wide i.op) good).fits low.0 low.1)
    where
      by_test : (b : Bool) → is_pending s c ≡ (b || false) → (b ≡ true → Agree (put_number m (access_address i s.x) (access_width i.op) value) (put_number s.memory (access_address i s.x) (access_width i.op) value) c) → Agree (put_number m (access_address i s.x) (access_width i.op) value) (put_number s.memory (access_address i s.x) (access_width i.op) value) c
      by_test true e f = f refl
      by_test false e f = number-agree m s.memory (access_address i s.x) (access_width i.op) value c alike.pages (alike.bytes c e)

  store-alike : (i : Instr) → upcoming s ≡ Instruction i → class_of i.op ≡ class.Store → OutcomesAlike (store (with_memory m s) i) (store s i)
  store-alike i h q =
      let address = access_address i s.x in
      let width = access_width i.op in
      let value = register s i.rs2 in
      checked-alike address _ _ (cause_of m Store address width) (cause_of s.memory Store address width) (cause-alike L s m w alike Store address width)
      (λ e. record {
        is = refl;
        pages = numbers-same m s.memory address width value alike.pages;
        bytes = λ c. written-alike i h q e value c;
      })

  control-alike : ((c : ℕ) → Agree m s.memory c) → (i : Instr) (o : Option Exchange) → OutcomesAlike (control_by o (with_memory m s) i) (control_by o s i)
  control-alike agree i None = (refl, me)
  control-alike agree i (Some e) = exactly m (record s { pc = following s; x = with_register s.x i.rd e.read; v = e.state }) alike.pages agree

  calculate-alike : ((c : ℕ) → Agree m s.memory c) → (i : Instr) (o : Option Reading) → OutcomesAlike (calculate_by o (with_memory m s) i) (calculate_by o s i)
  calculate-alike agree i None = (refl, me)
  calculate-alike agree i (Some r) = record { is = refl; pages = alike.pages; bytes = agree }

  ecall-alike : ((c : ℕ) → Agree m s.memory c) → OutcomesAlike (ecall (with_memory m s)) (ecall s)
  ecall-alike agree =
      let number = register s 17 in
      either (nat_eq number 93) (Exited (signed 64 (register s 10))) (Next (answered (with_memory m s) (service (with_memory m s) number))) (Exited (signed 64 (register s 10))) (Next (answered s (service s number)))
      refl
      (subst (λ a. StandsExactlyFor (answered (with_memory m s) a) (answered s (service s number))) (sym (service-alike s m permit agree number))
      (record { is = refl; pages = alike.pages; bytes = agree }))

  -- ---- vector loads

  module _ (agree : (c : ℕ) → Agree m s.memory c) (t : Transfer) (loads : t.direction ≡ Loading) where
    done-is : (k : ℕ) → below_done t k (with_memory m s) ≡ with_memory m (below_done t k s)
    done-is k = subst (λ d. below_done (record t { direction = d }) k (with_memory m s) ≡ with_memory m (below_done (record t { direction = d }) k s)) (sym loads) (ap (at_element k) (loads-alike m (accesses_between t.movement 0 k) s agree))

    memory-is : (k : ℕ) → (below_done t k s).memory ≡ s.memory
    memory-is k = subst (λ d. (below_done (record t { direction = d }) k s).memory ≡ s.memory) (sym loads) (loads-memory (accesses_between t.movement 0 k) s)

    -- a change of the state that leaves its memory
    changed : (k : ℕ) (f : Flat → Flat) → ((u : Flat) → f (with_memory m u) ≡ with_memory m (f u)) → ((u : Flat) → (f u).memory ≡ u.memory) → StandsExactlyFor (f (below_done t k (with_memory m s))) (f (below_done t k s))
    changed k f apart keeps =
        let same = sym (keeps (below_done t k s) ∙ memory-is k) in
        subst (λ u. StandsExactlyFor u (f (below_done t k s))) (sym (ap f (done-is k) ∙ apart (below_done t k s)))
        (exactly m (f (below_done t k s)) (subst (HaveSamePages m) same alike.pages) (λ c. subst (λ x. Agree m x c) same (agree c)))

    loaded-alike : (o : Option Failure) → OutcomesAlike (transferred_by t (with_memory m s) o) (transferred_by t s o)
    loaded-alike None = changed (movement_count t.movement) completed (λ u. refl) (λ u. refl)
    loaded-alike (Some f) =
        let k = f.access.element in
        either (is_fault_only_first t.movement.addressing && ltb 0 k)
        (Next (completed (trimmed k (below_done t k (with_memory m s))))) (faulted (below_done t k (with_memory m s)) f.cause f.access.address)
        (Next (completed (trimmed k (below_done t k s)))) (faulted (below_done t k s) f.cause f.access.address)
        (changed k (λ u. completed (trimmed k u)) (λ u. refl) (λ u. refl))
        (refl, stands (below_done t k (with_memory m s)) (below_done t k s) (changed k (λ u. u) (λ u. refl) (λ u. refl)))

  -- ---- vector stores

  module _ (a : Addressing) (e : Eew) (i : Instr) (h : upcoming s ≡ Instruction i) (q : class_of i.op ≡ VectorStore a e) where
    abbrev t : Transfer
    t = transfer Storing a e s i

    not-cut : is_fault_only_first a ≡ false
    not-cut = sym (ap is_cut_store q) ∙ no-cut-store i.op

    nothing-left : (n : ℕ) → accesses_between t.movement n n ≡ []
    nothing-left n = let none : n - n ≡ 0 = omega arith in ap (λ c. flat_map (accesses_of_element t.movement) (range_with_len n c)) none

    uncut : (b c : Bool) (x u y v : Outcome) → b ≡ false → OutcomesAlike y v → OutcomesAlike (if b && c then x else y) (if b && c then u else v)
    uncut true c x u y v p r = absurd (true≢false p)
    uncut false true x u y v p r = r
    uncut false false x u y v p r = r

    stored-alike : (o : Option Failure) → first_failure Storing s.memory (access_list t.movement) ≡ o → OutcomesAlike (transferred_by t (with_memory m s) o) (transferred_by t s o)
    stored-alike None p = completed-alike L s m w alike a e i h q (movement_count t.movement) (nothing-left (movement_count t.movement))
    stored-alike (Some f) p =
        let k = f.access.element in
        uncut (is_fault_only_first a) (ltb 0 k)
        (Next (completed (trimmed k (below_done t k (with_memory m s))))) (Next (completed (trimmed k (below_done t k s))))
        (faulted (below_done t k (with_memory m s)) f.cause f.access.address) (faulted (below_done t k s) f.cause f.access.address)
        not-cut
        (refl, below-alike L s m w alike a e i h q k (failure-start Storing s.memory t.movement f p) (failure-first Storing s.memory t.movement f p))

  -- ---- any instruction

  transferred-alike : (t : Transfer) → ((o : Option Failure) → first_failure t.direction s.memory (access_list t.movement) ≡ o → OutcomesAlike (transferred_by t (with_memory m s) o) (transferred_by t s o)) → OutcomesAlike (transferred t (with_memory m s)) (transferred t s)
  transferred-alike t f =
      subst (λ o. OutcomesAlike (transferred_by t (with_memory m s) o) (transferred t s)) (sym (failures-alike t.direction s.memory m permit (access_list t.movement)))
      (f (first_failure t.direction s.memory (access_list t.movement)) refl)

  as-class : (i : Instr) → upcoming s ≡ Instruction i → (c : Class) → class_of i.op ≡ c → OutcomesAlike (performed_as c (with_memory m s) i) (performed_as c s i)
  as-class i h class.Arithmetic q = affected-alike (quiet s m alike i h class.Arithmetic q refl) i.rd (effect i s.x s.pc)
  as-class i h class.Multiply q = affected-alike (quiet s m alike i h class.Multiply q refl) i.rd (effect i s.x s.pc)
  as-class i h class.Divide q = affected-alike (quiet s m alike i h class.Divide q refl) i.rd (effect i s.x s.pc)
  as-class i h class.Jump q = affected-alike (quiet s m alike i h class.Jump q refl) i.rd (effect i s.x s.pc)
  as-class i h class.Branch q = affected-alike (quiet s m alike i h class.Branch q refl) i.rd (effect i s.x s.pc)
  as-class i h class.Load q = load-alike (quiet s m alike i h class.Load q refl) i
  as-class i h class.Store q = store-alike i h q
  as-class i h class.Fence q = affected-alike (quiet s m alike i h class.Fence q refl) i.rd (effect i s.x s.pc)
  as-class i h class.Ecall q = ecall-alike (quiet s m alike i h class.Ecall q refl)
  as-class i h class.Ebreak q = (refl, me)
  as-class i h class.Csr q = control-alike (quiet s m alike i h class.Csr q refl) i (exchange_at s i)
  as-class i h class.Set q = record { is = refl; pages = alike.pages; bytes = quiet s m alike i h class.Set q refl }
  as-class i h (class.VectorArithmetic family) q = calculate-alike (quiet s m alike i h (class.VectorArithmetic family) q refl) i (reading_at s i)
  as-class i h (VectorLoad a e) q = transferred-alike (transfer Loading a e s i) (λ o p. loaded-alike (quiet s m alike i h (VectorLoad a e) q refl) (transfer Loading a e s i) refl o)
  as-class i h (VectorStore a e) q = transferred-alike (transfer Storing a e s i) (stored-alike a e i h q)

  performed-alike : (u : Upcoming) → upcoming s ≡ u → OutcomesAlike (performed (with_memory m s) u) (performed s u)
  unfolding performed
  performed-alike Denied h = (refl, me)
  performed-alike (Illegal word) h = (refl, me)
  performed-alike (Instruction i) h = as-class i h (class_of i.op) refl

  pub step-alike : OutcomesAlike (step (with_memory m s)) (step s)
  step-alike =
      subst (λ u. OutcomesAlike (performed (with_memory m s) u) (step s)) (sym (upcoming-alike L s m w alike)) (performed-alike (upcoming s) refl)
