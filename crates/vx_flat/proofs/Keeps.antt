-- Each step keeps what is true of every state of a run, and the boot makes it so.
use Rattle.std.proofs.Common.{◌≡◌, ℕ, zero, suc, ◌*◌, ◌/◌, ◌%◌, ◌<◌, ◌≤◌, Bool, true, false, ◌&&◌, ◌||◌, nat_eq, ltb, List, [], ◌∷◌, length, if◌then◌else◌, refl, sym, ap, ◌∙◌, subst, ⊎_elim, arith}
use Rattle.std.specs.List.{All}
use Rattle.std.specs.Option.{option_map_or}
use Rattle.std.specs.Prelude.{Option, Some, None, option_map, option_and_then, slice_index, filter, is_none}
use Rattle.std.proofs.Math.Bool.{and-false}
use Rattle.std.proofs.lemmas.Bool.{false≢true, or_cases, and_parts, eqb-true}
use Rattle.std.proofs.lemmas.List.{length-replicate}
use Rattle.std.proofs.lemmas.List.Elements.{All-head, All-tail}
use Rattle.std.proofs.lemmas.Nat.{mod_below}
use Rattle.std.proofs.lemmas.Option.{none-some, same_Some}
use Rattle.vx_base.specs.Numbers.{reduced, signed, little_endian}
use Rattle.vx_base.specs.Options.{is_register_length}
use Rattle.vx_base.specs.Pages.{is_page_permission}
use Rattle.vx_base.specs.Permissions.{grants}
use Rattle.vx_base.specs.declared.machine.Want.{Want}
use Rattle.vx_base.specs.declared.machine.Want.TheVariants.{Fetch, Store}
use Rattle.vx_decode.specs.declared.instr.Instr.{Instr}
use Rattle.vx_image.specs.Pages.{Image, MappedPage, Memory, page_numbered, page_of, is_canonical, permits}
use Rattle.vx_rows.specs.Table.{class_of, shape_of}
use Rattle.vx_rows.specs.declared.row.Addressing.{Addressing}
use Rattle.vx_rows.specs.declared.row.Addressing.TheVariants.{FaultOnlyFirst}
use Rattle.vx_rows.specs.declared.row.Class.{Class}
use Rattle.vx_rows.specs.declared.row.Class.TheVariants as class
use Rattle.vx_rows.specs.declared.row.Shape.{Shape}
use Rattle.vx_rows.specs.declared.row.Shape.TheVariants.{Vector}
use Rattle.vx_vstate.specs.Control.{Control, written_to, control_of, control_read}
use Rattle.vx_vstate.specs.Control.Control.{Vstart, Vxsat, Vxrm, Vcsr, Vl, Vtype, Vlenb}
use Rattle.vx_vstate.specs.Registers.{words_of_all, no_words}
use Rattle.vx_vstate.specs.State.{VectorState, IsVectorState, SettingView, configuration_of}
use Rattle.vx_vstate.specs.Vtype.{most_elements}
use Rattle.vx_vector.specs.Accesses.{Access, count_by, movement_count, registers_of_field, access_bits, access_list, accesses_between}
use Rattle.vx_vector.specs.Instructions.{reading_as, places_of}
use Rattle.vx_vector.specs.Reading.{Reading}
use Rattle.vx_vector.specs.declared.places.Places.{Places}
use Rattle.vx_flat.specs.Access.{access_address, access_width}
use Rattle.vx_flat.specs.Boot.{booted}
use Rattle.vx_flat.specs.Checks.{checked}
use Rattle.vx_flat.specs.Classes.{Does}
use Rattle.vx_flat.specs.Configure.{length_asked}
use Rattle.vx_flat.specs.Continued.{good_done, passed_as, passed_over, behind, continued}
use Rattle.vx_flat.specs.Control.{Exchange, exchange, written_if, writes, changed}
use Rattle.vx_flat.specs.Memory.{number_at}
use Rattle.vx_flat.specs.Operands.{change_in, source_in, operand_of, vtype_of, control_number}
use Rattle.vx_flat.specs.Outcome.{Outcome, faulted}
use Rattle.vx_flat.specs.Outcome.Outcome.{Next, Exited, Faulted}
use Rattle.vx_flat.specs.Run.{flat, state_after}
use Rattle.vx_flat.specs.Scalar.{Work, work, effect, effect_of, next_pc, put, jumped, branched}
use Rattle.vx_flat.specs.Scalar.Work.{Acts}
use Rattle.vx_flat.specs.Service.{service, answered}
use Rattle.vx_flat.specs.Splits.{IsWellFormed, IsRunnable, HasPermission}
use Rattle.vx_flat.specs.State.{Flat, register, following, completed}
use Rattle.vx_flat.specs.Step.{step, performed, performed_as, affected, control_by, calculate_by, configure, exchange_at, upcoming}
use Rattle.vx_flat.specs.Transfers.{Direction, Transfer, Failure, transfer, transferred_by, access_done, accesses_done, failure_of, first_failure, below_done, trimmed, is_fault_only_first}
use Rattle.vx_flat.specs.Transfers.Direction.{Loading, Storing}
use Rattle.vx_flat.specs.Vectors.{reading_at, setting_at}
use Rattle.vx_flat.specs.declared.control.Change.{Change}
use Rattle.vx_flat.specs.declared.effect.Effect.{Effect}
use Rattle.vx_flat.specs.declared.effect.Effect.TheVariants as effects
use Rattle.vx_flat.specs.declared.hart.Hart.{Hart}
use Rattle.vx_flat.specs.declared.upcoming.Upcoming.{Upcoming}
use Rattle.vx_flat.specs.declared.upcoming.Upcoming.TheVariants.{Denied, Illegal, Instruction}
use Rattle.vx_flat.proofs.Between.{between_all}
use Rattle.vx_flat.proofs.Classes.{does}
use Rattle.vx_flat.proofs.Done.{done-parts, done-permits, failure-is-one}
use Rattle.vx_flat.proofs.Puts.{permits-bytes}
use Rattle.vx_flat.proofs.Kept.{CountLaws, Aligned, next-aligned, jump-aligned, branch-aligned, configured-is}

-- ---- what is kept

pub record IsKept (s t : Flat) : Type 0 where
  pub vectors : IsVectorState t.v
  pub aligned : t.pc % 4 ≡ 0
  pub permits : (a : ℕ) (want : Want) → permits t.memory a want ≡ permits s.memory a want

abbrev Keeps : Flat → Outcome → Type 0
Keeps s (Next t) = IsKept s t
Keeps s (Exited code) = Unit {0}
Keeps s (Faulted fault t) = Unit {0}

Keeps-if : (s : Flat) (b : Bool) (x y : Outcome) → (b ≡ true → Keeps s x) → Keeps s y → Keeps s (if b then x else y)
Keeps-if s true x y p q = p refl
Keeps-if s false x y p q = q

some-length : (vlen : ℕ) → is_register_length vlen ≡ true → 1 ≤ vlen
some-length vlen h =
    ⊎_elim
    (λ a. ⊎_elim
    (λ b. ⊎_elim
    (λ c. ⊎_elim
    (λ d. let e = eqb-true vlen 128 d in omega arith)
    (λ d. let e = eqb-true vlen 256 d in omega arith)
    (or_cases (nat_eq vlen 128) (nat_eq vlen 256) c))
    (λ c. let e = eqb-true vlen 512 c in omega arith)
    (or_cases (nat_eq vlen 128 || nat_eq vlen 256) (nat_eq vlen 512) b))
    (λ b. let e = eqb-true vlen 1024 b in omega arith)
    (or_cases (nat_eq vlen 128 || nat_eq vlen 256 || nat_eq vlen 512) (nat_eq vlen 1024) a))
    (λ a. let e = eqb-true vlen 2048 a in omega arith)
    (or_cases (nat_eq vlen 128 || nat_eq vlen 256 || nat_eq vlen 512 || nat_eq vlen 1024) (nat_eq vlen 2048) h)

-- ---- control registers

abbrev HoldsOf : Option VectorState → Type 0
HoldsOf None = Unit {0}
HoldsOf (Some v) = IsVectorState v

abbrev HoldsIn : Option Exchange → Type 0
HoldsIn None = Unit {0}
HoldsIn (Some e) = IsVectorState e.state

module _ (v : VectorState) (is : IsVectorState v) where
  written-is : (c : Control) (value : ℕ) → HoldsOf (written_to c v value)
  written-is Vstart value = record { vlen_in_range = is.vlen_in_range; words_in_all = is.words_in_all; vtype_in_range = is.vtype_in_range; vl_in_range = is.vl_in_range; vstart_in_range = mod_below value v.vlen (some-length v.vlen is.vlen_in_range); vxrm_in_range = is.vxrm_in_range }
  written-is Vxsat value = record { vlen_in_range = is.vlen_in_range; words_in_all = is.words_in_all; vtype_in_range = is.vtype_in_range; vl_in_range = is.vl_in_range; vstart_in_range = is.vstart_in_range; vxrm_in_range = is.vxrm_in_range }
  written-is Vxrm value = record { vlen_in_range = is.vlen_in_range; words_in_all = is.words_in_all; vtype_in_range = is.vtype_in_range; vl_in_range = is.vl_in_range; vstart_in_range = is.vstart_in_range; vxrm_in_range = omega arith }
  written-is Vcsr value = record { vlen_in_range = is.vlen_in_range; words_in_all = is.words_in_all; vtype_in_range = is.vtype_in_range; vl_in_range = is.vl_in_range; vstart_in_range = is.vstart_in_range; vxrm_in_range = omega arith }
  written-is Vl value = tt
  written-is Vtype value = tt
  written-is Vlenb value = tt

  written-by : (o : Option Control) (value : ℕ) → HoldsOf (option_and_then (λ (c : Control). written_to c v value) o)
  written-by None value = tt
  written-by (Some c) value = written-is c value

  written-where : (b : Bool) (number value : ℕ) → HoldsOf (written_if b v number value)
  written-where true number value = written-by (control_of number) value
  written-where false number value = is

  exchanged : (read : ℕ) (o : Option VectorState) → HoldsOf o → HoldsIn (option_map (λ (new : VectorState). record { read = read; state = new }) o)
  exchanged read None h = tt
  exchanged read (Some new) h = h

  exchange-by : (o : Option ℕ) (after : ℕ → Option VectorState) → ((old : ℕ) → HoldsOf (after old)) → HoldsIn (option_and_then (λ (old : ℕ). option_map (λ (new : VectorState). record { read = old; state = new }) (after old)) o)
  exchange-by None after h = tt
  exchange-by (Some old) after h = exchanged old (after old) (h old)

  exchange-is : (number : ℕ) (change : Change) (rs1 operand : ℕ) → HoldsIn (exchange v number change rs1 operand)
  exchange-is number change rs1 operand =
      exchange-by (control_read v number) (λ old. written_if (writes change rs1) v number (changed change old operand))
      (λ old. written-where (writes change rs1) number (changed change old operand))

-- ---- accesses

pub done-length : (L : CountLaws) (d : Direction) (l : List Access) (s : Flat) → length (accesses_done d l s).v.words ≡ length s.v.words
done-length L d [] s = refl
done-length L Loading (a ∷ l) s = done-length L Loading l (access_done Loading a s) ∙ L.set s.v.vlen s.v.words a.register (8 * a.width) (a.byte / a.width) (number_at s.memory a.address a.width)
done-length L Storing (a ∷ l) s = done-length L Storing l (access_done Storing a s)

count-of-first : (a : Addressing) (vl vlen registers width : ℕ) → is_fault_only_first a ≡ true → count_by a vl vlen registers width ≡ vl
count-of-first FaultOnlyFirst vl vlen registers width h = refl
count-of-first a vl vlen registers width h = absurd (false≢true h)

reading-words : (c : Class) (shape : Shape) (at : SettingView) (places : Places) (words : List ℕ) (r : Reading) → reading_as c shape at places words ≡ Some r → r.words ≡ words
reading-words (class.VectorArithmetic family) (Vector first second vm) at places words r h = sym (ap (λ (x : Reading). x.words) (same_Some _ r h))
reading-words c shape at places words r h = absurd (none-some r h)

module _ (L : CountLaws) (s : Flat) (w : IsWellFormed s) where
  v : IsVectorState s.v
  v = w.vectors

  next : following s % 4 ≡ 0
  next = next-aligned s.pc w.aligned

  affected-keeps : (rd : ℕ) (e : Effect) → Aligned e → Keeps s (affected s rd e)
  affected-keeps rd (effects.Value value pc) h = record { vectors = v; aligned = h; permits = λ a want. refl }
  affected-keeps rd (effects.Next pc) h = record { vectors = v; aligned = h; permits = λ a want. refl }
  affected-keeps rd (effects.Misaligned target) h = tt

  checked-keeps : (cause : Option ℕ) (address : ℕ) (done : Flat) → IsKept s done → Keeps s (checked cause s address done)
  checked-keeps None address done h = h
  checked-keeps (Some cause) address done h = tt

  control-keeps : (o : Option Exchange) (i : Instr) → HoldsIn o → Keeps s (control_by o s i)
  control-keeps None i h = tt
  control-keeps (Some e) i h = record { vectors = h; aligned = next; permits = λ a want. refl }

  calculate-keeps : (o : Option Reading) (i : Instr) → ((r : Reading) → o ≡ Some r → r.words ≡ s.v.words) → Keeps s (calculate_by o s i)
  calculate-keeps None i h = tt
  calculate-keeps (Some r) i h = record {
    vectors = record {
      vlen_in_range = v.vlen_in_range;
      words_in_all = L.after r ∙ ap length (h r refl) ∙ v.words_in_all;
      vtype_in_range = v.vtype_in_range;
      vl_in_range = v.vl_in_range;
      vstart_in_range = some-length s.v.vlen v.vlen_in_range;
      vxrm_in_range = v.vxrm_in_range;
    };
    aligned = next;
    permits = λ a want. refl;
  }

  set-keeps : (i : Instr) → Keeps s (configure s i)
  set-keeps i =
      let c = configured-is L s.v.vlen (configuration_of s.v) (record { vtype = v.vtype_in_range; vl = v.vl_in_range }) (length_asked (source_in i.op) i.rd i.rs1 (operand_of i s.x)) (vtype_of i s.x) in
      record {
        vectors = record {
          vlen_in_range = v.vlen_in_range;
          words_in_all = v.words_in_all;
          vtype_in_range = c.vtype;
          vl_in_range = c.vl;
          vstart_in_range = some-length s.v.vlen v.vlen_in_range;
          vxrm_in_range = v.vxrm_in_range;
        };
        aligned = next;
        permits = λ a want. refl;
      }

  -- accesses done, with this vl then
  done-kept : (d : Direction) (l : List Access) (n : ℕ) → n ≤ most_elements s.v.vlen s.v.vtype → IsKept s (completed (trimmed n (accesses_done d l s)))
  done-kept d l n h =
      subst (λ u. IsKept s (completed (trimmed n u))) (sym (done-parts d l s))
      (record {
        vectors = record {
          vlen_in_range = v.vlen_in_range;
          words_in_all = done-length L d l s ∙ v.words_in_all;
          vtype_in_range = v.vtype_in_range;
          vl_in_range = h;
          vstart_in_range = some-length s.v.vlen v.vlen_in_range;
          vxrm_in_range = v.vxrm_in_range;
        };
        aligned = next;
        permits = λ a want. done-permits d l s a want;
      })

  all-kept : (d : Direction) (l : List Access) → IsKept s (completed (accesses_done d l s))
  all-kept d l =
      subst (λ u. IsKept s (completed u)) (sym (done-parts d l s))
      (subst (λ u. IsKept s (completed (trimmed s.v.vl u))) (done-parts d l s) (done-kept d l s.v.vl v.vl_in_range))

  transferred-keeps : (t : Transfer) → t.movement.at.vl ≡ s.v.vl → (o : Option Failure) → first_failure t.direction s.memory (access_list t.movement) ≡ o → Keeps s (transferred_by t s o)
  transferred-keeps t same None h = all-kept t.direction (access_list t.movement)
  transferred-keeps t same (Some f) h =
      let k = f.access.element in
      let inside : k < movement_count t.movement = failure-is-one (λ x. x.element < movement_count t.movement) t.direction s.memory (access_list t.movement) f (between_all (λ x. x.element < movement_count t.movement) t.movement 0 (movement_count t.movement) (λ x field above below inside of. inside)) h in
      Keeps-if s (is_fault_only_first t.movement.addressing && ltb 0 k) (Next (completed (trimmed k (below_done t k s)))) (faulted (below_done t k s) f.cause f.access.address)
      (λ e.
      let first = (and_parts (is_fault_only_first t.movement.addressing) (ltb 0 k) e).0 in
      let count : movement_count t.movement ≡ t.movement.at.vl = count-of-first t.movement.addressing t.movement.at.vl t.movement.at.vlen (registers_of_field t.movement) (access_bits t.movement) first in
      let most = v.vl_in_range in
      done-kept t.direction (accesses_between t.movement 0 k) k (omega (arith, inside, count, same, most)))
      tt

  module _ (i : Instr) where
    abbrev a : ℕ
    a = slice_index s.x i.rs1

    abbrev does_work : Work
    does_work = work i.op s.pc (slice_index s.x i.rs1) (slice_index s.x i.rs2) (reduced 64 i.imm)

    acts : (e : Effect) → does_work ≡ Acts e → Aligned e → Keeps s (affected s i.rd (effect i s.x s.pc))
    acts e is h = affected-keeps i.rd (effect i s.x s.pc) (subst (λ x. Aligned (effect_of x s.pc)) (sym is) h)

    keeps-as : (c : Class) → class_of i.op ≡ c → Does c s.pc does_work → Keeps s (performed_as c s i)
    keeps-as class.Arithmetic q d = acts (put d.0 s.pc) d.1 next
    keeps-as class.Multiply q d = acts (put d.0 s.pc) d.1 next
    keeps-as class.Divide q d = acts (put d.0 s.pc) d.1 next
    keeps-as class.Jump q d = acts (jumped d.0 s.pc) d.1 (jump-aligned d.0 (effects.Value (next_pc s.pc) d.0) (λ e. e))
    keeps-as class.Branch q d = acts (branched d.0 s.pc d.1) d.2 (branch-aligned d.0 s.pc d.1 w.aligned)
    keeps-as class.Load q d = checked-keeps _ _ _ (record { vectors = v; aligned = next; permits = λ a want. refl })
    keeps-as class.Store q d = checked-keeps _ _ _ (record { vectors = v; aligned = next; permits = λ a want. permits-bytes (little_endian (access_width i.op) (register s i.rs2)) s.memory (access_address i s.x) a want })
    keeps-as class.Fence q d = acts (effects.Next (next_pc s.pc)) d next
    keeps-as class.Ecall q d = Keeps-if s (nat_eq (register s 17) 93) (Exited (signed 64 (register s 10))) (Next (answered s (service s (register s 17)))) (λ e. tt) (record { vectors = v; aligned = next; permits = λ a want. refl })
    keeps-as class.Ebreak q d = tt
    keeps-as class.Csr q d = control-keeps (exchange_at s i) i (exchange-is s.v v (control_number i) (change_in i.op) i.rs1 (operand_of i s.x))
    keeps-as class.Set q d = set-keeps i
    keeps-as (class.VectorArithmetic family) q d = calculate-keeps (reading_at s i) i (reading-words (class_of i.op) (shape_of i.op) (setting_at s i) (places_of i) s.v.words)
    keeps-as (class.VectorLoad addressing width) q d = transferred-keeps (transfer Loading addressing width s i) refl (first_failure Loading s.memory (access_list (transfer Loading addressing width s i).movement)) refl
    keeps-as (class.VectorStore addressing width) q d = transferred-keeps (transfer Storing addressing width s i) refl (first_failure Storing s.memory (access_list (transfer Storing addressing width s i).movement)) refl

  performed-keeps : (u : Upcoming) → Keeps s (performed s u)
  unfolding performed
  performed-keeps Denied = tt
  performed-keeps (Illegal word) = tt
  performed-keeps (Instruction i) = keeps-as i (class_of i.op) refl (does i.op s.pc (slice_index s.x i.rs1) (slice_index s.x i.rs2) (reduced 64 i.imm))

  well-formed-by : (t : Flat) → IsKept s t → IsWellFormed t
  well-formed-by t k = record {
    vectors = k.vectors;
    aligned = k.aligned;
    code = λ address h. k.permits address Store ∙ w.code address (sym (k.permits address Fetch) ∙ h);
  }

  pub step-keeps : (t : Flat) → step s ≡ Next t → IsWellFormed t
  step-keeps t e = well-formed-by t (subst (Keeps s) e (performed-keeps (upcoming s)))

  -- ---- a step past a fault

  itself : IsKept s s
  itself = record { vectors = v; aligned = w.aligned; permits = λ a want. refl }

  good-keeps : (t : Transfer) → IsKept s (good_done t s)
  good-keeps t = all-kept t.direction (filter (λ (a : Access). is_none (failure_of t.direction s.memory a)) (access_list t.movement))

  passed-keeps : (i : Instr) (c : Class) → IsKept s (passed_as c s i)
  passed-keeps i class.Load = record { vectors = v; aligned = next; permits = λ a want. refl }
  passed-keeps i class.Store = record { vectors = v; aligned = next; permits = λ a want. refl }
  passed-keeps i (class.VectorLoad addressing width) = good-keeps (transfer Loading addressing width s i)
  passed-keeps i (class.VectorStore addressing width) = good-keeps (transfer Storing addressing width s i)
  passed-keeps i c = itself

  over-keeps : (u : Upcoming) → IsKept s (passed_over s u)
  over-keeps Denied = itself
  over-keeps (Illegal word) = itself
  over-keeps (Instruction i) = passed-keeps i (class_of i.op)

  behind-keeps : (o : Outcome) → Keeps s o → IsKept s (behind s o)
  behind-keeps (Next t) h = h
  behind-keeps (Exited code) h = itself
  behind-keeps (Faulted fault t) h = over-keeps (upcoming s)

  pub continued-keeps : IsWellFormed (continued s)
  continued-keeps = well-formed-by (continued s) (behind-keeps (step s) (performed-keeps (upcoming s)))

-- ---- the boot

granted-apart : (bits : ℕ) → is_page_permission bits ≡ true → grants bits Fetch ≡ true → grants bits Store ≡ false
granted-apart bits h =
    by_permission (λ n. grants n Fetch ≡ true → grants n Store ≡ false) (λ e. refl) (λ e. refl) (λ e. refl) (λ e. refl) (λ e. absurd (false≢true e))
  where
    by_permission : (P : ℕ → Type 0) → P 0 → P 1 → P 4 → P 5 → P 6 → P bits
    by_permission P a b c d e =
        ⊎_elim
        (λ t. ⊎_elim
        (λ t. ⊎_elim
        (λ t. ⊎_elim
        (λ t. subst P (sym (eqb-true bits 0 t)) a)
        (λ t. subst P (sym (eqb-true bits 1 t)) b)
        (or_cases (nat_eq bits 0) (nat_eq bits 1) t))
        (λ t. subst P (sym (eqb-true bits 4 t)) c)
        (or_cases (nat_eq bits 0 || nat_eq bits 1) (nat_eq bits 4) t))
        (λ t. subst P (sym (eqb-true bits 5 t)) d)
        (or_cases (nat_eq bits 0 || nat_eq bits 1 || nat_eq bits 4) (nat_eq bits 5) t))
        (λ t. subst P (sym (eqb-true bits 6 t)) e)
        (or_cases (nat_eq bits 0 || nat_eq bits 1 || nat_eq bits 4 || nat_eq bits 5) (nat_eq bits 6) h)

abbrev granted : Option MappedPage → Want → Bool
granted o want = option_map_or (λ (page : MappedPage). grants page.permissions want) o false

either-granted : (b : Bool) (page : MappedPage) (later : Option MappedPage) → is_page_permission page.permissions ≡ true → (granted later Fetch ≡ true → granted later Store ≡ false) → granted (if b then Some page else later) Fetch ≡ true → granted (if b then Some page else later) Store ≡ false
either-granted true page later h f = granted-apart page.permissions h
either-granted false page later h f = f

pages-apart : (memory : Memory) (number : ℕ) → All HasPermission memory → granted (page_numbered number memory) Fetch ≡ true → granted (page_numbered number memory) Store ≡ false
pages-apart [] number h = λ e. refl
pages-apart (page ∷ memory) number h = either-granted (nat_eq page.number number) page (page_numbered number memory) (All-head HasPermission page memory h) (pages-apart memory number (All-tail HasPermission page memory h))

code-apart : (memory : Memory) (address : ℕ) → All HasPermission memory → permits memory address Fetch ≡ true → permits memory address Store ≡ false
code-apart memory address h e =
    let parts = and_parts (is_canonical address) (granted (page_numbered (page_of address) memory) Fetch) e in
    ap (λ b. is_canonical address && b) (pages-apart memory (page_of address) h parts.1) ∙ and-false (is_canonical address)

pub boot-is : (hart : Hart) (image : Image) → IsRunnable hart image → IsWellFormed (booted hart image)
unfolding booted no_words
boot-is hart image r = record {
  vectors = record {
    vlen_in_range = r.length;
    words_in_all = length-replicate (words_of_all hart.vlen) 0;
    vtype_in_range = refl;
    vl_in_range = omega arith;
    vstart_in_range = some-length hart.vlen r.length;
    vxrm_in_range = omega arith;
  };
  aligned = r.entry;
  code = λ address e. code-apart image.pages address r.pages e;
}

-- ---- the run

from-one : (L : CountLaws) (o : Option Flat) (t : Flat) → ((s : Flat) → o ≡ Some s → IsWellFormed s) → option_and_then (λ s. state_after (step s)) o ≡ Some t → IsWellFormed t
from-one L None t h e = absurd (none-some t e)
from-one L (Some s) t h e = from-step (step s) (step-keeps L s (h s refl)) e
  where
    from-step : (x : Outcome) → ((u : Flat) → x ≡ Next u → IsWellFormed u) → state_after x ≡ Some t → IsWellFormed t
    from-step (Next u) f q = f t (ap Next (same_Some u t q))
    from-step (Exited code) f q = absurd (none-some t q)
    from-step (Faulted fault u) f q = absurd (none-some t q)

pub run-is : (L : CountLaws) (hart : Hart) (image : Image) → IsRunnable hart image → (n : ℕ) (s : Flat) → flat hart image n ≡ Some s → IsWellFormed s
unfolding flat
run-is L hart image r zero s e = subst IsWellFormed (same_Some (booted hart image) s e) (boot-is hart image r)
run-is L hart image r (suc n) s e = from-one L (flat hart image n) s (run-is L hart image r n) e
