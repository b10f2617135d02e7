-- What comes next is the same from a memory that differs in pending bytes alone, and so are the pending bytes.
use Rattle.std.proofs.Common.{◌≡◌, ℕ, ◌+◌, ◌*◌, ◌/◌, ◌%◌, ◌<◌, ◌≤◌, Bool, true, false, not, ◌||◌, nat_eq, length, if◌then◌else◌, refl, sym, ap, ◌∙◌, inr, arith}
use Rattle.std.specs.List.{All, filter, list_any}
use Rattle.std.specs.Prelude.{Option, Some, None, is_none, map}
use Rattle.std.proofs.lemmas.Bool.{false≢true, true≢false, not-true}
use Rattle.vx_base.specs.Numbers.{from_little_endian}
use Rattle.vx_base.specs.declared.machine.Want.{Want}
use Rattle.vx_base.specs.declared.machine.Want.TheVariants.{Fetch, Store}
use Rattle.vx_decode.specs.Decoded.{decoded}
use Rattle.vx_decode.specs.Encoded.{IsValid}
use Rattle.vx_decode.specs.Legal.{is_illegal}
use Rattle.vx_decode.specs.declared.instr.Instr.{Instr}
use Rattle.vx_image.specs.Pages.{Memory, page_of, permits}
use Rattle.vx_rows.specs.Table.{class_of}
use Rattle.vx_rows.specs.declared.op.Op.{Op}
use Rattle.vx_rows.specs.declared.op.Op.TheVariants.{Scalar}
use Rattle.vx_rows.specs.declared.op.ScalarOp.{ScalarOp}
use Rattle.vx_rows.specs.declared.op.ScalarOp.TheVariants.{Lui}
use Rattle.vx_rows.specs.declared.row.Addressing.{Addressing}
use Rattle.vx_rows.specs.declared.row.Class.{Class}
use Rattle.vx_rows.specs.declared.row.Class.TheVariants as class
use Rattle.vx_rows.specs.declared.row.Class.TheVariants.{VectorStore}
use Rattle.vx_rows.specs.declared.row.Eew.{Eew}
use Rattle.vx_vstate.specs.Registers.{words_of_all, is_byte_width}
use Rattle.vx_vstate.specs.State.{IsVectorState, IsSetting}
use Rattle.vx_vector.specs.Accesses.{Access, Movement, access_bits, access_list, accesses_between}
use Rattle.vx_vector.specs.Movements.{IsLegalMovement, IsSoundMovement}
use Rattle.vx_flat.specs.Access.{access_address, access_width}
use Rattle.vx_flat.specs.Checks.{cause_of, misaligned, page_fault}
use Rattle.vx_flat.specs.Memory.{number_at}
use Rattle.vx_flat.specs.Splits.{IsWellFormed}
use Rattle.vx_flat.specs.State.{Flat}
use Rattle.vx_flat.specs.Step.{upcoming, meaning, is_legal, is_legal_as, word_at_pc}
use Rattle.vx_flat.specs.Transfers.{transfer}
use Rattle.vx_flat.specs.Transfers.Direction.{Storing}
use Rattle.vx_flat.specs.Vectors.{setting_at}
use Rattle.vx_flat.specs.declared.upcoming.Upcoming.{Upcoming}
use Rattle.vx_flat.specs.declared.upcoming.Upcoming.TheVariants.{Denied, Illegal, Instruction}
use Rattle.vx_episode.specs.Show.{is_in, is_pending, spans_of, spans_as, span_unless}
use Rattle.vx_pending.specs.Alike.{AreAlike, with_memory, writes_memory, writes_next, is_at_store}
use Rattle.vx_pending.proofs.Between.{between_all}
use Rattle.vx_pending.proofs.Pages.{Agree, permits-alike, bytes-alike}
use Rattle.vx_pending.proofs.Stored.{Wide, IsPassed, by_width, passed, in-span, spans-permit, permits-page, permitted-below}

-- what the crates below say of instructions and movements
pub record Laws : Type 0 where
  pub sound : (m : Movement) → IsLegalMovement m → length m.words ≡ words_of_all m.at.vlen → IsSoundMovement m
  pub valid : (word : ℕ) (i : Instr) → decoded word ≡ Some i → IsValid i

-- ---- what comes next

abbrev is_instruction : Upcoming → Bool
is_instruction Denied = false
is_instruction (Illegal word) = false
is_instruction (Instruction i) = true

abbrev instruction_or : Instr → Upcoming → Instr
instruction_or i Denied = i
instruction_or i (Illegal word) = i
instruction_or i (Instruction j) = j

pub record IsNext (s : Flat) (i : Instr) : Type 0 where
  pub fetched : permits s.memory s.pc Fetch ≡ true
  pub word : decoded (word_at_pc s) ≡ Some i
  pub legal : is_legal s i ≡ true

when-fetched : (b : Bool) (u : Upcoming) (i : Instr) → (if b then u else Denied) ≡ Instruction i → (b ≡ true) × (u ≡ Instruction i)
when-fetched true u i h = (refl, h)
when-fetched false u i h = absurd (false≢true (ap is_instruction h))

when-legal : (b : Bool) (word : ℕ) (j i : Instr) → (if b then Instruction j else Illegal word) ≡ Instruction i → (b ≡ true) × (j ≡ i)
when-legal true word j i h = (refl, ap (instruction_or i) h)
when-legal false word j i h = absurd (false≢true (ap is_instruction h))

when-decoded : (s : Flat) (word : ℕ) (o : Option Instr) (i : Instr) → meaning s word o ≡ Instruction i → (o ≡ Some i) × (is_legal s i ≡ true)
when-decoded s word None i h = absurd (false≢true (ap is_instruction h))
when-decoded s word (Some j) i h =
    let parts = when-legal (is_legal s j) word j i h in
    (ap Some parts.1, ap (is_legal s) (sym parts.1) ∙ parts.0)

pub next-parts : (s : Flat) (i : Instr) → upcoming s ≡ Instruction i → IsNext s i
unfolding upcoming
next-parts s i h =
    let fetched = when-fetched (permits s.memory s.pc Fetch) (meaning s (word_at_pc s) (decoded (word_at_pc s))) i h in
    let parts = when-decoded s (word_at_pc s) (decoded (word_at_pc s)) i fetched.1 in
    record { fetched = fetched.0; word = parts.0; legal = parts.1 }

pub next-is : (s : Flat) (i : Instr) → IsNext s i → upcoming s ≡ Instruction i
unfolding upcoming
next-is s i n =
    ap (λ b. if b then meaning s (word_at_pc s) (decoded (word_at_pc s)) else Denied) n.fetched
    ∙ ap (meaning s (word_at_pc s)) n.word
    ∙ ap (λ b. if b then Instruction i else Illegal (word_at_pc s)) n.legal

-- ---- where stores may lie

whole-bytes : (w : ℕ) → is_byte_width w ≡ true → is_byte_width (8 * (w / 8)) ≡ true
whole-bytes w h = by_width (λ w. is_byte_width (8 * (w / 8)) ≡ true) w refl refl refl refl h

setting-in-range : (s : Flat) (i : Instr) → IsVectorState s.v → IsSetting (setting_at s i)
setting-in-range s i v = record { vlen_in_range = v.vlen_in_range; vtype_in_range = v.vtype_in_range; vl_in_range = v.vl_in_range; vstart_in_range = v.vstart_in_range; vxrm_in_range = v.vxrm_in_range }

-- the accesses of a vector store that comes next have widths of bytes
pub all-wide : (L : Laws) (a : Addressing) (e : Eew) (s : Flat) (i : Instr) → IsWellFormed s → upcoming s ≡ Instruction i → class_of i.op ≡ VectorStore a e → (from to : ℕ) → All Wide (accesses_between (transfer Storing a e s i).movement from to)
all-wide L a e s i w h q from to =
    let m = (transfer Storing a e s i).movement in
    let next = next-parts s i h in
    let legal : not (is_illegal i (setting_at s i)) ≡ true = ap (λ c. is_legal_as c s i) (sym q) ∙ next.legal in
    let sound = L.sound m (record {
      setting = setting-in-range s i w.vectors;
      valid = L.valid (word_at_pc s) i next.word;
      row = inr q;
      legal = not-true (is_illegal i (setting_at s i)) legal;
    }) w.vectors.words_in_all in
    between_all Wide m from to (λ x f low high start inside. whole-bytes (access_bits m) sound.width)

-- the accesses of a scalar instruction have widths of bytes
width-of-scalar : (op : ScalarOp) → is_byte_width (8 * access_width (Scalar op)) ≡ true
width-of-scalar Lui = refl
width-of-scalar op = refl

pub scalar-wide : (op : Op) → is_byte_width (8 * access_width op) ≡ true
scalar-wide (Scalar op) = width-of-scalar op
scalar-wide op = refl

pub pending-is : (s : Flat) (u : Upcoming) (c : ℕ) → upcoming s ≡ u → is_pending s c ≡ list_any (is_in c) (spans_of s u)
unfolding is_pending
pending-is s u c h = ap (λ u. list_any (is_in c) (spans_of s u)) h

unless-permits : (memory : Memory) (address width c : ℕ) (o : Option ℕ) → (o ≡ None → IsPassed memory address width) → list_any (is_in c) (span_unless o address width) ≡ true → permits memory c Store ≡ true
unless-permits memory address width c (Some cause) f h = absurd (false≢true h)
unless-permits memory address width c None f h = by_test (is_in c (record { address = address; width = width })) (in-span address width c) h
  where
    by_test : (b : Bool) → (b ≡ true → (address ≤ c) × (c < address + width)) → (b || false) ≡ true → permits memory c Store ≡ true
    by_test true g e = let low = g refl in (f refl).stores c low.0 low.1
    by_test false g e = absurd (false≢true e)

spans-of-class : (L : Laws) (s : Flat) (i : Instr) (c : ℕ) → IsWellFormed s → upcoming s ≡ Instruction i → (k : Class) → class_of i.op ≡ k → list_any (is_in c) (spans_as k s i) ≡ true → permits s.memory c Store ≡ true
spans-of-class L s i c w h class.Store q e = unless-permits s.memory (access_address i s.x) (access_width i.op) c (cause_of s.memory Store (access_address i s.x) (access_width i.op)) (passed s.memory (access_address i s.x) (access_width i.op) (scalar-wide i.op)) e
spans-of-class L s i c w h (class.VectorStore a b) q e = spans-permit s.memory (access_list (transfer Storing a b s i).movement) c (all-wide L a b s i w h q 0 _) e
spans-of-class L s i c w h k q e = absurd (false≢true e)

pending-permits : (L : Laws) (s : Flat) (c : ℕ) → IsWellFormed s → (u : Upcoming) → upcoming s ≡ u → list_any (is_in c) (spans_of s u) ≡ true → permits s.memory c Store ≡ true
pending-permits L s c w Denied h e = absurd (false≢true e)
pending-permits L s c w (Illegal word) h e = absurd (false≢true e)
pending-permits L s c w (Instruction i) h e = spans-of-class L s i c w h (class_of i.op) refl e

-- what may not be stored isn't pending
not-pending : (L : Laws) (s : Flat) (c : ℕ) → IsWellFormed s → permits s.memory c Store ≡ false → is_pending s c ≡ false
not-pending L s c w h = pending-is s (upcoming s) c refl ∙ by_test (list_any (is_in c) (spans_of s (upcoming s))) (pending-permits L s c w (upcoming s) refl)
  where
    by_test : (b : Bool) → (b ≡ true → permits s.memory c Store ≡ true) → b ≡ false
    by_test false f = refl
    by_test true f = absurd (true≢false (sym (f refl) ∙ h))

-- ---- the word at the pc

on-page-of-word : (pc c : ℕ) → pc % 4 ≡ 0 → pc ≤ c → c < pc + 4 → page_of pc ≡ page_of c
on-page-of-word pc c aligned low high = omega arith

-- no byte of the word at the pc may be stored, where it may be executed
pub code-denies : (s : Flat) → IsWellFormed s → permits s.memory s.pc Fetch ≡ true → (c : ℕ) → s.pc ≤ c → c < s.pc + 4 → permits s.memory c Store ≡ false
code-denies s w h c low high = sym (permits-page s.memory s.pc c Store (on-page-of-word s.pc c w.aligned low high)) ∙ w.code s.pc h

-- the word is the same where its bytes are
pub word-is : (s : Flat) (m : Memory) → IsWellFormed s → permits s.memory s.pc Fetch ≡ true → ((c : ℕ) → permits s.memory c Store ≡ false → Agree m s.memory c) → number_at m s.pc 4 ≡ number_at s.memory s.pc 4
word-is s m w h same =
    let below = permitted-below s.memory s.pc Fetch h in
    let aligned = w.aligned in
    ap from_little_endian (bytes-alike m s.memory 4 s.pc (omega (arith, below, aligned)) (λ c low high. same c (code-denies s w h c low high)))

legal-as : (k : Class) (s : Flat) (m : Memory) (i : Instr) → is_legal_as k (with_memory m s) i ≡ is_legal_as k s i
legal-as class.Csr s m i = refl
legal-as k s m i = refl

meaning-alike : (s : Flat) (m : Memory) (word : ℕ) (o : Option Instr) → meaning (with_memory m s) word o ≡ meaning s word o
meaning-alike s m word None = refl
meaning-alike s m word (Some i) = ap (λ b. if b then Instruction i else Illegal word) (legal-as (class_of i.op) s m i)

module _ (L : Laws) (s : Flat) (m : Memory) (w : IsWellFormed s) (alike : AreAlike s m) where
  pub word-alike : permits s.memory s.pc Fetch ≡ true → word_at_pc (with_memory m s) ≡ word_at_pc s
  word-alike h = word-is s m w h (λ c denied. alike.bytes c (not-pending L s c w denied))

  fetched-alike : (b : Bool) → (b ≡ true → word_at_pc (with_memory m s) ≡ word_at_pc s) → (if b then meaning (with_memory m s) (word_at_pc (with_memory m s)) (decoded (word_at_pc (with_memory m s))) else Denied) ≡ (if b then meaning s (word_at_pc s) (decoded (word_at_pc s)) else Denied)
  fetched-alike false f = refl
  fetched-alike true f = ap (λ n. meaning (with_memory m s) n (decoded n)) (f refl) ∙ meaning-alike s m (word_at_pc s) (decoded (word_at_pc s))

  pub upcoming-alike : upcoming (with_memory m s) ≡ upcoming s
  unfolding upcoming
  upcoming-alike =
      ap (λ b. if b then meaning (with_memory m s) (word_at_pc (with_memory m s)) (decoded (word_at_pc (with_memory m s))) else Denied) (permits-alike m s.memory alike.pages s.pc Fetch)
      ∙ fetched-alike (permits s.memory s.pc Fetch) word-alike

  pub cause-alike : (want : Want) (address width : ℕ) → cause_of m want address width ≡ cause_of s.memory want address width
  cause-alike want address width = ap (λ b. if not (nat_eq (address % width) 0) then Some (misaligned want) else if not b then Some (page_fault want) else None) (permits-alike m s.memory alike.pages address want)

  spans-alike : (k : Class) (i : Instr) → spans_as k (with_memory m s) i ≡ spans_as k s i
  spans-alike class.Store i = ap (λ o. span_unless o (access_address i s.x) (access_width i.op)) (cause-alike Store (access_address i s.x) (access_width i.op))
  spans-alike (class.VectorStore a e) i = λ j. map (λ (x : Access). record { address = x.address; width = x.width }) (filter (λ (x : Access). is_none (cause-alike Store x.address x.width j)) (access_list (transfer Storing a e s i).movement))
  spans-alike k i = refl

  spans-of-alike : (u : Upcoming) → spans_of (with_memory m s) u ≡ spans_of s u
  spans-of-alike Denied = refl
  spans-of-alike (Illegal word) = refl
  spans-of-alike (Instruction i) = spans-alike (class_of i.op) i

  pub pending-alike : (c : ℕ) → is_pending (with_memory m s) c ≡ is_pending s c
  pending-alike c = pending-is (with_memory m s) (upcoming s) c upcoming-alike ∙ ap (list_any (is_in c)) (spans-of-alike (upcoming s)) ∙ sym (pending-is s (upcoming s) c refl)

  pub well-formed-alike : IsWellFormed (with_memory m s)
  well-formed-alike = record {
    vectors = w.vectors;
    aligned = w.aligned;
    code = λ address h. permits-alike m s.memory alike.pages address Store ∙ w.code address (sym (permits-alike m s.memory alike.pages address Fetch) ∙ h);
  }

-- ---- where no store comes next, nothing is pending

no-spans : (s : Flat) (i : Instr) (c : ℕ) (k : Class) → writes_memory k ≡ false → list_any (is_in c) (spans_as k s i) ≡ false
no-spans s i c class.Store h = absurd (true≢false h)
no-spans s i c (class.VectorStore a e) h = absurd (true≢false h)
no-spans s i c k h = refl

none-of : (s : Flat) (c : ℕ) (u : Upcoming) → writes_next u ≡ false → list_any (is_in c) (spans_of s u) ≡ false
none-of s c Denied h = refl
none-of s c (Illegal word) h = refl
none-of s c (Instruction i) h = no-spans s i c (class_of i.op) h

pub none-pending : (s : Flat) (c : ℕ) → is_at_store s ≡ false → is_pending s c ≡ false
none-pending s c h = pending-is s (upcoming s) c refl ∙ none-of s c (upcoming s) h
