-- The step from a state within an instruction is the step from the state before it.
use Rattle.std.proofs.Common.{◌≡◌, ℕ, ◌+◌, ◌/◌, ◌%◌, ◌^◌, ◌<◌, ◌≤◌, Bool, true, false, not, ◌&&◌, nat_eq, List, if◌then◌else◌, refl, sym, ap, ◌∙◌, subst, arith, ltb}
use Rattle.std.specs.List.{All}
use Rattle.std.specs.Prelude.{Option, Some, None, option_and_then}
use Rattle.std.proofs.lemmas.Bool.{false≢true, eqb-true, eqb-false, ne_eqb, not-true}
use Rattle.std.proofs.lemmas.Nat.{mod_below}
use Rattle.std.proofs.lemmas.Option.{none-some, same_Some}
use Rattle.vx_base.specs.declared.machine.Want.TheVariants.{Fetch, Store}
use Rattle.vx_decode.specs.Decoded.{decoded}
use Rattle.vx_decode.specs.Legal.{is_illegal}
use Rattle.vx_decode.specs.declared.instr.Instr.{Instr}
use Rattle.vx_rows.specs.Table.{class_of}
use Rattle.vx_rows.specs.declared.row.Addressing.{Addressing}
use Rattle.vx_rows.specs.declared.row.Class.{Class}
use Rattle.vx_rows.specs.declared.row.Class.TheVariants.{VectorLoad, VectorStore}
use Rattle.vx_rows.specs.declared.row.Eew.{Eew}
use Rattle.vx_vstate.specs.Registers.{is_byte_width}
use Rattle.vx_vector.specs.Accesses.{Access, Movement, access_bits, access_of, access_list, accesses_between}
use Rattle.vx_vector.specs.Movements.{IsSoundMovement}
use Rattle.vx_flat.specs.Continued.{passed_as, passed_over, behind, continued}
use Rattle.vx_image.specs.Pages.{permits}
use Rattle.vx_flat.specs.Memory.{number_at}
use Rattle.vx_flat.specs.Outcome.{Outcome, faulted}
use Rattle.vx_flat.specs.Outcome.Outcome.{Next, Exited, Faulted}
use Rattle.vx_flat.specs.Prefix.{transfer_as, transfer_next, prefix_of, prefix_at}
use Rattle.vx_flat.specs.Splits.{IsWellFormed}
use Rattle.vx_flat.specs.State.{Flat, at_element, completed}
use Rattle.vx_flat.specs.Step.{upcoming, meaning, is_legal, is_legal_as, word_at_pc, performed, performed_as, step}
use Rattle.vx_flat.specs.Transfers.{Direction, Transfer, Failure, transfer, transferred_by, accesses_done, failure_of, first_failure, below_done, trimmed, is_fault_only_first}
use Rattle.vx_flat.specs.Transfers.Direction.{Loading, Storing}
use Rattle.vx_flat.specs.Vectors.{setting_at}
use Rattle.vx_flat.specs.declared.upcoming.Upcoming.{Upcoming}
use Rattle.vx_flat.specs.declared.upcoming.Upcoming.TheVariants.{Denied, Illegal, Instruction}
use Rattle.vx_flat.proofs.Apart.{by_width}
use Rattle.vx_flat.proofs.Between.{between_all}
use Rattle.vx_flat.proofs.Done.{with_parts, done-parts, loads-memory, done-permits, IsElsewhere, stores-leave, none-fails, passes}
use Rattle.vx_flat.proofs.Keeps.{done-length}
use Rattle.vx_flat.proofs.Kept.{CountLaws}
use Rattle.vx_flat.proofs.Puts.{other-page, permitted-below, word-stays}
use Rattle.vx_flat.proofs.Rules.{load-legal-alike, store-legal-alike}
use Rattle.vx_flat.proofs.Splits.{Laws, IsRow, prefix-parts, there, from-there, store-sound, load-splits, store-splits, load-past, store-past, load-joins, store-joins}

-- ---- what comes next

abbrev is_instruction : Upcoming → Bool
is_instruction Denied = false
is_instruction (Illegal word) = false
is_instruction (Instruction i) = true

abbrev instruction_or : Instr → Upcoming → Instr
instruction_or i Denied = i
instruction_or i (Illegal word) = i
instruction_or i (Instruction j) = j

record IsNext (s : Flat) (i : Instr) : Type 0 where
  pub fetched : permits s.memory s.pc Fetch ≡ true
  pub word : decoded (word_at_pc s) ≡ Some i
  pub legal : is_legal s i ≡ true

when-fetched : (b : Bool) (u : Upcoming) (i : Instr) → (if b then u else Denied) ≡ Instruction i → (b ≡ true) × (u ≡ Instruction i)
when-fetched true u i h = (refl, h)
when-fetched false u i h = absurd (false≢true (ap is_instruction h))

when-legal : (b : Bool) (word : ℕ) (j i : Instr) → (if b then Instruction j else Illegal word) ≡ Instruction i → (b ≡ true) × (j ≡ i)
when-legal true word j i h = (refl, ap (instruction_or i) h)
when-legal false word j i h = absurd (false≢true (ap is_instruction h))

when-decoded : (s : Flat) (word : ℕ) (o : Option Instr) (i : Instr) → meaning s word o ≡ Instruction i → (o ≡ Some i) × (is_legal s i ≡ true)
when-decoded s word None i h = absurd (false≢true (ap is_instruction h))
when-decoded s word (Some j) i h =
    let parts = when-legal (is_legal s j) word j i h in
    (ap Some parts.1, ap (is_legal s) (sym parts.1) ∙ parts.0)

next-parts : (s : Flat) (i : Instr) → upcoming s ≡ Instruction i → IsNext s i
unfolding upcoming
next-parts s i h =
    let fetched = when-fetched (permits s.memory s.pc Fetch) (meaning s (word_at_pc s) (decoded (word_at_pc s))) i h in
    let parts = when-decoded s (word_at_pc s) (decoded (word_at_pc s)) i fetched.1 in
    record { fetched = fetched.0; word = parts.0; legal = parts.1 }

next-is : (s : Flat) (i : Instr) → IsNext s i → upcoming s ≡ Instruction i
unfolding upcoming
next-is s i n =
    ap (λ b. if b then meaning s (word_at_pc s) (decoded (word_at_pc s)) else Denied) n.fetched
    ∙ ap (meaning s (word_at_pc s)) n.word
    ∙ ap (λ b. if b then Instruction i else Illegal (word_at_pc s)) n.legal

performed-is : (s : Flat) (i : Instr) (c : Class) → class_of i.op ≡ c → performed s (Instruction i) ≡ performed_as c s i
unfolding performed
performed-is s i c q = ap (λ c. performed_as c s i) q

step-is : (s : Flat) (i : Instr) (c : Class) → class_of i.op ≡ c → upcoming s ≡ Instruction i → step s ≡ performed_as c s i
step-is s i c q h = ap (performed s) h ∙ performed-is s i c q

-- ---- past a failure

abbrev NoExit : Outcome → Type 0
NoExit (Next t) = Unit {0}
NoExit (Exited code) = ⊥
NoExit (Faulted fault t) = Unit {0}

NoExit-if : (b : Bool) (x y : Outcome) → NoExit x → NoExit y → NoExit (if b then x else y)
NoExit-if true x y p q = p
NoExit-if false x y p q = q

no-exit : (t : Transfer) (s : Flat) (o : Option Failure) → NoExit (transferred_by t s o)
no-exit t s None = tt
no-exit t s (Some f) =
    let k = f.access.element in
    NoExit-if (is_fault_only_first t.movement.addressing && ltb 0 k) (Next (completed (trimmed k (below_done t k s)))) (faulted (below_done t k s) f.cause f.access.address) tt tt

behind-alike : (s u : Flat) (o : Outcome) → NoExit o → passed_over u (upcoming u) ≡ passed_over s (upcoming s) → behind u o ≡ behind s o
behind-alike s u (Next t) n h = refl
behind-alike s u (Exited code) n h = absurd n
behind-alike s u (Faulted fault t) n h = h

over-is : (s : Flat) (i : Instr) (c : Class) → class_of i.op ≡ c → upcoming s ≡ Instruction i → passed_over s (upcoming s) ≡ passed_as c s i
over-is s i c q h = ap (passed_over s) h ∙ ap (λ c. passed_as c s i) q

-- ---- where accesses of a store may lie

-- an access of so many bits that is aligned lies on one page
on-one-page : (width address : ℕ) → is_byte_width width ≡ true → address % (width / 8) ≡ 0 → address % 4096 + width / 8 ≤ 4096
on-one-page width address h aligned =
    by_width (λ w. address % (w / 8) ≡ 0 → address % 4096 + w / 8 ≤ 4096) width (λ e. omega arith) (λ e. omega arith) (λ e. omega arith) (λ e. omega arith) h aligned

record IsBounded (a : Access) : Type 0 where
  pub page : a.address % a.width ≡ 0 → a.address % 4096 + a.width ≤ 4096
  pub below : a.address < 2 ^ 64

bounded : (m : Movement) (k : ℕ) → IsSoundMovement m → All IsBounded (accesses_between m 0 k)
bounded m k sound =
    between_all IsBounded m 0 k
    (λ x f above below inside of. record {
      page = on-one-page (access_bits m) (access_of m x f).address sound.width;
      below = mod_below _ (2 ^ 64) (omega arith);
    })

both-all : {X : Type 0} (P Q R : X → Type 0) → ((x : X) → P x → Q x → R x) → (xs : List X) → All P xs → All Q xs → All R xs
both-all P Q R f xs p q k d l = f _ (p k d l) (q k d l)

module _ (L : Laws) (a : Addressing) (e : Eew) (s : Flat) (i : Instr) (k : ℕ) (u : Flat) (w : IsWellFormed s) (h : upcoming s ≡ Instruction i) where
  next : IsNext s i
  next = next-parts s i h

  illegal : (c : Class) → class_of i.op ≡ c → not (is_illegal i (setting_at s i)) ≡ true → IsRow c s i
  illegal c q legal = record {
    valid = L.valid (word_at_pc s) i next.word;
    row = q;
    legal = not-true (is_illegal i (setting_at s i)) legal;
  }

  load-row : class_of i.op ≡ VectorLoad a e → IsRow (VectorLoad a e) s i
  load-row q = illegal (VectorLoad a e) q (ap (λ c. is_legal_as c s i) (sym q) ∙ next.legal)

  store-row : class_of i.op ≡ VectorStore a e → IsRow (VectorStore a e) s i
  store-row q = illegal (VectorStore a e) q (ap (λ c. is_legal_as c s i) (sym q) ∙ next.legal)

  load-next : class_of i.op ≡ VectorLoad a e → upcoming (there Loading a e s i k) ≡ Instruction i
  load-next q =
      let after = there Loading a e s i k in
      let below = accesses_between (transfer Loading a e s i).movement 0 k in
      let word : word_at_pc after ≡ word_at_pc s = ap (λ m. number_at m s.pc 4) (loads-memory below s) in
      let legal : is_legal after i ≡ is_legal s i =
      ap (λ c. is_legal_as c after i) q
      ∙ ap not (load-legal-alike a e i (setting_at s i) k q)
      ∙ sym (ap (λ c. is_legal_as c s i) q) in
      next-is after i (record {
        fetched = done-permits Loading below s s.pc Fetch ∙ next.fetched;
        word = ap decoded word ∙ next.word;
        legal = legal ∙ next.legal;
      })

  elsewhere : IsSoundMovement (transfer Storing a e s i).movement → (good : first_failure Storing s.memory (accesses_between (transfer Storing a e s i).movement 0 k) ≡ None) → All (IsElsewhere s.pc) (accesses_between (transfer Storing a e s i).movement 0 k)
  elsewhere sound good =
      both-all (λ x. failure_of Storing s.memory x ≡ None) IsBounded (IsElsewhere s.pc)
      (λ x p q.
      let checked = passes s.memory Store x.address x.width p in
      record {
        other = other-page s.memory x.address s.pc Store checked.1 (w.code s.pc next.fetched);
        fits = q.page checked.0;
        below = q.below;
      })
      (accesses_between (transfer Storing a e s i).movement 0 k)
      (none-fails Storing s.memory (accesses_between (transfer Storing a e s i).movement 0 k) good)
      (bounded (transfer Storing a e s i).movement k sound)

  store-next : class_of i.op ≡ VectorStore a e → (good : first_failure Storing s.memory (accesses_between (transfer Storing a e s i).movement 0 k) ≡ None) → upcoming (there Storing a e s i k) ≡ Instruction i
  store-next q good =
      let after = there Storing a e s i k in
      let below = accesses_between (transfer Storing a e s i).movement 0 k in
      let apart = elsewhere (store-sound L a e s i k u w.vectors (store-row q)) good in
      let word : word_at_pc after ≡ word_at_pc s = word-stays s.memory after.memory s.pc w.aligned (permitted-below s.memory s.pc Fetch next.fetched) (stores-leave s.pc below s apart) in
      let legal : is_legal after i ≡ is_legal s i =
      ap (λ c. is_legal_as c after i) q
      ∙ ap not (store-legal-alike a e i (setting_at s i) k q)
      ∙ sym (ap (λ c. is_legal_as c s i) q) in
      next-is after i (record {
        fetched = done-permits Storing below s s.pc Fetch ∙ next.fetched;
        word = ap decoded word ∙ next.word;
        legal = legal ∙ next.legal;
      })

  load-step : class_of i.op ≡ VectorLoad a e → prefix_of (transfer Loading a e s i) k s ≡ Some u → step u ≡ step s
  load-step q p =
      let comes : upcoming u ≡ Instruction i = ap upcoming (from-there a e s i k u Loading p) ∙ load-next q in
      step-is u i (VectorLoad a e) q comes
      ∙ load-splits L a e s i k u w.vectors (load-row q) p
      ∙ sym (step-is s i (VectorLoad a e) q h)

  store-step : class_of i.op ≡ VectorStore a e → prefix_of (transfer Storing a e s i) k s ≡ Some u → step u ≡ step s
  store-step q p =
      let comes : upcoming u ≡ Instruction i = ap upcoming (from-there a e s i k u Storing p) ∙ store-next q (prefix-parts (transfer Storing a e s i) k s u p).good in
      step-is u i (VectorStore a e) q comes
      ∙ store-splits a e s i k u p
      ∙ sym (step-is s i (VectorStore a e) q h)

  load-continued : class_of i.op ≡ VectorLoad a e → prefix_of (transfer Loading a e s i) k s ≡ Some u → continued u ≡ continued s
  load-continued q p =
      let comes : upcoming u ≡ Instruction i = ap upcoming (from-there a e s i k u Loading p) ∙ load-next q in
      let same = load-step q p in
      let over = over-is u i (VectorLoad a e) q comes ∙ load-past L a e s i k u w.vectors (load-row q) p ∙ sym (over-is s i (VectorLoad a e) q h) in
      ap (behind u) same
      ∙ behind-alike s u (step s) (subst NoExit (sym (step-is s i (VectorLoad a e) q h)) (no-exit (transfer Loading a e s i) s (first_failure Loading s.memory (access_list (transfer Loading a e s i).movement)))) over

  store-continued : class_of i.op ≡ VectorStore a e → prefix_of (transfer Storing a e s i) k s ≡ Some u → continued u ≡ continued s
  store-continued q p =
      let comes : upcoming u ≡ Instruction i = ap upcoming (from-there a e s i k u Storing p) ∙ store-next q (prefix-parts (transfer Storing a e s i) k s u p).good in
      let same = store-step q p in
      let over = over-is u i (VectorStore a e) q comes ∙ store-past a e s i k u p ∙ sym (over-is s i (VectorStore a e) q h) in
      ap (behind u) same
      ∙ behind-alike s u (step s) (subst NoExit (sym (step-is s i (VectorStore a e) q h)) (no-exit (transfer Storing a e s i) s (first_failure Storing s.memory (access_list (transfer Storing a e s i).movement)))) over

-- ---- any instruction

pub record AreAlike (u s : Flat) : Type 0 where
  pub by_step : step u ≡ step s
  pub by_continued : continued u ≡ continued s

step-of : (L : Laws) (s : Flat) (i : Instr) (k : ℕ) (u : Flat) → IsWellFormed s → upcoming s ≡ Instruction i → (c : Class) → class_of i.op ≡ c → option_and_then (λ (t : Transfer). prefix_of t k s) (transfer_as c s i) ≡ Some u → AreAlike u s
step-of L s i k u w h (VectorLoad a e) q p = record { by_step = load-step L a e s i k u w h q p; by_continued = load-continued L a e s i k u w h q p }
step-of L s i k u w h (VectorStore a e) q p = record { by_step = store-step L a e s i k u w h q p; by_continued = store-continued L a e s i k u w h q p }
step-of L s i k u w h c q p = absurd (none-some u p)

step-next : (L : Laws) (s : Flat) (k : ℕ) (u : Flat) → IsWellFormed s → (x : Upcoming) → upcoming s ≡ x → option_and_then (λ (t : Transfer). prefix_of t k s) (transfer_next s x) ≡ Some u → AreAlike u s
step-next L s k u w Denied h p = absurd (none-some u p)
step-next L s k u w (Illegal word) h p = absurd (none-some u p)
step-next L s k u w (Instruction i) h p = step-of L s i k u w h (class_of i.op) refl p

here-or-on : (b : Bool) (s u : Flat) (on : Option Flat) → (on ≡ Some u → AreAlike u s) → (if b then Some s else on) ≡ Some u → AreAlike u s
here-or-on true s u on f h = let same = sym (same_Some s u h) in record { by_step = ap step same; by_continued = ap continued same }
here-or-on false s u on f h = f h

pub step-splits : Laws → (s u : Flat) (k : ℕ) → IsWellFormed s → prefix_at k s ≡ Some u → AreAlike u s
step-splits L s u k w h =
    here-or-on (nat_eq k s.v.vstart) s u (option_and_then (λ (t : Transfer). prefix_of t k s) (transfer_next s (upcoming s)))
    (step-next L s k u w (upcoming s) refl) h

-- ---- reached in two goes

-- what a state within an instruction, and one reached from there, say of the state before
record IsOn (s u : Flat) (k n : ℕ) (t : Transfer) (v : Flat) : Type 0 where
  reached : prefix_of t n s ≡ Some v
  start : s.v.vstart ≤ k
  at : u.v.vstart ≡ k
  behind : k ≤ n

on-of : (t onward : Transfer) (s u : Flat) (k n : ℕ) (v : Flat) → prefix_of t k s ≡ Some u → prefix_of onward n u ≡ Some v → prefix_of t n s ≡ Some v → IsOn s u k n t v
on-of t onward s u k n v p h r =
    let first = prefix-parts t k s u p in
    let second = prefix-parts onward n u v h in
    let at : u.v.vstart ≡ k = sym (ap (λ (x : Flat). x.v.vstart) first.is) in
    record { reached = r; start = first.start; at = at; behind = omega (arith, second.start) }

-- the state at an element that isn't the state's own
prefix-next : (s v : Flat) (n : ℕ) (t : Transfer) → transfer_next s (upcoming s) ≡ Some t → nat_eq n s.v.vstart ≡ false → prefix_of t n s ≡ Some v → prefix_at n s ≡ Some v
prefix-next s v n t next other h = (λ j. if other j then Some s else option_and_then (λ (t : Transfer). prefix_of t n s) (next j)) ∙ h

beyond : (k n start at : ℕ) → start ≤ k → at ≡ k → k ≤ n → nat_eq n at ≡ false → nat_eq n start ≡ false
beyond k n start at low same high other = ne_eqb n start (λ e. eqb-false n at other (omega arith))

joins-by : (s u v : Flat) (k n : ℕ) (t : Transfer) → transfer_next s (upcoming s) ≡ Some t → IsOn s u k n t v → nat_eq n u.v.vstart ≡ false → prefix_at n s ≡ Some v
joins-by s u v k n t next on other = prefix-next s v n t next (beyond k n s.v.vstart u.v.vstart on.start on.at on.behind other) on.reached

join-of : (L : Laws) (s : Flat) (i : Instr) (k : ℕ) (u : Flat) → IsWellFormed s → upcoming s ≡ Instruction i → (c : Class) → class_of i.op ≡ c → option_and_then (λ (t : Transfer). prefix_of t k s) (transfer_as c s i) ≡ Some u → (n : ℕ) (v : Flat) → nat_eq n u.v.vstart ≡ false → option_and_then (λ (t : Transfer). prefix_of t n u) (transfer_next u (upcoming u)) ≡ Some v → prefix_at n s ≡ Some v
join-of L s i k u w h (VectorLoad a e) q p n v other g =
    let comes : upcoming u ≡ Instruction i = ap upcoming (from-there a e s i k u Loading p) ∙ load-next L a e s i k u w h q in
    let on : prefix_of (transfer Loading a e u i) n u ≡ Some v = sym (ap (option_and_then (λ (t : Transfer). prefix_of t n u)) (ap (transfer_next u) comes ∙ ap (λ c. transfer_as c u i) q)) ∙ g in
    let t = transfer Loading a e s i in
    joins-by s u v k n t (ap (transfer_next s) h ∙ ap (λ c. transfer_as c s i) q)
    (on-of t (transfer Loading a e u i) s u k n v p on (load-joins L a e s i k u w.vectors (load-row L a e s i k u w h q) p n v on)) other
join-of L s i k u w h (VectorStore a e) q p n v other g =
    let good = (prefix-parts (transfer Storing a e s i) k s u p).good in
    let comes : upcoming u ≡ Instruction i = ap upcoming (from-there a e s i k u Storing p) ∙ store-next L a e s i k u w h q good in
    let on : prefix_of (transfer Storing a e u i) n u ≡ Some v = sym (ap (option_and_then (λ (t : Transfer). prefix_of t n u)) (ap (transfer_next u) comes ∙ ap (λ c. transfer_as c u i) q)) ∙ g in
    let t = transfer Storing a e s i in
    joins-by s u v k n t (ap (transfer_next s) h ∙ ap (λ c. transfer_as c s i) q)
    (on-of t (transfer Storing a e u i) s u k n v p on (store-joins a e s i k u p n v on)) other
join-of L s i k u w h c q p n v other g = absurd (none-some u p)

join-next : (L : Laws) (s : Flat) (k : ℕ) (u : Flat) → IsWellFormed s → (x : Upcoming) → upcoming s ≡ x → option_and_then (λ (t : Transfer). prefix_of t k s) (transfer_next s x) ≡ Some u → (n : ℕ) (v : Flat) → nat_eq n u.v.vstart ≡ false → option_and_then (λ (t : Transfer). prefix_of t n u) (transfer_next u (upcoming u)) ≡ Some v → prefix_at n s ≡ Some v
join-next L s k u w Denied h p n v other g = absurd (none-some u p)
join-next L s k u w (Illegal word) h p n v other g = absurd (none-some u p)
join-next L s k u w (Instruction i) h p n v other g = join-of L s i k u w h (class_of i.op) refl p n v other g

-- the vstart of a state within an instruction
at-of : (t : Option Transfer) (s u : Flat) (k : ℕ) → option_and_then (λ (t : Transfer). prefix_of t k s) t ≡ Some u → u.v.vstart ≡ k
at-of None s u k p = absurd (none-some u p)
at-of (Some t) s u k p = sym (ap (λ (x : Flat). x.v.vstart) (prefix-parts t k s u p).is)

second-go : (L : Laws) (s u v : Flat) (k n : ℕ) → IsWellFormed s → prefix_at k s ≡ Some u → option_and_then (λ (t : Transfer). prefix_of t k s) (transfer_next s (upcoming s)) ≡ Some u → (b : Bool) → nat_eq n u.v.vstart ≡ b → (if b then Some u else option_and_then (λ (t : Transfer). prefix_of t n u) (transfer_next u (upcoming u))) ≡ Some v → prefix_at n s ≡ Some v
second-go L s u v k n w first p true here g =
    ap (λ n. prefix_at n s) (eqb-true n u.v.vstart here ∙ at-of (transfer_next s (upcoming s)) s u k p) ∙ first ∙ g
second-go L s u v k n w first p false other g = join-next L s k u w (upcoming s) refl p n v other g

first-go : (L : Laws) (s u v : Flat) (k n : ℕ) → IsWellFormed s → prefix_at k s ≡ Some u → prefix_at n u ≡ Some v → (b : Bool) → nat_eq k s.v.vstart ≡ b → (if b then Some s else option_and_then (λ (t : Transfer). prefix_of t k s) (transfer_next s (upcoming s))) ≡ Some u → prefix_at n s ≡ Some v
first-go L s u v k n w first second true here p = ap (prefix_at n) (same_Some s u p) ∙ second
first-go L s u v k n w first second false other p = second-go L s u v k n w first p (nat_eq n u.v.vstart) refl second

pub prefixes-join-up : Laws → (s u v : Flat) (k n : ℕ) → IsWellFormed s → prefix_at k s ≡ Some u → prefix_at n u ≡ Some v → prefix_at n s ≡ Some v
prefixes-join-up L s u v k n w first second = first-go L s u v k n w first second (nat_eq k s.v.vstart) refl first

-- ---- what it is

-- what a state within an instruction keeps
pub record IsWithin (s u : Flat) (k : ℕ) : Type 0 where
  pub element : u.v.vstart ≡ k
  pub pc : u.pc ≡ s.pc
  pub output : u.output ≡ s.output
  pub formed : IsWellFormed s → k < s.v.vlen → IsWellFormed u

within-here : (s u : Flat) → s ≡ u → IsWithin s u s.v.vstart
within-here s u same = record {
  element = sym (ap (λ (x : Flat). x.v.vstart) same);
  pc = sym (ap (λ (x : Flat). x.pc) same);
  output = sym (ap (λ (x : Flat). x.output) same);
  formed = λ w few. subst IsWellFormed same w;
}

done-within : (L : CountLaws) (d : Direction) (l : List Access) (k : ℕ) (s : Flat) → IsWithin s (at_element k (accesses_done d l s)) k
done-within L d l k s =
    let done = accesses_done d l s in
    let is : at_element k done ≡ at_element k (with_parts s done.v.words done.memory) = ap (at_element k) (done-parts d l s) in
    record {
      element = refl;
      pc = ap (λ (x : Flat). x.pc) is;
      output = ap (λ (x : Flat). x.output) is;
      formed = λ w few. subst IsWellFormed (sym is) (record {
        vectors = record {
          vlen_in_range = w.vectors.vlen_in_range;
          words_in_all = done-length L d l s ∙ w.vectors.words_in_all;
          vtype_in_range = w.vectors.vtype_in_range;
          vl_in_range = w.vectors.vl_in_range;
          vstart_in_range = few;
          vxrm_in_range = w.vectors.vxrm_in_range;
        };
        aligned = w.aligned;
        code = λ address fetch. done-permits d l s address Store ∙ w.code address (sym (done-permits d l s address Fetch) ∙ fetch);
      });
    }

within-of : (L : CountLaws) (t : Option Transfer) (s u : Flat) (k : ℕ) → option_and_then (λ (t : Transfer). prefix_of t k s) t ≡ Some u → IsWithin s u k
within-of L None s u k p = absurd (none-some u p)
within-of L (Some t) s u k p = subst (λ (x : Flat). IsWithin s x k) (prefix-parts t k s u p).is (done-within L t.direction (accesses_between t.movement 0 k) k s)

within-go : (L : CountLaws) (s u : Flat) (k : ℕ) (b : Bool) → nat_eq k s.v.vstart ≡ b → (if b then Some s else option_and_then (λ (t : Transfer). prefix_of t k s) (transfer_next s (upcoming s))) ≡ Some u → IsWithin s u k
within-go L s u k true here p = subst (IsWithin s u) (sym (eqb-true k s.v.vstart here)) (within-here s u (same_Some s u p))
within-go L s u k false other p = within-of L (transfer_next s (upcoming s)) s u k p

pub within-is : CountLaws → (s u : Flat) (k : ℕ) → prefix_at k s ≡ Some u → IsWithin s u k
within-is L s u k p = within-go L s u k (nat_eq k s.v.vstart) refl p
