-- A step may be taken up within an instruction.
use Rattle.std.proofs.Common.{◌≡◌, ℕ, ◌+◌, ◌*◌, ◌/◌, ◌%◌, ◌<◌, ◌≤◌, Bool, true, false, not, ◌&&◌, nat_eq, leb, ltb, List, ◌++◌, length, if◌then◌else◌, refl, sym, ap, ◌∙◌, subst, inl, inr, arith}
use Rattle.std.specs.List.{All, filter}
use Rattle.std.specs.Prelude.{Option, Some, None, is_none}
use Rattle.std.proofs.lemmas.Bool.{false≢true, and_parts, leb-true, le-leb}
use Rattle.std.proofs.lemmas.List.Elements.{filter-append}
use Rattle.std.proofs.lemmas.Option.{none-some, same_Some}
use Rattle.vx_image.specs.Pages.{Memory}
use Rattle.vx_decode.specs.Decoded.{decoded}
use Rattle.vx_decode.specs.Encoded.{IsValid}
use Rattle.vx_decode.specs.Groups.{bits_of_eew}
use Rattle.vx_decode.specs.Legal.{is_illegal}
use Rattle.vx_decode.specs.declared.instr.Instr.{Instr}
use Rattle.vx_rows.specs.Table.{class_of}
use Rattle.vx_rows.specs.declared.row.Addressing.{Addressing}
use Rattle.vx_rows.specs.declared.row.Addressing.TheVariants.{Unordered, Ordered}
use Rattle.vx_rows.specs.declared.row.Class.{Class}
use Rattle.vx_rows.specs.declared.row.Class.TheVariants.{VectorLoad, VectorStore}
use Rattle.vx_rows.specs.declared.row.Eew.{Eew}
use Rattle.vx_vstate.specs.Registers.{element, with_element, words_of_all, is_byte_width, AreApart}
use Rattle.vx_vstate.specs.State.{IsVectorState, IsSetting}
use Rattle.vx_vstate.specs.Vtype.{vill, vlmax, most_elements}
use Rattle.vx_vector.specs.Accesses.{Access, Movement, access_bits, access_bytes, fields_of, movement_count, registers_of_field, accesses_between, access_list}
use Rattle.vx_vector.specs.Batches.{has_indices}
use Rattle.vx_vector.specs.Movements.{IsLegalMovement, IsSoundMovement}
use Rattle.vx_flat.specs.Checks.{misaligned, page_fault}
use Rattle.vx_flat.specs.Continued.{good_done}
use Rattle.vx_flat.specs.Outcome.{faulted}
use Rattle.vx_flat.specs.Outcome.Outcome.{Next}
use Rattle.vx_flat.specs.Prefix.{prefix_of}
use Rattle.vx_flat.specs.State.{Flat, at_element, completed}
use Rattle.vx_flat.specs.Transfers.{Direction, Transfer, Failure, transfer, transferred, transferred_by, accesses_done, want_of, failure_of, first_failure, below_done, trimmed, is_fault_only_first}
use Rattle.vx_flat.specs.Transfers.Direction.{Loading, Storing}
use Rattle.vx_flat.specs.Vectors.{setting_at}
use Rattle.vx_flat.proofs.Apart.{AreKeptApart, apart-from-mask, apart-from-index, by_width}
use Rattle.vx_flat.proofs.Between.{IsReadAlike, between_all, count_alike, in-parts, all-in-parts, goes-on}
use Rattle.vx_flat.proofs.Done.{with_parts, done-behind, done-at, done-parts, stores-words, done-permits, loads-leave, failures-alike, failures-behind, failure-is-one, all-pass, is-none}
use Rattle.vx_flat.proofs.Rules.{SizeLaws, load-rules, behind-v0, kept-apart, Rules}

-- what the crates below say of elements, groups and instructions
pub record Laws : Type 0 where
  pub other : (vlen : ℕ) (words : List ℕ) (register width index value other_register other_width other_index : ℕ) → AreApart vlen register width index other_register other_width other_index → element vlen (with_element vlen words register width index value) other_register other_width other_index ≡ element vlen words other_register other_width other_index
  pub sizes : SizeLaws
  pub sound : (m : Movement) → IsLegalMovement m → length m.words ≡ words_of_all m.at.vlen → IsSoundMovement m
  pub valid : (word : ℕ) (i : Instr) → decoded word ≡ Some i → IsValid i

-- ---- the states within a transfer

pub record IsPrefix (t : Transfer) (k : ℕ) (s u : Flat) : Type 0 where
  pub start : s.v.vstart ≤ k
  pub good : first_failure t.direction s.memory (accesses_between t.movement 0 k) ≡ None
  pub is : below_done t k s ≡ u

some-if : (b : Bool) (x u : Flat) → (if b then Some x else None) ≡ Some u → (b ≡ true) × (x ≡ u)
some-if true x u h = (refl, same_Some x u h)
some-if false x u h = absurd (none-some u h)

pub prefix-parts : (t : Transfer) (k : ℕ) (s u : Flat) → prefix_of t k s ≡ Some u → IsPrefix t k s u
prefix-parts t k s u h =
    let test = is_none (first_failure t.direction s.memory (accesses_between t.movement 0 k)) in
    let one = some-if (leb s.v.vstart k && test) (below_done t k s) u h in
    let both = and_parts (leb s.v.vstart k) test one.0 in
    record {
      start = leb-true s.v.vstart k both.0;
      good = is-none (first_failure t.direction s.memory (accesses_between t.movement 0 k)) both.1;
      is = one.1;
    }

pub prefix-from : (t : Transfer) (k : ℕ) (s : Flat) → s.v.vstart ≤ k → first_failure t.direction s.memory (accesses_between t.movement 0 k) ≡ None → prefix_of t k s ≡ Some (below_done t k s)
prefix-from t k s start none =
    ap (λ b. if b && is_none (first_failure t.direction s.memory (accesses_between t.movement 0 k)) then Some (below_done t k s) else None) (le-leb s.v.vstart k start)
    ∙ ap (λ f. if is_none f then Some (below_done t k s) else None) none

-- ---- the transfer, gone on with at element k

module _ (d : Direction) (a : Addressing) (e : Eew) (s : Flat) (i : Instr) (k : ℕ) where
  abbrev t : Transfer
  t = transfer d a e s i

  abbrev m : Movement
  m = t.movement

  abbrev first : List Access
  first = accesses_between m 0 k

  abbrev rest : List Access
  rest = accesses_between m k (movement_count m)

  -- what the elements below k leave
  abbrev middle : Flat
  middle = accesses_done d first s

  abbrev words : List ℕ
  words = middle.v.words

  abbrev memory : Memory
  memory = middle.memory

  abbrev pub there : Flat
  there = at_element k (with_parts s words memory)

  abbrev onward : Transfer
  onward = transfer d a e there i

  pub there-is : below_done t k s ≡ there
  there-is = ap (at_element k) (done-parts d first s)

  module _ (start : s.v.vstart ≤ k) (read : IsReadAlike m k words) (good : first_failure d s.memory first ≡ None) where
    list-there : access_list onward.movement ≡ rest
    list-there = ap (λ n. accesses_between onward.movement 0 n) (count_alike m k words) ∙ goes-on m k words start read (movement_count m)

    states-alike : (j : ℕ) (x y c : List Access) → x ≡ c → y ≡ first ++ c → at_element j (accesses_done d x there) ≡ at_element j (accesses_done d y s)
    states-alike j x y c p q =
        ap (λ l. at_element j (accesses_done d l there)) p
        ∙ ap (at_element j) (done-at k d c (with_parts s words memory))
        ∙ ap (λ u. at_element j (accesses_done d c u)) (sym (done-parts d first s))
        ∙ ap (at_element j) (sym (done-behind d first c s))
        ∙ ap (λ l. at_element j (accesses_done d l s)) (sym q)

    failure-there : first_failure d memory (access_list onward.movement) ≡ first_failure d s.memory rest
    failure-there = ap (first_failure d memory) list-there ∙ failures-alike d s.memory memory (done-permits d first s) rest

    failure-here : first_failure d s.memory (access_list m) ≡ first_failure d s.memory rest
    failure-here = ap (first_failure d s.memory) (all-in-parts m k) ∙ failures-behind d s.memory first rest good

    by-failure : (o : Option Failure) → first_failure d s.memory rest ≡ o → transferred_by onward there o ≡ transferred_by t s o
    by-failure None h = ap (λ u. Next (completed u)) (states-alike (movement_count m) (access_list onward.movement) (access_list m) rest list-there (all-in-parts m k))
    by-failure (Some f) h =
        let j = f.access.element in
        let low : k ≤ j = failure-is-one (λ x. k ≤ x.element) d s.memory rest f (between_all (λ x. k ≤ x.element) m k (movement_count m) (λ x field above below inside of. above)) h in
        ap (λ u. if is_fault_only_first a && ltb 0 j then Next (completed (trimmed j u)) else faulted u f.cause f.access.address)
        (states-alike j (accesses_between onward.movement 0 j) (accesses_between m 0 j) (accesses_between m k j) (goes-on m k words start read j) (in-parts m 0 k j (omega arith) low))

    pub transfers-alike : transferred onward there ≡ transferred t s
    transfers-alike =
        ap (transferred_by onward there) failure-there
        ∙ by-failure (first_failure d s.memory rest) refl
        ∙ sym (ap (transferred_by t s) failure-here)

    -- ---- in two goes

    failure-between : (n : ℕ) → k ≤ n → first_failure d memory (accesses_between onward.movement 0 n) ≡ None → first_failure d s.memory (accesses_between m 0 n) ≡ None
    failure-between n low none =
        ap (first_failure d s.memory) (in-parts m 0 k n (omega arith) low)
        ∙ failures-behind d s.memory first (accesses_between m k n) good
        ∙ sym (failures-alike d s.memory memory (done-permits d first s) (accesses_between m k n))
        ∙ sym (ap (first_failure d memory) (goes-on m k words start read n))
        ∙ none

    done-between : (n : ℕ) → k ≤ n → below_done onward n there ≡ below_done t n s
    done-between n low =
        states-alike n (accesses_between onward.movement 0 n) (accesses_between m 0 n) (accesses_between m k n) (goes-on m k words start read n) (in-parts m 0 k n (omega arith) low)

    pub prefixes-join : (n : ℕ) (v : Flat) → prefix_of onward n there ≡ Some v → prefix_of t n s ≡ Some v
    prefixes-join n v h =
        let is = prefix-parts onward n there v h in
        prefix-from t n s (omega (arith, start, is.start)) (failure-between n is.start is.good) ∙ ap Some (sym (done-between n is.start) ∙ is.is)

    -- ---- past a failure

    passing-alike : (l : List Access) → filter (λ (x : Access). is_none (failure_of d memory x)) l ≡ filter (λ (x : Access). is_none (failure_of d s.memory x)) l
    passing-alike l = λ j. filter (λ (x : Access). is_none (if not (nat_eq (x.address % x.width) 0) then Some (misaligned (want_of d)) else if not (done-permits d first s x.address (want_of d) j) then Some (page_fault (want_of d)) else None)) l

    passing : filter (λ (x : Access). is_none (failure_of d s.memory x)) (access_list m) ≡ first ++ filter (λ (x : Access). is_none (failure_of d s.memory x)) rest
    passing =
        ap (filter (λ (x : Access). is_none (failure_of d s.memory x))) (all-in-parts m k)
        ∙ filter-append (λ (x : Access). is_none (failure_of d s.memory x)) first rest
        ∙ ap (λ l. l ++ filter (λ (x : Access). is_none (failure_of d s.memory x)) rest) (all-pass d s.memory first good)

    pub past-alike : good_done onward there ≡ good_done t s
    past-alike =
        ap completed
        (states-alike 0 (filter (λ (x : Access). is_none (failure_of d memory x)) (access_list onward.movement)) (filter (λ (x : Access). is_none (failure_of d s.memory x)) (access_list m)) (filter (λ (x : Access). is_none (failure_of d s.memory x)) rest)
        (passing-alike (access_list onward.movement) ∙ ap (filter (λ (x : Access). is_none (failure_of d s.memory x))) list-there)
        passing)

-- ---- what later elements read

-- elements of whole bytes
whole-bytes : (w i : ℕ) → is_byte_width w ≡ true → (8 * (w / 8) ≡ w) × (i * (w / 8) / (w / 8) ≡ i)
whole-bytes w i h = by_width (λ w. (8 * (w / 8) ≡ w) × (i * (w / 8) / (w / 8) ≡ i)) w (refl, omega arith) (refl, omega arith) (refl, omega arith) (refl, omega arith) h

-- the accesses below k of a sound movement are apart from an element, where the elements that they lie on are
lie-apart : (m : Movement) (k r w x : ℕ) → IsSoundMovement m → ((y f : ℕ) → y < k → y < movement_count m → f < fields_of m → AreApart m.at.vlen (m.i.rd + f * registers_of_field m) (access_bits m) y r w x) → All (λ a. AreApart m.at.vlen a.register (8 * a.width) (a.byte / a.width) r w x) (accesses_between m 0 k)
lie-apart m k r w x s h =
    between_all (λ a. AreApart m.at.vlen a.register (8 * a.width) (a.byte / a.width) r w x) m 0 k
    (λ y f above below inside of.
    let bytes = whole-bytes (access_bits m) y s.width in
    subst (λ n. AreApart m.at.vlen (m.i.rd + f * registers_of_field m) n (y * access_bytes m / access_bytes m) r w x) (sym bytes.0)
    (subst (λ n. AreApart m.at.vlen (m.i.rd + f * registers_of_field m) (access_bits m) n r w x) (sym bytes.1) (h y f below inside of)))

below-most : (vlen vl vtype k : ℕ) → vl ≤ most_elements vlen vtype → k < vl → k < vlmax vlen vtype
below-most vlen vl vtype k h l = by_test (nat_eq vtype vill) h
  where
    by_test : (b : Bool) → vl ≤ (if b then 0 else vlmax vlen vtype) → k < vlmax vlen vtype
    by_test true h = absurd (omega arith)
    by_test false h = omega arith

setting-in-range : (s : Flat) (i : Instr) → IsVectorState s.v → IsSetting (setting_at s i)
setting-in-range s i v = record { vlen_in_range = v.vlen_in_range; vtype_in_range = v.vtype_in_range; vl_in_range = v.vl_in_range; vstart_in_range = v.vstart_in_range; vxrm_in_range = v.vxrm_in_range }

module _ (L : Laws) (a : Addressing) (e : Eew) (s : Flat) (i : Instr) (k : ℕ) (v : IsVectorState s.v) (sound : IsSoundMovement (transfer Loading a e s i).movement) (r : Rules a e i (setting_at s i)) where
  abbrev lm : Movement
  lm = (transfer Loading a e s i).movement

  mask-apart : i.vm ≡ false → (x : ℕ) → k ≤ x → x < movement_count lm → All (λ a. AreApart s.v.vlen a.register (8 * a.width) (a.byte / a.width) 0 1 x) (accesses_between lm 0 k)
  mask-apart h x low inside =
      let some = behind-v0 a e i (setting_at s i) r sound.some_field h in
      lie-apart lm k 0 1 x sound (λ y f l m of. apart-from-mask s.v.vlen (i.rd + f * registers_of_field lm) (access_bits lm) y x (omega arith) (sound.masked x inside))

-- an index at or past k of a load that has indices
index-apart : (a : Addressing) (e : Eew) (s : Flat) (i : Instr) (k : ℕ) → IsVectorState s.v → IsSoundMovement (transfer Loading a e s i).movement → AreKeptApart s.v.vtype i.rd i.rs2 i.nf (bits_of_eew e) → has_indices a ≡ true → (x : ℕ) → k ≤ x → x < movement_count (transfer Loading a e s i).movement → All (λ a. AreApart s.v.vlen a.register (8 * a.width) (a.byte / a.width) i.rs2 (bits_of_eew e) x) (accesses_between (transfer Loading a e s i).movement 0 k)
index-apart Unordered e s i k v sound kept h x low inside =
    lie-apart (transfer Loading Unordered e s i).movement k i.rs2 (bits_of_eew e) x sound
    (λ y f below l of. apart-from-index s.v.vtype i.rd i.rs2 i.nf (bits_of_eew e) kept s.v.vlen f y x v.vlen_in_range of (omega arith) (below-most s.v.vlen s.v.vl s.v.vtype x v.vl_in_range inside) (sound.within y l) (sound.indexed h x inside))
index-apart Ordered e s i k v sound kept h x low inside =
    lie-apart (transfer Loading Ordered e s i).movement k i.rs2 (bits_of_eew e) x sound
    (λ y f below l of. apart-from-index s.v.vtype i.rd i.rs2 i.nf (bits_of_eew e) kept s.v.vlen f y x v.vlen_in_range of (omega arith) (below-most s.v.vlen s.v.vl s.v.vtype x v.vl_in_range inside) (sound.within y l) (sound.indexed h x inside))
index-apart a e s i k v sound kept h x low inside = absurd (false≢true h)

-- ---- a load, and a store

-- an instruction of a class that is legal as a state has it
pub record IsRow (c : Class) (s : Flat) (i : Instr) : Type 0 where
  pub valid : IsValid i
  pub row : class_of i.op ≡ c
  pub legal : is_illegal i (setting_at s i) ≡ false

module _ (a : Addressing) (e : Eew) (s : Flat) (i : Instr) (k : ℕ) (u : Flat) where
  pub from-there : (d : Direction) → prefix_of (transfer d a e s i) k s ≡ Some u → u ≡ there d a e s i k
  from-there d h = sym (prefix-parts (transfer d a e s i) k s u h).is ∙ there-is d a e s i k

  store-read : IsReadAlike (transfer Storing a e s i).movement k (accesses_done Storing (accesses_between (transfer Storing a e s i).movement 0 k) s).v.words
  store-read =
      let below = accesses_between (transfer Storing a e s i).movement 0 k in
      record {
        mask = λ h x low inside. ap (λ w. element s.v.vlen w 0 1 x) (stores-words below s);
        index = λ h x low inside. ap (λ w. element s.v.vlen w i.rs2 (bits_of_eew e) x) (stores-words below s);
      }

  pub store-joins : prefix_of (transfer Storing a e s i) k s ≡ Some u → (n : ℕ) (v : Flat) → prefix_of (transfer Storing a e u i) n u ≡ Some v → prefix_of (transfer Storing a e s i) n s ≡ Some v
  store-joins h n v p =
      let is = prefix-parts (transfer Storing a e s i) k s u h in
      prefixes-join Storing a e s i k is.start store-read is.good n v (sym (ap (λ x. prefix_of (transfer Storing a e x i) n x) (from-there Storing h)) ∙ p)

  pub store-past : prefix_of (transfer Storing a e s i) k s ≡ Some u → good_done (transfer Storing a e u i) u ≡ good_done (transfer Storing a e s i) s
  store-past h =
      let is = prefix-parts (transfer Storing a e s i) k s u h in
      ap (λ x. good_done (transfer Storing a e x i) x) (from-there Storing h) ∙ past-alike Storing a e s i k is.start store-read is.good

  pub store-splits : prefix_of (transfer Storing a e s i) k s ≡ Some u → transferred (transfer Storing a e u i) u ≡ transferred (transfer Storing a e s i) s
  store-splits h =
      let is = prefix-parts (transfer Storing a e s i) k s u h in
      ap (λ x. transferred (transfer Storing a e x i) x) (from-there Storing h) ∙ transfers-alike Storing a e s i k is.start store-read is.good

module _ (L : Laws) (a : Addressing) (e : Eew) (s : Flat) (i : Instr) (k : ℕ) (u : Flat) (v : IsVectorState s.v) where
  load-sound : IsRow (VectorLoad a e) s i → IsSoundMovement (transfer Loading a e s i).movement
  load-sound r = L.sound (transfer Loading a e s i).movement (record { setting = setting-in-range s i v; valid = r.valid; row = inl r.row; legal = r.legal }) v.words_in_all

  pub store-sound : IsRow (VectorStore a e) s i → IsSoundMovement (transfer Storing a e s i).movement
  store-sound r = L.sound (transfer Storing a e s i).movement (record { setting = setting-in-range s i v; valid = r.valid; row = inr r.row; legal = r.legal }) v.words_in_all

  load-read : IsRow (VectorLoad a e) s i → IsReadAlike (transfer Loading a e s i).movement k (accesses_done Loading (accesses_between (transfer Loading a e s i).movement 0 k) s).v.words
  load-read r =
      let below = accesses_between (transfer Loading a e s i).movement 0 k in
      let legal = load-rules a e i (setting_at s i) r.row r.legal in
      let sound = load-sound r in
      record {
        mask = λ h x low inside. loads-leave L.other below s 0 1 x (mask-apart L a e s i k v sound legal h x low inside);
        index = λ h x low inside. loads-leave L.other below s i.rs2 (bits_of_eew e) x (index-apart a e s i k v sound (kept-apart L.sizes e i (setting_at s i) v.vtype_in_range a legal h) h x low inside);
      }

  pub load-splits : IsRow (VectorLoad a e) s i → prefix_of (transfer Loading a e s i) k s ≡ Some u → transferred (transfer Loading a e u i) u ≡ transferred (transfer Loading a e s i) s
  load-splits r h =
      let is = prefix-parts (transfer Loading a e s i) k s u h in
      ap (λ x. transferred (transfer Loading a e x i) x) (from-there a e s i k u Loading h) ∙ transfers-alike Loading a e s i k is.start (load-read r) is.good

  pub load-joins : IsRow (VectorLoad a e) s i → prefix_of (transfer Loading a e s i) k s ≡ Some u → (n : ℕ) (v : Flat) → prefix_of (transfer Loading a e u i) n u ≡ Some v → prefix_of (transfer Loading a e s i) n s ≡ Some v
  load-joins r h n v p =
      let is = prefix-parts (transfer Loading a e s i) k s u h in
      prefixes-join Loading a e s i k is.start (load-read r) is.good n v (sym (ap (λ x. prefix_of (transfer Loading a e x i) n x) (from-there a e s i k u Loading h)) ∙ p)

  pub load-past : IsRow (VectorLoad a e) s i → prefix_of (transfer Loading a e s i) k s ≡ Some u → good_done (transfer Loading a e u i) u ≡ good_done (transfer Loading a e s i) s
  load-past r h =
      let is = prefix-parts (transfer Loading a e s i) k s u h in
      ap (λ x. good_done (transfer Loading a e x i) x) (from-there a e s i k u Loading h) ∙ past-alike Loading a e s i k is.start (load-read r) is.good
