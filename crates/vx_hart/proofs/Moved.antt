-- Vector loads and stores from element to element: one element more, and what that tells of all.
use Rattle.std.proofs.Common.{◌≡◌, ℕ, zero, suc, ◌+◌, ◌-◌, ◌*◌, ◌%◌, ◌<◌, ◌≤◌, Bool, true, false, ◌&&◌, ◌||◌, not, ◌==◌, leb, ltb, Option, None, Some, List, [], ◌∷◌, ◌++◌, map, slice_set, if◌then◌else◌, refl, sym, ap, ◌∙◌, subst, arith}
use Rattle.std.specs.List.{Contains, range_with_len, flat_map}
use Rattle.std.specs.Option.{option_map_or}
use Rattle.std.proofs.lemmas.Bool.{leb-true, eqb-true}
use Rattle.std.proofs.lemmas.Bool.Decides.{nat_tests}
use Rattle.std.proofs.lemmas.Grind.{flat_map-append}
use Rattle.std.proofs.lemmas.List.{append-nil}
use Rattle.std.proofs.lemmas.List.Sums.{fold-append}
use Rattle.std.proofs.lemmas.Option.{none-some}
use Rattle.std.proofs.lemmas.List.Elements.{Contains-append_left, Contains-append_right}
use Rattle.vx_base.specs.Numbers.{little_endian}
use Rattle.vx_base.specs.Permissions.{grants}
use Rattle.vx_base.specs.declared.machine.Want.{Want}
use Rattle.vx_image.specs.Pages.{MappedPage, Memory, page_numbered, is_canonical, permits, page_of}
use Rattle.vx_flat.specs.Checks.{cause_of, misaligned, page_fault}
use Rattle.vx_flat.specs.Memory.{offset_of, next_address, with_byte, put_byte, put_bytes, put_number}
use Rattle.vx_flat.specs.State.{Flat}
use Rattle.vx_flat.specs.Transfers.{Direction, Failure, access_done, accesses_done, first_failure, failure_of, failure_or, want_of}
use Rattle.vx_flat.specs.Transfers.Direction.{Loading, Storing}
use Rattle.vx_vector.specs.Accesses.{Access, Movement, access_list, access_of, accesses_between, accesses_of_element, fields_of, movement_count, takes_part, value_stored, with_loaded}
use Rattle.vx_vector.specs.Numbers.{is_set}
use Rattle.vx_scalar.specs.Operands.{is_access_width}
use Rattle.vx_vstate.specs.Registers.{element, is_byte_width}
use Rattle.vx_vstate.specs.State.{VectorState}
use Rattle.vx_hart.specs.Transfers.{after_loading, after_stores, number_loaded}

-- ---- one element more

range-next : (a n : ℕ) → range_with_len a (n + 1) ≡ range_with_len a n ++ (a + n) ∷ []
range-next a zero = let first : a ≡ a + 0 = omega arith in ap (λ b. b ∷ []) first
range-next a (suc n) =
    let more : suc n + 1 ≡ suc (n + 1) = omega arith in
    let last : (a + 1) + n ≡ a + suc n = omega arith in
    ap (range_with_len a) more ∙ ap (λ xs. a ∷ xs) (range-next (a + 1) n ∙ ap (λ b. range_with_len (a + 1) n ++ b ∷ []) last)

pub between-next : (m : Movement) (k : ℕ) → accesses_between m 0 (k + 1) ≡ accesses_between m 0 k ++ accesses_of_element m k
between-next m k =
    let count : k + 1 - 0 ≡ k + 1 = omega arith in
    let less : k ≡ k - 0 = omega arith in
    let last : 0 + k ≡ k = omega arith in
    ap (λ n. flat_map (accesses_of_element m) (range_with_len 0 n)) count
    ∙ ap (flat_map (accesses_of_element m)) (range-next 0 k)
    ∙ flat_map-append (accesses_of_element m) (range_with_len 0 k) ((0 + k) ∷ [])
    ∙ ap (λ n. flat_map (accesses_of_element m) (range_with_len 0 k) ++ flat_map (accesses_of_element m) (n ∷ [])) last
    ∙ ap (λ xs. flat_map (accesses_of_element m) (range_with_len 0 k) ++ xs) (append-nil (accesses_of_element m k))
    ∙ ap (λ n. flat_map (accesses_of_element m) (range_with_len 0 n) ++ accesses_of_element m k) less

-- below vstart there is none
none-first : (a b c : Bool) → (a ≡ true → ⊥) → (a && b && c) ≡ false
none-first true b c h = absurd (h refl)
none-first false b c h = refl

before-start : (m : Movement) (i : ℕ) → i < m.at.vstart → accesses_of_element m i ≡ []
before-start m i h =
    let none : takes_part m i ≡ false =
    none-first (leb m.at.vstart i) (ltb i (movement_count m)) (m.i.vm || is_set (element m.at.vlen m.words 0 1 i)) (λ t. let low = leb-true m.at.vstart i t in absurd (omega arith)) in
    ap (λ b. if b then map (access_of m i) (range_with_len 0 (fields_of m)) else []) none

pub none-below : (m : Movement) (k : ℕ) → k ≤ m.at.vstart → accesses_between m 0 k ≡ []
none-below m zero h = refl
none-below m (suc k) h =
    let one : suc k ≡ k + 1 = omega arith in
    ap (accesses_between m 0) one ∙ between-next m k ∙ (λ j. none-below m k (omega arith) j ++ before-start m k (omega arith) j)

-- what is of the elements so far is of all, and so is what is of one
pub among-more : (m : Movement) (k n : ℕ) (a : Access) → Contains (accesses_between m 0 k) a → Contains (accesses_between m 0 (k + n)) a
among-more m k zero a c = let same : k ≡ k + 0 = omega arith in subst (λ j. Contains (accesses_between m 0 j) a) same c
among-more m k (suc n) a c =
    let same : k + n + 1 ≡ k + suc n = omega arith in
    let more = Contains-append_left (accesses_between m 0 (k + n)) (accesses_of_element m (k + n)) a (among-more m k n a c) in
    subst (λ j. Contains (accesses_between m 0 j) a) same (subst (λ xs. Contains xs a) (sym (between-next m (k + n))) more)

pub among-all : (m : Movement) (k : ℕ) (a : Access) → k < movement_count m → Contains (accesses_of_element m k) a → Contains (access_list m) a
among-all m k a l c =
    let there : k + 1 + (movement_count m - (k + 1)) ≡ movement_count m = omega arith in
    let one = Contains-append_right (accesses_between m 0 k) (accesses_of_element m k) a c in
    subst (λ j. Contains (accesses_between m 0 j) a) there (among-more m (k + 1) (movement_count m - (k + 1)) a (subst (λ xs. Contains xs a) (sym (between-next m k)) one))

-- ---- the first failure

pub free-append : (d : Direction) (memory : Memory) (xs ys : List Access) → first_failure d memory xs ≡ None → first_failure d memory (xs ++ ys) ≡ first_failure d memory ys
free-append d memory [] ys h = refl
free-append d memory (x ∷ xs) ys h = by_cause (failure_of d memory x) h (free-append d memory xs ys)
  where
    by_cause : (o : Option ℕ) → failure_or x o (first_failure d memory xs) ≡ None → (first_failure d memory xs ≡ None → first_failure d memory (xs ++ ys) ≡ first_failure d memory ys) → failure_or x o (first_failure d memory (xs ++ ys)) ≡ first_failure d memory ys
    by_cause None none rest = rest none
    by_cause (Some cause) none rest = absurd (none-some (record { access = x; cause = cause }) (sym none))

pub fails-append : (d : Direction) (memory : Memory) (xs ys : List Access) (f : Failure) → first_failure d memory xs ≡ Some f → first_failure d memory (xs ++ ys) ≡ Some f
fails-append d memory [] ys f h = absurd (none-some f h)
fails-append d memory (x ∷ xs) ys f h = by_cause (failure_of d memory x) h (fails-append d memory xs ys f)
  where
    by_cause : (o : Option ℕ) → failure_or x o (first_failure d memory xs) ≡ Some f → (first_failure d memory xs ≡ Some f → first_failure d memory (xs ++ ys) ≡ Some f) → failure_or x o (first_failure d memory (xs ++ ys)) ≡ Some f
    by_cause None some rest = rest some
    by_cause (Some cause) some rest = some

-- a failure of an element's accesses is one of the element
field-fails : (d : Direction) (memory : Memory) (m : Movement) (k : ℕ) (fields : List ℕ) (f : Failure) → first_failure d memory (map (access_of m k) fields) ≡ Some f → f.access.element ≡ k
field-fails d memory m k [] f h = absurd (none-some f h)
field-fails d memory m k (x ∷ xs) f h = by_cause (failure_of d memory (access_of m k x)) h (field-fails d memory m k xs f)
  where
    by_cause : (o : Option ℕ) → failure_or (access_of m k x) o (first_failure d memory (map (access_of m k) xs)) ≡ Some f → (first_failure d memory (map (access_of m k) xs) ≡ Some f → f.access.element ≡ k) → f.access.element ≡ k
    by_cause None e rest = rest e
    by_cause (Some cause) e rest = sym (ap (λ (o : Option Failure). elim o [ None ↦ k | Some g ↦ g.access.element ]) e)

pub element-fails : (d : Direction) (memory : Memory) (m : Movement) (k : ℕ) (f : Failure) → first_failure d memory (accesses_of_element m k) ≡ Some f → f.access.element ≡ k
element-fails d memory m k f h = by_part (takes_part m k) h
  where
    by_part : (b : Bool) → first_failure d memory (if b then map (access_of m k) (range_with_len 0 (fields_of m)) else []) ≡ Some f → f.access.element ≡ k
    by_part true e = field-fails d memory m k (range_with_len 0 (fields_of m)) f e
    by_part false e = absurd (none-some f e)

-- no failure of the first, and none of the rest
pub free-first : (d : Direction) (memory : Memory) (a : Access) (later : List Access) → first_failure d memory (a ∷ later) ≡ None → failure_of d memory a ≡ None
free-first d memory a later h = by_cause (failure_of d memory a) h
  where
    by_cause : (o : Option ℕ) → failure_or a o (first_failure d memory later) ≡ None → o ≡ None
    by_cause None e = refl
    by_cause (Some cause) e = absurd (none-some (record { access = a; cause = cause }) (sym e))

pub free-rest : (d : Direction) (memory : Memory) (a : Access) (later : List Access) → first_failure d memory (a ∷ later) ≡ None → first_failure d memory later ≡ None
free-rest d memory a later h = ap (λ (o : Option ℕ). failure_or a o (first_failure d memory later)) (sym (free-first d memory a later h)) ∙ h

-- what doesn't fail is aligned and permitted
pub aligned-permitted : (memory : Memory) (want : Want) (address width : ℕ) → cause_of memory want address width ≡ None → (address % width ≡ 0) × (permits memory address want ≡ true)
aligned-permitted memory want address width h = let r = by_tests (address % width == 0) (permits memory address want) h in (eqb-true (address % width) 0 r.0, r.1)
  where
    by_tests : (a b : Bool) → (if not a then Some (misaligned want) else if not b then Some (page_fault want) else None) ≡ None → (a ≡ true) × (b ≡ true)
    by_tests true true e = (refl, refl)
    by_tests true false e = absurd (none-some (page_fault want) (sym e))
    by_tests false b e = absurd (none-some (misaligned want) (sym e))

-- ---- stores leave what may be accessed

abbrev pub ArePermittedAlike : Memory → Memory → Type 0
ArePermittedAlike memory other = (address : ℕ) (want : Want) → permits memory address want ≡ permits other address want

abbrev grants_of : Want → Option MappedPage → Bool
grants_of want page = option_map_or (λ (page : MappedPage). grants page.permissions want) page false

either-grants : (want : Want) (b : Bool) (p q : MappedPage) (x y : Option MappedPage) → p.permissions ≡ q.permissions → grants_of want x ≡ grants_of want y → grants_of want (if b then Some p else x) ≡ grants_of want (if b then Some q else y)
either-grants want true p q x y e h = ap (λ n. grants n want) e
either-grants want false p q x y e h = h

abbrev byte_set : ℕ → ℕ → MappedPage → Bool → MappedPage
byte_set offset byte p b = if b then record p { bytes = slice_set p.bytes offset byte } else p

set-number : (offset byte : ℕ) (p : MappedPage) (b : Bool) → (byte_set offset byte p b).number ≡ p.number
set-number offset byte p true = refl
set-number offset byte p false = refl

set-permissions : (offset byte : ℕ) (p : MappedPage) (b : Bool) → (byte_set offset byte p b).permissions ≡ p.permissions
set-permissions offset byte p true = refl
set-permissions offset byte p false = refl

byte-grants : (number offset byte page : ℕ) (want : Want) (memory : Memory) → grants_of want (page_numbered page (map (with_byte number offset byte) memory)) ≡ grants_of want (page_numbered page memory)
byte-grants number offset byte page want [] = refl
byte-grants number offset byte page want (p ∷ memory) =
    let q : MappedPage = with_byte number offset byte p in
    let rest : Option MappedPage = page_numbered page (map (with_byte number offset byte) memory) in
    ap (λ (n : ℕ). grants_of want (if n == page then Some q else rest)) (set-number offset byte p (p.number == number))
    ∙ either-grants want (p.number == page) q p rest (page_numbered page memory) (set-permissions offset byte p (p.number == number)) (byte-grants number offset byte page want memory)

bytes-permit : (bytes : List ℕ) (memory : Memory) (address : ℕ) → ArePermittedAlike (put_bytes memory address bytes) memory
bytes-permit [] memory address at want = refl
bytes-permit (byte ∷ bytes) memory address at want =
    bytes-permit bytes (put_byte memory address byte) (next_address address) at want
    ∙ ap (λ (b : Bool). is_canonical at && b) (byte-grants (page_of address) (offset_of address) byte (page_of at) want memory)

pub stores-permit : (vlen : ℕ) (words : List ℕ) (accesses : List Access) (memory : Memory) → ArePermittedAlike (after_stores vlen words memory accesses) memory
stores-permit vlen words [] memory at want = refl
stores-permit vlen words (a ∷ later) memory at want =
    stores-permit vlen words later (put_number memory a.address a.width (value_stored vlen words a)) at want
    ∙ bytes-permit (little_endian a.width (value_stored vlen words a)) memory a.address at want

pub alike-failure : (d : Direction) (memory other : Memory) (accesses : List Access) → ArePermittedAlike memory other → first_failure d memory accesses ≡ first_failure d other accesses
alike-failure d memory other [] h = refl
alike-failure d memory other (a ∷ later) h =
    let cause : failure_of d memory a ≡ failure_of d other a = ap (λ (b : Bool). if not (a.address % a.width == 0) then Some (misaligned (want_of d)) else if not b then Some (page_fault (want_of d)) else None) (h a.address (want_of d)) in
    λ j. failure_or a (cause j) (alike-failure d memory other later h j)

-- ---- what accesses leave of a state

pub loads-done : (accesses : List Access) (s : Flat) → accesses_done Loading accesses s ≡ record s { v = after_loading s.memory s.v accesses }
loads-done [] s = refl
loads-done (a ∷ later) s = loads-done later (access_done Loading a s)

pub stores-done : (accesses : List Access) (s : Flat) → accesses_done Storing accesses s ≡ record s { memory = after_stores s.v.vlen s.v.words s.memory accesses }
stores-done [] s = refl
stores-done (a ∷ later) s = stores-done later (access_done Storing a s)

pub loading-append : (memory : Memory) (v : VectorState) (xs ys : List Access) → after_loading memory v (xs ++ ys) ≡ after_loading memory (after_loading memory v xs) ys
loading-append memory v xs ys = ap (λ (ws : List ℕ). record v { words = ws }) (fold-append (λ (ws : List ℕ) (a : Access). with_loaded v.vlen ws a (number_loaded memory a)) v.words xs ys)

pub stores-append : (vlen : ℕ) (words : List ℕ) (memory : Memory) (xs ys : List Access) → after_stores vlen words memory (xs ++ ys) ≡ after_stores vlen words (after_stores vlen words memory xs) ys
stores-append vlen words memory xs ys = fold-append (λ (m : Memory) (a : Access). put_number m a.address a.width (value_stored vlen words a)) memory xs ys

-- ---- where it stops

fails-on : (d : Direction) (memory : Memory) (m : Movement) (k n : ℕ) (f : Failure) → first_failure d memory (accesses_between m 0 k) ≡ Some f → first_failure d memory (accesses_between m 0 (k + n)) ≡ Some f
fails-on d memory m k zero f h = let same : k + 0 ≡ k = omega arith in ap (λ j. first_failure d memory (accesses_between m 0 j)) same ∙ h
fails-on d memory m k (suc n) f h =
    let same : k + suc n ≡ k + n + 1 = omega arith in
    ap (λ j. first_failure d memory (accesses_between m 0 j)) same
    ∙ ap (first_failure d memory) (between-next m (k + n))
    ∙ fails-append d memory (accesses_between m 0 (k + n)) (accesses_of_element m (k + n)) f (fails-on d memory m k n f h)

-- the first failure of an element below which there is none is the first of all
pub fails-all : (d : Direction) (memory : Memory) (m : Movement) (end k : ℕ) (f : Failure) → k < end → first_failure d memory (accesses_between m 0 k) ≡ None → first_failure d memory (accesses_of_element m k) ≡ Some f → first_failure d memory (accesses_between m 0 end) ≡ Some f
fails-all d memory m end k f l free h =
    let there : end ≡ k + 1 + (end - (k + 1)) = omega arith in
    let one : first_failure d memory (accesses_between m 0 (k + 1)) ≡ Some f =
    ap (first_failure d memory) (between-next m k) ∙ free-append d memory (accesses_between m 0 k) (accesses_of_element m k) free ∙ h in
    ap (λ j. first_failure d memory (accesses_between m 0 j)) there ∙ fails-on d memory m (k + 1) (end - (k + 1)) f one

-- the configuration stays
pub vlen-stays : (d : Direction) (accesses : List Access) (s : Flat) → (accesses_done d accesses s).v.vlen ≡ s.v.vlen
vlen-stays Loading accesses s = ap (λ (t : Flat). t.v.vlen) (loads-done accesses s)
vlen-stays Storing accesses s = ap (λ (t : Flat). t.v.vlen) (stores-done accesses s)

pub vl-stays : (d : Direction) (accesses : List Access) (s : Flat) → (accesses_done d accesses s).v.vl ≡ s.v.vl
vl-stays Loading accesses s = ap (λ (t : Flat). t.v.vl) (loads-done accesses s)
vl-stays Storing accesses s = ap (λ (t : Flat). t.v.vl) (stores-done accesses s)

pub access-width : (n : ℕ) → is_byte_width (8 * n) ≡ true → is_access_width n ≡ true
access-width n h = grind (arith, nat_tests, h)
