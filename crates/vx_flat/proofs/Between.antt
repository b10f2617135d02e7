-- The accesses from an element on, where an instruction goes on from there.
use Rattle.std.proofs.Common.{◌≡◌, ◌⊎◌, ℕ, zero, suc, ◌+◌, ◌-◌, ◌*◌, ◌/◌, ◌%◌, ◌^◌, ◌<◌, ◌≤◌, Bool, true, false, ◌&&◌, ◌||◌, leb, ltb, List, [], ◌∷◌, ◌++◌, map, if◌then◌else◌, refl, sym, ap, ◌∙◌, ⊎_elim, arith}
use Rattle.std.specs.List.{All, range_with_len, flat_map}
use Rattle.std.proofs.lemmas.Bool.{cases_lt, ltb-true}
use Rattle.std.proofs.lemmas.Bool.Decides.{nat_tests}
use Rattle.std.proofs.lemmas.Grind.{flat_map-append}
use Rattle.std.proofs.lemmas.List.{append-nil}
use Rattle.std.proofs.lemmas.List.Elements.{All-nil, All-cons, All-append, All-map}
use Rattle.vx_decode.specs.Groups.{moved}
use Rattle.vx_decode.specs.declared.group.Group.{Group}
use Rattle.vx_decode.specs.declared.instr.Instr.{Instr}
use Rattle.vx_rows.specs.declared.row.Addressing.{Addressing}
use Rattle.vx_rows.specs.declared.row.Addressing.TheVariants.{Unit, FaultOnlyFirst, Whole, MaskBits, Strided, Unordered, Ordered}
use Rattle.vx_rows.specs.declared.row.Eew.{Eew}
use Rattle.vx_vstate.specs.Groups.{registers_of_group}
use Rattle.vx_vstate.specs.Registers.{element}
use Rattle.vx_vstate.specs.State.{SettingView}
use Rattle.vx_vector.specs.Accesses.{Access, Movement, moved_width, count_by, offset_by, access_of, fields_of, movement_count, takes_part, index_of, accesses_of_element, accesses_between, access_list}
use Rattle.vx_vector.specs.Batches.{has_indices}
use Rattle.vx_vector.specs.Numbers.{is_set}

-- ---- ranges

range_all : (P : ℕ → Type 0) (from n : ℕ) → ((x : ℕ) → from ≤ x → x < from + n → P x) → All P (range_with_len from n)
range_all P from zero h = All-nil P
range_all P from (suc n) h =
    All-cons P from (range_with_len (from + 1) n) (h from (omega arith) (omega arith)) (range_all P (from + 1) n (λ x low high. h x (omega arith) (omega arith)))

-- the numbers of a range are those of its first part and those of its rest
range_parts : (a n k : ℕ) → range_with_len a (n + k) ≡ range_with_len a n ++ range_with_len (a + n) k
range_parts a zero k =
    let from : a ≡ a + 0 = omega arith in
    let count : 0 + k ≡ k = omega arith in
    λ i. range_with_len (from i) (count i)
range_parts a (suc n) k =
    let one : suc n + k ≡ suc (n + k) = omega arith in
    let next : (a + 1) + n ≡ a + suc n = omega arith in
    ap (range_with_len a) one
    ∙ ap (λ xs. a ∷ xs) (range_parts (a + 1) n k ∙ ap (λ b. range_with_len (a + 1) n ++ range_with_len b k) next)

alike : {X : Type 0} (f g : ℕ → List X) (from n : ℕ) → ((x : ℕ) → from ≤ x → f x ≡ g x) → flat_map f (range_with_len from n) ≡ flat_map g (range_with_len from n)
alike f g from zero h = refl
alike f g from (suc n) h =
    let first : from ≤ from = omega arith in
    λ i. h from first i ++ alike f g (from + 1) n (λ x low. h x (omega arith)) i

none : {X : Type 0} (f : ℕ → List X) (from n : ℕ) → ((x : ℕ) → from ≤ x → x < from + n → f x ≡ []) → flat_map f (range_with_len from n) ≡ []
none f from zero h = refl
none f from (suc n) h =
    let first : from ≤ from = omega arith in
    let below : from < from + suc n = omega arith in
    λ i. h from first below i ++ none f (from + 1) n (λ x low high. h x (omega arith) (omega arith)) i

flat_all : {X : Type 0} (P : X → Type 0) (f : ℕ → List X) (from n : ℕ) → ((x : ℕ) → from ≤ x → x < from + n → All P (f x)) → All P (flat_map f (range_with_len from n))
flat_all P f from zero h = All-nil P
flat_all P f from (suc n) h =
    All-append P (f from) (flat_map f (range_with_len (from + 1) n)) (h from (omega arith) (omega arith)) (flat_all P f (from + 1) n (λ x low high. h x (omega arith) (omega arith)))

-- ---- the accesses between elements

pub in-parts : (m : Movement) (a b c : ℕ) → a ≤ b → b ≤ c → accesses_between m a c ≡ accesses_between m a b ++ accesses_between m b c
in-parts m a b c low high =
    let sum : c - a ≡ (b - a) + (c - b) = omega arith in
    let middle : a + (b - a) ≡ b = omega arith in
    ap (λ n. flat_map (accesses_of_element m) (range_with_len a n)) sum
    ∙ ap (flat_map (accesses_of_element m)) (range_parts a (b - a) (c - b) ∙ ap (λ x. range_with_len a (b - a) ++ range_with_len x (c - b)) middle)
    ∙ flat_map-append (accesses_of_element m) (range_with_len a (b - a)) (range_with_len b (c - b))

-- what is true of each access of each element that takes part is true of all
pub between_all : (P : Access → Type 0) (m : Movement) (a b : ℕ) → ((x f : ℕ) → a ≤ x → x < b → x < movement_count m → f < fields_of m → P (access_of m x f)) → All P (accesses_between m a b)
between_all P m a b h = flat_all P (accesses_of_element m) a (b - a) (λ x low high. by_test x (cases_lt x (movement_count m)) low high)
  where
    fields : (x : ℕ) → a ≤ x → x < b → x < movement_count m → All P (map (access_of m x) (range_with_len 0 (fields_of m)))
    fields x low high inside = All-map P (access_of m x) (range_with_len 0 (fields_of m)) (range_all (λ f. P (access_of m x f)) 0 (fields_of m) (λ f first last. h x f low high inside (omega arith)))

    chosen : (x : ℕ) (t : Bool) → (t ≡ true → All P (map (access_of m x) (range_with_len 0 (fields_of m)))) → All P (if t then map (access_of m x) (range_with_len 0 (fields_of m)) else [])
    chosen x true g = g refl
    chosen x false g = All-nil P

    inside-of : (p q r : Bool) → (p && q && r) ≡ true → q ≡ true
    inside-of p true r e = refl
    inside-of true false r e = e
    inside-of false false r e = e

    by_test : (x : ℕ) → (x < movement_count m) ⊎ (movement_count m ≤ x) → a ≤ x → x < a + (b - a) → All P (accesses_of_element m x)
    by_test x c low high = chosen x (takes_part m x) (λ t. fields x low (omega arith) (ltb-true x (movement_count m) (inside-of (leb m.at.vstart x) (ltb x (movement_count m)) (m.i.vm || is_set (element m.at.vlen m.words 0 1 x)) t)))

-- ---- where an instruction goes on

-- the movement from element k on, with other words
abbrev pub movement_from : Movement → (k : ℕ) → (others : List ℕ) → Movement
movement_from m k others = record m { at = record m.at { vstart = k }; words = others }

-- the words hold what is read of the elements from k on: their bits of the mask, and their indices
pub record IsReadAlike (m : Movement) (k : ℕ) (others : List ℕ) : Type 0 where
  pub mask : m.i.vm ≡ false → (x : ℕ) → k ≤ x → x < movement_count m → element m.at.vlen others 0 1 x ≡ element m.at.vlen m.words 0 1 x
  pub index : has_indices m.addressing ≡ true → (x : ℕ) → k ≤ x → x < movement_count m → index_of (movement_from m k others) x ≡ index_of m x

pub moved_alike : (a : Addressing) (e : Eew) (i : Instr) (at : SettingView) (k : ℕ) → moved a e i (record at { vstart = k }) ≡ moved a e i at
moved_alike Unit e i at k = refl
moved_alike FaultOnlyFirst e i at k = refl
moved_alike Whole e i at k = refl
moved_alike MaskBits e i at k = refl
moved_alike Strided e i at k = refl
moved_alike Unordered e i at k = refl
moved_alike Ordered e i at k = refl

offset_alike : (a : Addressing) (i bytes stride x y : ℕ) → (has_indices a ≡ true → x ≡ y) → offset_by a i bytes stride x ≡ offset_by a i bytes stride y
offset_alike Unit i bytes stride x y h = refl
offset_alike FaultOnlyFirst i bytes stride x y h = refl
offset_alike Whole i bytes stride x y h = refl
offset_alike MaskBits i bytes stride x y h = refl
offset_alike Strided i bytes stride x y h = refl
offset_alike Unordered i bytes stride x y h = h refl
offset_alike Ordered i bytes stride x y h = h refl

masked_alike : (vm x y : Bool) → (vm ≡ false → x ≡ y) → (vm || x) ≡ (vm || y)
masked_alike true x y h = refl
masked_alike false x y h = h refl

-- a test of three
third : (p q x y : Bool) → (q ≡ true → x ≡ y) → (p && q && x) ≡ (p && q && y)
third true true x y h = h refl
third true false x y h = refl
third false true x y h = refl
third false false x y h = refl

first_false : (q r : Bool) → (false && q && r) ≡ false
first_false true r = refl
first_false false r = refl

second_false : (p r : Bool) → (p && false && r) ≡ false
second_false true r = refl
second_false false r = refl

module _ (m : Movement) where
  -- the count, of what is moved
  abbrev count_in : Group → ℕ
  count_in g = count_by m.addressing m.at.vl m.at.vlen (registers_of_group g.emul_eighths) (moved_width m.addressing g.eew)

  -- the access of a field, of what is moved and the offset
  abbrev access_in : Group → (offset x f : ℕ) → Access
  access_in g offset x f = record {
    element = x;
    field = f;
    address = (m.base + offset + f * (moved_width m.addressing g.eew / 8)) % 2 ^ 64;
    width = moved_width m.addressing g.eew / 8;
    register = m.i.rd + f * registers_of_group g.emul_eighths;
    byte = x * (moved_width m.addressing g.eew / 8);
  }

  abbrev listed : Group → (takes : Bool) → (offset x : ℕ) → List Access
  listed g takes offset x = if takes then map (access_in g offset x) (range_with_len 0 g.fields) else []

  abbrev offset_in : Group → (index x : ℕ) → ℕ
  offset_in g index x = offset_by m.addressing x (g.fields * (moved_width m.addressing g.eew / 8)) m.stride index

  abbrev what : Group
  what = moved m.addressing m.encoded m.i m.at

module _ (m : Movement) (k : ℕ) (others : List ℕ) where
  abbrev from : Movement
  from = movement_from m k others

  same : what from ≡ what m
  same = moved_alike m.addressing m.encoded m.i m.at k

  pub count_alike : movement_count from ≡ movement_count m
  count_alike = ap (count_in m) same

  -- an element, by what the movement moves
  by-group : (x : ℕ) → accesses_of_element from x ≡ listed m (what m) (leb k x && ltb x (movement_count m) && (m.i.vm || is_set (element m.at.vlen others 0 1 x))) (offset_in m (what m) (index_of from x) x) x
  by-group x = ap (λ g. listed m g (leb k x && ltb x (count_in m g) && (m.i.vm || is_set (element m.at.vlen others 0 1 x))) (offset_in m g (index_of from x) x) x) same

  none-below : (x : ℕ) → x < k → accesses_of_element from x ≡ []
  none-below x l =
      let late : leb k x ≡ false = grind (arith, nat_tests) in
      by-group x
      ∙ ap (λ b. listed m (what m) (b && ltb x (movement_count m) && (m.i.vm || is_set (element m.at.vlen others 0 1 x))) (offset_in m (what m) (index_of from x) x) x) late
      ∙ ap (λ b. listed m (what m) b (offset_in m (what m) (index_of from x) x) x) (first_false (ltb x (movement_count m)) (m.i.vm || is_set (element m.at.vlen others 0 1 x)))

  -- behind the last, no element takes part
  none-behind : (x : ℕ) → movement_count m ≤ x → accesses_of_element from x ≡ []
  none-behind x l =
      let past : ltb x (movement_count m) ≡ false = grind (arith, nat_tests) in
      by-group x
      ∙ ap (λ b. listed m (what m) (leb k x && b && (m.i.vm || is_set (element m.at.vlen others 0 1 x))) (offset_in m (what m) (index_of from x) x) x) past
      ∙ ap (λ b. listed m (what m) b (offset_in m (what m) (index_of from x) x) x) (second_false (leb k x) (m.i.vm || is_set (element m.at.vlen others 0 1 x)))

  one-alike : m.at.vstart ≤ k → IsReadAlike m k others → (x : ℕ) → k ≤ x → x < movement_count m → accesses_of_element from x ≡ accesses_of_element m x
  one-alike start h x low inside =
      let late : leb k x ≡ leb m.at.vstart x = grind (arith, nat_tests) in
      let bit = masked_alike m.i.vm (is_set (element m.at.vlen others 0 1 x)) (is_set (element m.at.vlen m.words 0 1 x)) (λ e. ap is_set (h.mask e x low inside)) in
      let offset = offset_alike m.addressing x ((what m).fields * (moved_width m.addressing (what m).eew / 8)) m.stride (index_of from x) (index_of m x) (λ e. h.index e x low inside) in
      by-group x ∙ (λ j. listed m (what m) (late j && ltb x (movement_count m) && bit j) (offset j) x)

-- no element behind the last has accesses
pub none-behind-last : (m : Movement) (x : ℕ) → movement_count m ≤ x → accesses_of_element m x ≡ []
none-behind-last m x l = none-behind m m.at.vstart m.words x l

pub all-in-parts : (m : Movement) (k : ℕ) → access_list m ≡ accesses_between m 0 k ++ accesses_between m k (movement_count m)
all-in-parts m k = ⊎_elim (λ l. in-parts m 0 k (movement_count m) (omega arith) (omega arith)) beyond (cases_lt k (movement_count m))
  where
    beyond : movement_count m ≤ k → access_list m ≡ accesses_between m 0 k ++ accesses_between m k (movement_count m)
    beyond l =
        let behind : accesses_between m (movement_count m) k ≡ [] = none (accesses_of_element m) (movement_count m) (k - movement_count m) (λ x low high. none-behind-last m x low) in
        let nothing : movement_count m - k ≡ 0 = omega arith in
        sym
        ((λ j. accesses_between m 0 k ++ flat_map (accesses_of_element m) (range_with_len k (nothing j)))
        ∙ append-nil (accesses_between m 0 k)
        ∙ in-parts m 0 (movement_count m) k (omega arith) l
        ∙ ap (λ xs. access_list m ++ xs) behind
        ∙ append-nil (access_list m))

-- the accesses up to an element, where the instruction goes on from k
pub goes-on : (m : Movement) (k : ℕ) (others : List ℕ) → m.at.vstart ≤ k → IsReadAlike m k others → (n : ℕ) → accesses_between (movement_from m k others) 0 n ≡ accesses_between m k n
goes-on m k others start h n = ⊎_elim early late (cases_lt n k)
  where
    early : n < k → accesses_between (movement_from m k others) 0 n ≡ accesses_between m k n
    early l =
        let nothing : n - k ≡ 0 = omega arith in
        none (accesses_of_element (movement_from m k others)) 0 (n - 0) (λ x low high. none-below m k others x (omega arith))
        ∙ sym (ap (λ c. flat_map (accesses_of_element m) (range_with_len k c)) nothing)

    each : (x : ℕ) → k ≤ x → accesses_of_element (movement_from m k others) x ≡ accesses_of_element m x
    each x low =
        ⊎_elim (one-alike m k others start h x low) (λ past. none-behind m k others x past ∙ sym (none-behind-last m x past)) (cases_lt x (movement_count m))

    late : k ≤ n → accesses_between (movement_from m k others) 0 n ≡ accesses_between m k n
    late l =
        in-parts (movement_from m k others) 0 k n (omega arith) l
        ∙ (λ j. none (accesses_of_element (movement_from m k others)) 0 (k - 0) (λ x low high. none-below m k others x (omega arith)) j ++ alike (accesses_of_element (movement_from m k others)) (accesses_of_element m) k (n - k) each j)
