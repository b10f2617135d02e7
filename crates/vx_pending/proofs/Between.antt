-- The accesses of a store between elements, and those that are left where it goes on from an element.
use Rattle.std.proofs.Common.{◌≡◌, ℕ, zero, suc, ◌+◌, ◌-◌, ◌*◌, ◌/◌, ◌%◌, ◌^◌, ◌<◌, ◌≤◌, Bool, true, false, ◌&&◌, ◌||◌, leb, ltb, List, [], ◌∷◌, ◌++◌, map, if◌then◌else◌, refl, sym, ap, ◌∙◌, ⊎_elim, arith}
use Rattle.std.specs.List.{All, range_with_len, flat_map}
use Rattle.std.proofs.lemmas.Bool.{cases_lt, ltb-true, leb-true}
use Rattle.std.proofs.lemmas.Bool.Decides.{nat_tests}
use Rattle.std.proofs.lemmas.Grind.{flat_map-append}
use Rattle.std.proofs.lemmas.List.{append-nil}
use Rattle.std.proofs.lemmas.List.Elements.{All-nil, All-cons, All-append, All-map}
use Rattle.vx_decode.specs.Groups.{moved}
use Rattle.vx_decode.specs.declared.group.Group.{Group}
use Rattle.vx_decode.specs.declared.instr.Instr.{Instr}
use Rattle.vx_rows.specs.declared.row.Addressing.{Addressing}
use Rattle.vx_rows.specs.declared.row.Addressing.TheVariants.{Unit, FaultOnlyFirst, Whole, MaskBits, Strided, Unordered, Ordered}
use Rattle.vx_rows.specs.declared.row.Eew.{Eew}
use Rattle.vx_vstate.specs.Groups.{registers_of_group}
use Rattle.vx_vstate.specs.Registers.{element}
use Rattle.vx_vstate.specs.State.{SettingView}
use Rattle.vx_vector.specs.Accesses.{Access, Movement, moved_width, count_by, offset_by, access_of, fields_of, movement_count, takes_part, index_of, accesses_of_element, accesses_between, access_list}
use Rattle.vx_vector.specs.Numbers.{is_set}

-- ---- ranges

range_all : (P : ℕ → Type 0) (from n : ℕ) → ((x : ℕ) → from ≤ x → x < from + n → P x) → All P (range_with_len from n)
range_all P from zero h = All-nil P
range_all P from (suc n) h =
    All-cons P from (range_with_len (from + 1) n) (h from (omega arith) (omega arith)) (range_all P (from + 1) n (λ x low high. h x (omega arith) (omega arith)))

-- the numbers of a range are those of its first part and those of its rest
range_parts : (a n k : ℕ) → range_with_len a (n + k) ≡ range_with_len a n ++ range_with_len (a + n) k
range_parts a zero k =
    let from : a ≡ a + 0 = omega arith in
    let count : 0 + k ≡ k = omega arith in
    λ i. range_with_len (from i) (count i)
range_parts a (suc n) k =
    let one : suc n + k ≡ suc (n + k) = omega arith in
    let next : (a + 1) + n ≡ a + suc n = omega arith in
    ap (range_with_len a) one
    ∙ ap (λ xs. a ∷ xs) (range_parts (a + 1) n k ∙ ap (λ b. range_with_len (a + 1) n ++ range_with_len b k) next)

alike : {X : Type 0} (f g : ℕ → List X) (from n : ℕ) → ((x : ℕ) → from ≤ x → f x ≡ g x) → flat_map f (range_with_len from n) ≡ flat_map g (range_with_len from n)
alike f g from zero h = refl
alike f g from (suc n) h =
    let first : from ≤ from = omega arith in
    λ i. h from first i ++ alike f g (from + 1) n (λ x low. h x (omega arith)) i

none : {X : Type 0} (f : ℕ → List X) (from n : ℕ) → ((x : ℕ) → from ≤ x → x < from + n → f x ≡ []) → flat_map f (range_with_len from n) ≡ []
none f from zero h = refl
none f from (suc n) h =
    let first : from ≤ from = omega arith in
    let below : from < from + suc n = omega arith in
    λ i. h from first below i ++ none f (from + 1) n (λ x low high. h x (omega arith) (omega arith)) i

flat_all : {X : Type 0} (P : X → Type 0) (f : ℕ → List X) (from n : ℕ) → ((x : ℕ) → from ≤ x → x < from + n → All P (f x)) → All P (flat_map f (range_with_len from n))
flat_all P f from zero h = All-nil P
flat_all P f from (suc n) h =
    All-append P (f from) (flat_map f (range_with_len (from + 1) n)) (h from (omega arith) (omega arith)) (flat_all P f (from + 1) n (λ x low high. h x (omega arith) (omega arith)))

-- ---- the accesses between elements

pub in-parts : (m : Movement) (a b c : ℕ) → a ≤ b → b ≤ c → accesses_between m a c ≡ accesses_between m a b ++ accesses_between m b c
in-parts m a b c low high =
    let sum : c - a ≡ (b - a) + (c - b) = omega arith in
    let middle : a + (b - a) ≡ b = omega arith in
    ap (λ n. flat_map (accesses_of_element m) (range_with_len a n)) sum
    ∙ ap (flat_map (accesses_of_element m)) (range_parts a (b - a) (c - b) ∙ ap (λ x. range_with_len a (b - a) ++ range_with_len x (c - b)) middle)
    ∙ flat_map-append (accesses_of_element m) (range_with_len a (b - a)) (range_with_len b (c - b))

-- what is true of each access of each element that takes part is true of all
pub between_all : (P : Access → Type 0) (m : Movement) (a b : ℕ) → ((x f : ℕ) → a ≤ x → x < b → m.at.vstart ≤ x → x < movement_count m → P (access_of m x f)) → All P (accesses_between m a b)
between_all P m a b h = flat_all P (accesses_of_element m) a (b - a) (λ x low high. chosen x low high (takes_part m x) (λ t. t))
  where
    first-of : (p q r : Bool) → (p && q && r) ≡ true → (p ≡ true) × (q ≡ true)
    first-of true true r e = (refl, refl)
    first-of true false r e = (refl, e)
    first-of false true r e = (e, refl)
    first-of false false r e = (e, e)

    chosen : (x : ℕ) → a ≤ x → x < a + (b - a) → (t : Bool) → (t ≡ true → takes_part m x ≡ true) → All P (if t then map (access_of m x) (range_with_len 0 (fields_of m)) else [])
    chosen x low high true g =
        let both = first-of (leb m.at.vstart x) (ltb x (movement_count m)) (m.i.vm || is_set (element m.at.vlen m.words 0 1 x)) (g refl) in
        All-map P (access_of m x) (range_with_len 0 (fields_of m)) (range_all (λ f. P (access_of m x f)) 0 (fields_of m) (λ f first last. h x f low (omega arith) (leb-true m.at.vstart x both.0) (ltb-true x (movement_count m) both.1)))
    chosen x low high false g = All-nil P

-- ---- where an instruction goes on

-- the movement from element k on
abbrev pub movement_from : Movement → (k : ℕ) → Movement
movement_from m k = record m { at = record m.at { vstart = k } }

pub moved_alike : (a : Addressing) (e : Eew) (i : Instr) (at : SettingView) (k : ℕ) → moved a e i (record at { vstart = k }) ≡ moved a e i at
moved_alike Unit e i at k = refl
moved_alike FaultOnlyFirst e i at k = refl
moved_alike Whole e i at k = refl
moved_alike MaskBits e i at k = refl
moved_alike Strided e i at k = refl
moved_alike Unordered e i at k = refl
moved_alike Ordered e i at k = refl

first_false : (q r : Bool) → (false && q && r) ≡ false
first_false true r = refl
first_false false r = refl

second_false : (p r : Bool) → (p && false && r) ≡ false
second_false true r = refl
second_false false r = refl

module _ (m : Movement) where
  -- the count, of what is moved
  abbrev count_in : Group → ℕ
  count_in g = count_by m.addressing m.at.vl m.at.vlen (registers_of_group g.emul_eighths) (moved_width m.addressing g.eew)

  -- the access of a field, of what is moved
  abbrev access_in : Group → (x f : ℕ) → Access
  access_in g x f = record {
    element = x;
    field = f;
    address = (m.base + offset_by m.addressing x (g.fields * (moved_width m.addressing g.eew / 8)) m.stride (index_of m x) + f * (moved_width m.addressing g.eew / 8)) % 2 ^ 64;
    width = moved_width m.addressing g.eew / 8;
    register = m.i.rd + f * registers_of_group g.emul_eighths;
    byte = x * (moved_width m.addressing g.eew / 8);
  }

  abbrev listed : Group → (takes : Bool) → (x : ℕ) → List Access
  listed g takes x = if takes then map (access_in g x) (range_with_len 0 g.fields) else []

  abbrev what : Group
  what = moved m.addressing m.encoded m.i m.at

  abbrev masked : ℕ → Bool
  masked x = m.i.vm || is_set (element m.at.vlen m.words 0 1 x)

  pub count_alike : (k : ℕ) → movement_count (movement_from m k) ≡ movement_count m
  count_alike k = ap count_in (moved_alike m.addressing m.encoded m.i m.at k)

  -- an element, by what the movement moves
  by-group : (k x : ℕ) → accesses_of_element (movement_from m k) x ≡ listed what (leb k x && ltb x (movement_count m) && masked x) x
  by-group k x = ap (λ g. listed g (leb k x && ltb x (count_in g) && masked x) x) (moved_alike m.addressing m.encoded m.i m.at k)

  one-alike : (k x : ℕ) → m.at.vstart ≤ k → k ≤ x → accesses_of_element (movement_from m k) x ≡ accesses_of_element m x
  one-alike k x start low =
      let late : leb k x ≡ leb m.at.vstart x = grind (arith, nat_tests) in
      by-group k x ∙ ap (λ b. listed what (b && ltb x (movement_count m) && masked x) x) late

  none-below : (k x : ℕ) → x < k → accesses_of_element (movement_from m k) x ≡ []
  none-below k x l =
      let late : leb k x ≡ false = grind (arith, nat_tests) in
      by-group k x
      ∙ ap (λ b. listed what (b && ltb x (movement_count m) && masked x) x) late
      ∙ ap (λ b. listed what b x) (first_false (ltb x (movement_count m)) (masked x))

  -- behind the last, no element takes part
  none-behind : (x : ℕ) → movement_count m ≤ x → accesses_of_element m x ≡ []
  none-behind x l =
      let past : ltb x (movement_count m) ≡ false = grind (arith, nat_tests) in
      ap (λ b. listed what (leb m.at.vstart x && b && masked x) x) past
      ∙ ap (λ b. listed what b x) (second_false (leb m.at.vstart x) (masked x))

  pub all-in-parts : (k : ℕ) → access_list m ≡ accesses_between m 0 k ++ accesses_between m k (movement_count m)
  all-in-parts k = ⊎_elim (λ l. in-parts m 0 k (movement_count m) (omega arith) (omega arith)) beyond (cases_lt k (movement_count m))
    where
      beyond : movement_count m ≤ k → access_list m ≡ accesses_between m 0 k ++ accesses_between m k (movement_count m)
      beyond l =
          let behind : accesses_between m (movement_count m) k ≡ [] = none (accesses_of_element m) (movement_count m) (k - movement_count m) (λ x low high. none-behind x low) in
          let nothing : movement_count m - k ≡ 0 = omega arith in
          sym
          ((λ j. accesses_between m 0 k ++ flat_map (accesses_of_element m) (range_with_len k (nothing j)))
          ∙ append-nil (accesses_between m 0 k)
          ∙ in-parts m 0 (movement_count m) k (omega arith) l
          ∙ ap (λ xs. access_list m ++ xs) behind
          ∙ append-nil (access_list m))

  goes-on : (k : ℕ) → m.at.vstart ≤ k → (n : ℕ) → accesses_between (movement_from m k) 0 n ≡ accesses_between m k n
  goes-on k start n = ⊎_elim early late (cases_lt n k)
    where
      early : n < k → accesses_between (movement_from m k) 0 n ≡ accesses_between m k n
      early l =
          let nothing : n - k ≡ 0 = omega arith in
          none (accesses_of_element (movement_from m k)) 0 (n - 0) (λ x low high. none-below k x (omega arith))
          ∙ sym (ap (λ c. flat_map (accesses_of_element m) (range_with_len k c)) nothing)

      late : k ≤ n → accesses_between (movement_from m k) 0 n ≡ accesses_between m k n
      late l =
          in-parts (movement_from m k) 0 k n (omega arith) l
          ∙ (λ j. none (accesses_of_element (movement_from m k)) 0 (k - 0) (λ x low high. none-below k x (omega arith)) j ++ alike (accesses_of_element (movement_from m k)) (accesses_of_element m) k (n - k) (λ x low. one-alike k x start low) j)

  -- all accesses of the rest of the instruction are those from element k on
  pub rest-is : (k : ℕ) → m.at.vstart ≤ k → access_list (movement_from m k) ≡ accesses_between m k (movement_count m)
  rest-is k start = ap (λ n. accesses_between (movement_from m k) 0 n) (count_alike k) ∙ goes-on k start (movement_count m)
