-- The addresses of an element's accesses.
use Rattle.std.proofs.Common.{◌≡◌, ℕ, zero, suc, ◌+◌, ◌-◌, ◌*◌, ◌%◌, ◌^◌, ◌<◌, ◌≤◌, Bool, true, false, if◌then◌else◌, List, [], ◌∷◌, ◌++◌, map, length, length-append, refl, sym, ap, ◌∙◌, subst, arith}
use Rattle.std.specs.List.{range_with_len, flat_map}
use Rattle.std.proofs.lemmas.List.{append-nil, map-append}
use Rattle.std.proofs.Math.Nat.{add-mod-mod, mod-add-mod}
use Rattle.std.proofs.lemmas.Bool.{true≢false, false≢true}
use Rattle.vx_rows.specs.declared.row.Addressing.{Addressing}
use Rattle.vx_rows.specs.declared.row.Addressing.TheVariants.{Unit, FaultOnlyFirst, Whole, MaskBits, Strided, Unordered, Ordered}
use Rattle.vx_rows.specs.declared.row.Eew.{Eew}
use Rattle.vx_rows.specs.declared.row.Eew.TheVariants.{E8, E16, E32, E64}
use Rattle.vx_decode.specs.Groups.{bits_of_eew}
use Rattle.vx_vstate.specs.Registers.{is_byte_width}
use Rattle.vx_vector.specs.Accesses.{Movement, offset_by, access_bytes, fields_of, registers_of_field, index_of, address_of, access_of, takes_part, accesses_of_element, accesses_between}
use Rattle.vx_vaddr.specs.Items.{access_of_item, accesses_of_items}
use Rattle.vx_vaddr.specs.declared.item.Item.{Item}
use Rattle.vx_vector.specs.Batches.{has_indices}
use Rattle.vx_vaddr.specs.Patterns.{step_by, index_width_by}

-- a row without indices goes by its step
pub by-step : (a : Addressing) (i bytes stride index : ℕ) → has_indices a ≡ false → i * step_by a bytes stride ≡ offset_by a i bytes stride index
by-step Unit i bytes stride index h = refl
by-step FaultOnlyFirst i bytes stride index h = refl
by-step Whole i bytes stride index h = refl
by-step MaskBits i bytes stride index h = refl
by-step Strided i bytes stride index h = refl
by-step Unordered i bytes stride index h = absurd (true≢false h)
by-step Ordered i bytes stride index h = absurd (true≢false h)

pub by-index : (a : Addressing) (i bytes stride index : ℕ) → has_indices a ≡ true → index ≡ offset_by a i bytes stride index
by-index Unit i bytes stride index h = absurd (false≢true h)
by-index FaultOnlyFirst i bytes stride index h = absurd (false≢true h)
by-index Whole i bytes stride index h = absurd (false≢true h)
by-index MaskBits i bytes stride index h = absurd (false≢true h)
by-index Strided i bytes stride index h = absurd (false≢true h)
by-index Unordered i bytes stride index h = refl
by-index Ordered i bytes stride index h = refl

-- a width that isn't 0 is that of indices, and 0 is none
pub no-indices : (a : Addressing) (width : ℕ) → 8 ≤ width → index_width_by a width ≡ 0 → has_indices a ≡ false
no-indices a width some h = by_test (has_indices a) h
  where
    by_test : (b : Bool) → (if b then width else 0) ≡ 0 → b ≡ false
    by_test true h = absurd (omega arith)
    by_test false h = refl

pub some-indices : (a : Addressing) (width n : ℕ) → n ≡ index_width_by a width → 0 < n → (has_indices a ≡ true) × (n ≡ width)
some-indices a width n e l = by_test (has_indices a) e
  where
    by_test : (b : Bool) → n ≡ (if b then width else 0) → (b ≡ true) × (n ≡ width)
    by_test true h = (refl, h)
    by_test false h = absurd (omega arith)

-- ---- widths of indices

pub eew-bytes : (e : Eew) → is_byte_width (bits_of_eew e) ≡ true
eew-bytes E8 = refl
eew-bytes other = refl

pub eew-least : (e : Eew) → 8 ≤ bits_of_eew e
eew-least E8 = omega arith
eew-least E16 = omega arith
eew-least E32 = omega arith
eew-least E64 = omega arith

-- ---- items

pub item-is : (m : Movement) (i f first bytes registers : ℕ) → bytes ≡ access_bytes m → registers ≡ registers_of_field m → first ≡ address_of m i 0 → record { element = i; field = f; address = (first + f * bytes) % 2 ^ 64; width = bytes; register = m.i.rd + f * registers; byte = i * bytes } ≡ access_of m i f
item-is m i f first bytes registers b r a = λ j. record {
  element = i;
  field = f;
  address = address j;
  width = b j;
  register = m.i.rd + f * r j;
  byte = i * b j;
}
  where
    start : ℕ
    start = m.base + offset_by m.addressing i (fields_of m * access_bytes m) m.stride (index_of m i)

    none : start + 0 * access_bytes m ≡ start
    none = omega arith

    address : (first + f * bytes) % 2 ^ 64 ≡ (start + f * access_bytes m) % 2 ^ 64
    address =
        (λ j. (a j + f * b j) % 2 ^ 64)
        ∙ ap (λ n. (n % 2 ^ 64 + f * access_bytes m) % 2 ^ 64) none
        ∙ mod-add-mod start (2 ^ 64) (f * access_bytes m)

-- where an element's first field lies
pub first-is : (m : Movement) (i offset : ℕ) → offset ≡ offset_by m.addressing i (fields_of m * access_bytes m) m.stride (index_of m i) % 2 ^ 64 → (m.base + offset) % 2 ^ 64 ≡ address_of m i 0
first-is m i offset e =
    let whole = offset_by m.addressing i (fields_of m * access_bytes m) m.stride (index_of m i) in
    let none : m.base + whole ≡ m.base + whole + 0 * access_bytes m = omega arith in
    ap (λ n. (m.base + n) % 2 ^ 64) e ∙ add-mod-mod m.base whole (2 ^ 64) ∙ ap (λ n. n % 2 ^ 64) none

-- the accesses of the first n fields
pub record IsFilled (m : Movement) (i n : ℕ) (items : List Item) : Type 0 where
  pub same : accesses_of_items items ≡ map (access_of m i) (range_with_len 0 n)
  pub count : length items ≡ n

pub filled-none : (m : Movement) (i : ℕ) (items : List Item) → items ≡ [] → IsFilled m i 0 items
filled-none m i items e = subst (IsFilled m i 0) (sym e) (record { same = refl; count = refl })

range-pushed : (a n : ℕ) → range_with_len a (n + 1) ≡ range_with_len a n ++ (a + n) ∷ []
range-pushed a zero = let first : a ≡ a + 0 = omega arith in ap (λ b. b ∷ []) first
range-pushed a (suc n) =
    let more : suc n + 1 ≡ suc (n + 1) = omega arith in
    let last : (a + 1) + n ≡ a + suc n = omega arith in
    ap (range_with_len a) more ∙ ap (λ xs. a ∷ xs) (range-pushed (a + 1) n ∙ ap (λ b. range_with_len (a + 1) n ++ b ∷ []) last)

from_zero : (n : ℕ) → n ≡ 0 + n
from_zero n = omega arith

pub filled-more : (m : Movement) (i n : ℕ) (items all : List Item) (item : Item) → all ≡ items ++ item ∷ [] → access_of_item item ≡ access_of m i n → IsFilled m i n items → IsFilled m i (n + 1) all
filled-more m i n items all item e is h = subst (IsFilled m i (n + 1)) (sym e) (record {
  same =
      map-append access_of_item items (item ∷ [])
      ∙ (λ j. h.same j ++ is j ∷ [])
      ∙ sym (map-append (access_of m i) (range_with_len 0 n) (n ∷ []))
      ∙ ap (λ k. map (access_of m i) (range_with_len 0 n ++ k ∷ [])) (from_zero n)
      ∙ ap (map (access_of m i)) (sym (range-pushed 0 n));
  count = length-append items (item ∷ []) ∙ ap (λ k. k + 1) h.count;
})

-- an element that takes part has all its fields
pub filled-all : (m : Movement) (i n : ℕ) (items : List Item) → n ≡ fields_of m → takes_part m i ≡ true → IsFilled m i n items → accesses_of_items items ≡ accesses_of_element m i
filled-all m i n items e t h =
    h.same
    ∙ ap (λ k. map (access_of m i) (range_with_len 0 k)) e
    ∙ ap (λ b. if b then map (access_of m i) (range_with_len 0 (fields_of m)) else []) (sym t)

pub none-taken : (m : Movement) (i : ℕ) (items : List Item) → items ≡ [] → takes_part m i ≡ false → accesses_of_items items ≡ accesses_of_element m i
none-taken m i items e t = ap accesses_of_items e ∙ ap (λ b. if b then map (access_of m i) (range_with_len 0 (fields_of m)) else []) (sym t)

-- ---- a batch of one element

pub one-element : (m : Movement) (from after : ℕ) → from < after → after ≤ from + 1 → accesses_of_element m from ≡ accesses_between m from after
one-element m from after low high =
    let one : after - from ≡ 1 = omega arith in
    sym (append-nil (accesses_of_element m from)) ∙ ap (λ n. flat_map (accesses_of_element m) (range_with_len from n)) (sym one)
