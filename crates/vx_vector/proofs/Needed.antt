-- What the accesses of a batch depend on.
use Rattle.std.proofs.Common.{◌≡◌, ◌⊎◌, ℕ, suc, ◌+◌, ◌-◌, ◌*◌, ◌/◌, ◌%◌, ◌^◌, ◌<◌, ◌≤◌, Bool, true, false, ◌&&◌, ◌||◌, List, [], ◌∷◌, ◌++◌, length, min, max, leb, ltb, map, if◌then◌else◌, refl, sym, ap, ◌∙◌, subst, inl, inr, ⊎_elim, arith}
use Rattle.std.specs.List.{Contains, range_with_len, flat_map}
use Rattle.std.proofs.lemmas.Bool.{cases_lt, lt-ltb}
use Rattle.std.proofs.lemmas.List.{length-map}
use Rattle.std.proofs.lemmas.List.Elements.{Contains-append_left, Contains-append_right}
use Rattle.vx_base.specs.Numbers.{field}
use Rattle.vx_decode.specs.Groups.{bits_of_eew}
use Rattle.vx_rows.specs.declared.row.Addressing.{Addressing}
use Rattle.vx_rows.specs.declared.row.Addressing.TheVariants.{Unit, FaultOnlyFirst, Whole, MaskBits, Strided, Unordered, Ordered}
use Rattle.vx_vstate.specs.Registers.{element, element_bit, element_word, place_of}
use Rattle.vx_vector.specs.Accesses.{Access, Movement, value_stored, offset_by, access_bytes, fields_of, registers_of_field, movement_count, takes_part, index_of, access_of, accesses_of_element}
use Rattle.vx_vector.specs.Batches.{Batch, accesses_in, longest_run, batch_at, accesses_of_batch, place_of_access, has_indices, index_words, mask_words, data_words, words_of_element, batch_words}
use Rattle.vx_vector.specs.Laws.{AreSameAt}
use Rattle.vx_vector.specs.Movements.{movement_others}
use Rattle.vx_vector.specs.Numbers.{is_set}
use Rattle.vx_vector.proofs.Batches.{IsLongest, longest-is, one-longest}
use Rattle.vx_vector.proofs.Members.{member_first, member_of_range, member_of_map, member_before_map, member_of_flat_map, member_before_flat_map, range_parts, flat_map_alike, flat_map_lengths}

-- ---- an element

same-left : (xs ys words others : List ℕ) → AreSameAt (xs ++ ys) words others → AreSameAt xs words others
same-left xs ys words others h place c = h place (Contains-append_left xs ys place c)

same-right : (xs ys words others : List ℕ) → AreSameAt (xs ++ ys) words others → AreSameAt ys words others
same-right xs ys words others h place c = h place (Contains-append_right xs ys place c)

masked-same : (vm x y : Bool) → (vm ≡ false → x ≡ y) → (vm || x) ≡ (vm || y)
masked-same true x y h = refl
masked-same false x y h = h refl

takes-same : (m : Movement) (others : List ℕ) (i : ℕ) → AreSameAt (mask_words m i) m.words others → takes_part m i ≡ takes_part (movement_others m others) i
takes-same m others i h =
    ap (λ b. leb m.at.vstart i && ltb i (movement_count m) && b)
    (masked-same m.i.vm (is_set (element m.at.vlen m.words 0 1 i)) (is_set (element m.at.vlen others 0 1 i)) bit)
  where
    place : ℕ
    place = place_of m.at.vlen 0 (element_word 1 i)

    bit : m.i.vm ≡ false → is_set (element m.at.vlen m.words 0 1 i) ≡ is_set (element m.at.vlen others 0 1 i)
    bit e = ap (λ w. is_set (field w (element_bit 1 i) 1)) (h place (subst (λ b. Contains (if b then [] else place ∷ []) place) (sym e) (member_first place [])))

offset-same : (a : Addressing) (i bytes stride x y : ℕ) → (has_indices a ≡ true → x ≡ y) → offset_by a i bytes stride x ≡ offset_by a i bytes stride y
offset-same Unit i bytes stride x y h = refl
offset-same FaultOnlyFirst i bytes stride x y h = refl
offset-same Whole i bytes stride x y h = refl
offset-same MaskBits i bytes stride x y h = refl
offset-same Strided i bytes stride x y h = refl
offset-same Unordered i bytes stride x y h = h refl
offset-same Ordered i bytes stride x y h = h refl

access-same : (m : Movement) (others : List ℕ) (i f : ℕ) → AreSameAt (index_words m i) m.words others → access_of m i f ≡ access_of (movement_others m others) i f
access-same m others i f h = λ j. record {
  element = i;
  field = f;
  address = (m.base + offset j + f * access_bytes m) % 2 ^ 64;
  width = access_bytes m;
  register = m.i.rd + f * registers_of_field m;
  byte = i * access_bytes m;
}
  where
    place : ℕ
    place = place_of m.at.vlen m.i.rs2 (element_word (bits_of_eew m.encoded) i)

    index : has_indices m.addressing ≡ true → index_of m i ≡ index_of (movement_others m others) i
    index e = ap (λ w. field w (element_bit (bits_of_eew m.encoded) i) (bits_of_eew m.encoded)) (h place (subst (λ b. Contains (if b then place ∷ [] else []) place) (sym e) (member_first place [])))

    offset : offset_by m.addressing i (fields_of m * access_bytes m) m.stride (index_of m i) ≡ offset_by m.addressing i (fields_of m * access_bytes m) m.stride (index_of (movement_others m others) i)
    offset = offset-same m.addressing i (fields_of m * access_bytes m) m.stride (index_of m i) (index_of (movement_others m others) i) index

element-same : (m : Movement) (others : List ℕ) (i : ℕ) → AreSameAt (index_words m i) m.words others → AreSameAt (mask_words m i) m.words others → accesses_of_element m i ≡ accesses_of_element (movement_others m others) i
element-same m others i h g =
    let takes = takes-same m others i g in
    λ j. if takes j then map (λ f. access-same m others i f h j) (range_with_len 0 (fields_of m)) else []

-- how many accesses an element has
length-same : (m : Movement) (others : List ℕ) (i : ℕ) → AreSameAt (mask_words m i) m.words others → length (accesses_of_element m i) ≡ length (accesses_of_element (movement_others m others) i)
length-same m others i g = ap (λ b. length (if b then map (access_of m i) (range_with_len 0 (fields_of m)) else [])) (takes-same m others i g) ∙ by_test (takes_part (movement_others m others) i)
  where
    by_test : (b : Bool) → length (if b then map (access_of m i) (range_with_len 0 (fields_of m)) else []) ≡ length (if b then map (access_of (movement_others m others) i) (range_with_len 0 (fields_of m)) else [])
    by_test true = length-map (range_with_len 0 (fields_of m)) (access_of m i) ∙ sym (length-map (range_with_len 0 (fields_of m)) (access_of (movement_others m others) i))
    by_test false = refl

-- ---- a batch

module _ (m : Movement) (others : List ℕ) (stores : Bool) (b : Batch) (h : AreSameAt (batch_words m stores b) m.words others) where
  abbrev elements : List ℕ
  elements = range_with_len b.from (b.after - b.from)

  abbrev behind : List ℕ
  behind = if ltb b.after (movement_count m) then mask_words m b.after else []

  same-element : (i : ℕ) → Contains elements i → AreSameAt (words_of_element m stores i) m.words others
  same-element i c place d =
      h place (Contains-append_left (flat_map (words_of_element m stores) elements) behind place (member_of_flat_map (words_of_element m stores) elements i place c d))

  same-index : (i : ℕ) → Contains elements i → AreSameAt (index_words m i) m.words others
  same-index i c = same-left (index_words m i) (mask_words m i) m.words others (same-left (index_words m i ++ mask_words m i) (data_words m stores i) m.words others (same-element i c))

  same-mask : (i : ℕ) → Contains elements i → AreSameAt (mask_words m i) m.words others
  same-mask i c = same-right (index_words m i) (mask_words m i) m.words others (same-left (index_words m i ++ mask_words m i) (data_words m stores i) m.words others (same-element i c))

  same-data : (i : ℕ) → Contains elements i → AreSameAt (data_words m stores i) m.words others
  same-data i c = same-right (index_words m i ++ mask_words m i) (data_words m stores i) m.words others (same-element i c)

  same-behind : b.after < movement_count m → AreSameAt (mask_words m b.after) m.words others
  same-behind l place d =
      h place
      (Contains-append_right (flat_map (words_of_element m stores) elements) behind place
      (subst (λ x. Contains (if x then mask_words m b.after else []) place) (sym (lt-ltb b.after (movement_count m) l)) d))

  pub accesses-same : accesses_of_batch m b ≡ accesses_of_batch (movement_others m others) b
  accesses-same =
      flat_map_alike (accesses_of_element m) (accesses_of_element (movement_others m others)) elements
      (λ i c. element-same m others i (same-index i c) (same-mask i c))

-- ---- what is stored

stored-at : (m : Movement) (others : List ℕ) (i : ℕ) (a : Access) (takes : Bool) → AreSameAt (data_words m true i) m.words others → Contains (if takes then map (access_of m i) (range_with_len 0 (fields_of m)) else []) a → value_stored m.at.vlen m.words a ≡ value_stored m.at.vlen others a
stored-at m others i a true h c =
    let one = member_before_map (access_of m i) (range_with_len 0 (fields_of m)) a c in
    let place = member_of_map (λ f. place_of_access m.at.vlen (access_of m i f)) (range_with_len 0 (fields_of m)) one.0 one.1 in
    let word = h (place_of_access m.at.vlen a) (subst (λ x. Contains (data_words m true i) (place_of_access m.at.vlen x)) one.2 place) in
    ap (λ w. field w (element_bit (8 * a.width) (a.byte / a.width)) (8 * a.width)) word
stored-at m others i a false h c = absurd (omega (arith, c.1))

pub values-same : (m : Movement) (others : List ℕ) (b : Batch) → AreSameAt (batch_words m true b) m.words others → (a : Access) → Contains (accesses_of_batch m b) a → value_stored m.at.vlen m.words a ≡ value_stored m.at.vlen others a
values-same m others b h a c =
    let one = member_before_flat_map (accesses_of_element m) (range_with_len b.from (b.after - b.from)) a c in
    stored-at m others one.0 a (takes_part m one.0) (same-data m others true b h one.0 one.1) one.2

-- ---- where it ends

counts-same : (m : Movement) (others : List ℕ) (from n : ℕ) → ((i : ℕ) → from ≤ i → i < from + n → AreSameAt (mask_words m i) m.words others) → accesses_in m from n ≡ accesses_in (movement_others m others) from n
counts-same m others from n h =
    flat_map_lengths (accesses_of_element m) (accesses_of_element (movement_others m others)) (range_with_len from (from + n - from))
    (λ i c. let r = range_parts from (from + n - from) i c in length-same m others i (h i r.0 (omega arith)))

pub batch-same : (m : Movement) (others : List ℕ) (stores : Bool) (lanes most from : ℕ) → AreSameAt (batch_words m stores (batch_at m lanes most from)) m.words others → batch_at m lanes most from ≡ batch_at (movement_others m others) lanes most from
batch-same m others stores lanes most from h = ap (λ k. record { from = from; after = from + max 1 k }) same
  where
    o : Movement
    o = movement_others m others

    n : ℕ
    n = min most (movement_count m - from)

    k : ℕ
    k = longest_run m lanes from n

    b : Batch
    b = batch_at m lanes most from

    is : IsLongest m lanes from n k
    is = longest-is m lanes from n

    mask : (i : ℕ) → from ≤ i → i < b.after → AreSameAt (mask_words m i) m.words others
    mask i low high = same-mask m others stores b h i (member_of_range from (b.after - from) i low (omega arith))

    -- the elements of the batch, and the one after it
    next : k < n → (i : ℕ) → from ≤ i → i < from + suc k → AreSameAt (mask_words m i) m.words others
    next l i low high =
        ⊎_elim
        (mask i low)
        (λ past. let last : b.after ≡ i = omega arith in
        subst (λ x. AreSameAt (mask_words m x) m.words others) last (same-behind m others stores b h (omega arith)))
        (cases_lt i b.after)

    longest : k < n → lanes < accesses_in m from (suc k) → lanes < accesses_in o from (suc k)
    longest l past = subst (λ x. lanes < x) (counts-same m others from (suc k) (next l)) past

    in-others : IsLongest o lanes from n k
    in-others = record {
      most = is.most;
      few = ⊎_elim inl (λ l. inr (subst (λ x. x ≤ lanes) (counts-same m others from k (λ i low high. mask i low (omega arith))) l)) is.few;
      longest = ⊎_elim inl (λ past. ⊎_elim (λ l. inr (longest l past)) (λ q. let top = is.most in inl (omega arith)) (cases_lt k n)) is.longest;
    }

    same : k ≡ longest_run o lanes from n
    same = one-longest o lanes from n k (longest_run o lanes from n) in-others (longest-is o lanes from n)
