-- What a legal load or store moves lies in registers that there are.
use Rattle.std.proofs.Common.{◌≡◌, ◌⊎◌, ℕ, suc, ◌+◌, ◌-◌, ◌*◌, ◌/◌, ◌%◌, ◌^◌, ◌<◌, ◌≤◌, Bool, true, false, not, ◌&&◌, ◌||◌, nat_eq, ltb, [], length, map, if◌then◌else◌, refl, sym, ap, ◌∙◌, subst, ⊎_elim, arith}
use Rattle.std.specs.List.{Contains, list_any, range_with_len}
use Rattle.std.proofs.lemmas.Bool.{not-false, false≢true, or_parts, and_cases, eqb-true, ltb-false}
use Rattle.std.proofs.Math.Nat.{mul-le-mul_right}
use Rattle.std.proofs.lemmas.Nat.{mod_below}
use Rattle.vx_rows.specs.Layouts.{layout_of}
use Rattle.vx_rows.specs.Table.{class_of, shape_of}
use Rattle.vx_rows.specs.declared.row.Addressing.{Addressing}
use Rattle.vx_rows.specs.declared.row.Addressing.TheVariants.{Unit, FaultOnlyFirst, Whole, MaskBits, Strided, Unordered, Ordered}
use Rattle.vx_rows.specs.declared.row.Class.{Class}
use Rattle.vx_rows.specs.declared.row.Class.TheVariants.{VectorLoad, VectorStore}
use Rattle.vx_rows.specs.declared.row.Eew.{Eew}
use Rattle.vx_rows.specs.declared.row.Eew.TheVariants.{E8}
use Rattle.vx_rows.specs.declared.row.Shape.{Shape}
use Rattle.vx_rows.specs.declared.row.Shape.TheVariants as shape
use Rattle.vx_decode.specs.Encoded.{HasOperands}
use Rattle.vx_decode.specs.Groups.{bits_of_eew, group_at, moved, indices}
use Rattle.vx_decode.specs.Legal.{is_bad_group, is_too_long}
use Rattle.vx_decode.specs.declared.instr.Instr.{Instr}
use Rattle.vx_vstate.specs.Groups.{emul_eighths, registers_of_group, is_group_size}
use Rattle.vx_vstate.specs.Registers.{words_of_register, words_of_all, place_of, element_word, is_byte_width}
use Rattle.vx_vstate.specs.State.{SettingView, IsSetting}
use Rattle.vx_vstate.specs.Vtype.{sew, vill, vlmax}
use Rattle.vx_vector.specs.Accesses.{Access, Movement, moved_width, count_by, access_bits, fields_of, registers_of_field, movement_count, takes_part, access_of, accesses_of_element, access_list}
use Rattle.vx_vector.specs.Batches.{has_indices, place_of_access}
use Rattle.vx_vector.specs.Movements.{IsLegalMovement, IsSoundMovement, IsPlacedAccess}
use Rattle.vx_vector.proofs.Legality.{GroupLaws, IsAccepted, by_size, by_width, room, good, some-words, all-words, whole-within, suits, load-suits, store-suits, row-fits, accepted}
use Rattle.vx_vector.proofs.Members.{member_before_map, member_before_flat_map, range_parts}

-- ---- a group of elements

eew-bytes : (e : Eew) → is_byte_width (bits_of_eew e) ≡ true
eew-bytes E8 = refl
eew-bytes other = refl

below-most : (at : SettingView) (k : ℕ) → IsSetting at → k < at.vl → k < vlmax at.vlen at.vtype
below-most at k s l = by_test (nat_eq at.vtype vill) s.vl_in_range
  where
    by_test : (b : Bool) → at.vl ≤ (if b then 0 else vlmax at.vlen at.vtype) → k < vlmax at.vlen at.vtype
    by_test true h = absurd (omega arith)
    by_test false h = omega arith

fits-in : (fields register size : ℕ) (x : Bool) → register + size ≤ 32 → (not (nat_eq fields 1) && (x || ltb 32 (register + fields * size))) ≡ false → register + fields * size ≤ 32
fits-in fields register size x one h =
    ⊎_elim
    (λ n. let single = eqb-true fields 1 (not-false (nat_eq fields 1) n) in subst (λ k. register + k * size ≤ 32) (sym single) (omega arith))
    (λ n. ltb-false 32 (register + fields * size) (or_parts x (ltb 32 (register + fields * size)) n).1)
    (and_cases (not (nat_eq fields 1)) (x || ltb 32 (register + fields * size)) h)

record IsRoomy (at : SettingView) (register width fields : ℕ) : Type 0 where
  pub room : register + fields * registers_of_group (emul_eighths at.vtype width) ≤ 32
  pub within : (k : ℕ) → k < at.vl → element_word width k < registers_of_group (emul_eighths at.vtype width) * words_of_register at.vlen

roomy : (L : GroupLaws) (at : SettingView) (register width fields : ℕ) → IsSetting at → register < 32 → is_byte_width width ≡ true → is_bad_group (group_at at register width fields) ≡ false → is_too_long (group_at at register width fields) ≡ false → IsRoomy at register width fields
roomy L at register width fields s below byte bad long =
    let emul = emul_eighths at.vtype width in
    let is = good register width emul (ap (λ b. b || false) bad) in
    let one = room (registers_of_group emul) register (L.registers at.vtype width byte is.least is.most) below is.aligned in
    record {
      room = fits-in fields register (registers_of_group emul) (ltb 64 (fields * emul)) one long;
      within = λ k l. L.group at.vlen at.vtype width k s.vlen_in_range byte is.least (below-most at k s l);
    }

-- ---- the operands of a load or a store

-- a row has the whole registers that there is a row for
abbrev IsCount : Addressing → ℕ → Type 0
IsCount Whole n = is_group_size (n + 1) ≡ true
IsCount other n = n < 8

record IsFit (a : Addressing) (i : Instr) : Type 0 where
  pub rd : i.rd < 32
  pub rs2 : has_indices a ≡ true → i.rs2 < 32
  pub nf : IsCount a i.nf

fit : (a : Addressing) (s : Shape) (i : Instr) → suits a s ≡ true → HasOperands (layout_of s) i → IsFit a i
fit Unit shape.UnitMemory i f h = record { rd = h.rd; rs2 = λ e. absurd (false≢true e); nf = h.nf }
fit FaultOnlyFirst shape.UnitMemory i f h = record { rd = h.rd; rs2 = λ e. absurd (false≢true e); nf = h.nf }
fit Whole shape.WholeMemory i f h = record {
  rd = h.rd;
  rs2 = λ e. absurd (false≢true e);
  nf = ⊎_elim
      (λ e. ap (λ n. is_group_size (n + 1)) e)
      (⊎_elim (λ e. ap (λ n. is_group_size (n + 1)) e) (⊎_elim (λ e. ap (λ n. is_group_size (n + 1)) e) (λ e. ap (λ n. is_group_size (n + 1)) e)))
      h.nf;
}
fit MaskBits shape.MaskMemory i f h = record { rd = h.rd; rs2 = λ e. absurd (false≢true e); nf = let none = h.nf in omega arith }
fit Strided shape.StridedMemory i f h = record { rd = h.rd; rs2 = λ e. absurd (false≢true e); nf = h.nf }
fit Unordered shape.IndexedMemory i f h = record { rd = h.rd; rs2 = λ e. h.rs2; nf = h.nf }
fit Ordered shape.IndexedMemory i f h = record { rd = h.rd; rs2 = λ e. h.rs2; nf = h.nf }
fit a s i f h = absurd (false≢true f)

-- ---- what is moved

-- the rules of legality that are needed
record IsKept (a : Addressing) (e : Eew) (i : Instr) (at : SettingView) : Type 0 where
  pub bad : is_bad_group (moved a e i at) ≡ false
  pub long : is_too_long (moved a e i at) ≡ false
  pub index : list_any is_bad_group (indices a e i at) ≡ false

module _ (a : Addressing) (e : Eew) (i : Instr) (at : SettingView) where
  abbrev width : ℕ
  width = moved_width a (moved a e i at).eew

  abbrev registers : ℕ
  registers = registers_of_group (moved a e i at).emul_eighths

  abbrev count : ℕ
  count = count_by a at.vl at.vlen registers width

record IsMoved (a : Addressing) (e : Eew) (i : Instr) (at : SettingView) : Type 0 where
  pub byte : is_byte_width (width a e i at) ≡ true
  pub some_field : 1 ≤ (moved a e i at).fields
  pub few_fields : (moved a e i at).fields ≤ 8
  pub room : i.rd + (moved a e i at).fields * registers a e i at ≤ 32
  pub within : (k : ℕ) → k < count a e i at → element_word (width a e i at) k < registers a e i at * words_of_register at.vlen
  pub masked : (k : ℕ) → k < count a e i at → element_word 1 k < words_of_register at.vlen

mask-within : (L : GroupLaws) (at : SettingView) (k : ℕ) → IsSetting at → k < at.vl → element_word 1 k < words_of_register at.vlen
mask-within L at k s l = L.mask at.vlen at.vtype k s.vlen_in_range (below-most at k s l)

-- a mask's bytes
bytes-within : (L : GroupLaws) (at : SettingView) (k : ℕ) → IsSetting at → k < (at.vl + 7) / 8 → (element_word 8 k < 1 * words_of_register at.vlen) × (element_word 1 k < words_of_register at.vlen)
bytes-within L at k s l =
    let last : k * 8 < at.vl = omega arith in
    let inside = mask-within L at (k * 8) s last in
    (omega arith, omega arith)

-- whole registers have no more elements than a register has bits
few-elements : (n vlen width k : ℕ) → is_byte_width width ≡ true → n ≤ 8 → k < n * vlen / width → k < vlen
few-elements n vlen width k h few l =
    let most = mul-le-mul_right vlen few in
    by_width (λ w. k < n * vlen / w → k < vlen) width (λ m. omega arith) (λ m. omega arith) (λ m. omega arith) (λ m. omega arith) h l

whole-masked : (at : SettingView) (n width k : ℕ) → IsSetting at → is_byte_width width ≡ true → n ≤ 8 → k < n * at.vlen / width → element_word 1 k < words_of_register at.vlen
whole-masked at n width k s h few l =
    let below = few-elements n at.vlen width k h few l in
    let words = all-words at s in
    omega arith

few-registers : (n : ℕ) → is_group_size n ≡ true → (1 ≤ n) × (n ≤ 8)
few-registers n h = by_size (λ n. (1 ≤ n) × (n ≤ 8)) n (omega arith, omega arith) (omega arith, omega arith) (omega arith, omega arith) (omega arith, omega arith) h

-- elements of a width of their own, in as many groups as fields
plain-moved : (L : GroupLaws) (i : Instr) (at : SettingView) (w : ℕ) → IsSetting at → is_byte_width w ≡ true → i.rd < 32 → is_bad_group (group_at at i.rd w (i.nf + 1)) ≡ false → is_too_long (group_at at i.rd w (i.nf + 1)) ≡ false → IsRoomy at i.rd w (i.nf + 1)
plain-moved L i at w s h below bad long = roomy L at i.rd w (i.nf + 1) s below h bad long

moved-is : (L : GroupLaws) (a : Addressing) (e : Eew) (i : Instr) (at : SettingView) → IsSetting at → IsFit a i → IsKept a e i at → IsMoved a e i at
moved-is L Unit e i at s f k =
    let r = plain-moved L i at (bits_of_eew e) s (eew-bytes e) f.rd k.bad k.long in
    let few = f.nf in
    record { byte = eew-bytes e; some_field = omega arith; few_fields = omega arith; room = r.room; within = r.within; masked = λ j l. mask-within L at j s l }
moved-is L FaultOnlyFirst e i at s f k =
    let r = plain-moved L i at (bits_of_eew e) s (eew-bytes e) f.rd k.bad k.long in
    let few = f.nf in
    record { byte = eew-bytes e; some_field = omega arith; few_fields = omega arith; room = r.room; within = r.within; masked = λ j l. mask-within L at j s l }
moved-is L Strided e i at s f k =
    let r = plain-moved L i at (bits_of_eew e) s (eew-bytes e) f.rd k.bad k.long in
    let few = f.nf in
    record { byte = eew-bytes e; some_field = omega arith; few_fields = omega arith; room = r.room; within = r.within; masked = λ j l. mask-within L at j s l }
moved-is L Unordered e i at s f k =
    let byte = L.width at.vtype s.vtype_in_range in
    let r = plain-moved L i at (sew at.vtype) s byte f.rd k.bad k.long in
    let few = f.nf in
    record { byte = byte; some_field = omega arith; few_fields = omega arith; room = r.room; within = r.within; masked = λ j l. mask-within L at j s l }
moved-is L Ordered e i at s f k =
    let byte = L.width at.vtype s.vtype_in_range in
    let r = plain-moved L i at (sew at.vtype) s byte f.rd k.bad k.long in
    let few = f.nf in
    record { byte = byte; some_field = omega arith; few_fields = omega arith; room = r.room; within = r.within; masked = λ j l. mask-within L at j s l }
moved-is L MaskBits e i at s f k =
    let below = f.rd in
    record {
      byte = refl;
      some_field = omega arith;
      few_fields = omega arith;
      room = omega arith;
      within = λ j l. (bytes-within L at j s l).0;
      masked = λ j l. (bytes-within L at j s l).1;
    }
moved-is L Whole e i at s f k =
    let size : registers_of_group (8 * (i.nf + 1)) ≡ i.nf + 1 = omega arith in
    let sized : is_group_size (registers_of_group (8 * (i.nf + 1))) ≡ true = ap is_group_size size ∙ f.nf in
    let is = good i.rd (bits_of_eew e) (8 * (i.nf + 1)) (ap (λ b. b || false) k.bad) in
    let fits = room (registers_of_group (8 * (i.nf + 1))) i.rd sized f.rd is.aligned in
    let few = few-registers (registers_of_group (8 * (i.nf + 1))) sized in
    record {
      byte = eew-bytes e;
      some_field = omega arith;
      few_fields = omega arith;
      room = omega arith;
      within = λ j l. whole-within at (registers_of_group (8 * (i.nf + 1))) (bits_of_eew e) j s (eew-bytes e) l;
      masked = λ j l. whole-masked at (registers_of_group (8 * (i.nf + 1))) (bits_of_eew e) j s (eew-bytes e) few.1 l;
    }

record IsIndexed (a : Addressing) (e : Eew) (i : Instr) (at : SettingView) : Type 0 where
  pub room : i.rs2 + registers_of_group (emul_eighths at.vtype (bits_of_eew e)) ≤ 32
  pub within : (k : ℕ) → k < count a e i at → element_word (bits_of_eew e) k < registers_of_group (emul_eighths at.vtype (bits_of_eew e)) * words_of_register at.vlen

indexed-is : (L : GroupLaws) (a : Addressing) (e : Eew) (i : Instr) (at : SettingView) → IsSetting at → IsFit a i → IsKept a e i at → has_indices a ≡ true → IsIndexed a e i at
indexed-is L Unordered e i at s f k h =
    let bad = (or_parts (is_bad_group (group_at at i.rs2 (bits_of_eew e) 1)) false k.index).0 in
    let r = roomy L at i.rs2 (bits_of_eew e) 1 s (f.rs2 h) (eew-bytes e) bad refl in
    let fits = r.room in
    record { room = omega arith; within = r.within }
indexed-is L Ordered e i at s f k h =
    let bad = (or_parts (is_bad_group (group_at at i.rs2 (bits_of_eew e) 1)) false k.index).0 in
    let r = roomy L at i.rs2 (bits_of_eew e) 1 s (f.rs2 h) (eew-bytes e) bad refl in
    let fits = r.room in
    record { room = omega arith; within = r.within }
indexed-is L a e i at s f k h = absurd (false≢true h)

-- ---- an instruction

kept-load : (a : Addressing) (e : Eew) (s : Shape) (i : Instr) (at : SettingView) → IsAccepted (VectorLoad a e) s i at → IsKept a e i at
kept-load a e s i at h = record {
  bad = (or_parts (is_bad_group (moved a e i at)) false h.destinations).0;
  long = (or_parts (is_too_long (moved a e i at)) false h.short_destinations).0;
  index = h.sources;
}

kept-store : (a : Addressing) (e : Eew) (s : Shape) (i : Instr) (at : SettingView) → IsAccepted (VectorStore a e) s i at → IsKept a e i at
kept-store a e s i at h = record {
  bad = (or_parts (is_bad_group (moved a e i at)) (list_any is_bad_group (indices a e i at)) h.sources).0;
  long = (or_parts (is_too_long (moved a e i at)) (list_any is_too_long (indices a e i at)) h.short_sources).0;
  index = (or_parts (is_bad_group (moved a e i at)) (list_any is_bad_group (indices a e i at)) h.sources).1;
}

record IsReady (a : Addressing) (e : Eew) (i : Instr) (at : SettingView) : Type 0 where
  pub fit : IsFit a i
  pub kept : IsKept a e i at

ready-as : (a : Addressing) (e : Eew) (c : Class) (s : Shape) (i : Instr) (at : SettingView) → (c ≡ VectorLoad a e) ⊎ (c ≡ VectorStore a e) → HasOperands (layout_of s) i → IsAccepted c s i at → IsReady a e i at
ready-as a e c s i at row valid h =
    ⊎_elim
    (λ q. let g = subst (λ c. IsAccepted c s i at) q h in record { fit = fit a s i (load-suits a e s g.fits) valid; kept = kept-load a e s i at g })
    (λ q. let g = subst (λ c. IsAccepted c s i at) q h in record { fit = fit a s i (store-suits a e s g.fits) valid; kept = kept-store a e s i at g })
    row

pub legal-moves : (L : GroupLaws) (m : Movement) → IsLegalMovement m → length m.words ≡ words_of_all m.at.vlen → IsSoundMovement m
legal-moves L m h words =
    let ready = ready-as m.addressing m.encoded (class_of m.i.op) (shape_of m.i.op) m.i m.at h.row h.valid (accepted m.i m.at h.legal (row-fits m.i.op)) in
    let is = moved-is L m.addressing m.encoded m.i m.at h.setting ready.fit ready.kept in
    record {
      setting = h.setting;
      words = words;
      width = is.byte;
      some_field = is.some_field;
      few_fields = is.few_fields;
      room = is.room;
      within = is.within;
      masked = is.masked;
      index_room = λ e. (indexed-is L m.addressing m.encoded m.i m.at h.setting ready.fit ready.kept e).room;
      indexed = λ e. (indexed-is L m.addressing m.encoded m.i m.at h.setting ready.fit ready.kept e).within;
    }

-- ---- an access

-- elements of whole bytes
whole-bytes : (w i : ℕ) → is_byte_width w ≡ true → (8 * (w / 8) ≡ w) × (i * (w / 8) / (w / 8) ≡ i) × (i * (w / 8) % (w / 8) ≡ 0)
whole-bytes w i h = by_width (λ w. (8 * (w / 8) ≡ w) × (i * (w / 8) / (w / 8) ≡ i) × (i * (w / 8) % (w / 8) ≡ 0)) w (refl, omega arith, omega arith) (refl, omega arith, omega arith) (refl, omega arith, omega arith) (refl, omega arith, omega arith) h

one-placed : (m : Movement) (i f : ℕ) → IsSoundMovement m → i < movement_count m → f < fields_of m → IsPlacedAccess m.at.vlen (access_of m i f)
one-placed m i f s l g =
    let bytes = whole-bytes (access_bits m) i s.width in
    let inside = s.within i l in
    let next : suc f ≤ fields_of m = g in
    let fields = mul-le-mul_right (registers_of_field m) next in
    let fits = s.room in
    let some = some-words m.at s.setting in
    let ends : m.i.rd + f * registers_of_field m + registers_of_field m ≤ 32 = omega arith in
    let all = mul-le-mul_right (words_of_register m.at.vlen) ends in
    let same : place_of_access m.at.vlen (access_of m i f) ≡ place_of m.at.vlen (m.i.rd + f * registers_of_field m) (element_word (access_bits m) i) =
    λ j. place_of m.at.vlen (m.i.rd + f * registers_of_field m) (element_word (bytes.0 j) (bytes.1 j)) in
    let positive : 1 ≤ registers_of_field m = omega arith in
    record {
      width = subst (λ w. is_byte_width w ≡ true) (sym bytes.0) s.width;
      address = mod_below _ (2 ^ 64) (omega arith);
      register = omega arith;
      aligned = bytes.2;
      inside = subst (λ p. p < words_of_all m.at.vlen) (sym same) (omega arith);
    }

pub placed-accesses : (m : Movement) (a : Access) → IsSoundMovement m → Contains (access_list m) a → IsPlacedAccess m.at.vlen a
placed-accesses m a s c =
    let one = member_before_flat_map (accesses_of_element m) (range_with_len 0 (movement_count m - 0)) a c in
    let i = range_parts 0 (movement_count m - 0) one.0 one.1 in
    by_test (takes_part m one.0) one.0 (omega arith) one.2
  where
    by_test : (b : Bool) (i : ℕ) → i < movement_count m → Contains (if b then map (access_of m i) (range_with_len 0 (fields_of m)) else []) a → IsPlacedAccess m.at.vlen a
    by_test true i l d =
        let f = member_before_map (access_of m i) (range_with_len 0 (fields_of m)) a d in
        let r = range_parts 0 (fields_of m) f.0 f.1 in
        subst (IsPlacedAccess m.at.vlen) f.2 (one-placed m i f.0 s l (omega arith))
    by_test false i l d = absurd (omega (arith, d.1))
