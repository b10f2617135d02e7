-- Numbers in ranges, and names in tables.
use Rattle.std.proofs.Common.{◌≡◌, ℕ, suc, ◌-◌, ◌^◌, ◌<◌, ◌≤◌, length, arith, Bool, true, false, cond, ℤ, pos, negsuc, neg_ℤ, List, [], ◌∷◌, Option, Some, None, bytes_eq, refl, ap, ◌<ℤ◌, ◌≤ℤ◌}
use Rattle.std.specs.Prelude.{◌==◌, int_le, int_rem, unsigned_abs, unwrap_or, position, option_map, find, nat_le}
use Rattle.std.specs.List.{list_all}
use Rattle.std.specs.Option.{option_or}
use Rattle.std.proofs.lemmas.Bool.{and_parts, false≢true, leb-true, eqb-true}
use Rattle.std.proofs.lemmas.Int.{ints}
use Rattle.std.proofs.lemmas.Nat.{pow_pos}
use Rattle.std.proofs.lemmas.List.Quantifiers.{position-Some}
use Rattle.vx_base.specs.Numbers.{reduced}
use Rattle.vx_decode.specs.Encoded.{IsSigned, IsSignedEven, IsUnsigned, IsNumber}
use Rattle.vx_language.specs.Names.{register_number, numbered_names, vector_number, control_number}
use Rattle.vx_language.specs.Slots.{Range, is_within, is_offset, unsigned_range}
use Rattle.vx_rows.specs.declared.row.Number.{Number}
use Rattle.vx_rows.specs.declared.row.Number.TheVariants.{Absent, Unsigned, Signed, FormatS, FormatB, FormatJ}
use Rattle.vx_source.specs.Vtypes.{vtype_words}
use Rattle.vx_source.specs.declared.vtype.VtypeField.{VtypeField}
use Rattle.vx_source.specs.declared.vtype.VtypeField.TheVariants.{Sew, Lmul, Tail, Mask}
use Rattle.vx_source.specs.Names.{register_names, vector_names, NamedControl, named_controls}
use Rattle.vx_code.specs.Right.{is_inside, covers, covers_offsets}

pub le-from : (a b : ℤ) → int_le a b ≡ true → a ≤ℤ b
le-from a b e = grind (arith, ints)

le-to : (a b : ℤ) → a ≤ℤ b → int_le a b ≡ true
le-to a b e = grind (arith, ints)

le-trans : (a b c : ℤ) → a ≤ℤ b → b ≤ℤ c → a ≤ℤ c
le-trans a b c p q = omega (arith, ints, p, q)

-- a number between two is
pub between : (least greatest value : ℤ) (range : Range) → is_inside least greatest range ≡ true → is_within range value ≡ true → (least ≤ℤ value) × (value ≤ℤ greatest)
between least greatest value range inside within =
    let i = and_parts (int_le least range.least) (int_le range.greatest greatest) inside in
    let w = and_parts (int_le range.least value) (int_le value range.greatest) within in
    (le-trans least range.least value (le-from _ _ i.0) (le-from _ _ w.0), le-trans value range.greatest greatest (le-from _ _ w.1) (le-from _ _ i.1))

below-from : (n : ℕ) (value : ℤ) → 0 < n → value ≤ℤ pos (n - 1) → value <ℤ pos n
below-from n value some le = omega (arith, ints, some, le)

pub unsigned-covered : (count : ℕ) (value : ℤ) → (pos 0 ≤ℤ value) × (value ≤ℤ pos (2 ^ count - 1)) → IsUnsigned count value
unsigned-covered count value h = (h.0, below-from (2 ^ count) value (pow_pos count) h.1)

pub signed-covered : (width : ℕ) (value : ℤ) → (neg_ℤ (pos (2 ^ (width - 1))) ≤ℤ value) × (value ≤ℤ pos (2 ^ (width - 1) - 1)) → IsSigned width value
signed-covered width value h = (h.0, below-from (2 ^ (width - 1)) value (pow_pos (width - 1)) h.1)

pub covered : (number : Number) (range : Range) (value : ℤ) → covers number range ≡ true → is_within range value ≡ true → IsNumber number value
covered Absent range value c w = absurd (false≢true c)
covered (Unsigned low count) range value c w = unsigned-covered count value (between (pos 0) (pos (2 ^ count - 1)) value range c w)
covered (Signed low count) range value c w = signed-covered count value (between (neg_ℤ (pos (2 ^ (count - 1)))) (pos (2 ^ (count - 1) - 1)) value range c w)
covered FormatS range value c w = signed-covered 12 value (between (neg_ℤ (pos (2 ^ 11))) (pos (2 ^ 11 - 1)) value range c w)
covered FormatB range value c w = absurd (false≢true c)
covered FormatJ range value c w = absurd (false≢true c)

no-rest : (z : ℤ) → (unsigned_abs z == 0) ≡ true → z ≡ pos 0
no-rest (pos n) e = ap pos (eqb-true n 0 e)
no-rest (negsuc n) e = absurd (let h : suc n ≡ 0 = eqb-true (suc n) 0 e in omega (arith, h))

even-covered : (width : ℕ) (value : ℤ) → is_offset width value ≡ true → IsSignedEven width value
unfolding is_offset
even-covered width value e =
    let parts = and_parts (is_within _ value) (unsigned_abs (int_rem value (pos 2)) == 0) e in
    let w = and_parts (int_le (neg_ℤ (pos (2 ^ (width - 1)))) value) (int_le value (pos (2 ^ (width - 1) - 1))) parts.0 in
    (signed-covered width value (le-from _ _ w.0, le-from _ _ w.1), no-rest (int_rem value (pos 2)) parts.1)

pub offset-covered : (number : Number) (width : ℕ) (value : ℤ) → covers_offsets number width ≡ true → is_offset width value ≡ true → IsNumber number value
offset-covered Absent width value c e = absurd (false≢true c)
offset-covered (Unsigned low count) width value c e = absurd (false≢true c)
offset-covered (Signed low count) width value c e = absurd (false≢true c)
offset-covered FormatS width value c e = absurd (false≢true c)
offset-covered FormatB width value c e =
    let same : width ≡ 13 = eqb-true width 13 c in
    even-covered 13 value (rw same at e)
offset-covered FormatJ width value c e =
    let same : width ≡ 21 = eqb-true width 21 c in
    even-covered 21 value (rw same at e)

-- 0 is an offset of each width
pub zero-fits : (width : ℕ) → is_offset width (pos 0) ≡ true
unfolding is_offset
zero-fits width = let some = pow_pos (width - 1) in grind (arith, ints)

-- a number from 0 to another
pub abs-below : (greatest : ℕ) (value : ℤ) → pos 0 ≤ℤ value → value ≤ℤ pos greatest → unsigned_abs value ≤ greatest
abs-below greatest (pos n) low high = omega (arith, ints, high)
abs-below greatest (negsuc n) low high = omega (arith, ints, low)

-- registers
place-below : (p : List ℕ → Bool) (names : List (List ℕ)) (o : Option ℕ) → position p names ≡ o → length names ≤ 32 → unwrap_or o 0 < 32
place-below p names None e short = omega arith
place-below p names (Some n) e short = omega (arith, short, (position-Some p names n [] e).0)

two-below : (one other : Option ℕ) → unwrap_or one 0 < 32 → unwrap_or other 0 < 32 → unwrap_or (option_or one other) 0 < 32
two-below None other h k = k
two-below (Some n) other h k = h

pub register-below : (name : List ℕ) → unwrap_or (register_number name) 0 < 32
unfolding register_number numbered_names register_names
register-below name =
    two-below (position (bytes_eq name) register_names) (position (bytes_eq name) numbered_names)
    (place-below (bytes_eq name) register_names _ refl (omega arith))
    (place-below (bytes_eq name) numbered_names _ refl (omega arith))

pub vector-below : (name : List ℕ) → unwrap_or (vector_number name) 0 < 32
unfolding vector_number vector_names
vector-below name = place-below (bytes_eq name) vector_names _ refl (omega arith)

-- fields of vtype
pub low-below : (f : VtypeField) → (vtype_words f).low < 64
unfolding vtype_words
low-below Sew = omega arith
low-below Lmul = omega arith
low-below Tail = omega arith
low-below Mask = omega arith

pub reduced-below : (z : ℤ) → reduced 8 z < 2 ^ 8
reduced-below (pos n) = omega arith
reduced-below (negsuc n) = omega arith

-- control registers
by-found : (p : NamedControl → Bool) (c : NamedControl) (cs : List NamedControl) (b : Bool) → p c ≡ b → c.number ≤ 4095 → unwrap_or (option_map (λ (x : NamedControl). x.number) (find p cs)) 0 ≤ 4095 → unwrap_or (option_map (λ (x : NamedControl). x.number) (cond b (Some c) (find p cs))) 0 ≤ 4095
by-found p c cs true e h k = h
by-found p c cs false e h k = k

found-below : (p : NamedControl → Bool) (cs : List NamedControl) → list_all (λ (c : NamedControl). nat_le c.number 4095) cs ≡ true → unwrap_or (option_map (λ (c : NamedControl). c.number) (find p cs)) 0 ≤ 4095
found-below p [] e = omega arith
found-below p (c ∷ cs) e =
    let parts = and_parts (nat_le c.number 4095) (list_all (λ (x : NamedControl). nat_le x.number 4095) cs) e in
    by-found p c cs (p c) refl (leb-true c.number 4095 parts.0) (found-below p cs parts.1)

pub control-below : (name : List ℕ) → unwrap_or (control_number name) 0 ≤ 4095
unfolding control_number named_controls
control-below name = found-below (λ (c : NamedControl). bytes_eq name c.name) named_controls refl

pub control-within : (name : List ℕ) → is_within (unsigned_range 12) (pos (unwrap_or (control_number name) 0)) ≡ true
control-within name = let h = control-below name in grind (arith, ints)
