-- Elements by their bytes.
use Rattle.std.proofs.Common.{◌≡◌, ℕ, zero, suc, ◌+◌, ◌*◌, ◌/◌, ◌%◌, ◌^◌, ◌<◌, ◌≤◌, ◌⊎◌, ⊎_elim, List, length, slice_index, slice_set, IsTrue, refl, sym, ap, ◌∙◌, subst, arith}
use Rattle.std.proofs.lemmas.Bool.{cases_lt, cases_eq}
use Rattle.std.proofs.lemmas.Bool.Decides.{nat_tests}
use Rattle.std.proofs.lemmas.List.{get_or-set_same, set_past}
use Rattle.vx_base.specs.Numbers.{field, from_little_endian}
use Rattle.vx_base.specs.Options.{is_register_length}
use Rattle.vx_vstate.specs.Registers.{element, element_word, place_of, word_at, is_byte_width, is_element_width, element_bit, byte_at, bytes_at, with_field, with_element}
use Rattle.vx_vstate.proofs.Fields.{field-split, field-in_field, with_field-lt, same_fields}
use Rattle.vx_vstate.proofs.Elements.{word-with_other}

-- bytes of one word
bytes-in_word : (vlen : ℕ) (words : List ℕ) (register j count place b : ℕ) → register * (vlen / 8) + j ≡ 8 * place + b → b + count ≤ 8 → from_little_endian (bytes_at vlen words register j count) ≡ field (slice_index words place) (8 * b) (8 * count)
bytes-in_word vlen words register j zero place b e h = omega arith
bytes-in_word vlen words register j (suc count) place b e h =
    let n = slice_index words place in
    let in_word : (register * (vlen / 8) + j) / 8 ≡ place = omega arith in
    let in_byte : (register * (vlen / 8) + j) % 8 ≡ b = omega arith in
    let first : byte_at vlen words register j ≡ field n (8 * b) 8 = λ i. field (slice_index words (in_word i)) (8 * in_byte i) 8 in
    let rest = bytes-in_word vlen words register (j + 1) count place (b + 1) (omega arith) (omega arith) in
    let more : 8 * suc count ≡ 8 + 8 * count = omega arith in
    let next : 8 * (b + 1) ≡ 8 * b + 8 = omega arith in
    (λ i. first i + 256 * rest i)
    ∙ ap (λ k. field n (8 * b) 8 + 256 * field n k (8 * count)) next
    ∙ sym (field-split n (8 * b) 8 (8 * count))
    ∙ ap (λ k. field n (8 * b) k) (sym more)

-- a register has eight times as many bytes as words
pub length-bytes : (vlen : ℕ) → IsTrue (is_register_length vlen) → vlen / 8 ≡ 8 * (vlen / 64)
length-bytes vlen h = grind (arith, nat_tests, h)

first_byte : (vlen register : ℕ) → IsTrue (is_register_length vlen) → register * (vlen / 8) ≡ 8 * (register * (vlen / 64))
first_byte vlen register h = ap (λ k. register * k) (length-bytes vlen h) ∙ omega arith

element-from_bytes : (vlen : ℕ) (words : List ℕ) (register width count index b : ℕ) → IsTrue (is_register_length vlen) → width ≡ 8 * count → index * count ≡ 8 * (index * width / 64) + b → index * width % 64 ≡ 8 * b → b + count ≤ 8 → element vlen words register width index ≡ from_little_endian (bytes_at vlen words register (index * count) count)
element-from_bytes vlen words register width count index b h wide in_word in_byte fits =
    let place = place_of vlen register (element_word width index) in
    let start = first_byte vlen register h in
    (λ i. field (slice_index words place) (in_byte i) (wide i))
    ∙ sym (bytes-in_word vlen words register (index * count) count place b (omega arith) fits)

pub by_width : (P : ℕ → Type 0) (width : ℕ) → P 8 → P 16 → P 32 → P 64 → IsTrue (is_byte_width width) → P width
by_width P width p8 p16 p32 p64 h =
    let cases : (width ≡ 8) ⊎ ((width ≡ 16) ⊎ ((width ≡ 32) ⊎ (width ≡ 64))) = grind (arith, nat_tests, h) in
    ⊎_elim (λ e. subst P (sym e) p8) (⊎_elim (λ e. subst P (sym e) p16) (⊎_elim (λ e. subst P (sym e) p32) (λ e. subst P (sym e) p64))) cases

-- an element of whole bytes is the number of its bytes
pub element-bytes : (vlen : ℕ) (words : List ℕ) (register width index : ℕ) → IsTrue (is_register_length vlen) → IsTrue (is_byte_width width) → element vlen words register width index ≡ from_little_endian (bytes_at vlen words register (index * (width / 8)) (width / 8))
element-bytes vlen words register width index h =
    by_width (λ w. element vlen words register w index ≡ from_little_endian (bytes_at vlen words register (index * (w / 8)) (w / 8))) width
    (element-from_bytes vlen words register 8 1 index (index * 1 % 8) h (omega arith) (omega arith) (omega arith) (omega arith))
    (element-from_bytes vlen words register 16 2 index (index * 2 % 8) h (omega arith) (omega arith) (omega arith) (omega arith))
    (element-from_bytes vlen words register 32 4 index (index * 4 % 8) h (omega arith) (omega arith) (omega arith) (omega arith))
    (element-from_bytes vlen words register 64 8 index (index * 8 % 8) h (omega arith) (omega arith) (omega arith) (omega arith))

-- a bit of a mask is a bit of its byte
pub mask-bit : (vlen : ℕ) (words : List ℕ) (register index : ℕ) → IsTrue (is_register_length vlen) → element vlen words register 1 index ≡ field (byte_at vlen words register (index / 8)) (index % 8) 1
mask-bit vlen words register index h =
    let place = place_of vlen register (element_word 1 index) in
    let n = slice_index words place in
    let start = first_byte vlen register h in
    let in_word : (register * (vlen / 8) + index / 8) / 8 ≡ place = omega arith in
    let in_byte : (register * (vlen / 8) + index / 8) % 8 ≡ index / 8 % 8 = omega arith in
    let b = index / 8 % 8 in
    let byte : byte_at vlen words register (index / 8) ≡ field n (8 * b) 8 = λ i. field (slice_index words (in_word i)) (8 * in_byte i) 8 in
    let bit : 8 * b + index % 8 ≡ index * 1 % 64 = omega arith in
    sym (ap (λ k. field k (index % 8) 1) byte ∙ field-in_field n (8 * b) 8 (index % 8) 1 (omega arith) ∙ ap (λ k. field n k 1) bit)

-- ---- elements and their words

by_element_width : (P : ℕ → Type 0) (width : ℕ) → P 1 → P 8 → P 16 → P 32 → P 64 → IsTrue (is_element_width width) → P width
by_element_width P width p1 p8 p16 p32 p64 h =
    let cases : (width ≡ 1) ⊎ IsTrue (is_byte_width width) = grind (arith, nat_tests, h) in
    ⊎_elim (λ e. subst P (sym e) p1) (by_width P width p8 p16 p32 p64) cases

-- an element lies within its word
pub element_bit-le : (width index : ℕ) → IsTrue (is_element_width width) → element_bit width index + width ≤ 64
element_bit-le width index =
    by_element_width (λ w. index * w % 64 + w ≤ 64) width (omega arith) (omega arith) (omega arith) (omega arith) (omega arith)

-- element j of word w
abbrev pub IsPlaced : (w j width : ℕ) → Type 0
IsPlaced w j width = (element_word width (w * (64 / width) + j) ≡ w) × (element_bit width (w * (64 / width) + j) ≡ j * width)

placed : (w j width : ℕ) → IsTrue (is_element_width width) → j < 64 / width → IsPlaced w j width
placed w j width =
    by_element_width (λ n. j < 64 / n → IsPlaced w j n) width (λ h. (omega (arith, h), omega (arith, h))) (λ h. (omega (arith, h), omega (arith, h))) (λ h. (omega (arith, h), omega (arith, h))) (λ h. (omega (arith, h), omega (arith, h))) (λ h. (omega (arith, h), omega (arith, h)))

filled : (width : ℕ) → IsTrue (is_element_width width) → 64 / width * width ≡ 64
filled width = by_element_width (λ n. 64 / n * n ≡ 64) width refl refl refl refl refl

pub word-from_elements : (vlen : ℕ) (words : List ℕ) (register width w n : ℕ) → IsTrue (is_element_width width) → word_at vlen words register w < 2 ^ 64 → n < 2 ^ 64 → ((index : ℕ) → element_word width index ≡ w → element vlen words register width index ≡ field n (element_bit width index) width) → word_at vlen words register w ≡ n
word-from_elements vlen words register width w n h low high same =
    let word = word_at vlen words register w in
    let all = ap (λ k. word % 2 ^ k) (sym (filled width h)) ∙ same_fields word n width (64 / width) each ∙ ap (λ k. n % 2 ^ k) (filled width h) in
    omega arith
  where
    each : (j : ℕ) → j < 64 / width → field (word_at vlen words register w) (j * width) width ≡ field n (j * width) width
    each j k =
        let index = w * (64 / width) + j in
        let place = placed w j width h k in
        (λ i. field (word_at vlen words register (sym place.0 i)) (sym place.1 i) width) ∙ same index place.0 ∙ ap (λ b. field n b width) place.1

-- each word keeps to 64 bits
pub word-with_element-lt : (vlen : ℕ) (words : List ℕ) (register width index value place : ℕ) → IsTrue (is_element_width width) → slice_index words place < 2 ^ 64 → slice_index (with_element vlen words register width index value) place < 2 ^ 64
word-with_element-lt vlen words register width index value place h fits = ⊎_elim one two (cases_eq here place)
  where
    here : ℕ
    here = place_of vlen register (element_word width index)

    n : ℕ
    n = with_field (slice_index words here) (element_bit width index) width value

    P : ℕ → Type 0
    P k = k < 2 ^ 64

    two : (here ≡ place → ⊥) → P (slice_index (with_element vlen words register width index value) place)
    two ne = subst P (sym (word-with_other vlen words register width index value place ne)) fits

    there : P (slice_index words here) → here < length words → P (slice_index (slice_set words here n) here)
    there below within =
        subst P (sym (get_or-set_same words here n 0 within)) (with_field-lt (slice_index words here) (element_bit width index) width value 64 (element_bit-le width index h) below)

    past : P (slice_index words here) → length words ≤ here → P (slice_index (slice_set words here n) here)
    past below beyond = subst (λ (ws : List ℕ). P (slice_index ws here)) (sym (set_past words here n beyond)) below

    one : here ≡ place → P (slice_index (with_element vlen words register width index value) place)
    one e =
        let below = subst (λ k. P (slice_index words k)) (sym e) fits in
        subst (λ k. P (slice_index (slice_set words here n) k)) e (⊎_elim (there below) (past below) (cases_lt here (length words)))
