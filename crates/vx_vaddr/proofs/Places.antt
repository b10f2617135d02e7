-- Where elements and accesses stand in the registers.
use Rattle.std.proofs.Common.{◌≡◌, ℕ, ◌+◌, ◌*◌, ◌/◌, ◌%◌, ◌^◌, ◌<◌, ◌≤◌, true, ◌||◌, nat_eq, refl, sym, ap, ◌∙◌, subst, arith, ⊎_elim, mul-le-mul_right}
use Rattle.std.proofs.lemmas.Bool.{cases_lt, eqb-true, or_cases}
use Rattle.std.proofs.lemmas.Bool.Decides.{nat_tests}
use Rattle.std.proofs.Math.Nat.{mod-add-div'}
use Rattle.vx_base.specs.Options.{is_register_length}
use Rattle.vx_packed.specs.Joined.{lane}
use Rattle.vx_vstate.specs.Registers.{words_of_all, place_of, element_word, element_bit, is_byte_width, is_element_width}
use Rattle.vx_vector.specs.Accesses.{Access}
use Rattle.vx_vector.specs.Movements.{IsPlacedAccess}

-- ---- numbers

pub by_width : (P : ℕ → Type 0) (n : ℕ) → P 8 → P 16 → P 32 → P 64 → is_byte_width n ≡ true → P n
by_width P n one two four eight h =
    ⊎_elim
    (λ t. ⊎_elim
    (λ t. ⊎_elim
    (λ t. subst P (sym (eqb-true n 8 t)) one)
    (λ t. subst P (sym (eqb-true n 16 t)) two)
    (or_cases (nat_eq n 8) (nat_eq n 16) t))
    (λ t. subst P (sym (eqb-true n 32 t)) four)
    (or_cases (nat_eq n 8 || nat_eq n 16) (nat_eq n 32) t))
    (λ t. subst P (sym (eqb-true n 64 t)) eight)
    (or_cases (nat_eq n 8 || nat_eq n 16 || nat_eq n 32) (nat_eq n 64) h)

pub few_words : (vlen : ℕ) → is_register_length vlen ≡ true → (1 ≤ vlen / 64) × (vlen / 64 ≤ 32)
few_words vlen h = (grind (arith, nat_tests, h), grind (arith, nat_tests, h))

-- ---- one element

pub as_element : (width : ℕ) → is_byte_width width ≡ true → is_element_width width ≡ true
as_element width h = by_width (λ n. is_element_width n ≡ true) width refl refl refl refl h

pub some_bits : (width : ℕ) → is_element_width width ≡ true → 0 < width
some_bits width h = grind (arith, h)

pub few_bits : (width : ℕ) → is_element_width width ≡ true → width ≤ 64
few_bits width h = grind (arith, h)

pub fills : (width : ℕ) → is_element_width width ≡ true → 64 / (width * 1) * (width * 1) ≡ 64
fills width h =
    let one : width * 1 ≡ width = omega arith in
    let whole : 64 / width * width ≡ 64 = grind (arith, h) in
    ap (λ n. 64 / n * n) one ∙ whole

pub first_lane : (width word : ℕ) → lane width word 0 ≡ word % 2 ^ width
first_lane width word =
    let none : 0 * width ≡ 0 = omega arith in
    let whole : word / 1 ≡ word = omega arith in
    ap (λ b. word / 2 ^ b % 2 ^ width) none ∙ ap (λ n. n % 2 ^ width) whole

-- a word behind a register that lies in registers that there are
pub in_place : (register n w p : ℕ) → register + n ≤ 32 → w < n * p → register * p + w < 32 * p
in_place register n w p room below = let all = mul-le-mul_right p room in omega arith

-- ---- an access

pub record IsAt (width byte : ℕ) : Type 0 where
  pub word : element_word (8 * width) (byte / width) ≡ byte / 8
  pub bit : element_bit (8 * width) (byte / width) ≡ byte % 8 * 8
  pub inside : byte % 8 * 8 + 8 * width ≤ 64

at-width : (n width byte : ℕ) → is_byte_width n ≡ true → 8 * width ≡ n → byte % width ≡ 0 → IsAt width byte
at-width n width byte h = by_width (λ n. 8 * width ≡ n → byte % width ≡ 0 → IsAt width byte) n one two four eight h
  where
    one : 8 * width ≡ 8 → byte % width ≡ 0 → IsAt width byte
    one e a = let is : width ≡ 1 = omega arith in subst (λ w. byte % w ≡ 0 → IsAt w byte) (sym is) (λ b. record { word = omega arith; bit = omega arith; inside = omega arith }) a

    two : 8 * width ≡ 16 → byte % width ≡ 0 → IsAt width byte
    two e a = let is : width ≡ 2 = omega arith in subst (λ w. byte % w ≡ 0 → IsAt w byte) (sym is) (λ b. record { word = omega arith; bit = omega arith; inside = omega arith }) a

    four : 8 * width ≡ 32 → byte % width ≡ 0 → IsAt width byte
    four e a = let is : width ≡ 4 = omega arith in subst (λ w. byte % w ≡ 0 → IsAt w byte) (sym is) (λ b. record { word = omega arith; bit = omega arith; inside = omega arith }) a

    eight : 8 * width ≡ 64 → byte % width ≡ 0 → IsAt width byte
    eight e a = let is : width ≡ 8 = omega arith in subst (λ w. byte % w ≡ 0 → IsAt w byte) (sym is) (λ b. record { word = omega arith; bit = omega arith; inside = omega arith }) a

pub access-at : (vlen : ℕ) (a : Access) → IsPlacedAccess vlen a → IsAt a.width a.byte
access-at vlen a h = at-width (8 * a.width) a.width a.byte h.width refl h.aligned

pub access-word : (vlen : ℕ) (a : Access) → IsPlacedAccess vlen a → a.register * (vlen / 64) + a.byte / 8 < 32 * (vlen / 64)
access-word vlen a h =
    let at = (access-at vlen a h).word in
    subst (λ w. place_of vlen a.register w < words_of_all vlen) at h.inside

-- the word in the register that it stands in
pub place_is : (r w p : ℕ) → (r + w / p) * p + w % p ≡ r * p + w
place_is r w p = let e = mod-add-div' w p in omega arith

pub register_below : (r w p : ℕ) → r * p + w < 32 * p → r + w / p < 32
register_below r w p h =
    ⊎_elim
    (λ l. l)
    (λ m. let low = mul-le-mul_right p m in let e = place_is r w p in absurd (omega arith))
    (cases_lt (r + w / p) 32)
