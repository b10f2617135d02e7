-- Words of which some bytes are written: byte by byte, all of them, and twice.
use Rattle.std.proofs.Common.{pow-add, ◌≡◌, ℕ, zero, suc, ◌+◌, ◌*◌, ◌/◌, ◌%◌, ◌^◌, ◌<◌, Bool, true, false, eqb, cond, inl, inr, List, [], ◌∷◌, get_or, length, map, refl, sym, ap, ◌∙◌, arith}
use Rattle.std.specs.Prelude.{◌==◌, if◌then◌else◌}
use Rattle.std.proofs.lemmas.Bool.{cases_Bool}
use Rattle.std.specs.Int.{from_le_bytes}
use Rattle.std.specs.Int.{w64}
use Rattle.std.proofs.Math.Nat.{div-div-eq-div-mul, div-le_self}
use Rattle.vx_base.specs.Numbers.{field, from_little_endian}
use Rattle.vx_cells.specs.Merging.{merged_byte, merged}

abbrev word_of_bytes : (b0 b1 b2 b3 b4 b5 b6 b7 : ℕ) → ℕ
word_of_bytes b0 b1 b2 b3 b4 b5 b6 b7 = from_little_endian (b0 ∷ b1 ∷ b2 ∷ b3 ∷ b4 ∷ b5 ∷ b6 ∷ b7 ∷ [])

-- what `from_le_bytes` gives
pub read_bytes : (b0 b1 b2 b3 b4 b5 b6 b7 : ℕ) → from_le_bytes w64 (b0 ∷ b1 ∷ b2 ∷ b3 ∷ b4 ∷ b5 ∷ b6 ∷ b7 ∷ []) ≡ word_of_bytes b0 b1 b2 b3 b4 b5 b6 b7
read_bytes b0 b1 b2 b3 b4 b5 b6 b7 = omega arith

-- the bytes of a word make it again
pub bytes_again : (n : ℕ) → n < 2 ^ 64 → word_of_bytes (field n 0 8) (field n 8 8) (field n 16 8) (field n 24 8) (field n 32 8) (field n 40 8) (field n 48 8) (field n 56 8) ≡ n
bytes_again n fits = omega arith

pub merged-whole : (old value : ℕ) → value < 2 ^ 64 → merged 255 old value ≡ value
unfolding merged
merged-whole old value fits = bytes_again value fits

-- a digit of base 256
below_byte : (n low : ℕ) → field n low 8 < 256
below_byte n low = omega arith

next_place : (j : ℕ) → 2 ^ (8 * suc j) ≡ 256 * 2 ^ (8 * j)
next_place j = let e : 8 * suc j ≡ 8 + 8 * j = omega arith in rw (e, pow-add 2 8 (8 * j)) refl

pub digit_of : (bs : List ℕ) (j : ℕ) → ((i : ℕ) → get_or bs i 0 < 256) → field (from_little_endian bs) (8 * j) 8 ≡ get_or bs j 0
digit_of [] j below = let e : 0 / 2 ^ (8 * j) ≡ 0 = omega (arith, div-le_self 0 (2 ^ (8 * j))) in ap (λ (q : ℕ). q % 2 ^ 8) e
digit_of (b ∷ bs) zero below = let small : b < 256 = below 0 in omega arith
digit_of (b ∷ bs) (suc j) below =
    let small : b < 256 = below 0 in
    let rest : (b + 256 * from_little_endian bs) / 256 ≡ from_little_endian bs = omega arith in
    let place : (b + 256 * from_little_endian bs) / 2 ^ (8 * suc j) ≡ from_little_endian bs / 2 ^ (8 * j) =
    ap (λ (q : ℕ). (b + 256 * from_little_endian bs) / q) (next_place j)
    ∙ sym (div-div-eq-div-mul (b + 256 * from_little_endian bs) 256 (2 ^ (8 * j)))
    ∙ ap (λ (q : ℕ). q / 2 ^ (8 * j)) rest in
    ap (λ (q : ℕ). q % 2 ^ 8) place ∙ digit_of bs j (λ i. below (suc i))

-- the digits that a function of the place gives
small_digits : (f : ℕ → ℕ) → ((j : ℕ) → f j < 256) → (js : List ℕ) (i : ℕ) → get_or (map f js) i 0 < 256
small_digits f small [] i = omega arith
small_digits f small (j ∷ js) zero = small j
small_digits f small (j ∷ js) (suc i) = small_digits f small js i

at_place : (f : ℕ → ℕ) (j : ℕ) → j < 8 → get_or (map f (0 ∷ 1 ∷ 2 ∷ 3 ∷ 4 ∷ 5 ∷ 6 ∷ 7 ∷ [])) j 0 ≡ f j
at_place f zero h = refl
at_place f (suc zero) h = refl
at_place f (suc (suc zero)) h = refl
at_place f (suc (suc (suc zero))) h = refl
at_place f (suc (suc (suc (suc zero)))) h = refl
at_place f (suc (suc (suc (suc (suc zero))))) h = refl
at_place f (suc (suc (suc (suc (suc (suc zero)))))) h = refl
at_place f (suc (suc (suc (suc (suc (suc (suc zero))))))) h = refl
at_place f (suc (suc (suc (suc (suc (suc (suc (suc j)))))))) h = absurd (omega arith)

-- byte j of a merged word
pub merged-byte : (mask old value j : ℕ) → j < 8 → field (merged mask old value) (8 * j) 8 ≡ merged_byte mask old value j
unfolding merged
merged-byte mask old value j within =
    let f : ℕ → ℕ = merged_byte mask old value in
    digit_of (map f (0 ∷ 1 ∷ 2 ∷ 3 ∷ 4 ∷ 5 ∷ 6 ∷ 7 ∷ [])) j (small_digits f (λ k. below_byte (if field mask k 1 == 1 then value else old) (8 * k)) (0 ∷ 1 ∷ 2 ∷ 3 ∷ 4 ∷ 5 ∷ 6 ∷ 7 ∷ []))
    ∙ at_place f j within

-- a merge with what was merged is a merge
twice : (mask old value j : ℕ) → j < 8 → merged_byte mask old (merged mask 0 value) j ≡ merged_byte mask old value j
twice mask old value j within =
    elim (cases_Bool (eqb (field mask j 1) 1)) [
      | inl is ↦ let byte = rw is at (merged-byte mask 0 value j within) in rw is byte
      | inr not ↦ rw not refl
    ]

same_bytes : (f g : ℕ → ℕ) → ((j : ℕ) → j < 8 → f j ≡ g j) → map f (0 ∷ 1 ∷ 2 ∷ 3 ∷ 4 ∷ 5 ∷ 6 ∷ 7 ∷ []) ≡ map g (0 ∷ 1 ∷ 2 ∷ 3 ∷ 4 ∷ 5 ∷ 6 ∷ 7 ∷ [])
same_bytes f g same =
    let s0 = same 0 (omega arith) in
    let s1 = same 1 (omega arith) in
    let s2 = same 2 (omega arith) in
    let s3 = same 3 (omega arith) in
    let s4 = same 4 (omega arith) in
    let s5 = same 5 (omega arith) in
    let s6 = same 6 (omega arith) in
    let s7 = same 7 (omega arith) in
    rw (s0, s1, s2, s3, s4, s5, s6, s7) refl

pub merged-twice : (mask old value : ℕ) → merged mask old (merged mask 0 value) ≡ merged mask old value
merged-twice mask old value =
    let v : ℕ = merged mask 0 value in
    unfold merged in ap from_little_endian (same_bytes (merged_byte mask old v) (merged_byte mask old value) (twice mask old value))
