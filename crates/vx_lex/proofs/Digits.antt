-- Numbers of digits, cut at a number.
use Rattle.std.proofs.Common.{◌≡◌, ℕ, true, length, drop, get_or, ◌+◌, ◌*◌, ◌<◌, ◌≤◌, min, List, [], ◌∷◌, sym, ◌∙◌, ap, arith, inl, inr}
use Rattle.std.proofs.Math.Nat.{min-eq_left, mul-le-mul_left, mul-le-mul_right}
use Rattle.std.proofs.Math.ListN.{drop_of_length-le}
use Rattle.std.proofs.lemmas.Bool.{cases_lt}
use Rattle.std.proofs.lemmas.List.{drop_more, get_or_past}
use Rattle.std.specs.List.{fold}
use Rattle.vx_language.specs.Bytes.{is_digit, is_hex_digit}
use Rattle.vx_language.specs.Numerals.{digit_value}

-- the number of digits behind those whose number is `value`
abbrev pub digits_behind : ℕ → ℕ → List ℕ → ℕ
digits_behind base value digits = fold (λ (value digit : ℕ). value * base + digit_value digit) value digits

-- a number cut at `cap` leads to the same cut number
pub step-cut : (base cap value digit : ℕ) → 1 ≤ base → min (min value cap * base + digit) cap ≡ min (value * base + digit) cap
step-cut base cap value digit h = elim (cases_lt value cap) [
  | inl below ↦ ap (λ v. min (v * base + digit) cap) (min-eq_left (omega (arith, below)))
  | inr above ↦
      let cut : min value cap ≡ cap = omega arith in
      let first : cap * 1 ≤ cap * base = mul-le-mul_left cap h in
      let second : cap * base ≤ value * base = mul-le-mul_right base (omega arith) in
      ap (λ v. min (v * base + digit) cap) cut ∙ omega (arith, first, second)
]

pub digits_behind-cut : (base cap value : ℕ) (digits : List ℕ) → 1 ≤ base → min (digits_behind base (min value cap) digits) cap ≡ min (digits_behind base value digits) cap
digits_behind-cut base cap value [] h = omega arith
digits_behind-cut base cap value (digit ∷ digits) h =
    sym (digits_behind-cut base cap (min value cap * base + digit_value digit) digits h)
    ∙ (ap (λ v. min (digits_behind base v digits) cap) (step-cut base cap value (digit_value digit) h)
    ∙ digits_behind-cut base cap (value * base + digit_value digit) digits h)

-- one digit more, where the number so far is below the cut
pub digits_behind-more : (base cap value next : ℕ) (digits : List ℕ) (i : ℕ) → 1 ≤ base → i < length digits → next ≡ min (value * base + digit_value (get_or digits i 0)) cap → min (digits_behind base next (drop (i + 1) digits)) cap ≡ min (digits_behind base value (drop i digits)) cap
digits_behind-more base cap value next digits i h within is =
    ap (λ v. min (digits_behind base v (drop (i + 1) digits)) cap) is
    ∙ (digits_behind-cut base cap (value * base + digit_value (get_or digits i 0)) (drop (i + 1) digits) h
    ∙ sym (ap (λ ds. min (digits_behind base value ds) cap) (drop_more digits i 0 within)))

pub digits_behind-end : (base value : ℕ) (digits : List ℕ) (i : ℕ) → length digits ≤ i → digits_behind base value (drop i digits) ≡ value
digits_behind-end base value digits i past = ap (digits_behind base value) (drop_of_length-le digits past)

-- a hexadecimal digit isn't past the end
pub hex_digit_is_there : (bytes : List ℕ) (n : ℕ) → is_hex_digit (get_or bytes n 0) ≡ true → n < length bytes
unfolding is_hex_digit is_digit
hex_digit_is_there bytes n is = elim (cases_lt n (length bytes)) [
  | inl within ↦ within
  | inr past ↦
      let none : is_hex_digit 0 ≡ true = sym (ap is_hex_digit (get_or_past bytes n 0 past)) ∙ is in
      absurd cc
]
