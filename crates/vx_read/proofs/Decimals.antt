-- What a number's decimal digits begin with, and what `parse` reads.
use Rattle.std.proofs.Common.{◌≡◌, ◌≢◌, ℕ, ◌^◌, ◌<◌, ◌≤◌, List, length, get_or, Result, Ok, Err, MatchResult, decimal, sym, ⊎_elim, arith}
use Rattle.std.specs.Str.Parse.{AllDigits, digits_value, ParsesUnsigned}
use Rattle.std.proofs.lemmas.Str.Parse.{IsNumeralModel, numerals_by_value, tells_digits, digit_at, parse_plain}
use Rattle.std.proofs.lemmas.Fmt.{decimal_is_IsNumeral, decimal_digit, first_decimal, decimal-digits_value, parse-decimal}
use Rattle.std.proofs.lemmas.Bool.{cases_lt}

own : IsNumeralModel (AllDigits 10) (digits_value 10)
own = numerals_by_value (AllDigits 10) tells_digits

-- the first of them is a digit
first_is_digit : (n : ℕ) → n < 2 ^ 64 → (48 ≤ get_or (decimal n) 0 0) × (0 < length (decimal n))
first_is_digit n small =
    let numeral = decimal_is_IsNumeral n small in
    let digit = digit_at (decimal n) 0 numeral.0.1 numeral.0.0 in
    (omega (arith, digit), numeral.0.0)

-- a text that is a number's digits isn't empty, and doesn't begin with a plus
pub not_empty : (text : List ℕ) (n : ℕ) → n < 2 ^ 64 → text ≡ decimal n → 0 < length text
not_empty text n small is = rw is (first_is_digit n small).1

pub begins_with_digit : (text : List ℕ) (n : ℕ) → n < 2 ^ 64 → text ≡ decimal n → 48 ≤ get_or text 0 0
begins_with_digit text n small is = rw is (first_is_digit n small).0

-- where it begins with a zero, it is the zero alone
zero_alone : (n : ℕ) → n < 2 ^ 64 → get_or (decimal n) 0 0 ≡ 48 → length (decimal n) ≡ 1
zero_alone n small zero =
    ⊎_elim (λ (none : n < 1). let e : n ≡ 0 = omega arith in rw (e, decimal_digit 0 (omega arith)))
    (λ (some : 1 ≤ n). absurd (omega (arith, first_decimal n some small)))
    (cases_lt n 1)

pub begins_with_zero : (text : List ℕ) (n : ℕ) → n < 2 ^ 64 → text ≡ decimal n → get_or text 0 0 ≡ 48 → length text ≡ 1
begins_with_zero text n small is zero = rw is (zero_alone n small (rw (← is) zero))

-- what `parse` answers at a text with no plus and no leading zero
pub parsed : {E : Type 0} (text : List ℕ) (answer : Result ℕ E) → ParsesUnsigned 64 10 text answer → get_or text 0 0 ≢ 43 → (get_or text 0 0 ≡ 48 → length text ≡ 1) → MatchResult answer (λ n. text ≡ decimal n) (λ _. (n : ℕ) → n < 2 ^ 64 → text ≡ decimal n → ⊥)
parsed {E} text (Ok x) parses no_plus zero =
    let plain = parse_plain own {E = E} 64 text (Ok x) parses no_plus in
    rw plain.1 (sym (decimal-digits_value own text plain.0.0 plain.0.1 zero plain.0.2))
parsed {E} text (Err e) parses no_plus zero = λ n small is.
    let answer : Result ℕ E = Err e in
    let no : answer ≡ Ok n = parse-decimal 64 n text (Err e) small small is parses in cc
