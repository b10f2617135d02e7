-- Numbers in a source: behind an optional `-` stand one or more decimal digits, or `0x` and one or more hexadecimal digits of
-- either letter case. This project's own; syntax after the GNU assembler's.
use Rattle.std.specs.Prelude.{ℕ, ◌+◌, ◌-◌, ◌*◌, ◌^◌, Bool, ◌==◌, ◌&&◌, nat_lt, ℤ, pos, neg_ℤ, int_le, List, drop, fold, slice_index, if◌then◌else◌}
use Rattle.std.specs.List.{prefix_len}
use Rattle.vx_language.specs.Bytes.{minus, is_digit, is_hex_digit}

-- the bytes begin with `0x` and a hexadecimal digit
unfoldable pub is_hexadecimal : List ℕ → Bool
is_hexadecimal bytes = slice_index bytes 0 == 48 && (slice_index bytes 1 == 120 && is_hex_digit (slice_index bytes 2))

-- how many of the bytes, from the first on, are a number without sign; 0 where they don't begin with one
unfoldable pub digits_length : List ℕ → ℕ
digits_length bytes = if is_hexadecimal bytes then 2 + prefix_len is_hex_digit (drop 2 bytes) else prefix_len is_digit bytes

-- the value of a digit, decimal or hexadecimal, in either letter case
unfoldable pub digit_value : ℕ → ℕ
digit_value byte = if nat_lt byte 58 then byte - 48 else if nat_lt byte 71 then byte - 55 else byte - 87

-- the number whose digits in a base these are, the highest first
unfoldable pub from_digits : ℕ → List ℕ → ℕ
from_digits base digits = fold (λ value digit. value * base + digit_value digit) 0 digits

unfoldable pub magnitude : List ℕ → ℕ
magnitude text = if is_hexadecimal text then from_digits 16 (drop 2 text) else from_digits 10 text

-- the value of a number of this text
unfoldable pub number_value : List ℕ → ℤ
number_value text = if slice_index text 0 == minus then neg_ℤ (pos (magnitude (drop 1 text))) else pos (magnitude text)

-- a number is from -2 ^ 63 to 2 ^ 64 - 1
unfoldable pub is_number_value : ℤ → Bool
is_number_value value = int_le (neg_ℤ (pos (2 ^ 63))) value && int_le value (pos (2 ^ 64 - 1))
