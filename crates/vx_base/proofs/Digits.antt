-- Hexadecimal digits, one more at a time.
use Rattle.std.proofs.Common.{◌≡◌, ℕ, zero, suc, ◌-◌, ◌/◌, ◌%◌, ◌<◌, ◌≤◌, [], ◌∷◌, ◌++◌, refl, ap, arith}
use Rattle.vx_base.specs.Hex.{hex_digit, hex_digits}

pub hex_digits-more : (count n : ℕ) → 0 < count → hex_digits (count - 1) (n / 16) ++ hex_digit (n % 16) ∷ [] ≡ hex_digits count n
unfolding hex_digits
hex_digits-more zero n h = absurd (omega arith)
hex_digits-more (suc k) n h = let e : suc k - 1 ≡ k = omega arith in ap (λ (j : ℕ). hex_digits j (n / 16) ++ hex_digit (n % 16) ∷ []) e

pub hex_digits-none : (count n : ℕ) → count ≤ 0 → hex_digits count n ≡ []
unfolding hex_digits
hex_digits-none zero n h = refl
hex_digits-none (suc k) n h = absurd (omega arith)
