-- Numbers out of every range.
use Rattle.std.proofs.Common.{◌≡◌, ℕ, ◌^◌, ◌<◌, ◌≤ℤ◌, true, false, cond, ◌&&◌, ℤ, pos, neg_ℤ, Some, None, arith, refl, ◌∙◌}
use Rattle.std.specs.Prelude.{int_le}
use Rattle.std.proofs.lemmas.Bool.{false≢true}
use Rattle.std.proofs.lemmas.Int.{ints}
use Rattle.vx_language.specs.Numerals.{is_number_value}
use Rattle.vx_language.specs.Slots.{is_offset}
use Rattle.vx_statement.specs.Ranges.{width_of}
use Rattle.vx_statement.specs.declared.range.Reach.{Reach}
use Rattle.vx_statement.specs.declared.range.Reach.TheVariants.{Branch, Jump}

not_number : (value : ℤ) → None ≡ cond (is_number_value value) (Some value) None → is_number_value value ≡ false
not_number value e = elim (is_number_value value) as (λ b. None ≡ cond b (Some value) None → b ≡ false) [ true ↦ λ h. cc | false ↦ λ h. refl ] e

pub not_within : (least : ℤ) (greatest : ℕ) (value : ℤ) → neg_ℤ (pos (2 ^ 63)) ≤ℤ least → greatest < 2 ^ 64 → None ≡ cond (is_number_value value) (Some value) None → false ≡ (int_le least value && int_le value (pos greatest))
unfolding is_number_value
not_within least greatest value low high e = let h = not_number value e in grind (arith, ints)

pub no_offset : (reach : Reach) (value : ℤ) → None ≡ cond (is_number_value value) (Some value) None → false ≡ is_offset (width_of reach) value
unfolding is_number_value is_offset
no_offset Branch value e = let h = not_number value e in grind (arith, ints)
no_offset Jump value e = let h = not_number value e in grind (arith, ints)

pub within_is_some : (least : ℤ) (greatest : ℕ) (value : ℤ) → neg_ℤ (pos (2 ^ 63)) ≤ℤ least → greatest < 2 ^ 64 → None ≡ cond (is_number_value value) (Some value) None → (int_le least value && int_le value (pos greatest)) ≡ true → ⊥
within_is_some least greatest value low high e within = false≢true (not_within least greatest value low high e ∙ within)
