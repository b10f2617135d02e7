-- Whole numbers clipped to the range of a width. RISC-V "V" 1.0, sections 3.9, 12.1 and 12.5.
use Rattle.std.specs.Prelude.{ℕ, ◌+◌, ◌-◌, ◌^◌, Bool, true, false, not, if◌then◌else◌, ℤ, pos, neg_ℤ, ◌+ℤ◌, ◌-ℤ◌}
use Rattle.std.specs.Int.{int_min, int_max}
use Rattle.std.specs.Ordering.{int_eq}
use Rattle.vx_base.specs.Numbers.{reduced}
use Rattle.vx_bits.specs.Width.{unsigned_at, signed_at}
use Rattle.vx_bits.specs.declared.saturation.Sat.{Sat}

abbrev pub least_at : ℕ → Bool → ℤ
least_at width is_signed = if is_signed then neg_ℤ (pos (2 ^ (width - 1))) else pos 0

abbrev pub greatest_at : ℕ → Bool → ℤ
greatest_at width is_signed = if is_signed then pos (2 ^ (width - 1) - 1) else pos (2 ^ width - 1)

-- the number of the width's signed or unsigned range that is nearest to v
abbrev pub clipped_at : ℕ → Bool → ℤ → ℤ
clipped_at width is_signed v = int_max (int_min v (greatest_at width is_signed)) (least_at width is_signed)

-- the clipped number's bits, and whether clipping changed it
abbrev pub fitted_at : ℕ → Bool → ℤ → Sat
fitted_at width is_signed v = record {
  value = reduced width (clipped_at width is_signed v);
  sat = not (int_eq (clipped_at width is_signed v) v);
}

abbrev pub unsigned_saturated_sum_at : ℕ → ℕ → ℕ → Sat
unsigned_saturated_sum_at width a b = fitted_at width false (pos (unsigned_at width a + unsigned_at width b))

abbrev pub signed_saturated_sum_at : ℕ → ℕ → ℕ → Sat
signed_saturated_sum_at width a b = fitted_at width true (signed_at width a +ℤ signed_at width b)

abbrev pub unsigned_saturated_difference_at : ℕ → ℕ → ℕ → Sat
unsigned_saturated_difference_at width a b = fitted_at width false (pos (unsigned_at width a) -ℤ pos (unsigned_at width b))

abbrev pub signed_saturated_difference_at : ℕ → ℕ → ℕ → Sat
signed_saturated_difference_at width a b = fitted_at width true (signed_at width a -ℤ signed_at width b)
