-- The rounding of fixed-point numbers. RISC-V "V" 1.0, section 3.8.
use Rattle.std.specs.Prelude.{ℕ, zero, suc, ◌+◌, ◌==◌, ◌&&◌, ◌||◌, not, Bool, false, if◌then◌else◌, ℤ, pos, ◌+ℤ◌}
use Rattle.std.specs.Int.{int_shr}
use Rattle.vx_base.specs.Numbers.{reduced, field}

-- the bits of v, in two's complement, from `low` on, `count` of them
abbrev pub bits_of : ℤ → ℕ → ℕ → ℕ
bits_of v low count = field (reduced (low + count) v) low count

-- bit k of v is 1
abbrev pub has_bit : ℤ → ℕ → Bool
has_bit v k = bits_of v k 1 == 1

-- whether a shift of v right by so many bits is rounded up. The modes: 0 to nearest, ties up; 1 to nearest, ties to even;
-- 2 down; 3 to odd
abbrev pub rounds_up : ℤ → ℕ → ℕ → Bool
rounds_up v zero mode = false
rounds_up v (suc half) mode =
    if mode == 0 then has_bit v half else
    (if mode == 1 then (has_bit v half && (not (bits_of v 0 half == 0) || has_bit v (suc half))) else
    (if mode == 2 then false else
    (not (has_bit v (suc half)) && not (bits_of v 0 (suc half) == 0))))

-- v divided by 2 ^ count and rounded in the mode
abbrev pub rounded : ℤ → ℕ → ℕ → ℤ
rounded v count mode = int_shr v count +ℤ pos (if rounds_up v count mode then 1 else 0)
