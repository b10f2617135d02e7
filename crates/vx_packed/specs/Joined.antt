-- Elements of one width that stand side by side in a word, the first in its lowest bits: RISC-V "V" 1.0, section 4.
use Rattle.std.specs.Prelude.{ℕ, zero, suc, ◌+◌, ◌*◌, ◌%◌, ◌^◌, Bool, false, ◌||◌}
use Rattle.vx_base.specs.Numbers.{field}

-- element k of a word
abbrev pub lane : (width word k : ℕ) → ℕ
lane width word k = field word (k * width) width

-- the word with so many elements, element k of which is f k, reduced to the width
unfoldable pub joined : (width count : ℕ) → (f : ℕ → ℕ) → ℕ
joined width zero f = 0
joined width (suc n) f = joined width n f + f n % 2 ^ width * 2 ^ (n * width)

-- a condition holds somewhere below n
unfoldable pub some_below : (n : ℕ) → (ℕ → Bool) → Bool
some_below zero holds = false
some_below (suc n) holds = some_below n holds || holds n
