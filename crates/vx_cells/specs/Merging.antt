-- Words of which some bytes are written. This project's own.
use Rattle.std.specs.Prelude.{ℕ, ◌*◌, ◌==◌, [], ◌∷◌, map, if◌then◌else◌}
use Rattle.vx_base.specs.Numbers.{field, from_little_endian}

-- byte j of a value where bit j of a mask is set, else of the old word
abbrev pub merged_byte : (mask old value j : ℕ) → ℕ
merged_byte mask old value j = field (if field mask j 1 == 1 then value else old) (8 * j) 8

-- the old word with those bytes of a value that a mask names
unfoldable pub merged : (mask old value : ℕ) → ℕ
merged mask old value = from_little_endian (map (merged_byte mask old value) (0 ∷ 1 ∷ 2 ∷ 3 ∷ 4 ∷ 5 ∷ 6 ∷ 7 ∷ []))
