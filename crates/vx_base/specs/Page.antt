-- Pages of 4,096 bytes, kept as 512 words of 8 bytes. RISC-V Privileged 1.12, section 4.4 (Sv39).
use Rattle.std.specs.Prelude.{ℕ, ◌*◌, ◌/◌, ◌%◌, List, slice_index}
use Rattle.vx_base.specs.Numbers.{field}

-- byte j of a page of these words: byte j % 8 of word j / 8, least first
abbrev pub byte_of_words : List ℕ → ℕ → ℕ
byte_of_words words j = field (slice_index words (j / 8)) (8 * (j % 8)) 8
