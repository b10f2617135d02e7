-- The vector registers and their elements: RISC-V "V" 1.0, sections 3.1 and 4. The 32 registers of VLEN bits are one list
-- of words of 64 bits, those of a register one behind another; elements of any width, masks' bits too (width 1), are
-- fields of words.
use Rattle.std.specs.Prelude.{ℕ, zero, suc, ◌+◌, ◌*◌, ◌/◌, ◌%◌, ◌^◌, ◌≤◌, ◌≢◌, ◌⊎◌, Bool, ◌==◌, ◌||◌, List, [], ◌∷◌, length, replicate, slice_index, slice_set}
use Rattle.std.specs.List.{splice}
use Rattle.vx_base.specs.Numbers.{field}
use Rattle.vx_base.specs.Page.{byte_of_words}

-- the words of a register, and of all
abbrev pub words_of_register : (vlen : ℕ) → ℕ
words_of_register vlen = vlen / 64

abbrev pub words_of_all : (vlen : ℕ) → ℕ
words_of_all vlen = 32 * words_of_register vlen

-- registers that are 0
unfoldable pub no_words : (vlen : ℕ) → List ℕ
no_words vlen = replicate (words_of_all vlen) 0

-- word w, counted from the first of a register on
abbrev pub place_of : (vlen register w : ℕ) → ℕ
place_of vlen register w = register * words_of_register vlen + w

abbrev pub word_at : (vlen : ℕ) → (words : List ℕ) → (register w : ℕ) → ℕ
word_at vlen words register w = slice_index words (place_of vlen register w)

-- in which word behind a register's first an element lies, and from which bit on
abbrev pub element_word : (width index : ℕ) → ℕ
element_word width index = index * width / 64

abbrev pub element_bit : (width index : ℕ) → ℕ
element_bit width index = index * width % 64

-- an element of a width, counted from the first of a register on
abbrev pub element : (vlen : ℕ) → (words : List ℕ) → (register width index : ℕ) → ℕ
element vlen words register width index = field (word_at vlen words register (element_word width index)) (element_bit width index) width

-- n with the bits from `low` on, `count` of them, those of a value
abbrev pub with_field : (n low count value : ℕ) → ℕ
with_field n low count value = n / 2 ^ (low + count) * 2 ^ (low + count) + value % 2 ^ count * 2 ^ low + n % 2 ^ low

-- the words with a word set
abbrev pub with_word : (vlen : ℕ) → (words : List ℕ) → (register w value : ℕ) → List ℕ
with_word vlen words register w value = slice_set words (place_of vlen register w) value

-- the words with values put one behind another, from word w on
abbrev pub with_words : (vlen : ℕ) → (words : List ℕ) → (register w : ℕ) → (values : List ℕ) → List ℕ
with_words vlen words register w values =
    let place = place_of vlen register w in
    splice words place (place + length values) values

-- the words with an element set
abbrev pub with_element : (vlen : ℕ) → (words : List ℕ) → (register width index value : ℕ) → List ℕ
with_element vlen words register width index value =
    let w = element_word width index in
    with_word vlen words register w (with_field (word_at vlen words register w) (element_bit width index) width value)

-- two elements share no bit: they lie in different words, or one ends in their word before the other begins
abbrev pub AreApart : (vlen : ℕ) → (register width index other_register other_width other_index : ℕ) → Type 0
AreApart vlen register width index other_register other_width other_index =
    (place_of vlen register (element_word width index) ≢ place_of vlen other_register (element_word other_width other_index))
    ⊎ (element_bit width index + width ≤ element_bit other_width other_index)
    ⊎ (element_bit other_width other_index + other_width ≤ element_bit width index)

-- the widths of elements: those that are whole bytes, and a mask's
abbrev pub is_byte_width : ℕ → Bool
is_byte_width width = width == 8 || width == 16 || width == 32 || width == 64

abbrev pub is_element_width : ℕ → Bool
is_element_width width = width == 1 || is_byte_width width

-- byte j, counted from the first of a register on, and so many bytes from j on; a register has VLEN / 8 of them
abbrev pub byte_at : (vlen : ℕ) → (words : List ℕ) → (register j : ℕ) → ℕ
byte_at vlen words register j = byte_of_words words (register * (vlen / 8) + j)

abbrev pub bytes_at : (vlen : ℕ) → (words : List ℕ) → (register j count : ℕ) → List ℕ
bytes_at vlen words register j zero = []
bytes_at vlen words register j (suc count) = byte_at vlen words register j ∷ bytes_at vlen words register (j + 1) count
