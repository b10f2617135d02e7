-- The bytes of an assembler's source. This project's own.
use Rattle.std.specs.Prelude.{ℕ, Bool, ◌==◌, ◌&&◌, ◌||◌, nat_le, nat_eq, codes, List}
use Rattle.std.specs.List.{list_any}

-- the byte is one of these
abbrev pub is_among : List ℕ → ℕ → Bool
is_among bytes byte = list_any (nat_eq byte) bytes

abbrev pub is_between : ℕ → ℕ → ℕ → Bool
is_between least greatest byte = nat_le least byte && nat_le byte greatest

-- the bytes that have names here
abbrev pub tab : ℕ
tab = 9

abbrev pub newline : ℕ
newline = 10

abbrev pub space : ℕ
space = 32

abbrev pub quote : ℕ
quote = 34

abbrev pub hash : ℕ
hash = 35

abbrev pub minus : ℕ
minus = 45

abbrev pub backslash : ℕ
backslash = 92

-- a source has newlines, tabs, spaces and the printable bytes of ASCII
unfoldable pub is_source_byte : ℕ → Bool
is_source_byte byte = byte == newline || (byte == tab || is_between space 126 byte)

-- 0 to 9
unfoldable pub is_digit : ℕ → Bool
is_digit byte = is_between 48 57 byte

-- 0 to 9, A to F and a to f
unfoldable pub is_hex_digit : ℕ → Bool
is_hex_digit byte = is_digit byte || (is_between 65 70 byte || is_between 97 102 byte)

-- A to Z, a to z, `_` and `.`: a name begins with one
unfoldable pub begins_name : ℕ → Bool
begins_name byte = is_between 65 90 byte || (is_between 97 122 byte || is_among (codes "_.") byte)

-- the same and 0 to 9: a name goes on with these
unfoldable pub is_name_byte : ℕ → Bool
is_name_byte byte = begins_name byte || is_digit byte

-- the marks, each a token of its own
unfoldable pub is_mark : ℕ → Bool
is_mark byte = is_among (codes ",():") byte
