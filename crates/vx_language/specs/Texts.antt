-- Texts in a source: between two double quotes stand other bytes than newlines, where a backslash escapes the byte behind it.
-- This project's own; syntax after the GNU assembler's. In all of these `escaped` says that the byte before is a backslash
-- that escapes.
use Rattle.std.specs.Prelude.{ℕ, ◌+◌, Bool, true, false, not, ◌==◌, ◌&&◌, ◌||◌, List, [], ◌∷◌, ◌++◌, if◌then◌else◌}
use Rattle.vx_language.specs.Bytes.{newline, quote, backslash}

-- a byte closes the text; it escapes the byte behind it
abbrev pub closes : Bool → ℕ → Bool
closes escaped byte = not escaped && byte == quote

abbrev pub escapes : Bool → ℕ → Bool
escapes escaped byte = not escaped && byte == backslash

-- how many of the bytes behind a first quote are of the text: up to the closing quote and with it, or up to the line's end
unfoldable pub text_length : Bool → List ℕ → ℕ
text_length escaped [] = 0
text_length escaped (byte ∷ rest) =
    if byte == newline then 0
    else if closes escaped byte then 1
    else 1 + text_length (escapes escaped byte) rest

-- the escapes: `\n`, `\\` and `\"`
unfoldable pub is_escape : ℕ → Bool
is_escape byte = byte == 110 || (byte == backslash || byte == quote)

-- a byte breaks the text: a newline, or another escape
abbrev pub breaks : Bool → ℕ → Bool
breaks escaped byte = byte == newline || (escaped && not (is_escape byte))

-- the bytes behind a first quote have a closing quote, and none breaks the text before it
unfoldable pub is_whole_text : Bool → List ℕ → Bool
is_whole_text escaped [] = false
is_whole_text escaped (byte ∷ rest) =
    if breaks escaped byte then false
    else if closes escaped byte then true
    else is_whole_text (escapes escaped byte) rest

-- what a byte of a text means: behind a backslash its escape, and before one nothing yet
unfoldable pub meant : Bool → ℕ → List ℕ
meant true byte = (if byte == 110 then newline else byte) ∷ []
meant false byte = if byte == backslash then [] else byte ∷ []

-- the bytes that a text means, from behind its first quote
unfoldable pub text_bytes : Bool → List ℕ → List ℕ
text_bytes escaped [] = []
text_bytes escaped (byte ∷ rest) =
    if closes escaped byte then [] else meant escaped byte ++ text_bytes (escapes escaped byte) rest
