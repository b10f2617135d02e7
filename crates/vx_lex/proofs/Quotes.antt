-- Texts, one byte after the other.
use Rattle.std.proofs.Common.{◌≡◌, ℕ, true, false, ◌+◌, ◌<◌, List, [], ◌++◌, length, drop, get_or, eqb, ◌∙◌, ap, refl}
use Rattle.std.proofs.lemmas.List.{drop_more}
use Rattle.std.specs.Prelude.{Bool}
use Rattle.vx_language.specs.Bytes.{newline}
use Rattle.vx_language.specs.Texts.{closes, escapes, text_length, breaks, is_whole_text, meant, text_bytes}

-- how far a text goes on from a byte of the bytes
pub text_length-newline : (escaped : Bool) (bytes : List ℕ) (i : ℕ) → i < length bytes → eqb (get_or bytes i 0) newline ≡ true → text_length escaped (drop i bytes) ≡ 0
unfolding text_length
text_length-newline escaped bytes i within is = ap (text_length escaped) (drop_more bytes i 0 within) ∙ rw is refl

pub text_length-closed : (escaped : Bool) (bytes : List ℕ) (i : ℕ) → i < length bytes → eqb (get_or bytes i 0) newline ≡ false → closes escaped (get_or bytes i 0) ≡ true → text_length escaped (drop i bytes) ≡ 1
unfolding text_length
text_length-closed escaped bytes i within line is = ap (text_length escaped) (drop_more bytes i 0 within) ∙ rw line (rw is refl)

pub text_length-more : (escaped : Bool) (bytes : List ℕ) (i : ℕ) → i < length bytes → eqb (get_or bytes i 0) newline ≡ false → closes escaped (get_or bytes i 0) ≡ false → text_length escaped (drop i bytes) ≡ 1 + text_length (escapes escaped (get_or bytes i 0)) (drop (i + 1) bytes)
unfolding text_length
text_length-more escaped bytes i within line is = ap (text_length escaped) (drop_more bytes i 0 within) ∙ rw line (rw is refl)

-- whether a text is whole from a byte on
pub is_whole_text-broken : (escaped : Bool) (bytes : List ℕ) (i : ℕ) → i < length bytes → breaks escaped (get_or bytes i 0) ≡ true → is_whole_text escaped (drop i bytes) ≡ false
unfolding is_whole_text
is_whole_text-broken escaped bytes i within is = ap (is_whole_text escaped) (drop_more bytes i 0 within) ∙ rw is refl

pub is_whole_text-closed : (escaped : Bool) (bytes : List ℕ) (i : ℕ) → i < length bytes → breaks escaped (get_or bytes i 0) ≡ false → closes escaped (get_or bytes i 0) ≡ true → is_whole_text escaped (drop i bytes) ≡ true
unfolding is_whole_text
is_whole_text-closed escaped bytes i within break is = ap (is_whole_text escaped) (drop_more bytes i 0 within) ∙ rw break (rw is refl)

pub is_whole_text-more : (escaped : Bool) (bytes : List ℕ) (i : ℕ) → i < length bytes → breaks escaped (get_or bytes i 0) ≡ false → closes escaped (get_or bytes i 0) ≡ false → is_whole_text escaped (drop i bytes) ≡ is_whole_text (escapes escaped (get_or bytes i 0)) (drop (i + 1) bytes)
unfolding is_whole_text
is_whole_text-more escaped bytes i within break is = ap (is_whole_text escaped) (drop_more bytes i 0 within) ∙ rw break (rw is refl)

-- what a text means from a byte on
pub text_bytes-closed : (escaped : Bool) (bytes : List ℕ) (i : ℕ) → i < length bytes → closes escaped (get_or bytes i 0) ≡ true → text_bytes escaped (drop i bytes) ≡ []
unfolding text_bytes
text_bytes-closed escaped bytes i within is = ap (text_bytes escaped) (drop_more bytes i 0 within) ∙ rw is refl

pub text_bytes-more : (escaped : Bool) (bytes : List ℕ) (i : ℕ) → i < length bytes → closes escaped (get_or bytes i 0) ≡ false → text_bytes escaped (drop i bytes) ≡ meant escaped (get_or bytes i 0) ++ text_bytes (escapes escaped (get_or bytes i 0)) (drop (i + 1) bytes)
unfolding text_bytes
text_bytes-more escaped bytes i within is = ap (text_bytes escaped) (drop_more bytes i 0 within) ∙ rw is refl
