-- Names, marks and numbers of a line: each is one token, and a number's value is the number.
use Rattle.std.proofs.Common.{◌≡◌, ℕ, suc, ◌+◌, ◌-◌, ◌*◌, ◌/◌, ◌%◌, ◌^◌, ◌<◌, ◌≤◌, arith, Bool, true, false, not, eqb, ◌&&◌, ℤ, pos, negsuc, neg_ℤ, ◌≤ℤ◌, List, [], ◌∷◌, ◌++◌, length, get_or, decimal, inl, inr, refl, sym, ap, ◌∙◌}
use Rattle.std.specs.Prelude.{◌==◌, nat_le, codes, int_le, unsigned_abs}
use Rattle.std.specs.Fmt.{signed_decimal}
use Rattle.std.specs.List.{list_all, prefix_len}
use Rattle.std.proofs.lemmas.Bool.{and_parts, and_from, or_parts, not-true, not_from_false, false≢true, leb-true, eqb-true, ne_eqb, cases_lt, agree_below, agree_below_at}
use Rattle.std.proofs.lemmas.Fmt.{decimal_by_steps, decimal_digit, decimal_nonempty, first_decimal}
use Rattle.std.proofs.lemmas.Int.{ints}
use Rattle.std.proofs.lemmas.List.{append-nil, get_or_append_left}
use Rattle.std.proofs.lemmas.List.Folds.{list_all-append}
use Rattle.std.proofs.lemmas.List.Sums.{fold-append}
use Rattle.vx_language.specs.Bytes.{minus, is_source_byte, is_digit, is_hex_digit, begins_name, is_name_byte, is_mark}
use Rattle.vx_language.specs.Lexemes.{beginning, piece_length, kind_of, number_kind}
use Rattle.vx_language.specs.Numerals.{digits_length, digit_value, from_digits, is_hexadecimal, magnitude, number_value, is_number_value}
use Rattle.vx_language.specs.declared.token.Beginning.{Beginning}
use Rattle.vx_language.specs.declared.token.Beginning.TheVariants as begins
use Rattle.vx_language.specs.declared.token.PieceKind.TheVariants.{Good, Blank}
use Rattle.vx_language.specs.declared.token.TokenKind.TheVariants as token
use Rattle.vx_lines.proofs.Cuts.{Cut, IsCut, first-cut}

abbrev pub name : List ℕ → Cut
name text = record { kind = Good token.Name; text = text }

abbrev pub number : List ℕ → Cut
number text = record { kind = Good token.Number; text = text }

abbrev pub mark : List ℕ → Cut
mark text = record { kind = Good token.Mark; text = text }

abbrev pub gap : Cut
gap = record { kind = Blank; text = codes " " }

-- a test that holds below a number
pub holds-below : (q : ℕ → Bool) (n k : ℕ) → agree_below q (λ (i : ℕ). true) n ≡ true → k < n → q k ≡ true
holds-below q n k all below = agree_below_at q (λ (i : ℕ). true) n k all below

-- bytes at which a run of passing bytes ends
abbrev pub stops : (ℕ → Bool) → List ℕ → Bool
stops p [] = true
stops p (byte ∷ rest) = not (p byte)

pub prefix-all : (p : ℕ → Bool) (text rest : List ℕ) → list_all p text ≡ true → stops p rest ≡ true → prefix_len p (text ++ rest) ≡ length text
prefix-all p [] [] all stop = refl
prefix-all p [] (byte ∷ rest) all stop = rw (not-true (p byte) stop) refl
prefix-all p (byte ∷ text) rest all stop =
    let parts = and_parts (p byte) (list_all p text) all in
    let more : prefix_len p (text ++ rest) ≡ length text = prefix-all p text rest parts.1 stop in
    rw parts.0 (omega (arith, more))

-- names
abbrev is_word : Beginning → Bool
is_word begins.Word = true
is_word other = false

word-is : (b : Beginning) → is_word b ≡ true → b ≡ begins.Word
word-is begins.Word e = refl
word-is other e = absurd (false≢true e)

unfoldable pub is_name : List ℕ → Bool
is_name [] = false
is_name (byte ∷ more) = is_word (beginning byte) && (list_all is_name_byte (byte ∷ more) && list_all is_source_byte (byte ∷ more))

pub name-cut : (text rest : List ℕ) → is_name text ≡ true → stops is_name_byte rest ≡ true → IsCut (name text) rest
unfolding is_name piece_length kind_of
name-cut [] rest is stop = absurd (false≢true is)
name-cut (byte ∷ more) rest is stop =
    let text : List ℕ = byte ∷ more in
    let parts = and_parts (is_word (beginning byte)) (list_all is_name_byte text && list_all is_source_byte text) is in
    let alls = and_parts (list_all is_name_byte text) (list_all is_source_byte text) parts.1 in
    let first : beginning byte ≡ begins.Word = word-is (beginning byte) parts.0 in
    record {
      piece = first-cut (Good token.Name) byte more rest (ap (λ f. piece_length f (byte ∷ (more ++ rest))) first ∙ prefix-all is_name_byte text rest alls.0 stop) (ap (λ f. kind_of f text) first);
      bytes = alls.1;
      good = refl;
      no_colon = refl;
      no_newline = refl;
    }

-- marks and the space
pub comma-cut : (rest : List ℕ) → IsCut (mark (codes ",")) rest
unfolding beginning piece_length kind_of is_source_byte is_mark
comma-cut rest = record { piece = first-cut (Good token.Mark) 44 [] rest refl refl; bytes = refl; good = refl; no_colon = refl; no_newline = refl }

pub open-cut : (rest : List ℕ) → IsCut (mark (codes "(")) rest
unfolding beginning piece_length kind_of is_source_byte is_mark
open-cut rest = record { piece = first-cut (Good token.Mark) 40 [] rest refl refl; bytes = refl; good = refl; no_colon = refl; no_newline = refl }

pub close-cut : (rest : List ℕ) → IsCut (mark (codes ")")) rest
unfolding beginning piece_length kind_of is_source_byte is_mark
close-cut rest = record { piece = first-cut (Good token.Mark) 41 [] rest refl refl; bytes = refl; good = refl; no_colon = refl; no_newline = refl }

pub gap-cut : (rest : List ℕ) → IsCut gap rest
unfolding beginning piece_length kind_of is_source_byte is_mark
gap-cut rest = record { piece = first-cut Blank 32 [] rest refl refl; bytes = refl; good = refl; no_colon = refl; no_newline = refl }

-- digits
abbrev is_digits : Beginning → Bool
is_digits begins.Digits = true
is_digits other = false

digits-is : (b : Beginning) → is_digits b ≡ true → b ≡ begins.Digits
digits-is begins.Digits e = refl
digits-is other e = absurd (false≢true e)

digit_test : ℕ → Bool
digit_test d = is_digit (48 + d) && (is_source_byte (48 + d) && (is_digits (beginning (48 + d)) && digit_value (48 + d) == d))

digit-passes : (d : ℕ) → d < 10 → digit_test d ≡ true
unfolding digit_test is_digit is_source_byte beginning digit_value is_mark begins_name
digit-passes d below = holds-below digit_test 10 d refl below

record IsDigit (d : ℕ) : Type 0 where
  digit : is_digit (48 + d) ≡ true
  byte : is_source_byte (48 + d) ≡ true
  first : beginning (48 + d) ≡ begins.Digits
  value : digit_value (48 + d) ≡ d

digit-is : (d : ℕ) → d < 10 → IsDigit d
unfolding digit_test
digit-is d below =
    let p = and_parts (is_digit (48 + d)) _ (digit-passes d below) in
    let q = and_parts (is_source_byte (48 + d)) _ p.1 in
    let r = and_parts (is_digits (beginning (48 + d))) _ q.1 in
    record { digit = p.0; byte = q.0; first = digits-is (beginning (48 + d)) r.0; value = eqb-true (digit_value (48 + d)) d r.1 }

-- a decimal number's text
record IsDecimal (n : ℕ) (text : List ℕ) : Type 0 where
  digits : list_all is_digit text ≡ true
  bytes : list_all is_source_byte text ≡ true
  value : from_digits 10 text ≡ n

one-digit : (n : ℕ) → n < 10 → IsDecimal n ((48 + n) ∷ [])
unfolding from_digits
one-digit n below =
    let is = digit-is n below in
    let value : digit_value (48 + n) ≡ n = is.value in
    record { digits = rw is.digit refl; bytes = rw is.byte refl; value = omega (arith, value) }

more-digits : (n : ℕ) (ds : List ℕ) → 10 ≤ n → IsDecimal (n / 10) ds → IsDecimal n (ds ++ ((48 + n % 10) ∷ []))
unfolding from_digits
more-digits n ds some front =
    let last : n % 10 < 10 = omega arith in
    let is = digit-is (n % 10) last in
    let value : digit_value (48 + n % 10) ≡ n % 10 = is.value in
    let before : from_digits 10 ds ≡ n / 10 = front.value in
    let step : ℕ → ℕ → ℕ = λ v digit. v * 10 + digit_value digit in
    record {
      digits = list_all-append is_digit ds ((48 + n % 10) ∷ []) ∙ and_from (list_all is_digit ds) (is_digit (48 + n % 10) && true) front.digits (rw is.digit refl);
      bytes = list_all-append is_source_byte ds ((48 + n % 10) ∷ []) ∙ and_from (list_all is_source_byte ds) (is_source_byte (48 + n % 10) && true) front.bytes (rw is.byte refl);
      value = fold-append step 0 ds ((48 + n % 10) ∷ []) ∙ omega (arith, value, before);
    }

decimal-is : (n : ℕ) → n < 2 ^ 64 → IsDecimal n (decimal n)
decimal-is n small = decimal_by_steps IsDecimal one-digit more-digits n small

-- it doesn't begin as a hexadecimal one
stop-second : (rest : List ℕ) → stops is_name_byte rest ≡ true → eqb (get_or rest 0 0) 120 ≡ false
unfolding is_name_byte begins_name
stop-second [] stop = refl
stop-second (byte ∷ rest) stop = ne_eqb byte 120 (λ e. false≢true (sym (not-true (is_name_byte byte) stop) ∙ ap is_name_byte e))

and-first : (x y : Bool) → x ≡ false → (x && y) ≡ false
and-first x y e = ap (λ b. b && y) e

and-second : (x y z : Bool) → y ≡ false → (x && (y && z)) ≡ false
and-second true y z e = ap (λ b. b && z) e
and-second false y z e = refl

no-hex : (n : ℕ) (rest : List ℕ) → n < 2 ^ 64 → stops is_name_byte rest ≡ true → is_hexadecimal (decimal n ++ rest) ≡ false
unfolding is_hexadecimal
no-hex n rest small stop = elim (cases_lt n 10) [
  | inl below ↦
      ap (λ (ds : List ℕ). is_hexadecimal (ds ++ rest)) (decimal_digit n below)
      ∙ and-second (eqb (48 + n) 48) (eqb (get_or rest 0 0) 120) (is_hex_digit (get_or rest 1 0)) (stop-second rest stop)
  | inr above ↦
      let first : 48 < get_or (decimal n) 0 0 = first_decimal n (omega (arith, above)) small in
      let same : get_or (decimal n ++ rest) 0 0 ≡ get_or (decimal n) 0 0 = get_or_append_left (decimal n) rest 0 0 (decimal_nonempty n small) in
      and-first (eqb (get_or (decimal n ++ rest) 0 0) 48) _ (ne_eqb (get_or (decimal n ++ rest) 0 0) 48 (λ e. let e : get_or (decimal n ++ rest) 0 0 ≡ 48 = e in omega (arith, e, same, first)))
]

no-hex-alone : (n : ℕ) → n < 2 ^ 64 → is_hexadecimal (decimal n) ≡ false
no-hex-alone n small = ap is_hexadecimal (sym (append-nil (decimal n))) ∙ no-hex n [] small refl

digit-stops : (rest : List ℕ) → stops is_name_byte rest ≡ true → stops is_digit rest ≡ true
unfolding is_name_byte
digit-stops [] stop = refl
digit-stops (byte ∷ rest) stop = not_from_false (is_digit byte) (or_parts (begins_name byte) (is_digit byte) (not-true (is_name_byte byte) stop)).1

magnitude-is : (n : ℕ) → n < 2 ^ 64 → magnitude (decimal n) ≡ n
unfolding magnitude
magnitude-is n small = rw (no-hex-alone n small) (decimal-is n small).value

digits-all : (n : ℕ) (rest : List ℕ) → n < 2 ^ 64 → stops is_name_byte rest ≡ true → digits_length (decimal n ++ rest) ≡ length (decimal n)
unfolding digits_length
digits-all n rest small stop = rw (no-hex n rest small stop) (prefix-all is_digit (decimal n) rest (decimal-is n small).digits (digit-stops rest stop))

-- the first digit of a text of digits
digit-byte : (byte : ℕ) → is_digit byte ≡ true → (beginning byte ≡ begins.Digits) × (eqb byte minus ≡ false)
unfolding is_digit
digit-byte byte is =
    let parts = and_parts (nat_le 48 byte) (nat_le byte 57) is in
    let low : 48 ≤ byte = leb-true 48 byte parts.0 in
    let high : byte ≤ 57 = leb-true byte 57 parts.1 in
    let same : 48 + (byte - 48) ≡ byte = omega (arith, low) in
    let digit = digit-is (byte - 48) (omega (arith, low, high)) in
    (ap beginning (sym same) ∙ digit.first, ne_eqb byte minus (λ e. let e : byte ≡ 45 = e in omega (arith, e, low)))

first-digit : (n : ℕ) (text : List ℕ) → IsDecimal n text → 0 < length text → eqb (get_or text 0 0) minus ≡ false
first-digit n [] is some = absurd (omega (arith, some))
first-digit n (byte ∷ more) is some = (digit-byte byte (and_parts (is_digit byte) (list_all is_digit more) is.digits).0).1

positive-value : (n : ℕ) → n < 2 ^ 64 → number_value (decimal n) ≡ pos n
unfolding number_value
positive-value n small = rw (first-digit n (decimal n) (decimal-is n small) (decimal_nonempty n small)) (ap pos (magnitude-is n small))

wide : (n : ℕ) → n < 2 ^ 33 → n < 2 ^ 64
wide n small = omega (arith, small)

pub le-to : (a b : ℤ) → a ≤ℤ b → int_le a b ≡ true
le-to a b e = grind (arith, ints)

pub in-range : (z : ℤ) → unsigned_abs z < 2 ^ 33 → is_number_value z ≡ true
unfolding is_number_value
in-range (pos n) small = and_from _ _ (le-to (neg_ℤ (pos (2 ^ 63))) (pos n) (omega (arith, ints))) (le-to (pos n) (pos (2 ^ 64 - 1)) (omega (arith, ints, small)))
in-range (negsuc n) small = and_from _ _ (le-to (neg_ℤ (pos (2 ^ 63))) (negsuc n) (omega (arith, ints, small))) (le-to (negsuc n) (pos (2 ^ 64 - 1)) (omega (arith, ints)))

pub signed-value : (z : ℤ) → unsigned_abs z < 2 ^ 33 → number_value (signed_decimal z) ≡ z
unfolding number_value
signed-value (pos n) small = positive-value n (wide n small)
signed-value (negsuc n) small = ap (λ m. neg_ℤ (pos m)) (magnitude-is (suc n) (wide (suc n) small))

kind-is : (text : List ℕ) (z : ℤ) → number_value text ≡ z → unsigned_abs z < 2 ^ 33 → number_kind text ≡ Good token.Number
unfolding number_kind
kind-is text z value small = rw value (rw (in-range z small) refl)

unsigned-cut : (n : ℕ) (text rest : List ℕ) → IsDecimal n text → 0 < length text → digits_length (text ++ rest) ≡ length text → number_kind text ≡ Good token.Number → IsCut (number text) rest
unfolding piece_length kind_of
unsigned-cut n [] rest is some size kind = absurd (omega (arith, some))
unsigned-cut n (byte ∷ more) rest is some size kind =
    let first : beginning byte ≡ begins.Digits = (digit-byte byte (and_parts (is_digit byte) (list_all is_digit more) is.digits).0).0 in
    record {
      piece = first-cut (Good token.Number) byte more rest (ap (λ f. piece_length f (byte ∷ (more ++ rest))) first ∙ size) (ap (λ f. kind_of f (byte ∷ more)) first ∙ kind);
      bytes = is.bytes;
      good = refl;
      no_colon = refl;
      no_newline = refl;
    }

some-length : (n : ℕ) → 0 < n → eqb (suc n) 1 ≡ false
some-length n some = ne_eqb (suc n) 1 (λ e. let e : suc n ≡ 1 = e in omega (arith, e, some))

negative-cut : (n : ℕ) (text rest : List ℕ) → IsDecimal n text → 0 < length text → digits_length (text ++ rest) ≡ length text → number_kind (45 ∷ text) ≡ Good token.Number → IsCut (number (45 ∷ text)) rest
unfolding piece_length kind_of beginning is_source_byte is_mark begins_name is_digit
negative-cut n text rest is some size kind =
    record {
      piece = first-cut (Good token.Number) 45 text rest (omega (arith, size)) (rw (some-length (length text) some) kind);
      bytes = is.bytes;
      good = refl;
      no_colon = refl;
      no_newline = refl;
    }

pub signed-cut : (z : ℤ) (rest : List ℕ) → unsigned_abs z < 2 ^ 33 → stops is_name_byte rest ≡ true → IsCut (number (signed_decimal z)) rest
signed-cut (pos n) rest small stop =
    unsigned-cut n (decimal n) rest (decimal-is n (wide n small)) (decimal_nonempty n (wide n small)) (digits-all n rest (wide n small) stop) (kind-is (decimal n) (pos n) (signed-value (pos n) small) small)
signed-cut (negsuc n) rest small stop =
    negative-cut (suc n) (decimal (suc n)) rest (decimal-is (suc n) (wide (suc n) small)) (decimal_nonempty (suc n) (wide (suc n) small)) (digits-all (suc n) rest (wide (suc n) small) stop) (kind-is (45 ∷ decimal (suc n)) (negsuc n) (signed-value (negsuc n) small) small)
