-- The line of a word that is no instruction is a source of it.
use Rattle.std.proofs.Common.{◌≡◌, ℕ, zero, suc, ◌+◌, ◌-◌, ◌*◌, ◌/◌, ◌%◌, ◌^◌, ◌<◌, arith, Bool, true, false, cond, ◌&&◌, pos, neg_ℤ, List, [], ◌∷◌, ◌++◌, length, Option, Some, refl, sym, ap, ◌∙◌, subst}
use Rattle.std.specs.Prelude.{◌==◌, codes, find, int_le}
use Rattle.std.specs.List.{list_all, prefix_len}
use Rattle.std.proofs.lemmas.Bool.{and_parts, and_from, eqb-true}
use Rattle.std.proofs.lemmas.Int.{ints}
use Rattle.std.proofs.Math.Nat.{pow-suc}
use Rattle.std.proofs.lemmas.List.{append-nil, length-append}
use Rattle.std.proofs.lemmas.List.Folds.{list_all-append}
use Rattle.std.proofs.lemmas.List.Sums.{fold-append}
use Rattle.vx_base.specs.Hex.{hex_digit, hex_digits}
use Rattle.vx_base.specs.Numbers.{reduced, little_endian}
use Rattle.vx_rows.specs.Table.{operations}
use Rattle.vx_source.specs.Lines.{word_line}
use Rattle.vx_language.specs.Assembly.{IsSourceOf}
use Rattle.vx_language.specs.Bytes.{is_source_byte, is_digit, is_hex_digit, begins_name, is_name_byte, is_mark}
use Rattle.vx_language.specs.Forms.{Form, form, directives, pseudo_statements, forms_of, PutsNumbers}
use Rattle.vx_language.specs.Lexemes.{Piece, beginning, piece_length, kind_of, number_kind, is_a}
use Rattle.vx_language.specs.Lines.{is_the_mark}
use Rattle.vx_language.specs.Names.{instr_named}
use Rattle.vx_language.specs.Numerals.{digits_length, digit_value, from_digits, is_hexadecimal, magnitude, number_value, is_number_value}
use Rattle.vx_language.specs.Places.{offset_faults, form_offset_faults}
use Rattle.vx_language.specs.Slots.{Datum, takes, token_faults, either_range, is_within}
use Rattle.vx_language.specs.Statements.{Plain, forms_for, statement_faults, take_all, form_for, numbers_in, chunk_of, form_chunk, statement_form, statement_chunk}
use Rattle.vx_language.specs.declared.token.PieceKind.TheVariants.{Good, Bad}
use Rattle.vx_language.specs.declared.token.TokenKind.TheVariants as token
use Rattle.vx_lines.proofs.Cuts.{Cut, IsCut, piece_at, tokens_of, first-cut}
use Rattle.vx_lines.proofs.Numerals.{name, number, gap, stops, is_name, name-cut, gap-cut, prefix-all, holds-below, le-to, in-range}
use Rattle.vx_lines.proofs.Choices.{chooses-one}
use Rattle.vx_lines.proofs.Written.{gap-stops}
use Rattle.vx_lines.proofs.Readings.{fits}
use Rattle.vx_lines.proofs.Source.{IsStatement, ending, source-is}
use Rattle.vx_lines.proofs.Instrs.{named-from, no-placement}

is_hex_test : ℕ → Bool
is_hex_test d = is_hex_digit (hex_digit d) && (is_source_byte (hex_digit d) && digit_value (hex_digit d) == d)

hex-passes : (d : ℕ) → d < 16 → is_hex_test d ≡ true
unfolding is_hex_test is_hex_digit is_digit is_source_byte digit_value
hex-passes d below = holds-below is_hex_test 16 d refl below

record AreHex (count n : ℕ) (text : List ℕ) : Type 0 where
  digits : list_all is_hex_digit text ≡ true
  bytes : list_all is_source_byte text ≡ true
  value : n < 16 ^ count → from_digits 16 text ≡ n
  size : length text ≡ count

sixteenth : (n k : ℕ) → n < k * 16 → n / 16 < k
sixteenth n k h = omega (arith, h)

more-hex : (count n : ℕ) (ds : List ℕ) → AreHex count (n / 16) ds → AreHex (suc count) n (ds ++ hex_digit (n % 16) ∷ [])
unfolding from_digits is_hex_test
more-hex count n ds front =
    let d : ℕ = n % 16 in
    let p = and_parts (is_hex_digit (hex_digit d)) _ (hex-passes d (omega arith)) in
    let q = and_parts (is_source_byte (hex_digit d)) _ p.1 in
    let digit : digit_value (hex_digit d) ≡ n % 16 = eqb-true _ d q.1 in
    let step : ℕ → ℕ → ℕ = λ v x. v * 16 + digit_value x in
    let size : length ds ≡ count = front.size in
    record {
      digits = list_all-append is_hex_digit ds (hex_digit d ∷ []) ∙ and_from (list_all is_hex_digit ds) (is_hex_digit (hex_digit d) && true) front.digits (rw p.0 refl);
      bytes = list_all-append is_source_byte ds (hex_digit d ∷ []) ∙ and_from (list_all is_source_byte ds) (is_source_byte (hex_digit d) && true) front.bytes (rw q.0 refl);
      value = λ small.
          let below : n / 16 < 16 ^ count = sixteenth n (16 ^ count) (rw (pow-suc 16 count) at small) in
          let before : from_digits 16 ds ≡ n / 16 = front.value below in
          fold-append step 0 ds (hex_digit d ∷ []) ∙ omega (arith, digit, before);
      size = length-append ds (hex_digit d ∷ []) ∙ omega (arith, size);
    }

hex-are : (count n : ℕ) → AreHex count n (hex_digits count n)
unfolding hex_digits from_digits
hex-are zero n = record { digits = refl; bytes = refl; value = λ small. omega (arith, small); size = refl }
hex-are (suc count) n = more-hex count n (hex_digits count (n / 16)) (hex-are count (n / 16))

abbrev hex_number : ℕ → List ℕ
hex_number word = codes "0x" ++ hex_digits 8 word

begins-hex : (text rest : List ℕ) → list_all is_hex_digit text ≡ true → length text ≡ 8 → is_hexadecimal (48 ∷ 120 ∷ (text ++ rest)) ≡ true
unfolding is_hexadecimal
begins-hex [] rest all size = absurd (omega (arith, size))
begins-hex (byte ∷ text) rest all size = (and_parts (is_hex_digit byte) (list_all is_hex_digit text) all).0

hex-value : (word : ℕ) → word < 2 ^ 32 → number_value (hex_number word) ≡ pos word
unfolding number_value magnitude
hex-value word small =
    let are = hex-are 8 word in
    let hex : is_hexadecimal (hex_number word) ≡ true = ap (λ (bs : List ℕ). is_hexadecimal (48 ∷ 120 ∷ bs)) (sym (append-nil (hex_digits 8 word))) ∙ begins-hex (hex_digits 8 word) [] are.digits are.size in
    ap pos (ap (λ b. cond b (from_digits 16 (hex_digits 8 word)) (from_digits 10 (hex_number word))) hex ∙ are.value (omega (arith, small)))

hex-stops : (b : Bool) → stops is_hex_digit (ending b) ≡ true
unfolding is_hex_digit is_digit
hex-stops true = refl
hex-stops false = refl

hex-kind : (word : ℕ) → word < 2 ^ 32 → number_kind (hex_number word) ≡ Good token.Number
unfolding number_kind
hex-kind word small =
    let range : is_number_value (pos word) ≡ true = in-range (pos word) (omega (arith, small)) in
    ap (λ z. cond (is_number_value z) (Good token.Number) (Bad token.Number)) (hex-value word small) ∙ ap (λ b. cond b (Good token.Number) (Bad token.Number)) range

hex-cut : (word : ℕ) (b : Bool) → word < 2 ^ 32 → IsCut (number (hex_number word)) (ending b)
unfolding beginning piece_length kind_of digits_length is_source_byte is_mark begins_name is_digit
hex-cut word b small =
    let are = hex-are 8 word in
    let text : List ℕ = hex_digits 8 word in
    let hex : is_hexadecimal (48 ∷ 120 ∷ (text ++ ending b)) ≡ true = begins-hex text (ending b) are.digits are.size in
    let all : prefix_len is_hex_digit (text ++ ending b) ≡ length text = prefix-all is_hex_digit text (ending b) are.digits (hex-stops b) in
    let long : 2 + prefix_len is_hex_digit (text ++ ending b) ≡ suc (suc (length text)) = omega (arith, all) in
    record {
      piece = first-cut (Good token.Number) 48 (120 ∷ text) (ending b) (ap (λ c. cond c (2 + prefix_len is_hex_digit (text ++ ending b)) (prefix_len is_digit (48 ∷ 120 ∷ (text ++ ending b)))) hex ∙ long) (hex-kind word small);
      bytes = are.bytes;
      good = refl;
      no_colon = refl;
      no_newline = refl;
    }

abbrev word_cuts : ℕ → List Cut
word_cuts word = name (codes ".word") ∷ gap ∷ number (hex_number word) ∷ []

word-name : is_name (codes ".word") ≡ true
unfolding is_name beginning is_mark begins_name is_digit is_name_byte is_source_byte
word-name = refl

abbrev word_form : Form
word_form = form (codes ".word") (Datum (either_range 32) ∷ []) (PutsNumbers 4)

word-forms : (start at : ℕ) (text : List ℕ) → forms_for (piece_at start (name (codes ".word"))) (piece_at at (number text) ∷ []) ≡ word_form ∷ []
unfolding forms_for forms_of directives pseudo_statements instr_named operations is_the_mark is_a
word-forms start at text = refl

word-within : (word : ℕ) → word < 2 ^ 32 → is_within (either_range 32) (pos word) ≡ true
word-within word small = and_from (int_le (neg_ℤ (pos (2 ^ 31))) (pos word)) (int_le (pos word) (pos (2 ^ 32 - 1))) (le-to (neg_ℤ (pos (2 ^ 31))) (pos word) (omega (arith, ints))) (le-to (pos word) (pos (2 ^ 32 - 1)) (omega (arith, ints, small)))

word-reduced : (word : ℕ) → word < 2 ^ 32 → reduced 32 (pos word) ≡ word
word-reduced word small = omega (arith, small)

word-statement : (word : ℕ) → word < 2 ^ 32 → IsStatement (tokens_of 0 (word_cuts word)) word
unfolding statement_faults is_a takes token_faults statement_chunk statement_form form_for take_all chunk_of numbers_in offset_faults
word-statement word small =
    let first : Piece = piece_at 0 (name (codes ".word")) in
    let piece : Piece = piece_at 6 (number (hex_number word)) in
    let value : number_value (hex_number word) ≡ pos word = hex-value word small in
    let fit = fits piece (either_range 32) (pos word) value (word-within word small) in
    let forms : forms_for first (piece ∷ []) ≡ word_form ∷ [] = word-forms 0 6 (hex_number word) in
    let found : form_for first (piece ∷ []) ≡ Some word_form = ap (find (λ (f : Form). take_all f.slots (piece ∷ []))) forms in
    record {
      faults = λ end. named-from first (piece ∷ []) (Datum (either_range 32) ∷ []) (word_form ∷ []) forms (chooses-one (Datum (either_range 32) ∷ []) (piece ∷ []) (refl, fit, tt)) end;
      placed = no-placement first (piece ∷ []);
      chunk = λ aim.
          ap (form_chunk aim 0 (piece ∷ [])) found
          ∙ (ap (λ z. Plain (little_endian 4 (reduced 32 z) ++ [])) value
          ∙ (ap (λ n. Plain (little_endian 4 n ++ [])) (word-reduced word small)
          ∙ ap (λ (bs : List ℕ). Plain bs) (append-nil (little_endian 4 word))));
      reach = λ aim. ap (λ (o : Option Form). form_offset_faults aim o (piece ∷ [])) found;
    }

pub word-line : (word : ℕ) (b : Bool) → word < 2 ^ 32 → IsSourceOf (word_line word ++ ending b) word
word-line word b small =
    let source = source-is (word_cuts word) b word (name-cut (codes ".word") _ word-name (gap-stops []), (gap-cut _, (hex-cut word b small, tt))) (word-statement word small) in
    subst (λ (bs : List ℕ). IsSourceOf ((codes ".word 0x" ++ bs) ++ ending b) word) (append-nil (hex_digits 8 word)) source
