-- Numbers in slots.
use Rattle.std.proofs.Common.{◌≡◌, ℕ, ◌≤◌, Bool, true, false, cond, ◌&&◌, ◌||◌, ℤ, pos, List, [], ◌∷◌, map, flat_map, append-nil, Option, Some, None, refl, sym, ap, ◌∙◌}
use Rattle.std.specs.Prelude.{unsigned_abs}
use Rattle.std.proofs.lemmas.Bool.{false≢true, and_parts}
use Rattle.vx_language.specs.Lexemes.{Piece, is_a, is_kind, token_kind}
use Rattle.vx_language.specs.Lines.{is_the_mark}
use Rattle.vx_language.specs.Numerals.{number_value}
use Rattle.vx_language.specs.Slots.{Slot, Rd, Rs1, Rs2, Vd, Vs1, Vs2, Masked, Carry, VtypeWord, Immediate, SourceField, Offset, Label, ControlRegister, Datum, Text, Symbol, Mark, Range, takes, token_faults, is_within, is_offset, signed_range, unsigned_range}
use Rattle.vx_language.specs.Statements.{numbers_in, count_in}
use Rattle.vx_language.specs.declared.token.TokenKind.{TokenKind}
use Rattle.vx_language.specs.declared.token.TokenKind.TheVariants as token
use Rattle.vx_code.specs.Filling.{Fill, AreFilled, slot_range}
use Rattle.vx_code.specs.Right.{is_count}
use Rattle.vx_code.proofs.Nothing.{no-fault}
use Rattle.vx_code.proofs.Ranges.{between, abs-below}

-- a number is no other token
number-only : (o : Option TokenKind) → is_kind token.Number o ≡ true → (is_kind token.Name o ≡ false) × (is_kind token.Mark o ≡ false) × (is_kind token.Quoted o ≡ false)
number-only None h = absurd (false≢true h)
number-only (Some token.Name) h = absurd (false≢true h)
number-only (Some token.Number) h = (refl, refl, refl)
number-only (Some token.Quoted) h = absurd (false≢true h)
number-only (Some token.Mark) h = absurd (false≢true h)
number-only (Some token.Newline) h = absurd (false≢true h)

no-name : (piece : Piece) → is_a token.Number piece ≡ true → is_a token.Name piece ≡ false
unfolding is_a
no-name piece h = (number-only (token_kind piece.kind) h).0

no-mark : (piece : Piece) → is_a token.Number piece ≡ true → is_a token.Mark piece ≡ false
unfolding is_a
no-mark piece h = (number-only (token_kind piece.kind) h).1

no-text : (piece : Piece) → is_a token.Number piece ≡ true → is_a token.Quoted piece ≡ false
unfolding is_a
no-text piece h = (number-only (token_kind piece.kind) h).2

not-and : (a b : Bool) → a ≡ false → (a && b) ≡ true → ⊥
not-and true b e h = false≢true (sym e)
not-and false b e h = false≢true h

-- a number in a slot is one that the slot takes
in-slot : (names : List (List ℕ)) (slot : Slot) (piece : Piece) → takes slot piece ≡ true → token_faults names slot piece ≡ [] → is_a token.Number piece ≡ true → is_within (slot_range slot) (number_value piece.text) ≡ true
unfolding takes token_faults is_offset is_the_mark
in-slot names Rd piece takes none h = absurd (not-and _ _ (no-name piece h) takes)
in-slot names Rs1 piece takes none h = absurd (not-and _ _ (no-name piece h) takes)
in-slot names Rs2 piece takes none h = absurd (not-and _ _ (no-name piece h) takes)
in-slot names Vd piece takes none h = absurd (not-and _ _ (no-name piece h) takes)
in-slot names Vs1 piece takes none h = absurd (not-and _ _ (no-name piece h) takes)
in-slot names Vs2 piece takes none h = absurd (not-and _ _ (no-name piece h) takes)
in-slot names Masked piece takes none h = absurd (not-and _ _ (no-name piece h) takes)
in-slot names Carry piece takes none h = absurd (not-and _ _ (no-name piece h) takes)
in-slot names (VtypeWord f) piece takes none h = absurd (not-and _ _ (no-name piece h) takes)
in-slot names (Immediate range) piece takes none h = no-fault (is_within range (number_value piece.text)) _ none
in-slot names (SourceField range) piece takes none h = no-fault (is_within range (number_value piece.text)) _ none
in-slot names (Offset width) piece takes none h =
    let number = rw (no-name piece h) at none in
    (and_parts (is_within (signed_range width) (number_value piece.text)) _ (no-fault (is_offset width (number_value piece.text)) _ number)).0
in-slot names Label piece takes none h = absurd (false≢true (sym (no-name piece h) ∙ takes))
in-slot names ControlRegister piece takes none h =
    let number = rw (no-name piece h) at none in
    no-fault (is_within (unsigned_range 12) (number_value piece.text)) _ number
in-slot names (Datum range) piece takes none h = no-fault (is_within range (number_value piece.text)) _ none
in-slot names Text piece takes none h = absurd (false≢true (sym (no-text piece h) ∙ takes))
in-slot names Symbol piece takes none h = absurd (false≢true (sym (no-name piece h) ∙ takes))
in-slot names (Mark mark) piece takes none h = absurd (not-and _ _ (no-mark piece h) takes)

pub number-within : (slot : Slot) (piece : Piece) → AreFilled (slot ∷ []) (piece ∷ []) → is_a token.Number piece ≡ true → is_within (slot_range slot) (number_value piece.text) ≡ true
number-within slot piece fills h =
    let fill : Fill fills.0 (slot ∷ []) (piece ∷ []) = fills.1 in
    in-slot fills.0 slot piece fill.0 fill.1 h

taken : (slot : Slot) (piece : Piece) → AreFilled (slot ∷ []) (piece ∷ []) → takes slot piece ≡ true
taken slot piece fills =
    let fill : Fill fills.0 (slot ∷ []) (piece ∷ []) = fills.1 in
    fill.0

-- slots that take numbers
pub immediate-number : (range : Range) (piece : Piece) → AreFilled (Immediate range ∷ []) (piece ∷ []) → is_a token.Number piece ≡ true
unfolding takes
immediate-number range piece fills = taken (Immediate range) piece fills

pub source-number : (range : Range) (piece : Piece) → AreFilled (SourceField range ∷ []) (piece ∷ []) → is_a token.Number piece ≡ true
unfolding takes
source-number range piece fills = taken (SourceField range) piece fills

other-way : (a b : Bool) → a ≡ false → (a || b) ≡ true → b ≡ true
other-way true b e h = absurd (false≢true (sym e))
other-way false b e h = h

first-way : (a b c : Bool) → b ≡ false → (a || (b && c)) ≡ true → a ≡ true
first-way true b c e h = refl
first-way false true c e h = absurd (false≢true (sym e))
first-way false false c e h = absurd (false≢true h)

pub offset-number : (width : ℕ) (piece : Piece) → is_a token.Name piece ≡ false → AreFilled (Offset width ∷ []) (piece ∷ []) → is_a token.Number piece ≡ true
unfolding takes
offset-number width piece e fills = other-way (is_a token.Name piece) (is_a token.Number piece) e (taken (Offset width) piece fills)

pub control-is-number : (piece : Piece) → is_a token.Name piece ≡ false → AreFilled (ControlRegister ∷ []) (piece ∷ []) → is_a token.Number piece ≡ true
unfolding takes
control-is-number piece e fills = first-way (is_a token.Number piece) (is_a token.Name piece) _ e (taken ControlRegister piece fills)

-- a number's bytes
by-number : (f : ℤ → List ℕ) (piece : Piece) (value : ℤ) (b : Bool) → Some value ≡ cond b (Some (number_value piece.text)) None → f value ≡ flat_map f (map (λ (p : Piece). number_value p.text) (cond b (piece ∷ []) []))
by-number f piece value true e = let same : value ≡ number_value piece.text = cc in ap f same ∙ sym (append-nil (f (number_value piece.text)))
by-number f piece value false e = cc

by-none : (f : ℤ → List ℕ) (piece : Piece) (b : Bool) → None ≡ cond b (Some (number_value piece.text)) None → flat_map f (map (λ (p : Piece). number_value p.text) (cond b (piece ∷ []) [])) ≡ []
by-none f piece true e = cc
by-none f piece false e = refl

pub some-bytes : (f : ℤ → List ℕ) (piece : Piece) (value : ℤ) → Some value ≡ cond (is_a token.Number piece) (Some (number_value piece.text)) None → f value ≡ flat_map f (numbers_in (piece ∷ []))
unfolding numbers_in
some-bytes f piece value e = by-number f piece value (is_a token.Number piece) e

pub none-bytes : (f : ℤ → List ℕ) (piece : Piece) → None ≡ cond (is_a token.Number piece) (Some (number_value piece.text)) None → flat_map f (numbers_in (piece ∷ [])) ≡ []
unfolding numbers_in
none-bytes f piece e = by-none f piece (is_a token.Number piece) e

-- counts
pub count-number : (greatest : ℕ) (slot : Slot) (piece : Piece) → is_count greatest slot ≡ true → AreFilled (slot ∷ []) (piece ∷ []) → is_a token.Number piece ≡ true
unfolding takes
count-number greatest Rd piece c fills = absurd (false≢true c)
count-number greatest Rs1 piece c fills = absurd (false≢true c)
count-number greatest Rs2 piece c fills = absurd (false≢true c)
count-number greatest Vd piece c fills = absurd (false≢true c)
count-number greatest Vs1 piece c fills = absurd (false≢true c)
count-number greatest Vs2 piece c fills = absurd (false≢true c)
count-number greatest Masked piece c fills = absurd (false≢true c)
count-number greatest Carry piece c fills = absurd (false≢true c)
count-number greatest (VtypeWord f) piece c fills = absurd (false≢true c)
count-number greatest (Immediate range) piece c fills = absurd (false≢true c)
count-number greatest (SourceField range) piece c fills = absurd (false≢true c)
count-number greatest (Offset width) piece c fills = absurd (false≢true c)
count-number greatest Label piece c fills = absurd (false≢true c)
count-number greatest ControlRegister piece c fills = absurd (false≢true c)
count-number greatest (Datum range) piece c fills = taken (Datum range) piece fills
count-number greatest Text piece c fills = absurd (false≢true c)
count-number greatest Symbol piece c fills = absurd (false≢true c)
count-number greatest (Mark mark) piece c fills = absurd (false≢true c)

within-count : (greatest : ℕ) (slot : Slot) (value : ℤ) → is_count greatest slot ≡ true → is_within (slot_range slot) value ≡ true → unsigned_abs value ≤ greatest
within-count greatest Rd value c w = absurd (false≢true c)
within-count greatest Rs1 value c w = absurd (false≢true c)
within-count greatest Rs2 value c w = absurd (false≢true c)
within-count greatest Vd value c w = absurd (false≢true c)
within-count greatest Vs1 value c w = absurd (false≢true c)
within-count greatest Vs2 value c w = absurd (false≢true c)
within-count greatest Masked value c w = absurd (false≢true c)
within-count greatest Carry value c w = absurd (false≢true c)
within-count greatest (VtypeWord f) value c w = absurd (false≢true c)
within-count greatest (Immediate range) value c w = absurd (false≢true c)
within-count greatest (SourceField range) value c w = absurd (false≢true c)
within-count greatest (Offset width) value c w = absurd (false≢true c)
within-count greatest Label value c w = absurd (false≢true c)
within-count greatest ControlRegister value c w = absurd (false≢true c)
within-count greatest (Datum range) value c w = let h = between (pos 0) (pos greatest) value range c w in abs-below greatest value h.0 h.1
within-count greatest Text value c w = absurd (false≢true c)
within-count greatest Symbol value c w = absurd (false≢true c)
within-count greatest (Mark mark) value c w = absurd (false≢true c)

pub count-below : (greatest : ℕ) (slot : Slot) (piece : Piece) → AreFilled (slot ∷ []) (piece ∷ []) → is_count greatest slot ≡ true → unsigned_abs (number_value piece.text) ≤ greatest
count-below greatest slot piece fills c = within-count greatest slot (number_value piece.text) c (number-within slot piece fills (count-number greatest slot piece c fills))

pub count-first : (piece : Piece) (rest : List Piece) → count_in (piece ∷ rest) ≡ unsigned_abs (number_value piece.text)
unfolding count_in
count-first piece rest = refl
