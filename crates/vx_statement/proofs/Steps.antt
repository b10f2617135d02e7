-- Steps of lists of numbers.
use Rattle.std.proofs.Common.{◌≡◌, ℕ, zero, suc, ◌+◌, Bool, true, false, cond, List, [], ◌∷◌, drop, Option, Some, None, refl, ◌∙◌, codes, arith}
use Rattle.std.proofs.lemmas.Bool.{false≢true}
use Rattle.std.proofs.lemmas.List.Sums.{sum_by-cons}
use Rattle.vx_language.specs.Forms.{numbers}
use Rattle.vx_language.specs.Lexemes.{Piece, is_a, is_kind, token_kind}
use Rattle.vx_language.specs.Lines.{is_the_mark}
use Rattle.vx_language.specs.Slots as slots
use Rattle.vx_language.specs.Statements.{go_on_with}
use Rattle.vx_language.specs.declared.token.TokenKind.{TokenKind}
use Rattle.vx_language.specs.declared.token.TokenKind.TheVariants as token
use Rattle.vx_statement.specs.Ranges.{range_of}
use Rattle.vx_statement.specs.Slots.{slot_of}
use Rattle.vx_statement.specs.Ways.{commas_in, way_slots}
use Rattle.vx_statement.specs.declared.range.Range.{Range}
use Rattle.vx_statement.specs.declared.slot.Slot.TheVariants.{Datum, Mark}
use Rattle.vx_statement.specs.declared.way.Way.TheVariants.{Numbers, More}

-- a number is no mark
no_mark : (o : Option TokenKind) → is_kind token.Number o ≡ true → is_kind token.Mark o ≡ false
no_mark None h = refl
no_mark (Some token.Name) h = refl
no_mark (Some token.Number) h = refl
no_mark (Some token.Quoted) h = refl
no_mark (Some token.Mark) h = absurd (false≢true h)
no_mark (Some token.Newline) h = refl

no_comma : (piece : Piece) (text : List ℕ) → is_a token.Number piece ≡ true → is_the_mark text piece ≡ false
unfolding is_a is_the_mark
no_comma piece text h = let e = no_mark (token_kind piece.kind) h in rw e refl

one-more : (b : Bool) (n : ℕ) → cond b 1 0 + n ≡ cond b (suc n) n
one-more true n = omega arith
one-more false n = omega arith

-- how many commas tokens have, by the first
commas-first : (piece : Piece) (rest : List Piece) (b : Bool) → is_the_mark (codes ",") piece ≡ b → commas_in (piece ∷ rest) ≡ cond b (suc (commas_in rest)) (commas_in rest)
commas-first piece rest b h = sum_by-cons (λ (x : Piece). cond (is_the_mark (codes ",") x) 1 0) piece rest ∙ rw h (one-more b (commas_in rest))

numbers-first : (range : slots.Range) (commas : ℕ) → numbers range commas ≡ slots.Datum range ∷ drop 1 (numbers range commas)
numbers-first range zero = refl
numbers-first range (suc more) = refl

pub number_taken : (range : Range) (piece : Piece) (rest : List Piece) → is_a token.Number piece ≡ true → (way_slots (commas_in (piece ∷ rest)) (Numbers range) ≡ slot_of (Datum range) ∷ way_slots (commas_in rest) (More range)) × (slots.takes (slot_of (Datum range)) piece ≡ true)
unfolding slots.takes
number_taken range piece rest h =
    let same = commas-first piece rest false (no_comma piece (codes ",") h) in
    (rw same (numbers-first (range_of range) (commas_in rest)), h)

pub number_refused : (range : Range) (piece : Piece) (rest : List Piece) → is_a token.Number piece ≡ false → go_on_with piece (way_slots (commas_in (piece ∷ rest)) (Numbers range)) ≡ false
unfolding slots.takes
number_refused range piece rest h = rw (numbers-first (range_of range) (commas_in (piece ∷ rest))) h

pub comma_taken : (range : Range) (piece : Piece) (rest : List Piece) → is_the_mark (44 ∷ []) piece ≡ true → (way_slots (commas_in (piece ∷ rest)) (More range) ≡ slot_of (Mark 44) ∷ way_slots (commas_in rest) (Numbers range)) × (slots.takes (slot_of (Mark 44)) piece ≡ true)
unfolding slots.takes
comma_taken range piece rest h =
    let more = commas-first piece rest true h in
    (rw more refl, h)

no_more : (range : slots.Range) (piece : Piece) (commas : ℕ) → is_the_mark (codes ",") piece ≡ false → go_on_with piece (drop 1 (numbers range commas)) ≡ false
unfolding slots.takes
no_more range piece zero h = refl
no_more range piece (suc more) h = h

pub comma_refused : (range : Range) (piece : Piece) (rest : List Piece) → is_the_mark (44 ∷ []) piece ≡ false → go_on_with piece (way_slots (commas_in (piece ∷ rest)) (More range)) ≡ false
comma_refused range piece rest h = no_more (range_of range) piece (commas_in (piece ∷ rest)) h
