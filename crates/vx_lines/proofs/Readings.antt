-- What the tokens of operands give: the fields that the line shows.
use Rattle.std.proofs.Common.{◌≡◌, ℕ, ◌+◌, ◌<◌, arith, Bool, true, false, not, cond, ◌&&◌, ◌||◌, ℤ, pos, List, [], ◌∷◌, ◌++◌, length, map, decimal, Option, Some, None, refl, sym, ap, ◌∙◌, subst}
use Rattle.std.specs.Prelude.{codes, flat_map, unwrap_or, unsigned_abs, int_le}
use Rattle.std.specs.Fmt.{signed_decimal}
use Rattle.std.specs.List.{list_any}
use Rattle.std.proofs.lemmas.Bool.{and_parts, and_from, or_right, false≢true, not-true}
use Rattle.std.proofs.lemmas.Int.{ints}
use Rattle.vx_decode.specs.declared.instr.Instr.{Instr}
use Rattle.vx_source.specs.Names.{register_name, control_name}
use Rattle.vx_source.specs.Operands.{is_written}
use Rattle.vx_source.specs.Vtypes.{vtype_word, has_words}
use Rattle.vx_source.specs.declared.vtype.VtypeField.TheVariants.{Sew, Lmul, Tail, Mask}
use Rattle.vx_source.specs.declared.operand.OperandKind.{OperandKind}
use Rattle.vx_source.specs.declared.operand.OperandKind.TheVariants as operand
use Rattle.vx_language.specs.Code.{Code, filled, filled_all, with_immediate}
use Rattle.vx_language.specs.Lexemes.{Piece, is_a}
use Rattle.vx_language.specs.Lines.{is_the_mark}
use Rattle.vx_language.specs.Names.{register_number}
use Rattle.vx_language.specs.Numerals.{number_value}
use Rattle.vx_language.specs.Places.{offset_faults}
use Rattle.vx_language.specs.Slots.{Slot, VtypeWord, Immediate, ControlRegister, Masked, Range, comma, takes, token_faults, ways, ways_behind_commas, is_within, is_offset, signed_range, unsigned_range, number_faults}
use Rattle.vx_language.specs.Statements.{operand_faults, take_all}
use Rattle.vx_lines.proofs.Cuts.{bytes_of, piece_at, tokens_of, tokens-join}
use Rattle.vx_lines.proofs.Numerals.{name, number, mark, gap, signed-value, le-to}
use Rattle.vx_lines.proofs.Choices.{Fill, Chooses, filled-join, offsets-join, chooses-front, chooses-none, chooses-one, skip-first, skip-second}
use Rattle.vx_lines.proofs.Written.{operand_cuts, more_cuts, control_cut, vtype_cuts, later_words, IsShown, AreShown, register-known, vector-known, control-known, are-words, part_of, small-register}

-- a code with what an operand of a kind shows of an instruction
abbrev pub with_operand : Instr → OperandKind → Code → Code
with_operand i operand.Destination code = record code { instr = record code.instr { rd = i.rd } }
with_operand i operand.FirstSource code = record code { instr = record code.instr { rs1 = i.rs1 } }
with_operand i operand.SecondSource code = record code { instr = record code.instr { rs2 = i.rs2 } }
with_operand i (operand.Signed width) code = with_immediate i.imm code
with_operand i (operand.Unsigned width) code = with_immediate i.imm code
with_operand i (operand.Target width) code = with_immediate i.imm code
with_operand i operand.Address code = record code { instr = record code.instr { imm = i.imm; rs1 = i.rs1 } }
with_operand i operand.Control code = with_immediate i.imm code
with_operand i operand.SourceNumber code = record code { instr = record code.instr { rs1 = i.rs1 } }
with_operand i operand.VectorDestination code = record code { instr = record code.instr { rd = i.rd } }
with_operand i operand.FirstVector code = record code { instr = record code.instr { rs1 = i.rs1 } }
with_operand i operand.SecondVector code = record code { instr = record code.instr { rs2 = i.rs2 } }
with_operand i operand.Base code = record code { instr = record code.instr { rs1 = i.rs1 } }
with_operand i (operand.Vtype width) code = with_immediate i.imm code
with_operand i operand.Masked code = record code { instr = record code.instr { vm = i.vm && code.instr.vm } }
with_operand i operand.Carry code = record code { instr = record code.instr { vm = i.vm && code.instr.vm } }

abbrev pub with_operands : Instr → List OperandKind → Code → Code
with_operands i [] code = code
with_operands i (kind ∷ kinds) code = with_operands i kinds (with_operand i kind code)

-- kinds that are written in one way; that of vtype; those that give the immediate
abbrev pub is_plain : OperandKind → Bool
is_plain operand.Masked = false
is_plain (operand.Vtype width) = false
is_plain kind = true

abbrev pub is_vtype : OperandKind → Bool
is_vtype (operand.Vtype width) = true
is_vtype kind = false

abbrev pub sets_imm : OperandKind → Bool
sets_imm (operand.Signed width) = true
sets_imm (operand.Unsigned width) = true
sets_imm (operand.Target width) = true
sets_imm operand.Address = true
sets_imm operand.Control = true
sets_imm (operand.Vtype width) = true
sets_imm kind = false

abbrev pub is_empty : List OperandKind → Bool
is_empty [] = true
is_empty (kind ∷ kinds) = false

-- kinds of which at most the last is written in several ways, and none before vtype gives the immediate
abbrev pub are_right : List OperandKind → Bool
are_right [] = true
are_right (kind ∷ kinds) = cond (is_plain kind) ((not (list_any is_vtype kinds) || not (sets_imm kind)) && are_right kinds) (is_empty kinds)

abbrev first_way : List (List Slot) → List Slot
first_way [] = []
first_way (way ∷ more) = way

abbrev pub plain_way : OperandKind → List Slot
plain_way kind = first_way (ways kind)

-- one operand, read back
pub record IsRead (i : Instr) (kind : OperandKind) (way : List Slot) (pieces : List Piece) : Type 0 where
  pub fill : Fill way pieces
  pub gives : (code : Code) → filled_all way pieces code ≡ with_operand i kind code
  pub reach : (aim : Piece → ℤ) → offset_faults aim way pieces ≡ []

pub fits : (piece : Piece) (range : Range) (z : ℤ) → number_value piece.text ≡ z → is_within range z ≡ true → number_faults (is_within range (number_value piece.text)) piece ≡ []
fits piece range z value within = rw value (rw within refl)

fits-offset : (piece : Piece) (width : ℕ) (z : ℤ) → number_value piece.text ≡ z → is_offset width z ≡ true → number_faults (is_offset width (number_value piece.text)) piece ≡ []
fits-offset piece width z value within = rw value (rw within refl)

source-within : (n : ℕ) → n < 32 → is_within (unsigned_range 5) (pos n) ≡ true
source-within n below = and_from (int_le (pos 0) (pos n)) (int_le (pos n) (pos 31)) (le-to (pos 0) (pos n) (omega (arith, ints))) (le-to (pos n) (pos 31) (omega (arith, ints, below)))

read-control : (i : Instr) (start : ℕ) (o : Option (List ℕ)) → control_name (unsigned_abs i.imm) ≡ o → IsShown i operand.Control → IsRead i operand.Control (ControlRegister ∷ []) (tokens_of start (control_cut o (unsigned_abs i.imm) ∷ []))
unfolding takes token_faults filled filled_all offset_faults is_a
read-control i start (Some text) e is =
    let k = control-known (unsigned_abs i.imm) text e in
    record {
      fill = (k.some, refl, tt);
      gives = λ code. ap (λ z. with_immediate z code) (ap pos k.value ∙ sym is.2);
      reach = λ aim. refl;
    }
read-control i start None e is =
    let n : ℕ = unsigned_abs i.imm in
    let value : number_value (decimal n) ≡ pos n = signed-value (pos n) is.1 in
    let piece : Piece = piece_at start (number (decimal n)) in
    record {
      fill = (refl, fits piece (unsigned_range 12) (pos n) value (subst (λ z. is_within (unsigned_range 12) z ≡ true) is.2 is.0), tt);
      gives = λ code. ap (λ z. with_immediate z code) (value ∙ sym is.2);
      reach = λ aim. refl;
    }

read-base : (i : Instr) (start : ℕ) → i.rs1 < 32 → IsRead i operand.Base (plain_way operand.Base) (tokens_of start (operand_cuts i operand.Base))
unfolding takes token_faults filled filled_all offset_faults is_a is_the_mark
read-base i start is =
    let k = register-known i.rs1 is in
    record {
      fill = (refl, refl, (k.some, refl, (refl, refl, tt)));
      gives = λ code. ap (λ n. record code { instr = record code.instr { rs1 = n } }) k.value;
      reach = λ aim. refl;
    }

pub read-plain : (i : Instr) (kind : OperandKind) (start : ℕ) → is_plain kind ≡ true → IsShown i kind → IsRead i kind (plain_way kind) (tokens_of start (operand_cuts i kind))
unfolding takes token_faults filled filled_all offset_faults is_a is_the_mark
read-plain i operand.Destination start plain is =
    let k = register-known i.rd is in
    record { fill = (k.some, refl, tt); gives = λ code. ap (λ n. record code { instr = record code.instr { rd = n } }) k.value; reach = λ aim. refl }
read-plain i operand.FirstSource start plain is =
    let k = register-known i.rs1 is in
    record { fill = (k.some, refl, tt); gives = λ code. ap (λ n. record code { instr = record code.instr { rs1 = n } }) k.value; reach = λ aim. refl }
read-plain i operand.SecondSource start plain is =
    let k = register-known i.rs2 is in
    record { fill = (k.some, refl, tt); gives = λ code. ap (λ n. record code { instr = record code.instr { rs2 = n } }) k.value; reach = λ aim. refl }
read-plain i (operand.Signed width) start plain is =
    let value : number_value (signed_decimal i.imm) ≡ i.imm = signed-value i.imm is.1 in
    record { fill = (refl, fits (piece_at start (number (signed_decimal i.imm))) (signed_range width) i.imm value is.0, tt); gives = λ code. ap (λ z. with_immediate z code) value; reach = λ aim. refl }
read-plain i (operand.Unsigned width) start plain is =
    let value : number_value (signed_decimal i.imm) ≡ i.imm = signed-value i.imm is.1 in
    record { fill = (refl, fits (piece_at start (number (signed_decimal i.imm))) (unsigned_range width) i.imm value is.0, tt); gives = λ code. ap (λ z. with_immediate z code) value; reach = λ aim. refl }
read-plain i (operand.Target width) start plain is =
    let value : number_value (signed_decimal i.imm) ≡ i.imm = signed-value i.imm is.1 in
    record { fill = (refl, fits-offset (piece_at start (number (signed_decimal i.imm))) width i.imm value is.0, tt); gives = λ code. ap (λ z. with_immediate z code) value; reach = λ aim. refl }
read-plain i operand.Address start plain is =
    let value : number_value (signed_decimal i.imm) ≡ i.imm = signed-value i.imm is.1 in
    let k = register-known i.rs1 is.2 in
    record {
      fill = (refl, fits (piece_at start (number (signed_decimal i.imm))) (signed_range 12) i.imm value is.0, (refl, refl, (k.some, refl, (refl, refl, tt))));
      gives = λ code. ap (λ z. record code { instr = record code.instr { imm = z; rs1 = unwrap_or (register_number (register_name i.rs1)) 0 } }) value ∙ ap (λ n. record code { instr = record code.instr { imm = i.imm; rs1 = n } }) k.value;
      reach = λ aim. refl;
    }
read-plain i operand.Control start plain is = read-control i start (control_name (unsigned_abs i.imm)) refl is
read-plain i operand.SourceNumber start plain is =
    let value : number_value (decimal i.rs1) ≡ pos i.rs1 = signed-value (pos i.rs1) (small-register i.rs1 is) in
    record { fill = (refl, fits (piece_at start (number (decimal i.rs1))) (unsigned_range 5) (pos i.rs1) value (source-within i.rs1 is), tt); gives = λ code. ap (λ z. record code { instr = record code.instr { rs1 = unsigned_abs z } }) value; reach = λ aim. refl }
read-plain i operand.VectorDestination start plain is =
    let k = vector-known i.rd is in
    record { fill = (k.some, refl, tt); gives = λ code. ap (λ n. record code { instr = record code.instr { rd = n } }) k.value; reach = λ aim. refl }
read-plain i operand.FirstVector start plain is =
    let k = vector-known i.rs1 is in
    record { fill = (k.some, refl, tt); gives = λ code. ap (λ n. record code { instr = record code.instr { rs1 = n } }) k.value; reach = λ aim. refl }
read-plain i operand.SecondVector start plain is =
    let k = vector-known i.rs2 is in
    record { fill = (k.some, refl, tt); gives = λ code. ap (λ n. record code { instr = record code.instr { rs2 = n } }) k.value; reach = λ aim. refl }
read-plain i operand.Base start plain is = read-base i start is
read-plain i (operand.Vtype width) start plain is = absurd (false≢true plain)
read-plain i operand.Masked start plain is = absurd (false≢true plain)
read-plain i operand.Carry start plain is =
    record { fill = (refl, refl, tt); gives = λ code. ap (λ b. record code { instr = record code.instr { vm = b && code.instr.vm } }) (sym is); reach = λ aim. refl }

-- ---- the operands behind commas

pub record AreRead (i : Instr) (kinds : List OperandKind) (choices : List (List Slot)) (pieces : List Piece) : Type 0 where
  pub way : List Slot
  pub chosen : Chooses choices way pieces
  pub gives : (code : Code) → (list_any is_vtype kinds ≡ true → code.instr.imm ≡ pos 0) → filled_all way pieces code ≡ with_operands i kinds code
  pub reach : (aim : Piece → ℤ) → offset_faults aim way pieces ≡ []

flat-single : {X Y : Type 0} (f : X → Y) (xs : List X) → flat_map (λ x. f x ∷ []) xs ≡ map f xs
flat-single f [] = refl
flat-single f (x ∷ xs) = ap (λ ys. f x ∷ ys) (flat-single f xs)

pub ways-plain : (kind : OperandKind) (kinds : List OperandKind) → is_plain kind ≡ true → ways_behind_commas (kind ∷ kinds) ≡ map (λ (slots : List Slot). (comma ∷ plain_way kind) ++ slots) (ways_behind_commas kinds)
unfolding ways_behind_commas
ways-plain operand.Masked kinds plain = absurd (false≢true plain)
ways-plain (operand.Vtype width) kinds plain = absurd (false≢true plain)
ways-plain kind kinds plain = flat-single (λ (slots : List Slot). (comma ∷ plain_way kind) ++ slots) (ways_behind_commas kinds)

pub written-plain : (i : Instr) (kind : OperandKind) → is_plain kind ≡ true → is_written i kind ≡ true
written-plain i operand.Masked plain = absurd (false≢true plain)
written-plain i kind plain = refl

pub imm-kept : (i : Instr) (kind : OperandKind) (code : Code) → sets_imm kind ≡ false → (with_operand i kind code).instr.imm ≡ code.instr.imm
imm-kept i (operand.Signed width) code e = absurd (false≢true (sym e))
imm-kept i (operand.Unsigned width) code e = absurd (false≢true (sym e))
imm-kept i (operand.Target width) code e = absurd (false≢true (sym e))
imm-kept i operand.Address code e = absurd (false≢true (sym e))
imm-kept i operand.Control code e = absurd (false≢true (sym e))
imm-kept i (operand.Vtype width) code e = absurd (false≢true (sym e))
imm-kept i kind code e = refl

pub not-set : (has sets : Bool) → (not has || not sets) ≡ true → has ≡ true → sets ≡ false
not-set true sets e h = not-true sets e
not-set false sets e h = absurd (false≢true h)

abbrev comma_piece : ℕ → Piece
comma_piece start = piece_at start (mark (codes ","))

plain-step : (i : Instr) (kind : OperandKind) (kinds : List OperandKind) (start : ℕ) → is_plain kind ≡ true → (not (list_any is_vtype kinds) || not (sets_imm kind)) ≡ true → IsShown i kind → ((s : ℕ) → AreRead i kinds (ways_behind_commas kinds) (tokens_of s (more_cuts i kinds))) → AreRead i (kind ∷ kinds) (ways_behind_commas (kind ∷ kinds)) (tokens_of start (more_cuts i (kind ∷ kinds)))
unfolding takes token_faults is_a is_the_mark filled filled_all offset_faults
plain-step i kind kinds start plain apart is later =
    let at : ℕ = start + 1 + 1 in
    let own : List Piece = tokens_of at (operand_cuts i kind) in
    let behind : ℕ = at + length (bytes_of (operand_cuts i kind)) in
    let more : List Piece = tokens_of behind (more_cuts i kinds) in
    let k = read-plain i kind at plain is in
    let r = later behind in
    let fill : Fill (comma ∷ plain_way kind) (comma_piece start ∷ own) = (refl, refl, k.fill) in
    let pieces : tokens_of start (more_cuts i (kind ∷ kinds)) ≡ (comma_piece start ∷ own) ++ more =
    ap (λ b. tokens_of start (cond b (mark (codes ",") ∷ gap ∷ (operand_cuts i kind ++ more_cuts i kinds)) (more_cuts i kinds))) (written-plain i kind plain)
    ∙ ap (λ (ps : List Piece). comma_piece start ∷ ps) (tokens-join at (operand_cuts i kind) (more_cuts i kinds)) in
    let made : AreRead i (kind ∷ kinds) (map (λ (slots : List Slot). (comma ∷ plain_way kind) ++ slots) (ways_behind_commas kinds)) ((comma_piece start ∷ own) ++ more) = record {
      way = (comma ∷ plain_way kind) ++ r.way;
      chosen = chooses-front (ways_behind_commas kinds) r.way (comma ∷ plain_way kind) (comma_piece start ∷ own) more fill r.chosen;
      gives = λ code zero-first.
          filled-join (comma ∷ plain_way kind) r.way (comma_piece start ∷ own) more code fill
          ∙ (ap (filled_all r.way more) (k.gives code)
          ∙ r.gives (with_operand i kind code) (λ has. imm-kept i kind code (not-set (list_any is_vtype kinds) (sets_imm kind) apart has) ∙ zero-first (or_right (is_vtype kind) (list_any is_vtype kinds) has)));
      reach = λ aim. offsets-join aim (comma ∷ plain_way kind) r.way (comma_piece start ∷ own) more fill (k.reach aim) (r.reach aim);
    } in
    subst (λ (ps : List Piece). AreRead i (kind ∷ kinds) (ways_behind_commas (kind ∷ kinds)) ps) (sym pieces)
    (subst (λ (ws : List (List Slot)). AreRead i (kind ∷ kinds) ws ((comma_piece start ∷ own) ++ more)) (sym (ways-plain kind kinds plain)) made)

none-read : (i : Instr) (start : ℕ) → AreRead i [] (ways_behind_commas []) (tokens_of start (more_cuts i []))
unfolding ways_behind_commas filled_all offset_faults
none-read i start = record { way = []; chosen = chooses-none; gives = λ code h. refl; reach = λ aim. refl }

-- the mask
mask-read : (i : Instr) (start : ℕ) (b : Bool) → i.vm ≡ b → AreRead i (operand.Masked ∷ []) (ways_behind_commas (operand.Masked ∷ [])) (tokens_of start (cond (not b) (mark (codes ",") ∷ gap ∷ name (codes "v0.t") ∷ []) []))
unfolding ways_behind_commas takes token_faults is_a is_the_mark filled filled_all offset_faults operand_faults take_all
mask-read i start true e = record {
  way = [];
  chosen = record { faults = λ end. refl; found = refl };
  gives = λ code h. ap (λ b. record code { instr = record code.instr { vm = b && code.instr.vm } }) (sym e);
  reach = λ aim. refl;
}
mask-read i start false e = record {
  way = comma ∷ Masked ∷ [];
  chosen = skip-first [] (comma ∷ Masked ∷ []) ((comma ∷ Masked ∷ []) ∷ []) (comma_piece start) (piece_at (start + 1 + 1) (name (codes "v0.t")) ∷ []) refl (chooses-one (comma ∷ Masked ∷ []) (comma_piece start ∷ piece_at (start + 1 + 1) (name (codes "v0.t")) ∷ []) (refl, refl, (refl, refl, tt)));
  gives = λ code h. ap (λ b. record code { instr = record code.instr { vm = b && code.instr.vm } }) (sym e);
  reach = λ aim. refl;
}

-- vtype
abbrev words_way : List Slot
words_way = VtypeWord Sew ∷ comma ∷ VtypeWord Lmul ∷ comma ∷ VtypeWord Tail ∷ comma ∷ VtypeWord Mask ∷ []

abbrev number_way : ℕ → List Slot
number_way width = Immediate (unsigned_range width) ∷ []

words-chosen : (v start width : ℕ) → has_words v ≡ true → Chooses (words_way ∷ number_way width ∷ []) words_way (tokens_of start (vtype_cuts true v)) × Fill words_way (tokens_of start (vtype_cuts true v))
unfolding takes token_faults is_a is_the_mark
words-chosen v start width has =
    let are = are-words v has in
    let fill : Fill words_way (tokens_of start (vtype_cuts true v)) = (are.sew_some, refl, (refl, refl, (are.lmul_some, refl, (refl, refl, (are.tail_some, refl, (refl, refl, (are.mask_some, refl, tt))))))) in
    (skip-second words_way (number_way width) (piece_at start (name (vtype_word Sew v))) (tokens_of (start + length (vtype_word Sew v)) (later_words v)) refl (chooses-one words_way (tokens_of start (vtype_cuts true v)) fill), fill)

words-give : (i : Instr) (v start : ℕ) (code : Code) → has_words v ≡ true → i.imm ≡ pos v → code.instr.imm ≡ pos 0 → filled_all words_way (tokens_of start (vtype_cuts true v)) code ≡ with_immediate i.imm code
unfolding filled filled_all part_of
words-give i v start code has is zero-first =
    let are = are-words v has in
    ap (λ z. filled_all words_way (tokens_of start (vtype_cuts true v)) (with_immediate z code)) zero-first
    ∙ ap (λ z. with_immediate z code) (are.sum ∙ sym is)

vtype-read : (i : Instr) (start width : ℕ) (b : Bool) → has_words (unsigned_abs i.imm) ≡ b → IsShown i (operand.Vtype width) → AreRead i (operand.Vtype width ∷ []) (ways_behind_commas (operand.Vtype width ∷ [])) (tokens_of start (mark (codes ",") ∷ gap ∷ (vtype_cuts b (unsigned_abs i.imm) ++ [])))
unfolding ways_behind_commas takes token_faults is_a is_the_mark filled filled_all offset_faults
vtype-read i start width true has is =
    let v : ℕ = unsigned_abs i.imm in
    let at : ℕ = start + 1 + 1 in
    let chosen = words-chosen v at width has in
    record {
      way = comma ∷ words_way;
      chosen = chooses-front (words_way ∷ number_way width ∷ []) words_way (comma ∷ []) (comma_piece start ∷ []) (tokens_of at (vtype_cuts true v)) (refl, refl, tt) chosen.0;
      gives = λ code zero-first. words-give i v at code has is.2 (zero-first refl);
      reach = λ aim. refl;
    }
vtype-read i start width false has is =
    let v : ℕ = unsigned_abs i.imm in
    let at : ℕ = start + 1 + 1 in
    let value : number_value (decimal v) ≡ pos v = signed-value (pos v) is.1 in
    let piece : Piece = piece_at at (number (decimal v)) in
    let fit = fits piece (unsigned_range width) (pos v) value (subst (λ z. is_within (unsigned_range width) z ≡ true) is.2 is.0) in
    record {
      way = comma ∷ number_way width;
      chosen = chooses-front (words_way ∷ number_way width ∷ []) (number_way width) (comma ∷ []) (comma_piece start ∷ []) (piece ∷ []) (refl, refl, tt)
          (skip-first words_way (number_way width) (number_way width ∷ []) piece [] refl (chooses-one (number_way width) (piece ∷ []) (refl, fit, tt)));
      gives = λ code h. ap (λ z. with_immediate z code) (value ∙ sym is.2);
      reach = λ aim. refl;
    }

last-read : (i : Instr) (kind : OperandKind) (start : ℕ) → is_plain kind ≡ false → IsShown i kind → AreRead i (kind ∷ []) (ways_behind_commas (kind ∷ [])) (tokens_of start (more_cuts i (kind ∷ [])))
last-read i operand.Masked start plain is = mask-read i start i.vm refl
last-read i (operand.Vtype width) start plain is = vtype-read i start width (has_words (unsigned_abs i.imm)) refl is
last-read i kind start plain is = absurd (false≢true (sym plain))

choose : (i : Instr) (kind : OperandKind) (kinds : List OperandKind) (b : Bool) → is_plain kind ≡ b → cond b ((not (list_any is_vtype kinds) || not (sets_imm kind)) && are_right kinds) (is_empty kinds) ≡ true → IsShown i kind → (are_right kinds ≡ true → (s : ℕ) → AreRead i kinds (ways_behind_commas kinds) (tokens_of s (more_cuts i kinds))) → (start : ℕ) → AreRead i (kind ∷ kinds) (ways_behind_commas (kind ∷ kinds)) (tokens_of start (more_cuts i (kind ∷ kinds)))
choose i kind kinds true plain right is later start =
    let parts = and_parts (not (list_any is_vtype kinds) || not (sets_imm kind)) (are_right kinds) right in
    plain-step i kind kinds start plain parts.0 is (later parts.1)
choose i kind [] false plain right is later start = last-read i kind start plain is
choose i kind (next ∷ kinds) false plain right is later start = absurd (false≢true right)

pub all-read : (i : Instr) (kinds : List OperandKind) → are_right kinds ≡ true → AreShown i kinds → (start : ℕ) → AreRead i kinds (ways_behind_commas kinds) (tokens_of start (more_cuts i kinds))
all-read i [] right are start = none-read i start
all-read i (kind ∷ kinds) right are start = choose i kind kinds (is_plain kind) refl right are.0 (λ rest s. all-read i kinds rest are.1 s) start
