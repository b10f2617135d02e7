-- The operands of a line as pieces, and what is read back of them.
use Rattle.std.proofs.Common.{◌≡◌, ℕ, ◌*◌, ◌^◌, ◌<◌, arith, Bool, true, false, not, cond, ◌&&◌, ◌||◌, ℤ, pos, ◌+ℤ◌, List, [], ◌∷◌, ◌++◌, map, filter, decimal, Option, Some, None, option_map, refl, sym, ap, ◌∙◌, subst}
use Rattle.std.specs.Prelude.{◌==◌, nat_lt, codes, find, is_some, unwrap_or, unsigned_abs, if◌then◌else◌}
use Rattle.std.specs.Fmt.{signed_decimal}
use Rattle.std.specs.List.{list_all}
use Rattle.std.proofs.lemmas.Bool.{and_parts, ltb-true, false≢true, eqb-true}
use Rattle.std.proofs.lemmas.List.{append-nil, append_assoc}
use Rattle.vx_base.specs.Numbers.{reduced}
use Rattle.vx_decode.specs.declared.instr.Instr.{Instr}
use Rattle.vx_source.specs.Names.{register_names, register_name, vector_names, vector_name, NamedControl, named_controls, control_name}
use Rattle.vx_source.specs.Operands.{operand_text, is_written}
use Rattle.vx_source.specs.Lines.{listed, operand_texts}
use Rattle.vx_source.specs.Vtypes.{vtype_words, vtype_word, vtype_text, has_words, in_words}
use Rattle.vx_source.specs.declared.vtype.VtypeField.{VtypeField}
use Rattle.vx_source.specs.declared.vtype.VtypeField.TheVariants.{Sew, Lmul, Tail, Mask}
use Rattle.vx_source.specs.declared.operand.OperandKind.{OperandKind}
use Rattle.vx_source.specs.declared.operand.OperandKind.TheVariants as operand
use Rattle.vx_language.specs.Bytes.{is_source_byte, is_digit, begins_name, is_name_byte, is_mark}
use Rattle.vx_language.specs.Lexemes.{beginning}
use Rattle.vx_language.specs.Names.{numbered_names, register_number, vector_number, vtype_number, control_number}
use Rattle.vx_language.specs.Slots.{is_within, is_offset, signed_range, unsigned_range}
use Rattle.vx_lines.proofs.Cuts.{Cut, IsCut, AreCuts, bytes_of, cuts-join, bytes-join}
use Rattle.vx_lines.proofs.Numerals.{name, number, mark, gap, holds-below, stops, is_name, name-cut, comma-cut, open-cut, close-cut, gap-cut, signed-cut}

-- ---- the pieces

abbrev pub control_cut : Option (List ℕ) → ℕ → Cut
control_cut (Some text) n = name text
control_cut None n = number (decimal n)

abbrev pub later_words : ℕ → List Cut
later_words v =
    mark (codes ",") ∷ gap ∷ name (vtype_word Lmul v) ∷ mark (codes ",") ∷ gap ∷ name (vtype_word Tail v)
    ∷ mark (codes ",") ∷ gap ∷ name (vtype_word Mask v) ∷ []

abbrev pub words_cuts : ℕ → List Cut
words_cuts v = name (vtype_word Sew v) ∷ later_words v

abbrev pub vtype_cuts : Bool → ℕ → List Cut
vtype_cuts true v = words_cuts v
vtype_cuts false v = number (decimal v) ∷ []

-- the pieces of an operand
abbrev pub operand_cuts : Instr → OperandKind → List Cut
operand_cuts i operand.Destination = name (register_name i.rd) ∷ []
operand_cuts i operand.FirstSource = name (register_name i.rs1) ∷ []
operand_cuts i operand.SecondSource = name (register_name i.rs2) ∷ []
operand_cuts i (operand.Signed width) = number (signed_decimal i.imm) ∷ []
operand_cuts i (operand.Unsigned width) = number (signed_decimal i.imm) ∷ []
operand_cuts i (operand.Target width) = number (signed_decimal i.imm) ∷ []
operand_cuts i operand.Address = number (signed_decimal i.imm) ∷ mark (codes "(") ∷ name (register_name i.rs1) ∷ mark (codes ")") ∷ []
operand_cuts i operand.Control = control_cut (control_name (unsigned_abs i.imm)) (unsigned_abs i.imm) ∷ []
operand_cuts i operand.SourceNumber = number (decimal i.rs1) ∷ []
operand_cuts i operand.VectorDestination = name (vector_name i.rd) ∷ []
operand_cuts i operand.FirstVector = name (vector_name i.rs1) ∷ []
operand_cuts i operand.SecondVector = name (vector_name i.rs2) ∷ []
operand_cuts i operand.Base = mark (codes "(") ∷ name (register_name i.rs1) ∷ mark (codes ")") ∷ []
operand_cuts i (operand.Vtype width) = vtype_cuts (has_words (unsigned_abs i.imm)) (unsigned_abs i.imm)
operand_cuts i operand.Masked = name (codes "v0.t") ∷ []
operand_cuts i operand.Carry = name (codes "v0") ∷ []

one-text : (text : List ℕ) → text ++ [] ≡ text
one-text text = append-nil text

control-text : (o : Option (List ℕ)) (n : ℕ) → bytes_of (control_cut o n ∷ []) ≡ unwrap_or o (decimal n)
control-text (Some text) n = append-nil text
control-text None n = append-nil (decimal n)

words-text : (a b c d : List ℕ) → a ++ (codes "," ++ (codes " " ++ (b ++ (codes "," ++ (codes " " ++ (c ++ (codes "," ++ (codes " " ++ (d ++ []))))))))) ≡ a ++ codes ", " ++ b ++ codes ", " ++ c ++ codes ", " ++ d
words-text a b c d = simp (append_assoc, append-nil)

vtype-text : (b : Bool) (v : ℕ) → bytes_of (vtype_cuts b v) ≡ (if b then in_words v else decimal v)
vtype-text true v = words-text (vtype_word Sew v) (vtype_word Lmul v) (vtype_word Tail v) (vtype_word Mask v)
vtype-text false v = append-nil (decimal v)

pub operand-bytes : (i : Instr) (kind : OperandKind) → bytes_of (operand_cuts i kind) ≡ operand_text i kind
unfolding vtype_text
operand-bytes i operand.Destination = one-text _
operand-bytes i operand.FirstSource = one-text _
operand-bytes i operand.SecondSource = one-text _
operand-bytes i (operand.Signed width) = one-text _
operand-bytes i (operand.Unsigned width) = one-text _
operand-bytes i (operand.Target width) = one-text _
operand-bytes i operand.Address = simp (append_assoc, append-nil)
operand-bytes i operand.Control = control-text (control_name (unsigned_abs i.imm)) (unsigned_abs i.imm)
operand-bytes i operand.SourceNumber = one-text _
operand-bytes i operand.VectorDestination = one-text _
operand-bytes i operand.FirstVector = one-text _
operand-bytes i operand.SecondVector = one-text _
operand-bytes i operand.Base = refl
operand-bytes i (operand.Vtype width) = vtype-text (has_words (unsigned_abs i.imm)) (unsigned_abs i.imm)
operand-bytes i operand.Masked = refl
operand-bytes i operand.Carry = refl

-- the pieces of operands, each behind a comma and a space
abbrev pub more_cuts : Instr → List OperandKind → List Cut
more_cuts i [] = []
more_cuts i (kind ∷ kinds) =
    cond (is_written i kind) (mark (codes ",") ∷ gap ∷ (operand_cuts i kind ++ more_cuts i kinds)) (more_cuts i kinds)

more-bytes-by : (b : Bool) (i : Instr) (kind : OperandKind) (cuts : List Cut) (texts : List (List ℕ)) → bytes_of cuts ≡ listed (codes ", ") texts → bytes_of (cond b (mark (codes ",") ∷ gap ∷ (operand_cuts i kind ++ cuts)) cuts) ≡ listed (codes ", ") (cond b (operand_text i kind ∷ texts) texts)
more-bytes-by true i kind cuts texts same =
    ap (λ (bs : List ℕ). codes "," ++ (codes " " ++ bs)) (bytes-join (operand_cuts i kind) cuts ∙ (ap (λ (bs : List ℕ). bs ++ bytes_of cuts) (operand-bytes i kind) ∙ ap (λ (bs : List ℕ). operand_text i kind ++ bs) same))
more-bytes-by false i kind cuts texts same = same

texts-by : (b : Bool) (i : Instr) (kind : OperandKind) (kinds : List OperandKind) → map (operand_text i) (cond b (kind ∷ kinds) kinds) ≡ cond b (operand_text i kind ∷ map (operand_text i) kinds) (map (operand_text i) kinds)
texts-by true i kind kinds = refl
texts-by false i kind kinds = refl

pub more-bytes : (i : Instr) (kinds : List OperandKind) → bytes_of (more_cuts i kinds) ≡ listed (codes ", ") (operand_texts i kinds)
more-bytes i [] = refl
more-bytes i (kind ∷ kinds) =
    more-bytes-by (is_written i kind) i kind (more_cuts i kinds) (operand_texts i kinds) (more-bytes i kinds)
    ∙ ap (listed (codes ", ")) (sym (texts-by (is_written i kind) i kind (filter (is_written i) kinds)))

-- ---- what an instruction shows in an operand of each kind

abbrev pub IsShown : Instr → OperandKind → Type 0
IsShown i operand.Destination = i.rd < 32
IsShown i operand.FirstSource = i.rs1 < 32
IsShown i operand.SecondSource = i.rs2 < 32
IsShown i (operand.Signed width) = (is_within (signed_range width) i.imm ≡ true) × (unsigned_abs i.imm < 2 ^ 33)
IsShown i (operand.Unsigned width) = (is_within (unsigned_range width) i.imm ≡ true) × (unsigned_abs i.imm < 2 ^ 33)
IsShown i (operand.Target width) = (is_offset width i.imm ≡ true) × (unsigned_abs i.imm < 2 ^ 33)
IsShown i operand.Address = (is_within (signed_range 12) i.imm ≡ true) × (unsigned_abs i.imm < 2 ^ 33) × (i.rs1 < 32)
IsShown i operand.Control = (is_within (unsigned_range 12) i.imm ≡ true) × (unsigned_abs i.imm < 2 ^ 33) × (i.imm ≡ pos (unsigned_abs i.imm))
IsShown i operand.SourceNumber = i.rs1 < 32
IsShown i operand.VectorDestination = i.rd < 32
IsShown i operand.FirstVector = i.rs1 < 32
IsShown i operand.SecondVector = i.rs2 < 32
IsShown i operand.Base = i.rs1 < 32
IsShown i (operand.Vtype width) = (is_within (unsigned_range width) i.imm ≡ true) × (unsigned_abs i.imm < 2 ^ 33) × (i.imm ≡ pos (unsigned_abs i.imm))
IsShown i operand.Masked = Unit {0}
IsShown i operand.Carry = i.vm ≡ false

-- ---- names

register_test : ℕ → Bool
register_test n = is_name (register_name n) && (is_some (register_number (register_name n)) && unwrap_or (register_number (register_name n)) 0 == n)

register-passes : (n : ℕ) → n < 32 → register_test n ≡ true
unfolding register_test is_name register_names numbered_names register_number beginning is_mark begins_name is_digit is_name_byte is_source_byte
register-passes n below = holds-below register_test 32 n refl below

vector_test : ℕ → Bool
vector_test n = is_name (vector_name n) && (is_some (vector_number (vector_name n)) && unwrap_or (vector_number (vector_name n)) 0 == n)

vector-passes : (n : ℕ) → n < 32 → vector_test n ≡ true
unfolding vector_test is_name vector_names vector_number beginning is_mark begins_name is_digit is_name_byte is_source_byte
vector-passes n below = holds-below vector_test 32 n refl below

-- a name's text, and the number that it is known by
pub record IsKnown (text : List ℕ) (o : Option ℕ) (n : ℕ) : Type 0 where
  pub name : is_name text ≡ true
  pub some : is_some o ≡ true
  pub value : unwrap_or o 0 ≡ n

known : (text : List ℕ) (o : Option ℕ) (n : ℕ) → (is_name text && (is_some o && unwrap_or o 0 == n)) ≡ true → IsKnown text o n
known text o n e =
    let p = and_parts (is_name text) _ e in
    let q = and_parts (is_some o) (unwrap_or o 0 == n) p.1 in
    record { name = p.0; some = q.0; value = eqb-true (unwrap_or o 0) n q.1 }

pub register-known : (n : ℕ) → n < 32 → IsKnown (register_name n) (register_number (register_name n)) n
unfolding register_test
register-known n below = known (register_name n) (register_number (register_name n)) n (register-passes n below)

pub vector-known : (n : ℕ) → n < 32 → IsKnown (vector_name n) (vector_number (vector_name n)) n
unfolding vector_test
vector-known n below = known (vector_name n) (vector_number (vector_name n)) n (vector-passes n below)

control_test : NamedControl → Bool
control_test c = is_name c.name && (is_some (control_number c.name) && unwrap_or (control_number c.name) 0 == c.number)

controls-pass : list_all control_test named_controls ≡ true
unfolding control_test is_name named_controls control_number beginning is_mark begins_name is_digit is_name_byte is_source_byte
controls-pass = refl

found-passes : {X : Type 0} (p q : X → Bool) (b : Bool) (x y : X) (o : Option X) → cond b (Some x) o ≡ Some y → p x ≡ b → q x ≡ true → (o ≡ Some y → (p y ≡ true) × (q y ≡ true)) → (p y ≡ true) × (q y ≡ true)
found-passes p q true x y o e here passes later = let same : x ≡ y = cc in (ap p (sym same) ∙ here, ap q (sym same) ∙ passes)
found-passes p q false x y o e here passes later = later e

found-in : {X : Type 0} (p q : X → Bool) (xs : List X) (y : X) → find p xs ≡ Some y → list_all q xs ≡ true → (p y ≡ true) × (q y ≡ true)
found-in p q [] y e all = absurd cc
found-in p q (x ∷ xs) y e all =
    let parts = and_parts (q x) (list_all q xs) all in
    found-passes p q (p x) x y (find p xs) e refl parts.0 (λ later. found-in p q xs y later parts.1)

control-of : (o : Option NamedControl) (n : ℕ) (text : List ℕ) → find (λ (c : NamedControl). n == c.number) named_controls ≡ o → option_map (λ (c : NamedControl). c.name) o ≡ Some text → IsKnown text (control_number text) n
unfolding control_test
control-of None n text e named = absurd cc
control-of (Some c) n text e named =
    let found = found-in (λ (c : NamedControl). n == c.number) control_test named_controls c e controls-pass in
    let same : c.name ≡ text = cc in
    let is : IsKnown c.name (control_number c.name) c.number = known c.name (control_number c.name) c.number found.1 in
    let number : c.number ≡ n = sym (eqb-true n c.number found.0) in
    subst (λ (t : List ℕ). IsKnown t (control_number t) n) same (subst (λ m. IsKnown c.name (control_number c.name) m) number is)

pub control-known : (n : ℕ) (text : List ℕ) → control_name n ≡ Some text → IsKnown text (control_number text) n
control-known n text named = control-of (find (λ (c : NamedControl). n == c.number) named_controls) n text refl named

-- ---- vtype by its words

unfoldable pub part_of : VtypeField → ℕ → ℕ
part_of f v = unwrap_or (vtype_number f (vtype_word f v)) 0 * 2 ^ (vtype_words f).low

abbrev pub added : ℤ → ℕ → ℤ
added z part = pos (reduced 8 (z +ℤ pos part))

abbrev word_known : VtypeField → ℕ → Bool
word_known f v = is_name (vtype_word f v) && is_some (vtype_number f (vtype_word f v))

words_test : ℕ → Bool
words_test v =
    not (has_words v) || (word_known Sew v && (word_known Lmul v && (word_known Tail v && (word_known Mask v
    && unsigned_abs (added (added (added (added (pos 0) (part_of Sew v)) (part_of Lmul v)) (part_of Tail v)) (part_of Mask v)) == v))))

words-pass : (v : ℕ) → v < 256 → words_test v ≡ true
unfolding words_test part_of is_name vtype_words vtype_number beginning is_mark begins_name is_digit is_name_byte is_source_byte
words-pass v below = holds-below words_test 256 v refl below

-- ---- the pieces are whole

comma-stops : (rest : List ℕ) → stops is_name_byte (44 ∷ rest) ≡ true
unfolding is_name_byte begins_name is_digit
comma-stops rest = refl

open-stops : (rest : List ℕ) → stops is_name_byte (40 ∷ rest) ≡ true
unfolding is_name_byte begins_name is_digit
open-stops rest = refl

close-stops : (rest : List ℕ) → stops is_name_byte (41 ∷ rest) ≡ true
unfolding is_name_byte begins_name is_digit
close-stops rest = refl

pub gap-stops : (rest : List ℕ) → stops is_name_byte (32 ∷ rest) ≡ true
unfolding is_name_byte begins_name is_digit
gap-stops rest = refl

apart-by : (b : Bool) (cuts later : List Cut) (rest : List ℕ) → stops is_name_byte (bytes_of later ++ rest) ≡ true → stops is_name_byte (bytes_of (cond b (mark (codes ",") ∷ gap ∷ cuts) later) ++ rest) ≡ true
apart-by true cuts later rest stop = comma-stops ((codes " " ++ bytes_of cuts) ++ rest)
apart-by false cuts later rest stop = stop

pub apart-more : (i : Instr) (kinds : List OperandKind) (rest : List ℕ) → stops is_name_byte rest ≡ true → stops is_name_byte (bytes_of (more_cuts i kinds) ++ rest) ≡ true
apart-more i [] rest stop = stop
apart-more i (kind ∷ kinds) rest stop = apart-by (is_written i kind) (operand_cuts i kind ++ more_cuts i kinds) (more_cuts i kinds) rest (apart-more i kinds rest stop)

pub small-register : (n : ℕ) → n < 32 → n < 2 ^ 33
small-register n below = omega (arith, below)

control-cuts : (o : Option (List ℕ)) (n : ℕ) (rest : List ℕ) → control_name n ≡ o → n < 2 ^ 33 → stops is_name_byte rest ≡ true → IsCut (control_cut o n) rest
control-cuts (Some text) n rest e small stop = name-cut text rest (control-known n text e).name stop
control-cuts None n rest e small stop = signed-cut (pos n) rest small stop

-- the words of a vtype are known, and give it back
pub record AreWords (v : ℕ) : Type 0 where
  pub sew_name : is_name (vtype_word Sew v) ≡ true
  pub sew_some : is_some (vtype_number Sew (vtype_word Sew v)) ≡ true
  pub lmul_name : is_name (vtype_word Lmul v) ≡ true
  pub lmul_some : is_some (vtype_number Lmul (vtype_word Lmul v)) ≡ true
  pub tail_name : is_name (vtype_word Tail v) ≡ true
  pub tail_some : is_some (vtype_number Tail (vtype_word Tail v)) ≡ true
  pub mask_name : is_name (vtype_word Mask v) ≡ true
  pub mask_some : is_some (vtype_number Mask (vtype_word Mask v)) ≡ true
  pub sum : added (added (added (added (pos 0) (part_of Sew v)) (part_of Lmul v)) (part_of Tail v)) (part_of Mask v) ≡ pos v

unless : (a b : Bool) → (not a || b) ≡ true → a ≡ true → b ≡ true
unless true b e h = e
unless false b e h = absurd (false≢true h)

pub are-words : (v : ℕ) → has_words v ≡ true → AreWords v
unfolding words_test
are-words v has =
    let below : v < 2 ^ 8 = ltb-true v (2 ^ 8) (and_parts (nat_lt v (2 ^ 8)) _ has).0 in
    let all = unless (has_words v) _ (words-pass v (omega (arith, below))) has in
    let a = and_parts (word_known Sew v) _ all in
    let b = and_parts (word_known Lmul v) _ a.1 in
    let c = and_parts (word_known Tail v) _ b.1 in
    let d = and_parts (word_known Mask v) _ c.1 in
    let sews = and_parts (is_name (vtype_word Sew v)) (is_some (vtype_number Sew (vtype_word Sew v))) a.0 in
    let lmuls = and_parts (is_name (vtype_word Lmul v)) (is_some (vtype_number Lmul (vtype_word Lmul v))) b.0 in
    let tails = and_parts (is_name (vtype_word Tail v)) (is_some (vtype_number Tail (vtype_word Tail v))) c.0 in
    let masks = and_parts (is_name (vtype_word Mask v)) (is_some (vtype_number Mask (vtype_word Mask v))) d.0 in
    record {
      sew_name = sews.0;
      sew_some = sews.1;
      lmul_name = lmuls.0;
      lmul_some = lmuls.1;
      tail_name = tails.0;
      tail_some = tails.1;
      mask_name = masks.0;
      mask_some = masks.1;
      sum = ap pos (eqb-true _ v d.1);
    }

words-cut : (b : Bool) (v : ℕ) (rest : List ℕ) → has_words v ≡ b → v < 2 ^ 33 → stops is_name_byte rest ≡ true → AreCuts (vtype_cuts b v) rest
words-cut true v rest has small stop =
    let are = are-words v has in (
      name-cut _ _ are.sew_name (comma-stops []),
      (
        comma-cut _,
        (
          gap-cut _,
          (
            name-cut _ _ are.lmul_name (comma-stops []),
            (
              comma-cut _,
              (
                gap-cut _,
                (
                  name-cut _ _ are.tail_name (comma-stops []),
                  (
                    comma-cut _,
                    (
                      gap-cut _,
                      (name-cut _ _ are.mask_name stop, tt),
                    ),
                  ),
                ),
              ),
            ),
          ),
        ),
      ),
    )
words-cut false v rest has small stop = (signed-cut (pos v) rest small stop, tt)

v0-name : (is_name (codes "v0") ≡ true) × (is_name (codes "v0.t") ≡ true)
unfolding is_name beginning is_mark begins_name is_digit is_name_byte is_source_byte
v0-name = (refl, refl)

register-cut : (n : ℕ) (rest : List ℕ) → n < 32 → stops is_name_byte rest ≡ true → IsCut (name (register_name n)) rest
register-cut n rest below stop = name-cut (register_name n) rest (register-known n below).name stop

vector-cut : (n : ℕ) (rest : List ℕ) → n < 32 → stops is_name_byte rest ≡ true → IsCut (name (vector_name n)) rest
vector-cut n rest below stop = name-cut (vector_name n) rest (vector-known n below).name stop

pub operand-cut : (i : Instr) (kind : OperandKind) (rest : List ℕ) → IsShown i kind → stops is_name_byte rest ≡ true → AreCuts (operand_cuts i kind) rest
operand-cut i operand.Destination rest is stop = (register-cut i.rd rest is stop, tt)
operand-cut i operand.FirstSource rest is stop = (register-cut i.rs1 rest is stop, tt)
operand-cut i operand.SecondSource rest is stop = (register-cut i.rs2 rest is stop, tt)
operand-cut i (operand.Signed width) rest is stop = (signed-cut i.imm rest is.1 stop, tt)
operand-cut i (operand.Unsigned width) rest is stop = (signed-cut i.imm rest is.1 stop, tt)
operand-cut i (operand.Target width) rest is stop = (signed-cut i.imm rest is.1 stop, tt)
operand-cut i operand.Address rest is stop = (signed-cut i.imm _ is.1 (open-stops []), (open-cut _, (register-cut i.rs1 _ is.2 (close-stops []), (close-cut _, tt))))
operand-cut i operand.Control rest is stop = (control-cuts (control_name (unsigned_abs i.imm)) (unsigned_abs i.imm) rest refl is.1 stop, tt)
operand-cut i operand.SourceNumber rest is stop = (signed-cut (pos i.rs1) rest (small-register i.rs1 is) stop, tt)
operand-cut i operand.VectorDestination rest is stop = (vector-cut i.rd rest is stop, tt)
operand-cut i operand.FirstVector rest is stop = (vector-cut i.rs1 rest is stop, tt)
operand-cut i operand.SecondVector rest is stop = (vector-cut i.rs2 rest is stop, tt)
operand-cut i operand.Base rest is stop = (open-cut _, (register-cut i.rs1 _ is (close-stops []), (close-cut _, tt)))
operand-cut i (operand.Vtype width) rest is stop = words-cut (has_words (unsigned_abs i.imm)) (unsigned_abs i.imm) rest refl is.1 stop
operand-cut i operand.Masked rest is stop = (name-cut (codes "v0.t") rest v0-name.1 stop, tt)
operand-cut i operand.Carry rest is stop = (name-cut (codes "v0") rest v0-name.0 stop, tt)

-- all operands are shown
abbrev pub AreShown : Instr → List OperandKind → Type 0
AreShown i [] = Unit {0}
AreShown i (kind ∷ kinds) = IsShown i kind × AreShown i kinds

more-cut-by : (b : Bool) (i : Instr) (kind : OperandKind) (later : List Cut) (rest : List ℕ) → IsShown i kind → stops is_name_byte (bytes_of later ++ rest) ≡ true → AreCuts later rest → AreCuts (cond b (mark (codes ",") ∷ gap ∷ (operand_cuts i kind ++ later)) later) rest
more-cut-by true i kind later rest is stop are = (comma-cut _, (gap-cut _, cuts-join (operand_cuts i kind) later rest (operand-cut i kind (bytes_of later ++ rest) is stop) are))
more-cut-by false i kind later rest is stop are = are

pub more-cut : (i : Instr) (kinds : List OperandKind) (rest : List ℕ) → AreShown i kinds → stops is_name_byte rest ≡ true → AreCuts (more_cuts i kinds) rest
more-cut i [] rest are stop = tt
more-cut i (kind ∷ kinds) rest are stop =
    more-cut-by (is_written i kind) i kind (more_cuts i kinds) rest are.0 (apart-more i kinds rest stop) (more-cut i kinds rest are.1 stop)
