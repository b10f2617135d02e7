-- The line of an instruction is a source of its word.
use Rattle.std.proofs.Common.{◌≡◌, ℕ, ◌+◌, Bool, true, false, not, cond, ◌&&◌, ◌||◌, ℤ, List, [], ◌∷◌, ◌++◌, length, map, filter, drop, Option, Some, option_map, refl, sym, ap, ◌∙◌, subst}
use Rattle.std.specs.Prelude.{codes, find, count_by}
use Rattle.std.specs.List.{list_all, list_any}
use Rattle.std.proofs.lemmas.Bool.{and_parts, false≢true}
use Rattle.std.proofs.lemmas.List.{append-nil}
use Rattle.vx_base.specs.Numbers.{little_endian}
use Rattle.vx_rows.specs.Table.{mnemonic}
use Rattle.vx_decode.specs.Encoded.{IsValid, word_of}
use Rattle.vx_decode.specs.declared.instr.Instr.{Instr}
use Rattle.vx_source.specs.Lines.{listed, operand_texts, instr_line}
use Rattle.vx_source.specs.Operands.{operand_kinds, operand_text, is_written}
use Rattle.vx_source.specs.declared.operand.OperandKind.{OperandKind}
use Rattle.vx_source.specs.declared.operand.OperandKind.TheVariants as operand
use Rattle.vx_language.specs.Assembly.{IsSourceOf}
use Rattle.vx_language.specs.Bytes.{is_digit, begins_name, is_name_byte}
use Rattle.vx_language.specs.Code.{Code, filled_all, expanded, instr_bytes}
use Rattle.vx_language.specs.Faults.{fault_at}
use Rattle.vx_language.specs.Forms.{Form, form, alone, forms_of, instr_forms}
use Rattle.vx_language.specs.Lexemes.{Piece, is_a}
use Rattle.vx_language.specs.Lines.{is_the_mark}
use Rattle.vx_language.specs.Names.{instr_named}
use Rattle.vx_language.specs.Places.{first_place, is_code, placement_faults, offset_faults, form_offset_faults}
use Rattle.vx_language.specs.Slots.{Slot, comma, operand_ways, ways_behind_commas}
use Rattle.vx_language.specs.Statements.{Plain, code_instrs, forms_for, operand_faults, named_faults, statement_faults, take_all, form_for, is_done, chunk_of, form_chunk, statement_form, statement_chunk}
use Rattle.vx_language.specs.declared.fault.Fault.{Fault}
use Rattle.vx_language.specs.declared.fault.FaultKind.TheVariants.{UnknownName, BadOperand}
use Rattle.vx_language.specs.declared.token.TokenKind.TheVariants as token
use Rattle.vx_lines.proofs.Cuts.{Cut, AreCuts, bytes_of, piece_at, tokens_of, bytes-join, cuts-join, tokens-join}
use Rattle.vx_lines.proofs.Numerals.{name, gap, stops, is_name, name-cut, gap-cut}
use Rattle.vx_lines.proofs.Choices.{Fill, Chooses, found-mapped, chooses-front, chooses-none, skip-done, filled-join, offsets-join}
use Rattle.vx_lines.proofs.Written.{operand_cuts, more_cuts, operand-bytes, more-bytes, gap-stops, apart-more, operand-cut, more-cut, AreShown}
use Rattle.vx_lines.proofs.Readings.{is_empty, with_operand, with_operands, ways-plain, imm-kept, not-set, is_plain, is_vtype, sets_imm, are_right, plain_way, read-plain, written-plain, all-read}
use Rattle.vx_lines.proofs.Rows.{begins_plain, code_of, has-line, HasName, has-name, others_of, is_none_of, is_alone}
use Rattle.vx_lines.proofs.Mnemonics.{with_nf}
use Rattle.vx_lines.proofs.Source.{IsStatement, and-false, ending, source-is}

-- ---- forms

-- the forms of an instruction written in these ways
abbrev mades : List ℕ → Instr → List (List Slot) → List Form
mades text i ways = map (λ (slots : List Slot). form text slots (alone i)) ways

slots-back : (text : List ℕ) (i : Instr) (ways : List (List Slot)) → map (λ (f : Form). f.slots) (mades text i ways) ≡ ways
slots-back text i [] = refl
slots-back text i (way ∷ ways) = ap (λ (ws : List (List Slot)). way ∷ ws) (slots-back text i ways)

slots-join : (xs ys : List Form) → map (λ (f : Form). f.slots) (xs ++ ys) ≡ map (λ (f : Form). f.slots) xs ++ map (λ (f : Form). f.slots) ys
slots-join [] ys = refl
slots-join (x ∷ xs) ys = ap (λ (ws : List (List Slot)). x.slots ∷ ws) (slots-join xs ys)

dones : (forms : List Form) → list_all is_done (map (λ (f : Form). f.slots) forms) ≡ list_all (λ (f : Form). is_done f.slots) forms
dones [] = refl
dones (f ∷ forms) = ap (λ b. is_done f.slots && b) (dones forms)

-- the faults of a statement with some forms
named-is : (end : ℕ) (first : Piece) (operands : List Piece) (f : Form) (forms : List Form) → forms_for first operands ≡ f ∷ forms → named_faults [] end first operands ≡ operand_faults [] end (map (λ (g : Form). g.slots) (f ∷ forms)) operands
unfolding named_faults
named-is end first operands f forms e = ap (λ (fs : List Form). elim fs as (λ _. List Fault) [
  | [] ↦ fault_at UnknownName first ∷ []
  | g ∷ more ↦ operand_faults [] end (map (λ (h : Form). h.slots) (g ∷ more)) operands
]) e

pub named-from : (first : Piece) (operands : List Piece) (way : List Slot) (forms : List Form) → forms_for first operands ≡ forms → Chooses (map (λ (f : Form). f.slots) forms) way operands → (end : ℕ) → named_faults [] end first operands ≡ []
named-from first operands way [] e chosen end = absurd (let found = chosen.found in cc)
named-from first operands way (f ∷ forms) e chosen end = named-is end first operands f forms e ∙ chosen.faults end

skip-form : (slots : List Slot) (piece : Piece) (pieces : List Piece) → is_done slots ≡ true → take_all slots (piece ∷ pieces) ≡ false
unfolding take_all
skip-form [] piece pieces done = refl
skip-form (slot ∷ slots) piece pieces done = absurd (false≢true done)

skip-forms : (others forms : List Form) (piece : Piece) (pieces : List Piece) → list_all (λ (f : Form). is_done f.slots) others ≡ true → find (λ (f : Form). take_all f.slots (piece ∷ pieces)) (others ++ forms) ≡ find (λ (f : Form). take_all f.slots (piece ∷ pieces)) forms
skip-forms [] forms piece pieces done = refl
skip-forms (f ∷ others) forms piece pieces done =
    let parts = and_parts (is_done f.slots) (list_all (λ (g : Form). is_done g.slots) others) done in
    ap (λ b. cond b (Some f) (find (λ (g : Form). take_all g.slots (piece ∷ pieces)) (others ++ forms))) (skip-form f.slots piece pieces parts.0)
    ∙ skip-forms others forms piece pieces parts.1

found-made : (text : List ℕ) (i : Instr) (ways : List (List Slot)) (way : List Slot) (pieces : List Piece) → Chooses ways way pieces → find (λ (f : Form). take_all f.slots pieces) (mades text i ways) ≡ Some (form text way (alone i))
found-made text i ways way pieces chosen =
    found-mapped (λ (slots : List Slot). take_all slots pieces) (λ (f : Form). take_all f.slots pieces) (λ (slots : List Slot). form text slots (alone i)) ways (λ slots. refl)
    ∙ ap (option_map (λ (slots : List Slot). form text slots (alone i))) chosen.found

-- the form of an instruction's statement, and that it has no fault
record IsForm (i : Instr) (first : Piece) (operands : List Piece) (way : List Slot) : Type 0 where
  faults : (end : ℕ) → named_faults [] end first operands ≡ []
  found : form_for first operands ≡ Some (form first.text way (alone i))

form-from : (i : Instr) (first : Piece) (piece : Piece) (pieces : List Piece) (way : List Slot) (others : List Form) (ways : List (List Slot)) → forms_for first (piece ∷ pieces) ≡ others ++ mades first.text i ways → list_all (λ (f : Form). is_done f.slots) others ≡ true → Chooses ways way (piece ∷ pieces) → IsForm i first (piece ∷ pieces) way
unfolding form_for
form-from i first piece pieces way others ways e done chosen =
    let slots : map (λ (f : Form). f.slots) (others ++ mades first.text i ways) ≡ map (λ (f : Form). f.slots) others ++ ways = slots-join others (mades first.text i ways) ∙ ap (λ (ws : List (List Slot)). map (λ (f : Form). f.slots) others ++ ws) (slots-back first.text i ways) in
    let all : Chooses (map (λ (f : Form). f.slots) others ++ ways) way (piece ∷ pieces) = skip-done (map (λ (f : Form). f.slots) others) ways way piece pieces (dones others ∙ done) chosen in
    record {
      faults = named-from first (piece ∷ pieces) way (others ++ mades first.text i ways) e (subst (λ (ws : List (List Slot)). Chooses ws way (piece ∷ pieces)) (sym slots) all);
      found = ap (find (λ (f : Form). take_all f.slots (piece ∷ pieces))) e ∙ (skip-forms others (mades first.text i ways) piece pieces done ∙ found-made first.text i ways way (piece ∷ pieces) chosen);
    }

form-alone : (i : Instr) (first : Piece) → forms_for first [] ≡ mades first.text i ([] ∷ []) → IsForm i first [] []
unfolding form_for
form-alone i first e = record {
  faults = named-from first [] [] (mades first.text i ([] ∷ [])) e chooses-none;
  found = ap (find (λ (f : Form). take_all f.slots [])) e ∙ found-made first.text i ([] ∷ []) [] [] chooses-none;
}

forms-are : (commas : ℕ) (text : List ℕ) (i : Instr) → instr_named text ≡ Some i → forms_of commas text ≡ others_of commas text ++ mades text i (operand_ways (operand_kinds i.op))
unfolding forms_of
forms-are commas text i e = ap (λ (o : Option Instr). others_of commas text ++ instr_forms text o) e

none-others : (others forms : List Form) → is_none_of others ≡ true → others ++ forms ≡ forms
none-others [] forms e = refl
none-others (f ∷ others) forms e = absurd (false≢true e)

-- ---- the statement of an instruction's line

abbrev line_cuts : Instr → List OperandKind → List Cut
line_cuts i [] = name (mnemonic i.op i.nf) ∷ []
line_cuts i (kind ∷ kinds) = name (mnemonic i.op i.nf) ∷ gap ∷ (operand_cuts i kind ++ more_cuts i kinds)

-- the tokens behind the name
record IsOperands (i : Instr) (kinds : List OperandKind) (operands : List Piece) : Type 0 where
  way : List Slot
  formed : (first : Piece) → first.text ≡ mnemonic i.op i.nf → IsForm (with_nf i.op i.nf) first operands way
  gives : filled_all way operands (code_of (with_nf i.op i.nf)) ≡ with_operands i kinds (code_of (with_nf i.op i.nf))
  reach : (aim : Piece → ℤ) → offset_faults aim way operands ≡ []

no-operands : (i : Instr) → HasName i → operand_kinds i.op ≡ [] → IsOperands i [] []
unfolding forms_for filled_all offset_faults ways_behind_commas
no-operands i named none =
    let other : (commas : ℕ) → is_none_of (others_of commas (mnemonic i.op i.nf)) ≡ true = λ commas. subst (λ (ks : List OperandKind). is_alone ks (others_of commas (mnemonic i.op i.nf)) ≡ true) none (named.others commas) in
    record {
      way = [];
      formed = λ first same. form-alone (with_nf i.op i.nf) first
          (forms-are 0 first.text (with_nf i.op i.nf) (ap instr_named same ∙ named.named)
          ∙ (none-others (others_of 0 first.text) (mades first.text (with_nf i.op i.nf) (operand_ways (operand_kinds i.op))) (ap (λ (t : List ℕ). is_none_of (others_of 0 t)) same ∙ other 0)
          ∙ ap (λ (ks : List OperandKind). mades first.text (with_nf i.op i.nf) (operand_ways ks)) none));
      gives = refl;
      reach = λ aim. refl;
    }

drop-commas : (way : List Slot) (ways : List (List Slot)) → map (drop 1) (map (λ (slots : List Slot). (comma ∷ way) ++ slots) ways) ≡ map (λ (slots : List Slot). way ++ slots) ways
drop-commas way [] = refl
drop-commas way (first ∷ ways) = ap (λ (ws : List (List Slot)). (way ++ first) ∷ ws) (drop-commas way ways)

ways-first : (kind : OperandKind) (kinds : List OperandKind) → is_plain kind ≡ true → operand_ways (kind ∷ kinds) ≡ map (λ (slots : List Slot). plain_way kind ++ slots) (ways_behind_commas kinds)
ways-first kind kinds plain = ap (map (drop 1)) (ways-plain kind kinds plain) ∙ drop-commas (plain_way kind) (ways_behind_commas kinds)

record IsMore (pieces : List Piece) : Type 0 where
  piece : Piece
  rest : List Piece
  is : pieces ≡ piece ∷ rest

-- a kind that is written in one way takes a token
some-piece : (kind : OperandKind) (own later : List Piece) → is_plain kind ≡ true → Fill (plain_way kind) own → IsMore (own ++ later)
some-piece kind (piece ∷ own) later plain fill = record { piece = piece; rest = own ++ later; is = refl }
some-piece operand.Destination [] later plain fill = absurd fill
some-piece operand.Masked [] later plain fill = absurd (false≢true plain)
some-piece (operand.Vtype width) [] later plain fill = absurd (false≢true plain)
some-piece kind [] later plain fill = absurd fill

right-more : (kind : OperandKind) (kinds : List OperandKind) → is_plain kind ≡ true → are_right (kind ∷ kinds) ≡ true → ((not (list_any is_vtype kinds) || not (sets_imm kind)) && are_right kinds) ≡ true
right-more kind kinds plain right = sym (ap (λ b. cond b ((not (list_any is_vtype kinds) || not (sets_imm kind)) && are_right kinds) (is_empty kinds)) plain) ∙ right

some-operands : (i : Instr) (kind : OperandKind) (kinds : List OperandKind) (start : ℕ) → HasName i → operand_kinds i.op ≡ kind ∷ kinds → is_plain kind ≡ true → are_right (kind ∷ kinds) ≡ true → AreShown i (kind ∷ kinds) → IsOperands i (kind ∷ kinds) (tokens_of start (operand_cuts i kind ++ more_cuts i kinds))
unfolding forms_for
some-operands i kind kinds start named is plain right shown =
    let bare : Instr = with_nf i.op i.nf in
    let own : List Piece = tokens_of start (operand_cuts i kind) in
    let at : ℕ = start + length (bytes_of (operand_cuts i kind)) in
    let later : List Piece = tokens_of at (more_cuts i kinds) in
    let k = read-plain i kind start plain shown.0 in
    let rights = and_parts (not (list_any is_vtype kinds) || not (sets_imm kind)) (are_right kinds) (right-more kind kinds plain right) in
    let apart : (not (list_any is_vtype kinds) || not (sets_imm kind)) ≡ true = rights.0 in
    let r = all-read i kinds rights.1 shown.1 at in
    let way : List Slot = plain_way kind ++ r.way in
    let ways : operand_ways (operand_kinds i.op) ≡ map (λ (slots : List Slot). plain_way kind ++ slots) (ways_behind_commas kinds) = ap operand_ways is ∙ ways-first kind kinds plain in
    let chosen : Chooses (operand_ways (operand_kinds i.op)) way (own ++ later) =
    subst (λ (ws : List (List Slot)). Chooses ws way (own ++ later)) (sym ways) (chooses-front (ways_behind_commas kinds) r.way (plain_way kind) own later k.fill r.chosen) in
    let some = some-piece kind own later plain k.fill in
    let other : (commas : ℕ) → list_all (λ (f : Form). is_done f.slots) (others_of commas (mnemonic i.op i.nf)) ≡ true = λ commas. subst (λ (ks : List OperandKind). is_alone ks (others_of commas (mnemonic i.op i.nf)) ≡ true) is (named.others commas) in
    let made : IsOperands i (kind ∷ kinds) (own ++ later) = record {
      way = way;
      formed = λ first same.
          let commas : ℕ = count_by (is_the_mark (codes ",")) (some.piece ∷ some.rest) in
          subst (λ (ps : List Piece). IsForm bare first ps way) (sym some.is)
          (form-from bare first some.piece some.rest way (others_of commas first.text) (operand_ways (operand_kinds i.op))
          (forms-are commas first.text bare (ap instr_named same ∙ named.named))
          (ap (λ (t : List ℕ). list_all (λ (f : Form). is_done f.slots) (others_of commas t)) same ∙ other commas)
          (subst (λ (ps : List Piece). Chooses (operand_ways (operand_kinds i.op)) way ps) some.is chosen));
      gives =
          filled-join (plain_way kind) r.way own later (code_of bare) k.fill
          ∙ (ap (filled_all r.way later) (k.gives (code_of bare))
          ∙ r.gives (with_operand i kind (code_of bare)) (λ has. imm-kept i kind (code_of bare) (not-set (list_any is_vtype kinds) (sets_imm kind) apart has)));
      reach = λ aim. offsets-join aim (plain_way kind) r.way own later k.fill (k.reach aim) (r.reach aim);
    } in
    subst (λ (ps : List Piece). IsOperands i (kind ∷ kinds) ps) (sym (tokens-join start (operand_cuts i kind) (more_cuts i kinds))) made

-- the statement
pub no-placement : (first : Piece) (operands : List Piece) → placement_faults first_place (first ∷ operands) ≡ []
unfolding placement_faults
no-placement first operands =
    ap (λ b. cond (is_a token.Name first && b) (fault_at BadOperand first ∷ []) []) (and-false (list_any is_code (forms_for first operands)))
    ∙ ap (λ b. cond b (fault_at BadOperand first ∷ []) []) (and-false (is_a token.Name first))

statement-is : (word : ℕ) (i : Instr) (kinds : List OperandKind) (start : ℕ) (operands : List Piece) → word_of i ≡ word → with_operands i kinds (code_of (with_nf i.op i.nf)) ≡ code_of i → IsOperands i kinds operands → IsStatement (piece_at start (name (mnemonic i.op i.nf)) ∷ operands) word
unfolding statement_faults is_a statement_chunk statement_form chunk_of instr_bytes expanded
statement-is word i kinds start operands same given are =
    let first : Piece = piece_at start (name (mnemonic i.op i.nf)) in
    let is = are.formed first refl in
    let made : filled_all are.way operands (code_of (with_nf i.op i.nf)) ≡ code_of i = are.gives ∙ given in
    record {
      faults = λ end. is.faults end;
      placed = no-placement first operands;
      chunk = λ aim.
          ap (form_chunk aim 0 operands) is.found
          ∙ (ap (λ (c : Code). Plain (instr_bytes (code_instrs aim c))) made
          ∙ (ap (λ (bs : List ℕ). Plain bs) (append-nil (little_endian 4 (word_of i)))
          ∙ ap (λ n. Plain (little_endian 4 n)) same));
      reach = λ aim. ap (λ (o : Option Form). form_offset_faults aim o operands) is.found ∙ are.reach aim;
    }

-- ---- an instruction's line

line-bytes : (i : Instr) (kinds : List OperandKind) → begins_plain kinds ≡ true → bytes_of (line_cuts i kinds) ≡ mnemonic i.op i.nf ++ listed (codes " ") (operand_texts i kinds)
line-bytes i [] plain = refl
line-bytes i (kind ∷ kinds) plain =
    let texts : operand_texts i (kind ∷ kinds) ≡ operand_text i kind ∷ operand_texts i kinds = ap (λ b. map (operand_text i) (cond b (kind ∷ filter (is_written i) kinds) (filter (is_written i) kinds))) (written-plain i kind plain) in
    ap (λ (bs : List ℕ). mnemonic i.op i.nf ++ (codes " " ++ bs))
    (bytes-join (operand_cuts i kind) (more_cuts i kinds)
    ∙ (ap (λ (bs : List ℕ). bs ++ bytes_of (more_cuts i kinds)) (operand-bytes i kind)
    ∙ ap (λ (bs : List ℕ). operand_text i kind ++ bs) (more-bytes i kinds)))
    ∙ ap (λ (ts : List (List ℕ)). mnemonic i.op i.nf ++ listed (codes " ") ts) (sym texts)

pub ending-stops : (b : Bool) → stops is_name_byte (ending b) ≡ true
unfolding is_name_byte begins_name is_digit
ending-stops true = refl
ending-stops false = refl

line-cut : (i : Instr) (kinds : List OperandKind) (b : Bool) → is_name (mnemonic i.op i.nf) ≡ true → AreShown i kinds → AreCuts (line_cuts i kinds) (ending b)
line-cut i [] b named shown = (name-cut (mnemonic i.op i.nf) (ending b) named (ending-stops b), tt)
line-cut i (kind ∷ kinds) b named shown = (
  name-cut (mnemonic i.op i.nf) _ named (gap-stops []),
  (
    gap-cut _,
    cuts-join (operand_cuts i kind) (more_cuts i kinds) (ending b) (operand-cut i kind (bytes_of (more_cuts i kinds) ++ ending b) shown.0 (apart-more i kinds (ending b) (ending-stops b))) (more-cut i kinds (ending b) shown.1 (ending-stops b)),
  ),
)

line-statement : (word : ℕ) (i : Instr) (kinds : List OperandKind) → operand_kinds i.op ≡ kinds → word_of i ≡ word → HasName i → begins_plain kinds ≡ true → are_right kinds ≡ true → AreShown i kinds → with_operands i kinds (code_of (with_nf i.op i.nf)) ≡ code_of i → IsStatement (tokens_of 0 (line_cuts i kinds)) word
line-statement word i [] is same named plain right shown given = statement-is word i [] 0 [] same given (no-operands i named is)
line-statement word i (kind ∷ kinds) is same named plain right shown given =
    let start : ℕ = 0 + length (mnemonic i.op i.nf) + 1 in
    statement-is word i (kind ∷ kinds) 0 (tokens_of start (operand_cuts i kind ++ more_cuts i kinds)) same given (some-operands i kind kinds start named is plain right shown)

pub instr-line : (word : ℕ) (b : Bool) (i : Instr) → IsValid i → word_of i ≡ word → IsSourceOf (instr_line i ++ ending b) word
instr-line word b i valid same =
    let kinds : List OperandKind = operand_kinds i.op in
    let line = has-line i valid in
    let named = has-name i valid in
    let source = source-is (line_cuts i kinds) b word (line-cut i kinds b named.name line.shown) (line-statement word i kinds refl same named line.plain line.right line.shown line.given) in
    subst (λ (bs : List ℕ). IsSourceOf (bs ++ ending b) word) (line-bytes i kinds line.plain) source
