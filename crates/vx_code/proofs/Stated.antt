-- The form of a statement.
use Rattle.std.proofs.Common.{◌≡◌, ℕ, length, drop, ℤ, pos, List, [], ◌∷◌, Option, Some, None, IfSome, option_map, true, refl, sym, ap, ◌∙◌, subst}
use Rattle.std.proofs.lemmas.List.{nil_from_length}
use Rattle.vx_language.specs.Faults.{first_of}
use Rattle.vx_language.specs.Forms as language
use Rattle.vx_language.specs.Lexemes.{Piece}
use Rattle.vx_language.specs.Places.{offset_faults, form_offset_faults, statement_offset_faults}
use Rattle.vx_language.specs.Statements.{statement_form, statement_faults, form_for, Chunk, Plain, chunk_size, chunk_of, form_chunk, statement_chunk}
use Rattle.vx_language.specs.declared.fault.Fault.{Fault}
use Rattle.vx_statement.specs.Lexemes.{piece_of, pieces_of}
use Rattle.vx_statement.specs.Ways.{commas_in, form_of, action_of}
use Rattle.vx_statement.specs.declared.form.Form.{Form}
use Rattle.vx_statement.specs.declared.lexeme.Lexeme.{Lexeme}
use Rattle.vx_code.specs.Filling.{Fill, AreFilled}
use Rattle.vx_code.specs.Putting.{IsFaultless, IsFormOf, IsSound, slots_for}
use Rattle.vx_code.specs.Right.{is_right}
use Rattle.vx_code.proofs.Sound.{sound}
use Rattle.vx_code.proofs.Sized.{same-size}
use denote.Ref.{Bor}

pub no-statement : (statement : List Lexeme) → length statement ≡ 0 → statement_form (pieces_of statement) ≡ None
unfolding statement_form
no-statement statement e = rw (nil_from_length statement e) refl

form-of-cut : (name : Lexeme) (operands : List Lexeme) → statement_form (pieces_of (name ∷ operands)) ≡ form_for (piece_of name) (pieces_of operands)
unfolding statement_form
form-of-cut name operands = refl

found : (statement : List Lexeme) (name : Lexeme) (operands : List Lexeme) (answer : Option Form) → statement ≡ name ∷ operands → option_map (form_of name.text.now (commas_in (pieces_of operands))) answer ≡ form_for (piece_of name) (pieces_of operands) → statement_form (pieces_of statement) ≡ option_map (form_of name.text.now (commas_in (pieces_of operands))) answer
found statement name operands answer e is = rw e (form-of-cut name operands ∙ sym is)

pub stated : (statement : List Lexeme) (name : Lexeme) (operands : List Lexeme) (answer : Option Form) (form : Form) → statement ≡ name ∷ operands → option_map (form_of name.text.now (commas_in (pieces_of operands))) answer ≡ form_for (piece_of name) (pieces_of operands) → answer ≡ Some form → (x : Lexeme) × (statement ≡ x ∷ operands) × (statement_form (pieces_of statement) ≡ Some (form_of x.text.now (commas_in (pieces_of operands)) form))
stated statement name operands answer form e is some = (name, e, found statement name operands answer e is ∙ ap (option_map (form_of name.text.now (commas_in (pieces_of operands)))) some)

pub not-stated : (statement : List Lexeme) (name : Lexeme) (operands : List Lexeme) (answer : Option Form) → statement ≡ name ∷ operands → option_map (form_of name.text.now (commas_in (pieces_of operands))) answer ≡ form_for (piece_of name) (pieces_of operands) → answer ≡ None → statement_form (pieces_of statement) ≡ None
not-stated statement name operands answer e is none = found statement name operands answer e is ∙ ap (option_map (form_of name.text.now (commas_in (pieces_of operands)))) none

-- a statement without a fault has a form that fits
pub form-fits : (names : List (List ℕ)) (end : ℕ) (statement operands : List Lexeme) (name : Lexeme) (form : language.Form) → statement ≡ name ∷ operands → statement_form (pieces_of statement) ≡ Some form → statement_faults names end (pieces_of statement) ≡ [] → Fill names form.slots (pieces_of operands) × (is_right form ≡ true)
form-fits names end statement operands name form e is none =
    let cut : form_for (piece_of name) (pieces_of operands) ≡ Some form = sym (form-of-cut name operands) ∙ ap (λ (l : List Lexeme). statement_form (pieces_of l)) (sym e) ∙ is in
    let faultless : statement_faults names end (piece_of name ∷ pieces_of operands) ≡ [] = ap (λ (l : List Lexeme). statement_faults names end (pieces_of l)) (sym e) ∙ none in
    subst (λ (o : Option language.Form). IfSome o (λ (f : language.Form). Fill names f.slots (pieces_of operands) × (is_right f ≡ true))) cut (sound names end (piece_of name) (pieces_of operands) faultless)

-- what it puts
none-of : (aim : Piece → ℤ) (offset : ℕ) (statement : List Piece) → statement_form statement ≡ None → statement_chunk aim offset statement ≡ Plain []
unfolding statement_chunk
none-of aim offset statement e = ap (form_chunk aim offset (drop 1 statement)) e

pub none-put : (aim : Piece → ℤ) (offset : ℕ) (statement : List Piece) → statement_form statement ≡ None → Plain [] ≡ statement_chunk aim offset statement
none-put aim offset statement e = sym (none-of aim offset statement e)

pub none-sized : (aim : Piece → ℤ) (offset : ℕ) (statement : List Piece) → statement_form statement ≡ None → 0 ≡ chunk_size (statement_chunk aim offset statement)
none-sized aim offset statement e = ap chunk_size (none-put aim offset statement e)

pub some-put : (aim : Piece → ℤ) (offset : ℕ) (statement : List Lexeme) (name : Lexeme) (operands : List Lexeme) (form : language.Form) → statement ≡ name ∷ operands → statement_form (pieces_of statement) ≡ Some form → chunk_of aim offset form.slots (pieces_of operands) form.action ≡ statement_chunk aim offset (pieces_of statement)
unfolding statement_chunk
some-put aim offset statement name operands form e is =
    sym (
    ap (form_chunk aim offset (drop 1 (pieces_of statement))) is
    ∙ ap (λ (l : List Lexeme). form_chunk aim offset (drop 1 (pieces_of l)) (Some form)) e)

-- its offsets
pub none-reached : (aim : Piece → ℤ) (statement : List Piece) → statement_form statement ≡ None → None ≡ first_of (statement_offset_faults aim statement)
unfolding first_of
none-reached aim statement e = sym (ap (λ (o : Option language.Form). first_of (form_offset_faults aim o (drop 1 statement))) e)

some-reached : (aim : Piece → ℤ) (statement : List Lexeme) (name : Lexeme) (operands : List Lexeme) (form : language.Form) → statement ≡ name ∷ operands → statement_form (pieces_of statement) ≡ Some form → statement_offset_faults aim (pieces_of statement) ≡ offset_faults aim form.slots (pieces_of operands)
some-reached aim statement name operands form e is =
    ap (λ (o : Option language.Form). form_offset_faults aim o (drop 1 (pieces_of statement))) is
    ∙ ap (λ (l : List Lexeme). form_offset_faults aim (Some form) (drop 1 (pieces_of l))) e

pub reached : (aim : Piece → ℤ) (statement : List Lexeme) (form : Form) (operands : Bor (List Lexeme)) (fault : Option Fault) → IsFormOf statement (Some (form, operands)) → fault ≡ first_of (offset_faults aim (slots_for form operands.now) (pieces_of operands.now)) → fault ≡ first_of (statement_offset_faults aim (pieces_of statement))
reached aim statement form operands fault is e = e ∙ ap first_of (sym (some-reached aim statement is.0 operands.now _ is.1 is.2))

pub filled-by : (statement : List Lexeme) (form : Form) (operands : Bor (List Lexeme)) → IsFormOf statement (Some (form, operands)) → IsFaultless (pieces_of statement) → AreFilled (slots_for form operands.now) (pieces_of operands.now)
filled-by statement form operands is none =
    (none.0, (form-fits none.0 none.1 statement operands.now is.0 _ is.1 is.2 none.2).0)

pub sound-by : (aim : Piece → ℤ) (statement : List Lexeme) (form : Form) (operands : Bor (List Lexeme)) → IsFormOf statement (Some (form, operands)) → IsFaultless (pieces_of statement) → statement_offset_faults aim (pieces_of statement) ≡ [] → IsSound aim (slots_for form operands.now) (pieces_of operands.now) (action_of form.action)
sound-by aim statement form operands is none reach = record {
  filled = filled-by statement form operands is none;
  right = (form-fits none.0 none.1 statement operands.now is.0 _ is.1 is.2 none.2).1;
  reach = sym (some-reached aim statement is.0 operands.now _ is.1 is.2) ∙ reach;
}

pub chunk-by : (aim : Piece → ℤ) (offset : ℕ) (statement : List Lexeme) (form : Form) (operands : Bor (List Lexeme)) (chunk : Chunk) → IsFormOf statement (Some (form, operands)) → chunk ≡ chunk_of aim offset (slots_for form operands.now) (pieces_of operands.now) (action_of form.action) → chunk ≡ statement_chunk aim offset (pieces_of statement)
chunk-by aim offset statement form operands chunk is e = e ∙ some-put aim offset statement is.0 operands.now _ is.1 is.2

pub size-by : (aim : Piece → ℤ) (offset : ℕ) (statement : List Lexeme) (form : Form) (operands : Bor (List Lexeme)) (chunk : Chunk) → IsFormOf statement (Some (form, operands)) → IsFaultless (pieces_of statement) → chunk ≡ chunk_of aim offset (slots_for form operands.now) (pieces_of operands.now) (action_of form.action) → chunk_size chunk ≡ chunk_size (statement_chunk (λ (label : Piece). pos 0) offset (pieces_of statement))
size-by aim offset statement form operands chunk is none e =
    let fits = form-fits none.0 none.1 statement operands.now is.0 _ is.1 is.2 none.2 in
    ap chunk_size e
    ∙ same-size aim offset (slots_for form operands.now) (pieces_of operands.now) (action_of form.action) (filled-by statement form operands is none) fits.1
    ∙ ap chunk_size (some-put (λ (label : Piece). pos 0) offset statement is.0 operands.now _ is.1 is.2)
