-- Statements by the forms of their names.
use Rattle.std.proofs.Common.{◌≡◌, ℕ, suc, ◌+◌, ◌<◌, ◌≤◌, length, get_or, arith, Bool, true, false, ◌||◌, ◌==◌, List, [], ◌∷◌, map, drop, find, Option, Some, None, Result, Ok, Err, IfOk, option_map, refl, sym, ap, ◌∙◌}
use Rattle.std.specs.List.{list_any}
use Rattle.std.proofs.lemmas.Bool.{false≢true}
use Rattle.std.proofs.lemmas.Bool.Decides.{nat_tests}
use Rattle.std.proofs.lemmas.List.{drop_all}
use Rattle.vx_language.specs.Faults.{fault_at, first_of, earlier}
use Rattle.vx_language.specs.Forms as language
use Rattle.vx_language.specs.Lexemes.{Piece}
use Rattle.vx_language.specs.Places.{is_code}
use Rattle.vx_language.specs.Slots as slots
use Rattle.vx_language.specs.Statements.{forms_for, form_for, named_faults, operand_faults, take_all, go_on_with, is_done}
use Rattle.vx_language.specs.declared.fault.Fault.{Fault}
use Rattle.vx_language.specs.declared.fault.FaultKind.TheVariants.{UnknownName}
use Rattle.std.specs.declared.alloc.AllocError.{AllocError}
use Rattle.vx_statement.specs.Knowing.{Know}
use Rattle.vx_statement.specs.Labels.{Label}
use Rattle.vx_statement.specs.Lexemes.{piece_of, pieces_of}
use Rattle.vx_statement.specs.Statements.{AreForms}
use Rattle.vx_statement.specs.Ways.{commas_in, way_slots, form_of, gives_code, Steps}
use Rattle.vx_statement.specs.declared.form.Action.{Action}
use Rattle.vx_statement.specs.declared.form.Action.TheVariants.{Enters, PutsNumbers, PutsText, PutsZeros, Aligns, Puts, Rests}
use Rattle.vx_statement.specs.declared.form.Form.{Form}
use Rattle.vx_statement.specs.declared.lexeme.Lexeme.{Lexeme}
use Rattle.vx_statement.specs.declared.slot.Slot.{Slot}
use Rattle.vx_statement.specs.declared.way.Way.{Way}
use Rattle.vx_statement.proofs.Lookups.{found-forth}
use Rattle.vx_statement.proofs.Judging.{cut-off}

-- the faults of a statement whose name has these forms
by-forms : List (List ℕ) → ℕ → Piece → List Piece → List language.Form → List Fault
by-forms names end name operands forms =
    elim forms [
      | [] ↦ fault_at UnknownName name ∷ []
      | first ∷ more ↦ operand_faults names end (map (λ (f : language.Form). f.slots) (first ∷ more)) operands
    ]

pub forms-are : (name : Piece) (operands : List Piece) (forms : List Form) → AreForms name.text forms → map (form_of name.text (commas_in operands)) forms ≡ forms_for name operands
unfolding forms_for
forms-are name operands forms all = all (commas_in operands)

named-by-forms : (names : List (List ℕ)) (end : ℕ) (name : Piece) (operands : List Piece) (forms : List Form) → AreForms name.text forms → named_faults names end name operands ≡ by-forms names end name operands (map (form_of name.text (commas_in operands)) forms)
unfolding named_faults by-forms
named-by-forms names end name operands forms all = ap (by-forms names end name operands) (sym (forms-are name operands forms all))

slots-mapped : (name : List ℕ) (commas : ℕ) (forms : List Form) → map (λ (f : language.Form). f.slots) (map (form_of name commas) forms) ≡ map (way_slots commas) (map (λ (f : Form). f.way) forms)
slots-mapped name commas [] = refl
slots-mapped name commas (f ∷ forms) = ap (λ (l : List (List slots.Slot)). way_slots commas f.way ∷ l) (slots-mapped name commas forms)

never-empty : (n : ℕ) → (suc n == 0) ≡ true → ⊥
never-empty n h = grind (arith, nat_tests)

pub unknown-name : (names : List (List ℕ)) (end : ℕ) (name : Piece) (operands : List Piece) (forms : List Form) → (length forms == 0) ≡ true → AreForms name.text forms → Some (fault_at UnknownName name) ≡ first_of (named_faults names end name operands)
unfolding by-forms first_of earlier
unknown-name names end name operands [] empty all = sym (ap first_of (named-by-forms names end name operands [] all))
unknown-name names end name operands (f ∷ forms) empty all = absurd (never-empty (length forms) empty)

pub known-name : (names : List (List ℕ)) (end : ℕ) (name : Piece) (operands : List Piece) (forms : List Form) (ways : List Way) → (length forms == 0) ≡ false → AreForms name.text forms → ways ≡ map (λ (f : Form). f.way) forms → first_of (operand_faults names end (map (way_slots (commas_in operands)) ways) operands) ≡ first_of (named_faults names end name operands)
unfolding by-forms
known-name names end name operands [] ways some all e = absurd (false≢true (sym some))
known-name names end name operands (f ∷ forms) ways some all e =
    let ways-are = ap (map (way_slots (commas_in operands))) e ∙ sym (slots-mapped name.text (commas_in operands) (f ∷ forms)) in
    ap (λ (l : List (List slots.Slot)). first_of (operand_faults names end l operands)) ways-are ∙ sym (ap first_of (named-by-forms names end name operands (f ∷ forms) all))

-- instructions among forms
code-form : (name : List ℕ) (commas : ℕ) (way : Way) (a : Action) → gives_code a ≡ is_code (form_of name commas (record { way = way; action = a }))
code-form name commas way (Enters s) = refl
code-form name commas way (PutsNumbers n) = refl
code-form name commas way PutsText = refl
code-form name commas way PutsZeros = refl
code-form name commas way Aligns = refl
code-form name commas way (Puts e i) = refl
code-form name commas way Rests = refl

pub code-forms : (name : List ℕ) (commas : ℕ) (forms : List Form) → list_any (λ (f : Form). gives_code f.action) forms ≡ list_any is_code (map (form_of name commas) forms)
code-forms name commas [] = refl
code-forms name commas (f ∷ forms) = rw (code-form name commas f.way f.action) (ap (λ (b : Bool). is_code (form_of name commas f) || b) (code-forms name commas forms))

-- slots that take all tokens
pub taken-first : (way later : Way) (slot : Slot) (piece : Piece) (rest : List Piece) → Steps way piece rest (Some (slot, later)) → take_all (way_slots (commas_in (piece ∷ rest)) way) (piece ∷ rest) ≡ take_all (way_slots (commas_in rest) later) rest
unfolding take_all
taken-first way later slot piece rest step = rw step.0 (rw step.1 refl)

refused-first : (whole : List slots.Slot) (piece : Piece) (rest : List Piece) → go_on_with piece whole ≡ false → take_all whole (piece ∷ rest) ≡ false
unfolding take_all
refused-first [] piece rest h = refl
refused-first (slot ∷ later) piece rest h = rw h refl

done-at : (whole : List slots.Slot) → is_done whole ≡ take_all whole []
unfolding take_all
done-at [] = refl
done-at (slot ∷ later) = refl

pub taken-on : (tokens : List Lexeme) (i : ℕ) (token : Lexeme) (way later : Way) (slot : Slot) (whole : Bool) → i < length tokens → token ≡ get_or tokens i token → ((rest : List Piece) → Steps way (piece_of token) rest (Some (slot, later))) → take_all (way_slots (commas_in (pieces_of (drop i tokens))) way) (pieces_of (drop i tokens)) ≡ whole → take_all (way_slots (commas_in (pieces_of (drop (i + 1) tokens))) later) (pieces_of (drop (i + 1) tokens)) ≡ whole
taken-on tokens i token way later slot whole within is step before =
    sym (taken-first way later slot (piece_of token) (pieces_of (drop (i + 1) tokens)) (step (pieces_of (drop (i + 1) tokens))))
    ∙ ap (λ (l : List Piece). take_all (way_slots (commas_in l) way) l) (sym (cut-off tokens i token within is))
    ∙ before

pub refused-at : (tokens : List Lexeme) (i : ℕ) (token : Lexeme) (way : Way) (whole : Bool) → i < length tokens → token ≡ get_or tokens i token → ((rest : List Piece) → Steps way (piece_of token) rest None) → take_all (way_slots (commas_in (pieces_of (drop i tokens))) way) (pieces_of (drop i tokens)) ≡ whole → false ≡ whole
refused-at tokens i token way whole within is step before =
    sym (refused-first (way_slots (commas_in (piece_of token ∷ pieces_of (drop (i + 1) tokens))) way) (piece_of token) (pieces_of (drop (i + 1) tokens)) (step (pieces_of (drop (i + 1) tokens))))
    ∙ ap (λ (l : List Piece). take_all (way_slots (commas_in l) way) l) (sym (cut-off tokens i token within is))
    ∙ before

pub done-all : (tokens : List Lexeme) (i : ℕ) (way : Way) (whole : Bool) → length tokens ≤ i → take_all (way_slots (commas_in (pieces_of (drop i tokens))) way) (pieces_of (drop i tokens)) ≡ whole → is_done (way_slots 0 way) ≡ whole
done-all tokens i way whole past before =
    done-at (way_slots 0 way)
    ∙ ap (λ (l : List Piece). take_all (way_slots (commas_in l) way) l) (sym (ap pieces_of (drop_all i tokens past)))
    ∙ before

-- the form that a statement has
pub form-found : (name : Piece) (operands : List Piece) (forms : List Form) (r : Option Form) → AreForms name.text forms → r ≡ find (λ (f : Form). take_all (way_slots (commas_in operands) f.way) operands) forms → option_map (form_of name.text (commas_in operands)) r ≡ form_for name operands
unfolding form_for
form-found name operands forms r all h =
    found-forth (form_of name.text (commas_in operands)) (λ (f : language.Form). take_all f.slots operands) forms (forms_for name operands) r (forms-are name operands forms all) h

-- the answer is handed on
pub named-handed : (labels : List Label) (end : ℕ) (name : Piece) (operands : List Piece) (forms : List Form) (ways : List Way) (answer : Result (Option Fault) AllocError) → (length forms == 0) ≡ false → AreForms name.text forms → ways ≡ map (λ (f : Form). f.way) forms → IfOk answer (λ fault. (names : List (List ℕ)) → Know labels names → fault ≡ first_of (operand_faults names end (map (way_slots (commas_in operands)) ways) operands)) → IfOk answer (λ fault. (names : List (List ℕ)) → Know labels names → fault ≡ first_of (named_faults names end name operands))
named-handed labels end name operands forms ways (Ok fault) some all e h = λ names known. h names known ∙ known-name names end name operands forms ways some all e
named-handed labels end name operands forms ways (Err error) some all e h = tt
