-- How many bytes a statement puts doesn't depend on where labels stand.
use Rattle.std.proofs.Common.{◌≡◌, ℕ, true, ℤ, pos, List, length, Option, Some, None, refl, sym, ◌∙◌}
use Rattle.std.specs.List.{list_all}
use Rattle.std.specs.Prelude.{is_none, nat_lt}
use Rattle.std.proofs.lemmas.Bool.{and_parts, false≢true}
use Rattle.vx_decode.specs.declared.instr.Instr.{Instr}
use Rattle.vx_language.specs.Code.{Code, Expansion, Alone, LoadsNumber, LoadsAddress, filled_all, expanded, instr_bytes}
use Rattle.vx_language.specs.Forms.{Action, Enters, PutsNumbers, PutsText, PutsZeros, Aligns, Puts, Rests}
use Rattle.vx_language.specs.Lexemes.{Piece}
use Rattle.vx_language.specs.Slots.{Slot}
use Rattle.vx_language.specs.Statements.{chunk_of, chunk_size, code_instrs, aimed}
use Rattle.vx_code.specs.Filling.{Fill, AreFilled}
use Rattle.vx_code.specs.Right.{is_right_code, is_right_action, has_no_target}
use Rattle.vx_code.proofs.Valid.{all-kept}

abbrev nowhere : Piece → ℤ
nowhere label = pos 0

sized : (aim : Piece → ℤ) (target : Option Piece) (i : Instr) (expansion : Expansion) → (expansion ≡ LoadsNumber → target ≡ None) → length (instr_bytes (expanded expansion (aimed aim target i))) ≡ length (instr_bytes (expanded expansion (aimed nowhere target i)))
unfolding expanded instr_bytes
sized aim target i Alone none = refl
sized aim target i LoadsNumber none = let e = none refl in rw e refl
sized aim target i LoadsAddress none = refl

no-option : {X : Type 0} (o : Option X) → is_none o ≡ true → o ≡ None
no-option None e = refl
no-option (Some x) e = absurd (false≢true e)

free-of : (slots : List Slot) (i : Instr) (expansion : Expansion) → is_right_code slots expansion i ≡ true → expansion ≡ LoadsNumber → list_all has_no_target slots ≡ true
free-of slots i Alone right e = cc
free-of slots i LoadsNumber right e = (and_parts (nat_lt i.rd 32) (list_all has_no_target slots) right).1
free-of slots i LoadsAddress right e = cc

code-sized : (names : List (List ℕ)) (aim : Piece → ℤ) (slots : List Slot) (pieces : List Piece) (code : Code) → Fill names slots pieces → is_right_action slots (Puts code) ≡ true → length (instr_bytes (code_instrs aim (filled_all slots pieces code))) ≡ length (instr_bytes (code_instrs nowhere (filled_all slots pieces code)))
code-sized names aim slots pieces code fill right =
    let parts = and_parts (is_none code.target) (is_right_code slots code.expansion code.instr) right in
    let kept = all-kept names slots pieces code fill in
    let new = filled_all slots pieces code in
    sized aim new.target new.instr new.expansion (λ e. kept.target (free-of slots code.instr code.expansion parts.1 (sym kept.expansion ∙ e)) ∙ no-option code.target parts.0)

pub same-size : (aim : Piece → ℤ) (offset : ℕ) (slots : List Slot) (pieces : List Piece) (action : Action) → AreFilled slots pieces → is_right_action slots action ≡ true → chunk_size (chunk_of aim offset slots pieces action) ≡ chunk_size (chunk_of (λ (label : Piece). pos 0) offset slots pieces action)
unfolding chunk_of
same-size aim offset slots pieces (Enters section) fills right = refl
same-size aim offset slots pieces (PutsNumbers count) fills right = refl
same-size aim offset slots pieces PutsText fills right = refl
same-size aim offset slots pieces PutsZeros fills right = refl
same-size aim offset slots pieces Aligns fills right = refl
same-size aim offset slots pieces (Puts code) fills right = code-sized fills.0 aim slots pieces code fills.1 right
same-size aim offset slots pieces Rests fills right = refl
