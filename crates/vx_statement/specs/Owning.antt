-- All faults of a statement where it stands. This project's own.
use Rattle.std.specs.Prelude.{◌≡◌, ℕ, List, [], ◌∷◌, ◌++◌}
use Rattle.vx_language.specs.Lexemes.{Piece}
use Rattle.vx_language.specs.Places.{Place, placement_faults}
use Rattle.vx_language.specs.Statements.{statement_faults}
use Rattle.vx_language.specs.Tokens.{bad_pieces}
use Rattle.vx_language.specs.declared.fault.Fault.{Fault}
use Rattle.vx_statement.specs.Statements.{AreForms}
use Rattle.vx_statement.specs.declared.form.Form.{Form}
use Rattle.vx_statement.specs.declared.lexeme.Lexeme.{Lexeme}

-- those that a line's statement has, on a line that ends at this offset: by itself, by its tokens, and by its place
abbrev pub own_of : List (List ℕ) → Place → ℕ → List Piece → List Fault
own_of names place end statement = statement_faults names end statement ++ bad_pieces statement ++ placement_faults place statement

-- these are all forms of a statement's name, where it has one
abbrev pub AreFormsOf : List Lexeme → List Form → Type 0
AreFormsOf [] forms = forms ≡ []
AreFormsOf (name ∷ operands) forms = AreForms name.text.now forms
