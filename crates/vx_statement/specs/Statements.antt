-- Statements as the assembler keeps them. This project's own.
use Rattle.std.specs.Prelude.{◌≡◌, ℕ, List, map}
use Rattle.vx_language.specs.Forms.{forms_of}
use Rattle.vx_statement.specs.Ways.{form_of}
use Rattle.vx_statement.specs.declared.form.Form.{Form}

-- these are all forms of a name
abbrev pub AreForms : List ℕ → List Form → Type 0
AreForms name forms = (commas : ℕ) → map (form_of name commas) forms ≡ forms_of commas name
