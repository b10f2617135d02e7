use Rattle.std.proofs.Common.{◌≡◌, ℕ, ◌++◌, map, filter, length, bytes_eq}
use Rattle.vx_language.specs.Forms.{Form, directives, pseudo_statements}
use Rattle.vx_statement.specs.Ways.{form_of, named_form}
use Rattle.vx_statement.proofs.forms.push_listed.Given as goal

-- with the forms that are left they become the forms with all of them
abbrev pub invariant-loop-named : goal.invariant-loop-named
invariant-loop-named l =
    (commas : ℕ) → map (form_of l.name commas) l.forms.items ++ filter (λ (f : Form). bytes_eq l.name f.name) (map (named_form commas) l.rest) ≡ map (form_of l.name commas) l.fn.forms.items ++ filter (λ (f : Form). bytes_eq l.name f.name) (directives commas ++ pseudo_statements)

abbrev pub decreases-loop-named : goal.decreases-loop-named
decreases-loop-named l = length l.rest
