use Rattle.std.proofs.Common.{◌≡◌, ℕ, List, ◌++◌, map, take}
use Rattle.vx_language.specs.Forms.{form, alone}
use Rattle.vx_statement.specs.Ways.{form_of, slots_of}
use Rattle.vx_statement.proofs.forms.push_ways.Given as goal

-- the forms of the ways so far are appended
abbrev pub invariant-loop-way : goal.invariant-loop-way
invariant-loop-way l =
    (name : List ℕ) (commas : ℕ) → map (form_of name commas) l.forms.items ≡ map (form_of name commas) l.fn.forms.items ++ map (λ slots. form name slots (alone l.instr)) (map slots_of (take l.way-index l.ways))
