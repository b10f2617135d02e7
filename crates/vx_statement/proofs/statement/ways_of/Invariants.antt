use Rattle.std.proofs.Common.{◌≡◌, map, take}
use Rattle.vx_statement.specs.declared.form.Form.{Form}
use Rattle.vx_statement.proofs.statement.ways_of.Given as goal

abbrev pub invariant-loop-form : goal.invariant-loop-form
invariant-loop-form l = l.ways.items ≡ map (λ (form : Form). form.way) (take l.form-index l.forms)
