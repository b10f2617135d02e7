use Rattle.std.proofs.Common.{◌∙◌, rules, tests}
use Rattle.std.proofs.lemmas.Iterator.{YieldsList-from_slice}
use Rattle.std.proofs.lemmas.Iterator.Search.{any_from_yields_List}
use Rattle.vx_statement.specs.Ways.{gives_code}
use Rattle.vx_statement.specs.declared.form.Form.{Form}
use Rattle.vx_statement.proofs.Naming.{code-forms}
use Rattle.vx_statement.proofs.statement.are_code.Goals as goal

pub returns : goal.returns
returns c name commas =
    any_from_yields_List (λ (f : Form). gives_code f.action) _ _ c.any.result c.any.ensures.ran (YieldsList-from_slice c.args.forms.now cc) (λ x b q k. search (rules, tests))
    ∙ code-forms name commas c.args.forms.now
