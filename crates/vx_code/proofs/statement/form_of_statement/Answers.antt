use Rattle.vx_code.proofs.Stated.{no-statement, stated, not-stated}
use Rattle.vx_code.proofs.statement.form_of_statement.Goals as goal

pub returns-in_default : goal.returns-in_default
returns-in_default c = no-statement c.args.statement.now c.in_default.ensures.cases

pub returns-in-Some-form_for : goal.returns-in-Some-form_for
returns-in-Some-form_for c =
    stated c.args.statement.now c.in-Some.name.now c.in-Some.operands.now c.form_for.result c.in-Some-form_for.form c.in-Some.ensures.cases.0 c.form_for.ensures c.in-Some-form_for.is

pub returns-in-None : goal.returns-in-None
returns-in-None c = not-stated c.args.statement.now c.in-Some.name.now c.in-Some.operands.now c.form_for.result c.in-Some.ensures.cases.0 c.form_for.ensures c.in-None.is
