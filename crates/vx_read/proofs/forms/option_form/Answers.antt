use Rattle.std.proofs.lemmas.Str.Pattern.{split_parts}
use Rattle.std.proofs.Common.{lit<}
use Rattle.vx_read.proofs.forms.option_form.Goals as goal

pub name_form-requires-clause-no_equals : goal.name_form-requires-clause-no_equals
name_form-requires-clause-no_equals c =
    let parts = split_parts 61 c.args.word.now c.split_once.result c.split_once.ensures.cases (lit< tt) in
    rw c.in_default.is at parts
