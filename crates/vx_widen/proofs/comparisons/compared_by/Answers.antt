-- What the families have in common.
use Rattle.vx_widen.proofs.Facts.{compares_each, compares_operands, compares_plain}
use Rattle.vx_widen.proofs.comparisons.compared_by.Goals as goal

pub compared_word-requires-clause-each : goal.compared_word-requires-clause-each
compared_word-requires-clause-each g c = compares_each c.args.form.family c.requires.kind

pub compared_word-requires-clause-compares : goal.compared_word-requires-clause-compares
compared_word-requires-clause-compares g c = compares_operands c.args.form.family c.args.form.first c.requires.kind

pub compared_word-requires-clause-unsaturated : goal.compared_word-requires-clause-unsaturated
compared_word-requires-clause-unsaturated g c n = compares_plain c.args.form.family c.requires.kind n
