use Rattle.std.proofs.Common.{sym, ◌∙◌}
use Rattle.vx_statement.specs.Lexemes.{piece_of}
use Rattle.vx_statement.proofs.Steps.{comma_taken}
use Rattle.vx_statement.proofs.way.step_comma.Goals as goal

pub returns-then-is_mark : goal.returns-then-is_mark
returns-then-is_mark c rest = comma_taken c.args.range (piece_of c.args.token.now) rest (sym c.is_mark.ensures ∙ c.if-is_mark.true)
