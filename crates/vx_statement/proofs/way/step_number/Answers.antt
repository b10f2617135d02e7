use Rattle.std.proofs.Common.{sym, ◌∙◌}
use Rattle.vx_statement.specs.Lexemes.{piece_of}
use Rattle.vx_statement.proofs.Steps.{number_taken}
use Rattle.vx_statement.proofs.way.step_number.Goals as goal

pub returns-then-is_a : goal.returns-then-is_a
returns-then-is_a c rest = number_taken c.args.range (piece_of c.args.token.now) rest (sym c.is_a.ensures ∙ c.if-is_a.true)
