use Rattle.std.proofs.Common.{sym, ◌∙◌}
use Rattle.vx_statement.specs.Lexemes.{piece_of}
use Rattle.vx_statement.specs.Ranges.{width_of}
use Rattle.vx_code.proofs.Taken.{offset-number}
use Rattle.vx_code.proofs.fill.fill_offset.Goals as goal

pub some_number-requires-clause-number : goal.some_number-requires-clause-number
some_number-requires-clause-number c = offset-number (width_of c.args.reach) (piece_of c.args.token.now) (sym c.is_a.ensures ∙ c.if-is_a.false) c.requires.filled
