use Rattle.vx_statement.specs.Lexemes.{piece_of}
use Rattle.vx_code.proofs.Taken.{immediate-number, source-number}
use Rattle.vx_code.proofs.fill.fill.Goals as goal

pub some_number-requires-clause-number : goal.some_number-requires-clause-number
some_number-requires-clause-number c = immediate-number _ (piece_of c.args.token.now) (rw c.in-Immediate.is at c.requires.filled)

pub some_number-requires-in-SourceField-clause-number : goal.some_number-requires-in-SourceField-clause-number
some_number-requires-in-SourceField-clause-number c = source-number _ (piece_of c.args.token.now) (rw c.in-SourceField.is at c.requires.filled)
