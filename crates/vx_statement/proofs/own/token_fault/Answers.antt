use Rattle.std.proofs.Common.{ap, sym, ◌∙◌, Some, true, false}
use Rattle.vx_statement.specs.Lexemes.{piece_of}
use Rattle.vx_statement.proofs.Owned.{bad-token}
use Rattle.vx_statement.proofs.own.token_fault.Goals as goal

pub returns-then-is_bad : goal.returns-then-is_bad
returns-then-is_bad c = ap Some c.fault.ensures ∙ bad-token (piece_of c.args.token.now) true (sym c.if-is_bad.true ∙ c.is_bad.ensures)

pub returns-else-is_bad : goal.returns-else-is_bad
returns-else-is_bad c = bad-token (piece_of c.args.token.now) false (sym c.if-is_bad.false ∙ c.is_bad.ensures)
