use Rattle.std.proofs.Common.{ap, sym, ◌∙◌, Some}
use Rattle.vx_statement.specs.Lexemes.{piece_of, pieces_of}
use Rattle.vx_statement.proofs.Owned.{begun-handed, begun-otherwise}
use Rattle.vx_statement.proofs.own.begun_fault.Goals as goal

pub returns-then-is_a : goal.returns-then-is_a
returns-then-is_a c = begun-handed c.args.labels.now c.args.end (piece_of c.args.name.now) (pieces_of c.args.operands.now) _ (sym c.is_a.ensures ∙ c.if-is_a.true) c.named_fault.ensures

pub returns-else-is_a : goal.returns-else-is_a
returns-else-is_a c names known = ap Some c.fault.ensures ∙ begun-otherwise names c.args.end (piece_of c.args.name.now) (pieces_of c.args.operands.now) (sym c.is_a.ensures ∙ c.if-is_a.false)
