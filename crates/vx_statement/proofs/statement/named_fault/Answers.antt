use Rattle.std.proofs.Common.{ap, sym, ◌∙◌, Some}
use Rattle.vx_statement.specs.Lexemes.{piece_of, pieces_of}
use Rattle.vx_statement.proofs.Naming.{unknown-name, named-handed}
use Rattle.vx_statement.proofs.statement.named_fault.Goals as goal

pub returns-then-is_empty : goal.returns-then-is_empty
returns-then-is_empty c names known =
    ap Some c.fault.ensures ∙ unknown-name names c.args.end (piece_of c.args.name.now) (pieces_of c.args.operands.now) c.args.forms.now (sym c.is_empty.ensures ∙ c.if-is_empty.true) c.requires

pub returns : goal.returns
returns c =
    named-handed c.args.labels.now c.args.end (piece_of c.args.name.now) (pieces_of c.args.operands.now) c.args.forms.now c.in_ok-ways.ways.items _ (sym c.is_empty.ensures ∙ c.if-is_empty.false) c.requires c.in_ok-ways.ensures c.operand_fault.ensures
