use Rattle.std.proofs.Common.{ap, sym, ◌∙◌, Some, true, false}
use Rattle.vx_statement.specs.Lexemes.{piece_of}
use Rattle.vx_statement.proofs.Owned.{placement-judged, no-name}
use Rattle.vx_statement.proofs.own.placement_fault.Goals as goal

pub returns-then-not-is_a : goal.returns-then-not-is_a
returns-then-not-is_a c place operands may =
    no-name place (piece_of c.args.name.now) operands (sym c.if-not-is_a.true ∙ c.is_a.ensures)

pub returns-then-not-are_code : goal.returns-then-not-are_code
returns-then-not-are_code c place operands may =
    placement-judged place (piece_of c.args.name.now) operands c.args.forms.now true false c.args.may_have_code c.requires (sym c.if-not-is_a.false ∙ c.is_a.ensures) (λ name commas. sym c.if-not-are_code.true ∙ c.are_code.ensures name commas) may

pub returns-then-may_have_code : goal.returns-then-may_have_code
returns-then-may_have_code c place operands may =
    placement-judged place (piece_of c.args.name.now) operands c.args.forms.now true true true c.requires (sym c.if-not-is_a.false ∙ c.is_a.ensures) (λ name commas. sym c.if-not-are_code.false ∙ c.are_code.ensures name commas) (sym c.if-may_have_code.true ∙ may)

pub returns : goal.returns
returns c place operands may =
    ap Some c.fault.ensures ∙ placement-judged place (piece_of c.args.name.now) operands c.args.forms.now true true false c.requires (sym c.if-not-is_a.false ∙ c.is_a.ensures) (λ name commas. sym c.if-not-are_code.false ∙ c.are_code.ensures name commas) (sym c.if-may_have_code.false ∙ may)
