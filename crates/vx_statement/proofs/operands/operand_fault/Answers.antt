use Rattle.std.proofs.Common.{Some, ap, ◌∙◌}
use Rattle.vx_language.specs.Faults.{earliest}
use Rattle.vx_statement.proofs.Judging.{token-judged, token-refused, line-judged}
use Rattle.vx_statement.proofs.operands.operand_fault.Goals as goal

pub loop-token-preserved : goal.loop-token-preserved
loop-token-preserved c names known =
    token-judged names c.args.end c.args.tokens.now c.loop-token.token-index c.token-item.result _ _ c.in_ok-behind.behind.ways.items c.in-Some.slot c.loop-token.found _ _ c.loop-token-test.true c.token-item.is (rw (c.in-Some.is, c.as_slice.ensures) at c.in_ok-behind.ensures) c.first-found.ensures (c.fault-in-loop-token.ensures names known) (c.loop-token.invariant names known)

pub returns-in_default : goal.returns-in_default
returns-in_default c names known =
    token-refused names c.args.end c.args.tokens.now c.loop-token.token-index c.token-item.result _ _ c.in_ok-behind.behind.ways.items c.loop-token.found _ c.loop-token-test.true c.token-item.is (rw (c.in_default.is, c.as_slice.ensures) at c.in_ok-behind.ensures) (c.first.ensures ∙ ap (λ f. earliest c.loop-token.found (Some f)) c.fault.ensures) (c.loop-token.invariant names known)

pub returns : goal.returns
returns c names known =
    line-judged names c.args.end c.args.tokens.now c.loop-token.token-index _ _ c.loop-token.found _ _ c.loop-token-test.false c.first-2.ensures (rw c.as_slice-2.ensures at (c.end_fault.ensures names)) (c.loop-token.invariant names known)
