use Rattle.vx_statement.proofs.Owned.{bad-next, bad-end}
use Rattle.vx_statement.proofs.own.bad_fault.Goals as goal

pub loop-token-preserved : goal.loop-token-preserved
loop-token-preserved c =
    bad-next c.args.tokens.now c.loop-token.token-index c.token-item.result c.loop-token.found _ _ _ c.loop-token-test.true c.token-item.is c.first-found.ensures c.token_fault.ensures c.loop-token.invariant

pub returns : goal.returns
returns c = bad-end c.args.tokens.now c.loop-token.token-index c.loop-token.found _ c.loop-token-test.false c.loop-token.invariant
