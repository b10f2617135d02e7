use Rattle.std.proofs.Common.{◌∙◌}
use Rattle.vx_statement.proofs.Naming.{taken-on, refused-at, done-all}
use Rattle.vx_statement.proofs.statement.takes_all.Goals as goal

pub returns-in_default : goal.returns-in_default
returns-in_default c =
    refused-at c.args.tokens.now c.loop-token.token-index c.token-item.result c.loop-token.rest _ c.loop-token-test.true c.token-item.is (rw c.in_default.is at c.step.ensures) c.loop-token.invariant

pub loop-token-preserved : goal.loop-token-preserved
loop-token-preserved c =
    taken-on c.args.tokens.now c.loop-token.token-index c.token-item.result c.loop-token.rest c.in-Some.later c.in-Some.field-0-0 _ c.loop-token-test.true c.token-item.is c.in-Some.ensures c.loop-token.invariant

pub returns : goal.returns
returns c = c.is_done.ensures ∙ done-all c.args.tokens.now c.loop-token.token-index c.loop-token.rest _ c.loop-token-test.false c.loop-token.invariant
