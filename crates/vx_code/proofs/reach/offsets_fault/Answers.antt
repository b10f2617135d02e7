use Rattle.vx_code.specs.Aiming.{aim_of}
use Rattle.vx_code.proofs.Filling.{rest-filled, not-refused, offsets-on, offsets-over}
use Rattle.vx_code.proofs.reach.offsets_fault.Goals as goal

pub loop-token-preserved : goal.loop-token-preserved
loop-token-preserved c = record {
  filled = rest-filled c.args.tokens.now c.loop-token.token-index c.token-item.result c.loop-token.rest c.in-Some.later c.in-Some.slot c.loop-token-test.true c.token-item.is c.in-Some.ensures c.loop-token.invariant.filled;
  judged = offsets-on (aim_of c.args.aim.now) c.args.tokens.now c.loop-token.token-index c.token-item.result c.loop-token.rest c.in-Some.later c.in-Some.slot c.loop-token.found _ _ _ c.loop-token-test.true c.token-item.is c.in-Some.ensures c.first-found.ensures c.slot_fault.ensures c.loop-token.invariant.judged;
}

pub returns-in_default : goal.returns-in_default
returns-in_default c =
    absurd (not-refused c.args.tokens.now c.loop-token.token-index c.token-item.result c.loop-token.rest c.loop-token-test.true c.token-item.is (rw c.in_default.is at c.step.ensures) c.loop-token.invariant.filled)

pub returns : goal.returns
returns c = offsets-over (aim_of c.args.aim.now) c.args.tokens.now c.loop-token.token-index c.loop-token.rest c.loop-token.found _ c.loop-token-test.false c.loop-token.invariant.filled c.loop-token.invariant.judged
