use Rattle.std.proofs.Common.{◌*◌, ℤ}
use Rattle.vx_base.specs.Numbers.{reduced, little_endian}
use Rattle.vx_code.proofs.Filling.{slot-filled, rest-filled, not-refused, numbers-on, numbers-over}
use Rattle.vx_code.proofs.data.push_numbers.Goals as goal

pub push_slot-requires-clause-filled : goal.push_slot-requires-clause-filled
push_slot-requires-clause-filled c =
    slot-filled c.args.tokens.now c.loop-token.token-index c.token-item.result c.loop-token.rest c.in-Some.later c.in-Some.slot c.loop-token-test.true c.token-item.is c.in-Some.ensures c.loop-token.invariant.filled

pub loop-token-preserved : goal.loop-token-preserved
loop-token-preserved c = record {
  filled = rest-filled c.args.tokens.now c.loop-token.token-index c.token-item.result c.loop-token.rest c.in-Some.later c.in-Some.slot c.loop-token-test.true c.token-item.is c.in-Some.ensures c.loop-token.invariant.filled;
  bytes = numbers-on (λ (value : ℤ). little_endian c.args.count (reduced (8 * c.args.count) value)) c.args.tokens.now c.loop-token.token-index c.token-item.result _ _ _ c.loop-token-test.true c.token-item.is c.in_ok-push_slot.ensures c.loop-token.invariant.bytes;
}

pub returns-in_default : goal.returns-in_default
returns-in_default c =
    absurd (not-refused c.args.tokens.now c.loop-token.token-index c.token-item.result c.loop-token.rest c.loop-token-test.true c.token-item.is (rw c.in_default.is at c.step.ensures) c.loop-token.invariant.filled)

pub returns : goal.returns
returns c =
    numbers-over (λ (value : ℤ). little_endian c.args.count (reduced (8 * c.args.count) value)) c.args.tokens.now c.loop-token.token-index _ _ c.loop-token-test.false c.loop-token.invariant.bytes
