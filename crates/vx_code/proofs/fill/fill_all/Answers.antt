use Rattle.vx_code.specs.Aiming.{aim_of}
use Rattle.vx_code.proofs.Filling.{slot-filled, rest-filled, not-refused, going-begun, going-on, going-over}
use Rattle.vx_code.proofs.fill.fill_all.Goals as goal

pub loop-token-init : goal.loop-token-init
loop-token-init c = record {
  filled = c.requires.filled;
  going = λ code e. going-begun (aim_of c.args.aim.now) c.args.tokens.now c.args.way c.args.start code e;
}

pub fill-now-requires : goal.fill-now-requires
fill-now-requires c =
    let filled = slot-filled c.args.tokens.now c.loop-token.token-index c.token-item.result c.loop-token.rest c.in-Some.later c.in-Some.slot c.loop-token-test.true c.token-item.is c.in-Some.ensures c.loop-token.invariant.filled in
    record { filled = filled }

pub loop-token-preserved : goal.loop-token-preserved
loop-token-preserved c = record {
  filled = rest-filled c.args.tokens.now c.loop-token.token-index c.token-item.result c.loop-token.rest c.in-Some.later c.in-Some.slot c.loop-token-test.true c.token-item.is c.in-Some.ensures c.loop-token.invariant.filled;
  going = λ code e.
      going-on (aim_of c.args.aim.now) c.args.tokens.now c.loop-token.token-index c.token-item.result c.args.way c.loop-token.rest c.in-Some.later c.in-Some.slot _ _ code c.loop-token-test.true c.token-item.is c.in-Some.ensures c.fill-now.ensures (c.loop-token.invariant.going code e);
}

pub returns-in_default : goal.returns-in_default
returns-in_default c code e =
    absurd (not-refused c.args.tokens.now c.loop-token.token-index c.token-item.result c.loop-token.rest c.loop-token-test.true c.token-item.is (rw c.in_default.is at c.step.ensures) c.loop-token.invariant.filled)

pub returns : goal.returns
returns c code e =
    going-over (aim_of c.args.aim.now) c.args.tokens.now c.loop-token.token-index c.args.way c.loop-token.rest c.loop-token.now code c.loop-token-test.false c.loop-token.invariant.filled (c.loop-token.invariant.going code e)
