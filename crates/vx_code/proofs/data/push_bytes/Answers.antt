use Rattle.std.proofs.Common.{arith}
use Rattle.vx_code.proofs.Bytes.{byte-on, byte-over}
use Rattle.vx_code.proofs.data.push_bytes.Goals as goal

pub loop-preserved : goal.loop-preserved
loop-preserved c = record {
  bytes = byte-on c.args.count c.loop.counter c.loop.rest _ _ _ c.loop-test.true c.in_ok-push.ensures.items c.loop.invariant.bytes;
  within = omega (arith, c.loop-test.true);
}

pub returns : goal.returns
returns c = byte-over c.args.count c.loop.counter c.loop.rest _ _ (omega (arith, c.loop-test.false)) c.loop.invariant.bytes
