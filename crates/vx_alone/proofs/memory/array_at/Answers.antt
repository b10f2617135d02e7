-- Each byte stands behind those before it.
use Rattle.std.proofs.Common.{◌+◌, ◌∙◌, arith, get_or}
use Rattle.std.proofs.lemmas.List.{length-set}
use Rattle.vx_alone.proofs.Numbers.{all_taken, more_taken}
use Rattle.vx_alone.proofs.memory.array_at.Goals as goal

pub loop-k-preserved : goal.loop-k-preserved
loop-k-preserved g c = record {
  long = length-set c.loop-k.array c.loop-k.k (get_or c.args.bytes.now (c.args.at + c.loop-k.k) 0) ∙ c.loop-k.invariant.long;
  taken =
      more_taken c.args.bytes.now c.loop-k.array c.args.at c.loop-k.k (omega arith) (omega (arith, c.loop-k.invariant.long)) c.loop-k.invariant.taken;
}

pub returns : goal.returns
returns g c = all_taken c.args.bytes.now c.loop-k.array c.args.at c.loop-k.k g.row.N c.loop-k.invariant.long (omega arith) c.loop-k.invariant.taken
