-- The words of the block so far are put.
use Rattle.vx_mask.proofs.Blocks.{IsPutFrom}
use Rattle.vx_mask.proofs.full.put_block.Given as goal

abbrev pub invariant-loop-k : goal.invariant-loop-k
invariant-loop-k g l = IsPutFrom l.new l.initial.made l.first l.k l.made
