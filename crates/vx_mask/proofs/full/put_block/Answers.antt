-- One word more of the block is put.
use Rattle.std.proofs.Common.{◌+◌, ◌<◌, length, slice_index, refl, arith}
use Rattle.vx_mask.proofs.Blocks.{put_none, put_more}
use Rattle.vx_mask.proofs.full.put_block.Goals as goal

pub loop-k-init : goal.loop-k-init
loop-k-init g c = put_none c.args.new.now c.args.made.now c.args.first

pub loop-k-preserved : goal.loop-k-preserved
loop-k-preserved g c =
    let inside : c.loop-k.k < g.row.N = c.loop-k-test.true in
    let less : c.args.first + c.loop-k.k < length c.args.made.now = omega (arith, inside, c.requires) in
    put_more c.args.new.now c.args.made.now c.args.first c.loop-k.k (slice_index c.args.new.now c.loop-k.k) c.loop-k.made c.loop-k.invariant less refl
