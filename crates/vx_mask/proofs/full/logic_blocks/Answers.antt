-- One block more.
use Rattle.std.proofs.Common.{◌+◌, ◌*◌, ◌-◌, ◌<◌, ◌≤◌, length, arith}
use Rattle.vx_vstate.specs.Views.{view_of}
use Rattle.vx_operands.specs.Forms.{reading}
use Rattle.vx_mask.proofs.Blocks.{few_words, block_end, next_block, filled_block}
use Rattle.vx_mask.proofs.full.logic_blocks.Goals as goal

pub logic_block-new-requires : goal.logic_block-new-requires
logic_block-new-requires g c =
    let r = reading c.args.form (view_of c.args.at.now) c.args.regs.now c.args.words.now in
    let first = c.args.done + c.loop-n.n * g.row.N in
    let end : first + g.row.N ≤ c.args.count = block_end c.args.done c.args.count g.row.N c.requires.order c.loop-n.n c.loop-n-test.true in
    let some : 0 < c.args.count = omega (arith, end, c.requires.some) in
    let last : c.args.count - 1 < c.args.count = omega (arith, some) in
    let few = few_words r (c.args.count - 1) c.requires.sound c.requires.logic (c.requires.within (c.args.count - 1) last) in
    (omega (arith, few, end), (c.requires.family, (c.requires.kind, (c.requires.sound, (c.requires.logic, (c.requires.registers, (c.requires.vs2, (c.requires.vs1, (c.requires.vd, (omega (arith, end, c.requires.below), (c.requires.start some, (c.requires.unmasked some, λ k l. c.requires.within (first + k) (omega (arith, l, end))))))))))))))

pub loop-n-preserved : goal.loop-n-preserved
loop-n-preserved g c = filled_block _ (length c.args.made.now) (c.args.done + c.loop-n.n * g.row.N) g.row.N _ c.logic_block-new.result c.loop-n.made _ (next_block c.args.done c.args.count g.row.N c.requires.order c.loop-n.n) c.loop-n.invariant c.logic_block-new.ensures c.put_block.ensures.room c.put_block.ensures.before c.put_block.ensures.put
