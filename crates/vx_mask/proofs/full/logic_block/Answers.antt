-- One word more of the block.
use Rattle.std.proofs.Common.{◌+◌, arith}
use Rattle.vx_vstate.specs.Views.{view_of}
use Rattle.vx_operands.specs.Forms.{reading}
use Rattle.vx_operands.proofs.Filled.{filled_more}
use Rattle.vx_mask.proofs.Blocks.{few_words}
use Rattle.vx_mask.proofs.full.logic_block.Goals as goal

pub overflow_add-first : goal.overflow_add-first
overflow_add-first g c =
    let few = few_words (reading c.args.form (view_of c.args.at.now) c.args.regs.now c.args.words.now) (c.args.first + c.loop-k.k) c.requires.sound c.requires.logic (c.requires.within c.loop-k.k c.loop-k-test.true) in
    omega (arith, few)

pub logic_value-requires-clause-within : goal.logic_value-requires-clause-within
logic_value-requires-clause-within g c = c.requires.within c.loop-k.k c.loop-k-test.true

pub loop-k-preserved : goal.loop-k-preserved
loop-k-preserved g c = filled_more _ g.row.N c.loop-k.k c.logic_value.result c.loop-k.new c.loop-k.invariant c.loop-k-test.true c.logic_value.ensures
