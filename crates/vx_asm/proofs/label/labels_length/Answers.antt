use Rattle.vx_asm.proofs.Labelled.{label-within, label-passed}
use Rattle.vx_asm.proofs.label.labels_length.Goals as goal

pub loop-at-preserved : goal.loop-at-preserved
loop-at-preserved c = record {
  within = label-within c.args.tokens.now c.loop-at.at (rw c.loop-at-test.true at c.begin_with_label.ensures) c.loop-at.invariant.within;
  same = label-passed c.args.tokens.now c.loop-at.at (rw c.loop-at-test.true at c.begin_with_label.ensures) c.loop-at.invariant.same;
}
