use Rattle.std.proofs.Common.{arith, length}
use Rattle.vx_language.specs.Lines.{lines, labels_in}
use Rattle.vx_asm.proofs.Naming.{know-all}
use Rattle.vx_asm.proofs.Passing.{within-next, amid-start, amid-step, amid-end}
use Rattle.vx_asm.proofs.labels.defined_labels.Goals as goal

pub loop-next-init : goal.loop-next-init
loop-next-init c = record {
  within = omega arith;
  amid = amid-start c.args.source.now c.new-labels.result c.new-labels.ensures;
}

pub loop-next-preserved-in_ok-fault : goal.loop-next-preserved-in_ok-fault
loop-next-preserved-in_ok-fault c = record {
  within = within-next (length c.args.source.now) c.in-Some.from c.in_ok-line.line.next c.in_ok-line.ensures.ahead;
  amid = amid-step c.args.source.now c.in-Some.from c.in_ok-line.line c.as_slice.result.now _ _ _ c.loop-next.found _ _ c.in_ok-line.ensures.line c.as_slice.ensures (λ known knows. c.in_ok-fault.ensures.fault known knows) c.first-found.ensures (rw c.in-Some.is at c.loop-next.invariant.amid);
}

pub loop-next-preserved : goal.loop-next-preserved
loop-next-preserved c = record {
  within = within-next (length c.args.source.now) c.in-Some.from c.in_ok-line.line.next c.in_ok-line.ensures.ahead;
  amid = amid-step c.args.source.now c.in-Some.from c.in_ok-line.line c.as_slice.result.now _ _ _ c.loop-next.found _ _ c.in_ok-line.ensures.line c.as_slice.ensures (λ known knows. c.in_ok-fault.ensures.fault known knows) c.first-found.ensures (rw c.in-Some.is at c.loop-next.invariant.amid);
}

pub returns-clause-fault : goal.returns-clause-fault
returns-clause-fault c =
    (amid-end c.args.source.now c.loop-next.next (labels_in (lines c.args.source.now)) c.loop-next.labels c.loop-next.found c.in_default.is c.loop-next.invariant.amid).judged

pub returns-clause-labels : goal.returns-clause-labels
returns-clause-labels c =
    know-all c.loop-next.labels (labels_in (lines c.args.source.now)) (amid-end c.args.source.now c.loop-next.next (labels_in (lines c.args.source.now)) c.loop-next.labels c.loop-next.found c.in_default.is c.loop-next.invariant.amid).known
