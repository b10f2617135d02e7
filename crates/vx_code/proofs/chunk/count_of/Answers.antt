use Rattle.std.proofs.Common.{sym, ◌∙◌}
use Rattle.vx_code.proofs.Filling.{first-filled, first-counts, first-taken, count-cut}
use Rattle.vx_code.proofs.chunk.count_of.Goals as goal

pub count_in-requires-clause-filled : goal.count_in-requires-clause-filled
count_in-requires-clause-filled c =
    first-filled c.args.operands.now c.in-Some.token.now _ c.args.way _ c.in-Some-step.slot c.in-Some.ensures.cases.0 c.in-Some-step.ensures c.requires.filled

pub count_in-requires-clause-counts : goal.count_in-requires-clause-counts
count_in-requires-clause-counts c =
    (c.requires.counts.0, first-counts c.requires.counts.0 c.args.operands.now c.in-Some.token.now _ c.args.way _ c.in-Some-step.slot c.in-Some.ensures.cases.0 c.in-Some-step.ensures c.requires.counts.1)

pub returns-in-Some-step-clause-value : goal.returns-in-Some-step-clause-value
returns-in-Some-step-clause-value c = c.count_in.ensures.value ∙ sym (count-cut c.args.operands.now c.in-Some.token.now _ c.in-Some.ensures.cases.0)

pub returns-in-Some-step-clause-within : goal.returns-in-Some-step-clause-within
returns-in-Some-step-clause-within c greatest counts =
    c.count_in.ensures.within greatest (first-counts greatest c.args.operands.now c.in-Some.token.now _ c.args.way _ c.in-Some-step.slot c.in-Some.ensures.cases.0 c.in-Some-step.ensures counts)

pub returns-in-None-clause-value : goal.returns-in-None-clause-value
returns-in-None-clause-value c =
    absurd (first-taken c.args.operands.now c.in-Some.token.now _ c.args.way c.in-Some.ensures.cases.0 (rw c.in-None.is at c.step.ensures) c.requires.filled)
