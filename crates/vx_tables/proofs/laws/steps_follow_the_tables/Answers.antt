use Rattle.vx_tables.proofs.Steps.{begins, can_tick, reads, ends}
use Rattle.vx_tables.proofs.laws.steps_follow_the_tables.Goals as goal

pub returns-clause-begins : goal.returns-clause-begins
returns-clause-begins c residency root address want port listed = begins residency root address want port listed

pub returns-clause-can_tick : goal.returns-clause-can_tick
returns-clause-can_tick c cells seen residency root walking done held agree going = can_tick cells seen residency root walking done held agree going

pub returns-clause-reads : goal.returns-clause-reads
returns-clause-reads c before after seen residency root level frame walking done held agree going at makes =
    reads before after seen residency root level frame walking done held agree going at makes

pub returns-clause-ends : goal.returns-clause-ends
returns-clause-ends c before after seen residency root answer write walking done held agree going at makes =
    ends c.words_are_merged_by_bytes.ensures.whole before after seen residency root answer write walking done held agree going at makes
