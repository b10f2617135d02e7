use Rattle.vx_statement.proofs.way.Way.step.Goals as goal

pub returns-in-Slots : goal.returns-in-Slots
returns-in-Slots c rest = rw c.in-Slots.is (c.step_slot.ensures rest)

pub returns-in-Numbers : goal.returns-in-Numbers
returns-in-Numbers c rest = rw c.in-Numbers.is (c.step_number.ensures rest)

pub returns-in-More : goal.returns-in-More
returns-in-More c rest = rw c.in-More.is (c.step_comma.ensures rest)
