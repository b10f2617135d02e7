-- The first lane is new.
use Rattle.std.proofs.Common.{◌∙◌, sym}
use Rattle.vx_operands.proofs.ByIndex.{first_value, first_sat, element_width}
use Rattle.vx_operands.proofs.first.first_set.Goals as goal

pub returns-clause-value : goal.returns-clause-value
returns-clause-value c r e alone early is equal = c.merge.ensures.value ∙ first_value c.joined_by_elements.ensures.same c.elements_are_lanes.ensures.lane r c.args.width c.args.old c.args.value e (element_width c.args.width c.requires.width) alone early is equal

pub returns-clause-sat : goal.returns-clause-sat
returns-clause-sat c r alone = sym (first_sat r 0 alone)
