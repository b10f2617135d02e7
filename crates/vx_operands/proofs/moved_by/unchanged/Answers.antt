-- Each element stays.
use Rattle.std.proofs.Common.{sym, ap}
use Rattle.vx_vector.specs.Arithmetic.{has_saturated}
use Rattle.vx_operands.proofs.ByIndex.{unchanged_value, quiet}
use Rattle.vx_operands.proofs.moved_by.unchanged.Goals as goal

pub returns-clause-value : goal.returns-clause-value
returns-clause-value c r w width none is = unchanged_value c.joined_by_elements.ensures.whole c.joined_by_elements.ensures.same c.elements_are_lanes.ensures.lane r w c.args.old width c.ranges.old.fits none is

pub returns-clause-sat : goal.returns-clause-sat
returns-clause-sat c r w none = sym (quiet r w (λ k l. ap has_saturated (none k l)))
