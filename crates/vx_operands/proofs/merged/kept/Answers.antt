-- No element of the word is active.
use Rattle.std.proofs.Common.{sym}
use Rattle.vx_operands.proofs.Merging.{kept_value, kept_sat}
use Rattle.vx_operands.proofs.merged.kept.Goals as goal

pub returns-clause-value : goal.returns-clause-value
returns-clause-value c r w each width late is = kept_value c.joined_by_elements.ensures.whole c.joined_by_elements.ensures.same r w c.args.old each width late c.ranges.old.fits is

pub returns-clause-sat : goal.returns-clause-sat
returns-clause-sat c r w each late = sym (kept_sat r w each late)
