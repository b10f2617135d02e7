-- As many zeros stand below it.
use Rattle.vx_mask.proofs.Marked.{lowest_is}
use Rattle.vx_mask.proofs.marks.lowest.Goals as goal

pub returns-clause-inside : goal.returns-clause-inside
returns-clause-inside c = (lowest_is c.args.word c.requires c.ranges.word.fits).0

pub returns-clause-there : goal.returns-clause-there
returns-clause-there c = (lowest_is c.args.word c.requires c.ranges.word.fits).1

pub returns-clause-before : goal.returns-clause-before
returns-clause-before c = (lowest_is c.args.word c.requires c.ranges.word.fits).2
