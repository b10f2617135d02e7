use Rattle.vx_paged.proofs.Walked.{walks-placed, alone-by, not-framed, same-placement, shown-stays}
use Rattle.vx_paged.proofs.laws.walks_leave_pages.Goals as goal

pub returns-clause-placed : goal.returns-clause-placed
returns-clause-placed c = walks-placed

pub returns-clause-alone : goal.returns-clause-alone
returns-clause-alone c placement first residency walks kept is alone = alone-by placement residency _ first is (walks-placed placement residency walks kept is) alone

pub returns-clause-shown : goal.returns-clause-shown
returns-clause-shown c = shown-stays

pub returns-clause-elsewhere : goal.returns-clause-elsewhere
returns-clause-elsewhere c = not-framed

pub returns-clause-same : goal.returns-clause-same
returns-clause-same c = same-placement
