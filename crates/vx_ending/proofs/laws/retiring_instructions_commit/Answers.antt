use Rattle.vx_ending.proofs.Changing.{changes-retired, completes-alone}
use Rattle.vx_ending.proofs.Retiring.{retires-commits}
use Rattle.vx_ending.proofs.laws.retiring_instructions_commit.Goals as goal

pub returns-clause-commits : goal.returns-clause-commits
returns-clause-commits c start history s e before retired is retires = retires-commits start history s e before retired is retires

pub returns-clause-alone : goal.returns-clause-alone
returns-clause-alone c start history s e before retired is retires alone = completes-alone start history s e before retired is retires alone

pub returns-clause-changes : goal.returns-clause-changes
returns-clause-changes c start history s e before retired is retires = changes-retired start history s e before retired is retires
