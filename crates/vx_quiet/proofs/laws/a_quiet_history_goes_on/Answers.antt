use Rattle.vx_quiet.proofs.Going.{quiet-start, behind-retire, timed-retires, timed-quiet}
use Rattle.vx_quiet.proofs.laws.a_quiet_history_goes_on.Goals as goal

pub returns-clause-begins : goal.returns-clause-begins
returns-clause-begins c start = quiet-start start

pub returns-clause-retires : goal.returns-clause-retires
returns-clause-retires c start history s f retired completed quiet one is = timed-retires start history s f retired completed quiet is one

pub returns-clause-behind : goal.returns-clause-behind
returns-clause-behind c start history s f retired completed quiet one is = behind-retire start history s f retired completed quiet is one

pub returns-clause-goes_on : goal.returns-clause-goes_on
returns-clause-goes_on c start history s f retired completed quiet one is = timed-quiet start history s f retired completed quiet is one
