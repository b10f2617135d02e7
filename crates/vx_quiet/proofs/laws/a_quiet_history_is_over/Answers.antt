use Rattle.vx_quiet.proofs.Over.{walks-kept, residency-split, residency-same, queued-kept, done-by, clock-split, clock-same}
use Rattle.vx_quiet.proofs.laws.a_quiet_history_is_over.Goals as goal

pub returns-clause-walks : goal.returns-clause-walks
returns-clause-walks c start history retired last quiet few = walks-kept start history retired last quiet few

pub returns-clause-residency : goal.returns-clause-residency
returns-clause-residency c start newer history retired last quiet few = residency-split start history retired last quiet few newer

pub returns-clause-residency_now : goal.returns-clause-residency_now
returns-clause-residency_now c start history retired last quiet few = residency-same start history retired last quiet few

pub returns-clause-queued : goal.returns-clause-queued
returns-clause-queued c start history retired last quiet few = queued-kept start history retired last quiet few

pub returns-clause-done : goal.returns-clause-done
returns-clause-done c start history retired last quiet few = done-by start history retired last quiet few

pub returns-clause-clock : goal.returns-clause-clock
returns-clause-clock c start newer history retired last quiet few = clock-split start history retired last quiet few newer

pub returns-clause-clock_now : goal.returns-clause-clock_now
returns-clause-clock_now c start history retired last quiet few = clock-same start history retired last quiet few
