use Rattle.vx_quiet.proofs.Beating.{idle-completed, idle-happens}
use Rattle.vx_quiet.proofs.laws.instructions_without_accesses_complete.Goals as goal

pub returns-clause-completed : goal.returns-clause-completed
returns-clause-completed c start history s f retired fetched quiet one stop none is = idle-completed start history s f retired fetched quiet one stop none is

pub returns-clause-happens : goal.returns-clause-happens
returns-clause-happens c start history s f retired completed quiet one stop none is = idle-happens start history s f retired completed quiet one stop none is
