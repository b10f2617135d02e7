use Rattle.vx_quiet.proofs.Beating.{stop-happens}
use Rattle.vx_quiet.proofs.laws.instructions_without_accesses_stop.Goals as goal

pub returns-clause-happens : goal.returns-clause-happens
returns-clause-happens c start history s f why retired fetched quiet one stop none is = stop-happens start history s f why retired fetched quiet one stop none is
