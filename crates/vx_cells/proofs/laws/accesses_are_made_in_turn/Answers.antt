use Rattle.vx_cells.proofs.Turns.{Makes-none, Makes-join, IsMemory-after}
use Rattle.vx_cells.proofs.laws.accesses_are_made_in_turn.Goals as goal

pub returns-clause-none : goal.returns-clause-none
returns-clause-none c state = Makes-none state

pub returns-clause-joined : goal.returns-clause-joined
returns-clause-joined c before between after first second made more = Makes-join before between after first second made more

pub returns-clause-memory : goal.returns-clause-memory
returns-clause-memory c before after accesses makes memory = IsMemory-after before after accesses makes memory
