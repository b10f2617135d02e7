use Rattle.vx_serve.proofs.Known.{batch-in-turn}
use Rattle.vx_serve.proofs.laws.accesses_go_in_turn.Goals as goal

pub returns-clause-all : goal.returns-clause-all
returns-clause-all c machine earlier fate accesses = batch-in-turn machine earlier fate accesses
