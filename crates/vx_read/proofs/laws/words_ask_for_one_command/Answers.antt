use Rattle.vx_read.proofs.Commands.{one_command}
use Rattle.vx_read.proofs.laws.words_ask_for_one_command.Goals as goal

pub returns : goal.returns
returns c = one_command
