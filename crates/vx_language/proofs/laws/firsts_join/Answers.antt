use Rattle.vx_language.proofs.First.{first_of-append}
use Rattle.vx_language.proofs.laws.firsts_join.Goals as goal

pub returns : goal.returns
returns c = first_of-append
