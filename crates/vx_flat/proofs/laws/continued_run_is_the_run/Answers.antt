use Rattle.vx_flat.proofs.Continues.{continued-flat}
use Rattle.vx_flat.proofs.laws.continued_run_is_the_run.Goals as goal

pub returns : goal.returns
returns c = continued-flat
