-- A row that tells a number is one of the crate of masks.
use Rattle.vx_exec.proofs.Arithmetic.{is-mask}
use Rattle.vx_exec.proofs.executed.scalar_of.Goals as goal

pub count-requires-clause-row : goal.count-requires-clause-row
count-requires-clause-row g c = is-mask c.args.i.now.op c.requires.tells
