-- By the rows.
use Rattle.vx_vector.specs.Instructions.{places_of}
use Rattle.vx_exec.proofs.Arithmetic.{reads-row}
use Rattle.vx_exec.proofs.executed.instructions_read.Goals as goal

pub returns : goal.returns
returns c i at words e = reads-row i.op at (places_of i) words e.arithmetic
