-- What asks is of the class that asks.
use Rattle.std.proofs.Common.{◌∙◌, ap}
use Rattle.vx_hart.specs.Asking.{asks}
use Rattle.vx_hart.proofs.executor.Executor.execute.Goals as goal

pub returns-clause-waits : goal.returns-clause-waits
returns-clause-waits g c output service = c.advance_by.ensures.waits (ap asks (c.advance_by.ensures.class output) ∙ service) output
