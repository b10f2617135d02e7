-- A load is always legal.
use Rattle.std.proofs.Common.{◌∙◌, refl, sym}
use Rattle.vx_rows.specs.declared.row.Class.TheVariants as class
use Rattle.vx_hart.specs.Outcomes.{flat_of}
use Rattle.vx_hart.proofs.Calls.{outcome-legal}
use Rattle.vx_hart.proofs.executor.Executor.load.Goals as goal

pub returns-clause-performed : goal.returns-clause-performed
returns-clause-performed g c word output =
    c.load.ensures.loaded output
    ∙ outcome-legal (flat_of c.args.arch.now (g.M.Memory.state c.args.memory.now c.args.physical.now) output) word c.args.i.now class.Load (sym c.requires.class) refl
